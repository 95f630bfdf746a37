-- What `find` and `any` over the entries of a walk answer, of a closure that computes a test.
-- Assumes nothing.
use Rattle.std.proofs.Common.{◌≡◌, Bool, true, false, cond, ◌||◌, List, [], ◌∷◌, refl, sym, ap, ◌∙◌}
use Rattle.std.specs.Prelude as std
use Rattle.std.specs.Prelude.{Some, None}
use Rattle.std.specs.Option.{option_map}
use Rattle.std.specs.Iterator.{YieldsFirstBy, FindsItem, ChecksAny}
use Rattle.std.specs.Fn.{CalledAt, Called}
use Rattle.std.specs.List as std_list
use Rattle.std.proofs.lemmas.Iterator.Consumers.{YieldsList-from_first}
use Rattle.std.proofs.lemmas.Iterator.Search.{find_from_yields_List, any_from_yields_List}
use denote.Param.Members.{Mut}
use denote.Ref.{Bor}
use mathlib.Core.Option.{Option, none, some}
use Rattle.model.specs.Lists.{any, first}
use Rattle.model.specs.Walk as walk
use Rattle.region.specs.Stored.{entry_of, left, found_entry}
use Rattle.region.specs.declared.walk.Stored.{Stored}
use Rattle.region.specs.declared.walk.Walk.{Walk}

abbrev back : std.Option walk.Entry → Option walk.Entry
back (Some x) = some x
back None = none

back-find : (test : walk.Entry → Bool) (es : List walk.Entry) → back (std_list.find test es) ≡ first test es
back-find test [] = refl
back-find test (x ∷ es) = go (test x) (back-find test es)
  where
    go : (t : Bool) → back (std_list.find test es) ≡ first test es → back (cond t (Some x) (std_list.find test es)) ≡ cond t (some x) (first test es)
    go true h = refl
    go false h = h

back-found : (r : std.Option Stored) → back (option_map entry_of r) ≡ found_entry r
back-found (Some s) = refl
back-found None = refl

any-of : (test : walk.Entry → Bool) (es : List walk.Entry) → std_list.list_any test es ≡ any test es
any-of test [] = refl
any-of test (x ∷ es) = ap (λ b. test x || b) (any-of test es)

module _ {F : Type 0} {s : Walk} (test : walk.Entry → Bool) (u : Walk) (f : F) where
  pub finds : {g : Mut F (Bor Stored × Unit {0}) Bool} (r : std.Option Stored) → FindsItem (YieldsFirstBy entry_of left) g s f r u
      → ((x : Stored) (b : Bool) (q : F) → CalledAt g f x b q → (q ≡ f) × (b ≡ test (entry_of x))) → found_entry r ≡ first test (left s)
  finds {g} r ran closure =
      sym (back-found r) ∙ ap back (find_from_yields_List test u f r ran (YieldsList-from_first entry_of left (left s) refl) closure) ∙ back-find test (left s)

  pub tells : {g : Mut F (Stored × Unit {0}) Bool} (r : Bool) → ChecksAny (YieldsFirstBy entry_of left) g s f r u
      → ((x : Stored) (b : Bool) (q : F) → Called g f (x, tt) b q → (q ≡ f) × (b ≡ test (entry_of x))) → r ≡ any test (left s)
  tells {g} r ran closure = any_from_yields_List test u f r ran (YieldsList-from_first entry_of left (left s) refl) closure ∙ any-of test (left s)
