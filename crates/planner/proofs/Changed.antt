-- The values after the items of a profile: those at no place that is left out, then those that are stored. A place is left out where an item changes something.
-- Assumes nothing.
use Prim.Native.Nat.{ℕ, zero, suc, ◌-◌}
use mathlib.Core.Path.{◌≡◌, refl, sym}
use mathlib.Core.Bool.{Bool, true, false, ◌||◌, false≢true}
use mathlib.Core.List.{List, [], ◌∷◌, ◌++◌}
use lib.ListN.{length, replicate}
use lib.Dec.{eqb}
use borrow.Author.Tests.{eqb-true}
use Rattle.model.specs.Lists.{among}
use Rattle.model.specs.Entry.{Value}
use Rattle.model.specs.Image.{region, region_size}
use Rattle.model.specs.Region.{entries, values, values_of, sound, find}
use Rattle.model.specs.Request.{Request, request_key, proper_of, stamp_to_store}
use Rattle.model.specs.Profile.{item_attributes, shares_name_def}
use Rattle.model.specs.Change.{Change, put, new_data, new_stamp, new_value, change_in, steps}
use Rattle.model.specs.Rules.{puts}
use Rattle.model.specs.Beside.{Valid, EachItem, changes_alone, changed_keys, put_values_def, without_all}
use Rattle.model.proofs.Changes.{EachPut, Fitting}
use Rattle.model.proofs.Looking.{change-cases}
use Rattle.model.proofs.Folding.{items-folded}
use Rattle.compose.specs.Compose.{values_but}
use Rattle.compose.proofs.Leaving.{Agreed, agreed-none, agreed-zero, agreed-name, leaving-agreed}
use Rattle.image.specs.Check.{IsReady}
use Rattle.profile.specs.Folded.{leave_at, leaves_at, puts_at, Folds}
use Rattle.planner.specs.Asked.{item_value, stored_if, stored_by, Foldable}

-- an item of the form
abbrev Formed : Request → Type 0
Formed r = among item_attributes r.attributes ≡ true

-- stores its data as they are, with a stamp of zeros
item-value : (r : Request) (old : _) → Formed r → new_value r old ≡ item_value r
unfolding new_value new_stamp new_data proper_of stamp_to_store
item-value r old h = go (eqb r.attributes 0x03) refl (eqb r.attributes 0x07) refl h
  where
    go : (x : Bool) → eqb r.attributes 0x03 ≡ x → (y : Bool) → eqb r.attributes 0x07 ≡ y → (x || (y || false)) ≡ true → new_value r old ≡ item_value r
    go true e y f h = rw (eqb-true r.attributes 0x03 e)
    go false e true f h = rw (eqb-true r.attributes 0x07 f)
    go false e false f h = absurd (false≢true h)

module _ (r : List ℕ) where
  abbrev vs : List Value
  vs = values (entries r)

  -- ---- the places left out

  one_left : sound r ≡ true → (q : Request) (cs : List Change) (leave : List ℕ) → Agreed r leave (changed_keys cs)
      → Agreed r (leave_at (entries r) q (change_in q vs) ∷ leave) (changed_keys (change_in q vs ∷ cs))
  unfolding leave_at change_in new_value
  one_left sounds q cs leave h =
      change-cases (λ c. Agreed r (leave_at (entries r) q c ∷ leave) (changed_keys (c ∷ cs))) q (find (request_key q) vs)
      (agreed-name r sounds (request_key q) leave (changed_keys cs) h)
      (agreed-zero r leave (changed_keys cs) h)
      (agreed-name r sounds (request_key q) leave (changed_keys cs) h)

  zeros : (n : ℕ) → Agreed r (replicate n 0) []
  zeros zero = agreed-none r
  zeros (suc n) = agreed-zero r (replicate n 0) [] (zeros n)

  all_left : sound r ≡ true → (rs : List Request) (n : ℕ) → Agreed r (leaves_at r rs ++ replicate n 0) (changed_keys (changes_alone rs vs))
  unfolding leaves_at changes_alone
  all_left sounds [] n = zeros n
  all_left sounds (q ∷ rs) n = one_left sounds q (changes_alone rs vs) (leaves_at r rs ++ replicate n 0) (all_left sounds rs n)

  -- ---- the values stored

  one-stored : (q : Request) (cs : List Change) (ws : List Value) → Formed q → ws ≡ put_values_def cs
      → stored_if (puts (λ v. true) (change_in q vs)) q ++ ws ≡ put_values_def (change_in q vs ∷ cs)
  unfolding change_in
  one-stored q cs ws formed h =
      change-cases (λ c. stored_if (puts (λ v. true) c) q ++ ws ≡ put_values_def (c ∷ cs)) q (find (request_key q) vs)
      h h (rw (item-value q (find (request_key q) vs) formed, h))

  all-stored : (rs : List Request) (more : List Bool) → EachItem Formed rs → stored_by rs (puts_at r rs ++ more) ≡ put_values_def (changes_alone rs vs)
  unfolding stored_by puts_at changes_alone
  all-stored [] more formed = refl
  all-stored (q ∷ rs) more formed =
      one-stored q (changes_alone rs vs) (stored_by rs (puts_at r rs ++ more)) formed.0 (all-stored rs more formed.1)

  -- *the values after the items*
  pub items-after : {rs : List Request} {leave : List ℕ} {stores : List Bool} → sound r ≡ true → EachItem Formed rs → shares_name_def rs ≡ false → Folds r rs leave stores
      → values_but leave r ++ stored_by rs stores ≡ steps (changes_alone rs vs) vs
  items-after {rs} {leave} {stores} sounds formed apart f =
      let kept : values_but leave r ≡ without_all (changed_keys (changes_alone rs vs)) vs =
      leaving-agreed r leave (changed_keys (changes_alone rs vs)) (rw f.left (all_left sounds rs (8 - length (leaves_at r rs)))) in
      let put : stored_by rs stores ≡ put_values_def (changes_alone rs vs) = rw f.stored (all-stored rs (replicate (8 - length (puts_at r rs)) false) formed) in
      rw (kept, put) (sym (items-folded rs vs apart))

-- what each item puts can be stored, said of the items and of their changes
pub each-put : (rs : List Request) (vs : List Value) → EachItem (λ r. (v : Value) → change_in r vs ≡ put v → Valid v) rs → EachPut Valid (changes_alone rs vs)
unfolding changes_alone
each-put [] ws h = tt
each-put (r ∷ rs) ws h = (h.0, each-put rs ws h.1)

each_item : (rs : List Request) (vs : List Value) → EachPut Valid (changes_alone rs vs) → EachItem (λ r. (v : Value) → change_in r vs ≡ put v → Valid v) rs
unfolding changes_alone
each_item [] ws h = tt
each_item (r ∷ rs) ws h = (h.0, each_item rs ws h.1)

-- what the rules leave to the folding
pub foldable : {img : List ℕ} {b tail used : ℕ} {rs : List Request} {leave : List ℕ} {stores : List Bool} → IsReady img b tail used → EachItem Formed rs → shares_name_def rs ≡ false
    → Folds (region img) rs leave stores → Fitting (changes_alone rs (values_of img)) (values_of img) (region_size img) → Foldable img b used rs leave stores
foldable {img} {tail = tail} {rs = rs} a formed apart f fit = record {
  tail = tail;
  ready = a;
  formed = formed;
  apart = apart;
  places = f;
  valid = each_item rs (values_of img) fit.valid;
  room = fit.room;
}
