-- Rules that were judged in turn: the first broken rule of two lists is that of the first, else that of the second.
-- Assumes nothing.
use Prim.Native.Nat.{ℕ}
use native.Mathlib.Omega.{arith}
use mathlib.Core.Path.{◌≡◌, refl, sym, ap, ◌∙◌}
use mathlib.Core.Bool.{Bool, true, false}
use mathlib.Core.List.{List, [], ◌∷◌, ◌++◌}
use mathlib.Core.Option.{Option, none, some}
use Rattle.model.specs.declared.Rule.{Rule}
use Rattle.model.specs.Lists.{or_else}
use Rattle.model.specs.Rules.{first_broken}
use Rattle.model.proofs.Requests.{broken-append}
use Rattle.std.specs.Prelude.{Ok, Err}
use Rattle.decision.specs.Parts.{judged_of}

-- a later rule counts only where every earlier one is kept
pub later-broken : (xs : List (Rule × Bool)) (rule : Rule) (d e : Bool) → (first_broken xs ≡ none → d ≡ e)
    → first_broken (xs ++ ((rule, d) ∷ [])) ≡ first_broken (xs ++ ((rule, e) ∷ []))
later-broken xs rule d e h =
    broken-append xs ((rule, d) ∷ []) ∙ go (first_broken xs) h ∙ sym (broken-append xs ((rule, e) ∷ []))
  where
    go : (o : Option Rule) → (o ≡ none → d ≡ e) → or_else o (first_broken ((rule, d) ∷ [])) ≡ or_else o (first_broken ((rule, e) ∷ []))
    go (some x) h = refl
    go none h = rw (h refl)

-- a broken rule is the answer, and one that is kept leaves the rest
module _ (rule : Rule) (d : Bool) (xs : List (Rule × Bool)) where
  pub broken-here : d ≡ true → first_broken ((rule, d) ∷ xs) ≡ some rule
  unfolding first_broken
  broken-here h = rw h

  pub kept_here : d ≡ false → first_broken ((rule, d) ∷ xs) ≡ first_broken xs
  unfolding first_broken
  kept_here h = rw h

pub none_here : first_broken [] ≡ none
unfolding first_broken
none_here = refl

-- ---- rules that were judged

pub kept-none : (o : Option Rule) → judged_of o ≡ Ok tt → o ≡ none
kept-none none h = refl
kept-none (some rule) h = let z : ◌≡◌ {A = ℕ} 0 1 = cc in absurd (omega arith)

pub breaks-some : (o : Option Rule) (rule : Rule) → judged_of o ≡ Err rule → o ≡ some rule
breaks-some none rule h = let z : ◌≡◌ {A = ℕ} 0 1 = cc in absurd (omega arith)
breaks-some (some x) rule h = let e : x ≡ rule = cc in ap some e

module _ (xs ys : List (Rule × Bool)) where
  pub after_kept : judged_of (first_broken xs) ≡ Ok tt → judged_of (first_broken (xs ++ ys)) ≡ judged_of (first_broken ys)
  after_kept h =
      ap judged_of (broken-append xs ys ∙ ap (λ (o : Option Rule). or_else o (first_broken ys)) (kept-none (first_broken xs) h))

  pub after-breaks : (rule : Rule) → judged_of (first_broken xs) ≡ Err rule → judged_of (first_broken (xs ++ ys)) ≡ Err rule
  after-breaks rule h =
      ap judged_of (broken-append xs ys ∙ ap (λ (o : Option Rule). or_else o (first_broken ys)) (breaks-some (first_broken xs) rule h))
