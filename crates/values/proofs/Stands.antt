-- What is found is an entry of the walk, the one of the numbers found at the offset found: so a caller that goes by these reads the entry that the
-- definitions speak of. A search from the offset behind it goes on with the rest of what passes the test.
-- Assumes nothing.
use Prim.Native.Nat.{ℕ, zero, suc, ◌+◌, ◌≤◌}
use native.Mathlib.Omega.{arith}
use mathlib.Core.Path.{◌≡◌, refl, sym, ap, ap₂, ◌∙◌}
use mathlib.Core.Bool.{Bool, true, false}
use mathlib.Core.List.{List, ◌∷◌}
use mathlib.Core.Option.{Option as Maybe, none, some}
use Rattle.std.specs.Prelude.{Option, Some, None}
use Rattle.std.proofs.lemmas.Option.{same_Some}
use lib.ListN.{length}
use Rattle.model.specs.declared.Layout.{Layout}
use Rattle.model.specs.Layout.{header_length}
use Rattle.model.specs.Lists.{keep, first, or_else}
use Rattle.model.specs.Image.{region_header_size}
use Rattle.model.specs.Region.{entries_in, is_entry_def, added, replacing, standing}
use Rattle.model.specs.Name.{Key}
use Rattle.model.specs.Walk as walk
use Rattle.model.specs.Beside.{from_in}
use Rattle.layout.specs.declared.Entry as numbers
use Rattle.region.specs.Walk.{entry_as, turn_in}
use Rattle.region.proofs.Turns.{at_entry, at-end, at-past}
use Rattle.region.specs.declared.Placed.{Placed}
use Rattle.values.specs.Found.{placed_at, found_of}
use Rattle.values.proofs.Finds.{found_none, found_here, found-next}

pub placed-same : {at a : ℕ} {n e : numbers.Entry} → placed_at at n ≡ placed_at a e → (at ≡ a) × (n ≡ e)
placed-same p = let s = same_Some _ _ p in (ap (λ (x : Placed). x.at) s, ap (λ (x : Placed). x.entry) s)

not_found : (a : ℕ) (e : numbers.Entry) → None ≡ placed_at a e → ⊥
not_found a e p = let z : ◌≡◌ {A = ℕ} 0 1 = cc in omega arith

-- ---- a name's 3F entry, its 3E entry, and the one of them that stands

-- ---- where nothing is found

pub nothing-first : (o : Maybe walk.Entry) → found_of o ≡ None → o ≡ none
nothing-first (some x) p = let z : ◌≡◌ {A = ℕ} 0 1 = cc in absurd (omega arith)
nothing-first none p = refl

-- ---- the list of values, taken value by value

module _ (y : Layout) where
  -- the entry found from_in y an offset on, the turn that finds it, and what passes behind it
  pub record Kept (r : List ℕ) (f : walk.Entry → Bool) (at a : ℕ) (e : numbers.Entry) : Type 0 where
    pub next : ℕ
    pub turn : turn_in y r a ≡ Some (e, next)
    pub from-here : at ≤ a
    pub passes : f (entry_as y r a e) ≡ true
    pub entry : first f (from_in y r at) ≡ some (entry_as y r a e)
    pub rest : keep f (from_in y r at) ≡ entry_as y r a e ∷ keep f (from_in y r next)

  module _ (r : List ℕ) (f : walk.Entry → Bool) (a : ℕ) (e : numbers.Entry) where
    kept : (fuel at : ℕ) → length r ≤ at + fuel → found_of (first f (from_in y r at)) ≡ placed_at a e → Kept r f at a e
    kept zero at h p = absurd (not_found a e (sym (found_none (at-past y r at (omega arith)) f) ∙ p))
    kept (suc fuel) at h p = go (turn_in y r at) refl (kept fuel)
      where
        test : (n : numbers.Entry) (k : ℕ) → turn_in y r at ≡ Some (n, k) → (t : Bool) → f (entry_as y r at n) ≡ t
            → (found_of (first f (from_in y r k)) ≡ placed_at a e → Kept r f k a e) → Kept r f at a e
        test n k q true s more =
            let w = at_entry refl q in
            let b : placed_at at n ≡ placed_at a e = sym (found_here w f s) ∙ p in
            let (i, j) = placed-same b in
            record {
              next = k;
              turn = ap (turn_in y r) (sym i) ∙ q ∙ ap (λ (x : numbers.Entry). Some (x, k)) j;
              from-here = omega arith;
              passes = ap₂ (λ (m : ℕ) (x : numbers.Entry). f (entry_as y r m x)) (sym i) (sym j) ∙ s;
              entry = ap (first f) w.walk ∙ rw s (ap₂ (λ (m : ℕ) (x : numbers.Entry). some (entry_as y r m x)) i j);
              rest = ap (keep f) w.walk ∙ rw s (ap₂ (λ (m : ℕ) (x : numbers.Entry). entry_as y r m x ∷ keep f (from_in y r k)) i j);
            }
        test n k q false s more =
            let w = at_entry refl q in
            let m = more (sym (found-next w f s) ∙ p) in
            record {
              next = m.next;
              turn = m.turn;
              from-here = omega (arith, w.more, m.from-here);
              passes = m.passes;
              entry = ap (first f) w.walk ∙ rw s m.entry;
              rest = ap (keep f) w.walk ∙ rw s m.rest;
            }

        go : (t : Option (numbers.Entry × ℕ)) → turn_in y r at ≡ t → ((k : ℕ) → length r ≤ k + fuel → found_of (first f (from_in y r k)) ≡ placed_at a e → Kept r f k a e) → Kept r f at a e
        go None q more = absurd (not_found a e (sym (found_none (at-end refl q) f) ∙ p))
        go (Some (n, k)) q more = let w = at_entry refl q in test n k q (f (entry_as y r at n)) refl (more k (omega arith))

    pub found-kept : (at : ℕ) → found_of (first f (from_in y r at)) ≡ placed_at a e → Kept r f at a e
    found-kept at p = kept (length r) at (omega arith) p

  pub record Stands (r : List ℕ) (o : Maybe walk.Entry) (a : ℕ) (e : numbers.Entry) : Type 0 where
    pub entry : o ≡ some (entry_as y r a e)
    pub low : region_header_size ≤ a
    pub fits : a + header_length y ≤ length r

  module _ (r : List ℕ) (k : Key) (a : ℕ) (e : numbers.Entry) where
    stands : (f : walk.Entry → Bool) → found_of (first f (from_in y r 28)) ≡ placed_at a e → Stands r (first f (from_in y r 28)) a e
    stands f p =
        let m = found-kept r f a e 28 p in
        record { entry = m.entry; low = m.from-here; fits = (at_entry refl m.turn).fits }

    pub added-stands : found_of (added k (entries_in y r)) ≡ placed_at a e → Stands r (added k (entries_in y r)) a e
    unfolding added entries_in from_in
    added-stands p = stands (is_entry_def 0x3F k) p

    pub replacing-stands : found_of (replacing k (entries_in y r)) ≡ placed_at a e → Stands r (replacing k (entries_in y r)) a e
    unfolding replacing entries_in from_in
    replacing-stands p = stands (is_entry_def 0x3E k) p

    pub standing-stands : found_of (standing k (entries_in y r)) ≡ placed_at a e → Stands r (standing k (entries_in y r)) a e
    unfolding standing
    standing-stands p = go (added k (entries_in y r)) refl p
      where
        go : (o : Maybe walk.Entry) → added k (entries_in y r) ≡ o → found_of (or_else o (replacing k (entries_in y r))) ≡ placed_at a e
            → Stands r (or_else (added k (entries_in y r)) (replacing k (entries_in y r))) a e
        go (some x) q p =
            let s = added-stands (ap found_of q ∙ p) in
            record { entry = ap (λ (o : Maybe walk.Entry). or_else o (replacing k (entries_in y r))) s.entry; low = s.low; fits = s.fits }
        go none q p =
            let s = replacing-stands p in
            record { entry = ap (λ (o : Maybe walk.Entry). or_else o (replacing k (entries_in y r))) q ∙ s.entry; low = s.low; fits = s.fits }
