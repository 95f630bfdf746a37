-- A test of the places of a table, as a loop meets them: past the last place in use it fails; before that a place that passes decides, or the rest does. And tables that
-- are read place by place: what is at a place, and the first few of them.
-- Assumes nothing.
use Prim.Native.Nat.{ℕ, zero, suc, ◌+◌, ◌*◌, ◌-◌, ◌≤◌, ◌<◌}
use native.Mathlib.Omega.{arith}
use native.Mathlib.Nat.{add-zero, zero-add, sub-zero}
use mathlib.Core.Path.{◌≡◌, refl, sym, ap, ◌∙◌}
use mathlib.Core.Bool.{Bool, true, false, ◌||◌}
use mathlib.Core.List.{List, [], ◌∷◌, map}
use lib.ListN.{get_or, take}
use Rattle.model.specs.Lists.{any, range, u32_at, numbers_at}

any_none : (f : ℕ → Bool) (i n : ℕ) → n ≡ 0 → any f (range i n) ≡ false
any_none f i n e = rw e

any_next : (f : ℕ → Bool) (i n m : ℕ) → n ≡ suc m → any f (range i n) ≡ (f i || any f (range (i + 1) m))
any_next f i n m e = rw e

-- ---- a test of the first n places

module _ (f : ℕ → Bool) (n : ℕ) where
  -- one of them passes, from a place on
  unfoldable pub any_from : ℕ → Bool
  any_from i = any f (range i (n - i))

  pub from_start : any f (range 0 n) ≡ any_from 0
  unfolding any_from
  from_start = rw sub-zero

  pub from_end : (i : ℕ) → n ≤ i → any_from i ≡ false
  unfolding any_from
  from_end i h = any_none f i (n - i) (omega arith)

  step : (i : ℕ) → i < n → any_from i ≡ (f i || any_from (i + 1))
  unfolding any_from
  step i h = any_next f i (n - i) (n - (i + 1)) (omega arith)

  pub from-here : (i : ℕ) → i < n → f i ≡ true → any_from i ≡ true
  from-here i h e = rw (step i h, e)

  pub from_next : (i : ℕ) → i < n → f i ≡ false → any_from i ≡ any_from (i + 1)
  from_next i h e = rw (step i h, e)

-- ---- a table that is read place by place

pub any-map : {A B : Type 0} (f : B → Bool) (g : A → B) (l : List A) → any f (map g l) ≡ any (λ a. f (g a)) l
any-map f g [] = refl
any-map f g (a ∷ l) = ap (λ (b : Bool). f (g a) || b) (any-map f g l)

module _ {B : Type 0} (g : ℕ → B) where
  range_at : (d : B) (from n i : ℕ) → i < n → get_or (map g (range from n)) i d ≡ g (from + i)
  range_at d from zero i h = absurd (let k : i < 0 = h in omega (arith, k))
  range_at d from (suc n) zero h = ap g (sym (add-zero from))
  range_at d from (suc n) (suc i) h =
      range_at d (from + 1) n i (omega (arith, h)) ∙ ap g (let e : from + 1 + i ≡ from + suc i = omega arith in e)

  -- what is at a place
  pub at_place : (d : B) (n i : ℕ) → i < n → get_or (map g (range 0 n)) i d ≡ g i
  at_place d n i h = range_at d 0 n i h ∙ ap g (zero-add i)

  -- the first few of them
  pub take_range : (from n m : ℕ) → m ≤ n → take m (map g (range from n)) ≡ map g (range from m)
  take_range from n zero h = refl
  take_range from zero (suc m) h = absurd (let k : suc m ≤ 0 = h in omega (arith, k))
  take_range from (suc n) (suc m) h = ap (λ (l : List B). g from ∷ l) (take_range (from + 1) n m (omega (arith, h)))

pub number_at : (s : List ℕ) (at n i : ℕ) → i < n → get_or (numbers_at s at n) i 0 ≡ u32_at s (at + 4 * i)
unfolding numbers_at
number_at s at n i h = at_place (λ j. u32_at s (at + 4 * j)) 0 n i h
