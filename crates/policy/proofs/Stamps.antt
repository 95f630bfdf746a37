-- Stamps are compared number by number: the year, then five bytes.
-- Assumes nothing.
use Prim.Native.Nat.{ℕ}
use native.Mathlib.Omega.{arith}
use mathlib.Core.Path.{◌≡◌, refl}
use mathlib.Core.Logic.{◌≢◌}
use mathlib.Core.Bool.{Bool, ◌&&◌, ◌||◌, or-false}
use mathlib.Core.List.{List}
use lib.Dec.{eqb, ltb}
use borrow.Author.Tests.{eq-eqb, ne_eqb, le-ltb}
use Rattle.std.specs.Prelude.{Some}
use Rattle.std.proofs.lemmas.Bool.Decides.{nat_tests}
use Rattle.std.specs.Ordering.{nat_cmp, is_gt, is_some_and}
use Rattle.std.specs.Cmp.Lexicographic.{slice_partial_cmp}
use Rattle.std.proofs.lemmas.Cmp.{same_from_slice_cmp_tested}
use Rattle.model.specs.Lists.{u16_at_def, part}
use Rattle.model.specs.Request.{greater, later}

-- the order of lists that the library has
pub greater-test : (xs ys : List ℕ) (r : Bool) → r ≡ is_some_and is_gt (slice_partial_cmp (λ x y. Some (nat_cmp x y)) xs ys) → r ≡ greater xs ys
greater-test = same_from_slice_cmp_tested nat_cmp is_gt greater refl (λ _ _. refl) (λ _ _. refl) (λ x y xs ys o h. grind (arith, nat_tests))

head-equal : (x y : ℕ) (t : Bool) → x ≡ y → (ltb y x || (eqb y x && t)) ≡ t
head-equal x y t h = rw (h, le-ltb y y (omega arith), eq-eqb y y refl)

head-other : (x y : ℕ) (t : Bool) → x ≢ y → (ltb y x || (eqb y x && t)) ≡ ltb y x
head-other x y t h = rw (ne_eqb y x (λ e. h (omega arith))) (or-false (ltb y x))

pub later-other : (a b : List ℕ) → u16_at_def a 0 ≢ u16_at_def b 0 → later a b ≡ ltb (u16_at_def b 0) (u16_at_def a 0)
unfolding later
later-other a b h = head-other (u16_at_def a 0) (u16_at_def b 0) (greater (part 2 5 a) (part 2 5 b)) h

pub later-equal : (a b : List ℕ) → u16_at_def a 0 ≡ u16_at_def b 0 → later a b ≡ greater (part 2 5 a) (part 2 5 b)
unfolding later
later-equal a b h = head-equal (u16_at_def a 0) (u16_at_def b 0) (greater (part 2 5 a) (part 2 5 b)) h
