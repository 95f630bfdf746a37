-- The number of a field by its bytes: the first, and 256 times the number of the others; past the end of the data both sides are 0. And when data in two parts
-- meet a rule.
-- Assumes nothing.
use Prim.Native.Nat.{ℕ, zero, suc, ◌+◌, ◌*◌, ◌≤◌, ◌<◌}
use native.Mathlib.Omega.{arith}
use mathlib.Core.Path.{◌≡◌, refl, ap, ◌∙◌}
use mathlib.Core.Bool.{true, false, and-false, or-false}
use mathlib.Core.List.{List, [], ◌∷◌, ◌++◌}
use lib.ListN.{length, take, get_or, length-append}
use borrow.Author.Tests.{eqb-true, ne_eqb, le-leb, lt-leb}
use Rattle.model.specs.Lists.{part, among}
use Rattle.model.specs.Limits.{Limit, little, allowed, widths, meets}

little-none : (n : ℕ) → little (take n []) ≡ 0
unfolding little
little-none zero = refl
little-none (suc n) = refl

little-suc : (s : List ℕ) (at n : ℕ) → little (part at (suc n) s) ≡ get_or s at 0 + 256 * little (part (suc at) n s)
unfolding little
little-suc [] zero n = rw (little-none n)
little-suc [] (suc at) n = rw (little-none n)
little-suc (b ∷ s) zero n = refl
little-suc (b ∷ s) (suc at) n = little-suc s at n

pub one_byte : (s : List ℕ) (at : ℕ) → little (part at 1 s) ≡ get_or s at 0
unfolding little
one_byte s at = little-suc s at 0 ∙ omega arith

pub two_bytes : (s : List ℕ) (at : ℕ) → little (part at 2 s) ≡ get_or s at 0 + 256 * get_or s (at + 1) 0
two_bytes s at =
    little-suc s at 1
    ∙ ap (λ (n : ℕ). get_or s at 0 + 256 * n) (one_byte s (suc at))
    ∙ ap (λ (i : ℕ). get_or s at 0 + 256 * get_or s i 0) (omega arith)

pub four_bytes : (s : List ℕ) (at : ℕ)
    → little (part at 4 s) ≡ get_or s at 0 + 256 * get_or s (at + 1) 0 + 65536 * (get_or s (at + 2) 0 + 256 * get_or s (at + 3) 0)
four_bytes s at =
    let i : suc at ≡ at + 1 = omega arith in
    let j : suc (suc at) ≡ at + 2 = omega arith in
    let k : suc (suc at) + 1 ≡ at + 3 = omega arith in
    let rest : little (part (suc (suc at)) 2 s) ≡ get_or s (at + 2) 0 + 256 * get_or s (at + 3) 0 =
    two_bytes s (suc (suc at)) ∙ ap (λ (n : ℕ). get_or s n 0 + 256 * get_or s (suc (suc at) + 1) 0) j ∙ ap (λ (n : ℕ). get_or s (at + 2) 0 + 256 * get_or s n 0) k in
    let second : little (part (suc at) 3 s) ≡ get_or s (at + 1) 0 + 256 * (get_or s (at + 2) 0 + 256 * get_or s (at + 3) 0) =
    little-suc s (suc at) 2 ∙ ap (λ (n : ℕ). get_or s (suc at) 0 + 256 * n) rest ∙ ap (λ (n : ℕ). get_or s n 0 + 256 * (get_or s (at + 2) 0 + 256 * get_or s (at + 3) 0)) i in
    little-suc s at 3 ∙ ap (λ (n : ℕ). get_or s at 0 + 256 * n) second ∙ omega arith

-- a field that may be so wide, and is not one or two bytes, is four
pub width_four : (w : ℕ) → among widths w ≡ true → (w ≡ 1 → ⊥) → (w ≡ 2 → ⊥) → w ≡ 4
width_four w h one two = eqb-true w 4 (simp (ne_eqb w 1 one, ne_eqb w 2 two, or-false) at h)

-- ---- when data in two parts meet a rule, by its tests in their order

module _ (t : Limit) (old own : List ℕ) where
  abbrev size : ℕ
  size = length old + length own

  pub too_short : size < t.least → meets t (old ++ own) ≡ false
  unfolding meets
  too_short h = rw (length-append old own, lt-leb t.least size h)

  pub too_long : t.most < size → meets t (old ++ own) ≡ false
  unfolding meets
  too_long h = simp (length-append old own, lt-leb size t.most h, and-false)

  pub other_width : among widths t.width ≡ false → meets t (old ++ own) ≡ false
  unfolding meets
  other_width h = simp (h, and-false)

  pub outside : size < t.at + t.width → meets t (old ++ own) ≡ false
  unfolding meets
  outside h = simp (length-append old own, lt-leb (t.at + t.width) size h, and-false)

  pub by_field : t.least ≤ size → size ≤ t.most → among widths t.width ≡ true → t.at + t.width ≤ size
      → meets t (old ++ own) ≡ allowed t (little (part t.at t.width (old ++ own)))
  unfolding meets
  by_field a b w c = rw (length-append old own, le-leb t.least size a, le-leb size t.most b, w, le-leb (t.at + t.width) size c)
