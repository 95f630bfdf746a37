-- How many stores a turn makes: as many as the pages that its places are cut into. A run from the beginning of a page on is one page for each w bytes, the last
-- one begun, by induction over the bytes: one more byte begins a page just where the place before it ended one.
-- Assumes nothing.
use Prim.Native.Nat.{ℕ, zero, suc, ◌+◌, ◌-◌, ◌%◌, ◌/◌, ◌≤◌, ◌<◌}
use native.Mathlib.Nat.{zero-add, add-div_right, add-div_left, div-eq_of_lt, zero-div, mod-lt, mod_self, mod-eq_of_lt, suc-mod}
use native.Mathlib.Omega.{arith}
use mathlib.Core.Path.{◌≡◌, refl, sym, ap, ◌∙◌}
use mathlib.Core.Logic.{◌≢◌}
use mathlib.Core.Bool.{Bool, true, false, cond}
use mathlib.Core.List.{List, [], ◌∷◌}
use lib.ListN.{length}
use lib.Dec.{eqb, ltb}
use borrow.Author.Tests.{ltb-true, ltb-false, eq-eqb, ne_eqb}
use Rattle.model.specs.Lists.{part}
use Rattle.model.specs.Stores.{page, pages, joined_to}
use Rattle.model.proofs.Stores.{pages-first}
use Rattle.plan.specs.Plan.{run_of, count_of}
use Rattle.plan.proofs.Stores.{length_part}

-- none for no place, and one more for the first place of each page
pub count_none : (w : ℕ) → 1 ≤ w → count_of w 0 ≡ 0
count_none w h = let l : 0 + (w - 1) < w = omega arith in div-eq_of_lt l

pub count-suc : (w m : ℕ) → 1 ≤ w → count_of w (suc m) ≡ m / w + 1
count-suc w m h = ap (λ (n : ℕ). n / w) (let z : suc m + (w - 1) ≡ m + w = omega arith in z) ∙ add-div_right m (let z : 0 < w = omega arith in z)

pub count-one : (w : ℕ) → 1 ≤ w → count_of w 1 ≡ 1
count-one w h = count-suc w 0 h ∙ ap (λ (n : ℕ). n + 1) (zero-div w)

pub count-bytes : (r : ℕ) → count_of 1 r ≡ r
count-bytes r = omega arith

-- within a page one
pub count-page : (w r : ℕ) → 1 ≤ w → 1 ≤ r → r ≤ w → count_of w r ≡ 1
count-page w zero h some l = absurd (omega arith)
count-page w (suc m) h some l = count-suc w m h ∙ ap (λ (n : ℕ). n + 1) (div-eq_of_lt (let z : m < w = omega arith in z))

-- some places are some stores
pub count-positive : (w r : ℕ) → 1 ≤ w → r ≢ 0 → 1 ≤ count_of w r
count-positive w zero h n = absurd (n refl)
count-positive w (suc m) h n = let e = count-suc w m h in omega (arith, e)

-- the stores of bytes from any place on
pages-count : (w at b : ℕ) (bs : List ℕ) → 1 ≤ w → length (pages w at (b ∷ bs)) ≡ (at % w + length bs) / w + 1
unfolding pages
pages-count w at b [] h =
    one (eqb (suc at % w) 0) ∙ sym (ap (λ (n : ℕ). n + 1) (div-eq_of_lt (let l : at % w < w = mod-lt at (omega arith) in let z : at % w + 0 < w = omega arith in z)))
  where
    one : (t : Bool) → length (cond t (page at (b ∷ []) ∷ []) (page at (b ∷ []) ∷ [])) ≡ 1
    one true = refl
    one false = refl
pages-count w at b (c ∷ bs) h = go (pages-count w (suc at) c bs h) (ltb (at % w + 1) w) refl
  where
    joined : length (joined_to at b (pages w (suc at) (c ∷ bs))) ≡ length (pages w (suc at) (c ∷ bs))
    joined = let f = pages-first w (suc at) c bs in rw f.same

    go : length (pages w (suc at) (c ∷ bs)) ≡ (suc at % w + length bs) / w + 1 → (t : Bool) → ltb (at % w + 1) w ≡ t
        → length (cond (eqb (suc at % w) 0) (page at (b ∷ []) ∷ pages w (suc at) (c ∷ bs)) (joined_to at b (pages w (suc at) (c ∷ bs)))) ≡ (at % w + suc (length bs)) / w + 1
    go more true e =
        let l = ltb-true (at % w + 1) w e in
        let next : suc at % w ≡ suc (at % w) = suc-mod at w ∙ mod-eq_of_lt (let z : suc (at % w) < w = omega arith in z) in
        rw (ne_eqb (suc at % w) 0 (λ z. omega arith))
        (joined ∙ more ∙ ap (λ (n : ℕ). n / w + 1) (let z : suc at % w + length bs ≡ at % w + suc (length bs) = omega arith in z))
    go more false e =
        let l = ltb-false (at % w + 1) w e in
        let m : at % w < w = mod-lt at (omega arith) in
        let full : suc (at % w) ≡ w = omega arith in
        let next : suc at % w ≡ 0 = suc-mod at w ∙ ap (λ (n : ℕ). n % w) full ∙ mod_self w in
        let sum : at % w + suc (length bs) ≡ w + length bs = omega arith in
        rw (eq-eqb (suc at % w) 0 next)
        (ap suc (more ∙ ap (λ (n : ℕ). (n + length bs) / w + 1) next ∙ ap (λ (n : ℕ). n / w + 1) (zero-add (length bs)))
        ∙ (let d = add-div_left (length bs) (let z : 0 < w = omega arith in z) in let e = ap (λ (n : ℕ). n / w) sum in omega (arith, d, e)))

-- and from the beginning of a page on
pub run-count : (w : ℕ) (c : List ℕ) (at from len : ℕ) → from + len ≤ length c → 1 ≤ w → 1 ≤ len → at % w ≡ 0 → length (run_of w c at from len) ≡ count_of w len
run-count w c at from len h wide some begins = go (part from len c) (length_part from len c h)
  where
    go : (bs : List ℕ) → length bs ≡ len → length (pages w at bs) ≡ count_of w len
    go [] e = absurd (omega arith)
    go (b ∷ bs) e =
        pages-count w at b bs wide
        ∙ ap (λ (n : ℕ). (n + length bs) / w + 1) begins
        ∙ ap (λ (n : ℕ). n / w + 1) (zero-add (length bs))
        ∙ sym (count-suc w (length bs) wide)
        ∙ ap (count_of w) e
