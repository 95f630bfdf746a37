-- What is stored into a list before a part of it, within it, and after it; and numbers of four bytes among it.
-- Assumes nothing.
use Prim.Native.Nat.{ℕ, suc, ◌+◌, ◌-◌, ◌≤◌, ◌<◌}
use native.Mathlib.Omega.{arith}
use native.Mathlib.Nat.{add-zero, zero-add, add-suc, add-sub_of_le}
use mathlib.Core.Path.{◌≡◌, refl, sym, ap, ◌∙◌}
use mathlib.Core.List.{List, [], ◌∷◌, ◌++◌, append-nil}
use lib.ListN.{length, take, drop, get_or, set, length-take, length-drop, drop_of_length-le}
use lib.Seq.{sets, sets-eq, take-set-le, take-set-lt, drop-set-lt, drop-set-add, get_or-take, get_or-drop}
use Rattle.model.specs.Lists.{part, u32_at}
use Rattle.session.specs.Written.{number_bytes}

-- ---- parts

drop_past : (vs l : List ℕ) (i a : ℕ) → i + length vs ≤ a → drop a (sets l i vs) ≡ drop a l
drop_past [] l i a h = refl
drop_past (v ∷ vs) l i a h = drop_past vs (set l i v) (suc i) a (omega arith) ∙ drop-set-lt a l i v (omega arith)

pub drop-to : (vs l : List ℕ) (a i : ℕ) → drop a (sets l (a + i) vs) ≡ sets (drop a l) i vs
drop-to [] l a i = refl
drop-to (v ∷ vs) l a i =
    ap (λ (n : ℕ). drop a (sets (set l (a + i) v) n vs)) (sym (add-suc a i)) ∙ drop-to vs (set l (a + i) v) a (suc i)
    ∙ ap (λ (r : List ℕ). sets r (suc i) vs) (drop-set-add a l i v)

take-to : (vs l : List ℕ) (n i : ℕ) → n ≤ i → take n (sets l i vs) ≡ take n l
take-to [] l n i h = refl
take-to (v ∷ vs) l n i h = take-to vs (set l i v) n (suc i) (omega arith) ∙ take-set-le n l i v h

take-with : (vs l : List ℕ) (n i : ℕ) → i + length vs ≤ n → take n (sets l i vs) ≡ sets (take n l) i vs
take-with [] l n i h = refl
take-with (v ∷ vs) l n i h = take-with vs (set l i v) n (suc i) (omega arith) ∙ ap (λ (r : List ℕ). sets r (suc i) vs) (take-set-lt n l i v (omega arith))

module _ (l vs : List ℕ) where
  pub part-before : (i a n : ℕ) → a + n ≤ i → part a n (sets l i vs) ≡ part a n l
  part-before i a n h =
      let le : a ≤ i = omega arith in
      ap (λ (m : ℕ). part a n (sets l m vs)) (sym (add-sub_of_le le)) ∙ ap (take n) (drop-to vs l a (i - a)) ∙ take-to vs (drop a l) n (i - a) (omega arith)

  pub part-after : (i a n : ℕ) → i + length vs ≤ a → part a n (sets l i vs) ≡ part a n l
  part-after i a n h = ap (take n) (drop_past vs l i a h)

  pub part-there : (a i n : ℕ) → i + length vs ≤ n → part a n (sets l (a + i) vs) ≡ sets (part a n l) i vs
  part-there a i n h = ap (take n) (drop-to vs l a i) ∙ take-with vs (drop a l) n i h

-- what is stored over all of a list
pub sets-all : (l vs : List ℕ) → length vs ≡ length l → sets l 0 vs ≡ vs
sets-all l vs h =
    let none : drop (0 + length vs) l ≡ [] = drop_of_length-le l {i = 0 + length vs} (omega (arith, h)) in
    sets-eq vs l 0 (omega (arith, h)) ∙ ap (λ (r : List ℕ). vs ++ r) none ∙ append-nil vs

-- ---- numbers

number-as : (s t : List ℕ) (k i : ℕ) → ((j : ℕ) → j < 4 → get_or s (k + j) 0 ≡ get_or t (i + j) 0) → u32_at s k ≡ u32_at t i
number-as s t k i h =
    let z : 0 < 4 = omega arith in
    let o : 1 < 4 = omega arith in
    let w : 2 < 4 = omega arith in
    let y : 3 < 4 = omega arith in
    let k₃ : k + 2 + 1 ≡ k + 3 = omega arith in
    let i₃ : i + 3 ≡ i + 2 + 1 = omega arith in
    let a : get_or s k 0 ≡ get_or t i 0 = ap (λ (n : ℕ). get_or s n 0) (sym (add-zero k)) ∙ h 0 z ∙ ap (λ (n : ℕ). get_or t n 0) (add-zero i) in
    let b : get_or s (k + 1) 0 ≡ get_or t (i + 1) 0 = h 1 o in
    let c : get_or s (k + 2) 0 ≡ get_or t (i + 2) 0 = h 2 w in
    let d : get_or s (k + 2 + 1) 0 ≡ get_or t (i + 2 + 1) 0 = ap (λ (n : ℕ). get_or s n 0) k₃ ∙ h 3 y ∙ ap (λ (n : ℕ). get_or t n 0) i₃ in
    omega (arith, a, b, c, d)

-- a number is that of its own four bytes
number-part : (l : List ℕ) (k : ℕ) → u32_at (part k 4 l) 0 ≡ u32_at l k
number-part l k = number-as (part k 4 l) l 0 k (λ j h. ap (λ (n : ℕ). get_or (part k 4 l) n 0) (zero-add j) ∙ get_or-take 4 (drop k l) j 0 h ∙ get_or-drop k l j 0)

module _ (l vs : List ℕ) (i k : ℕ) where
  pub number-before : k + 4 ≤ i → u32_at (sets l i vs) k ≡ u32_at l k
  number-before h = sym (number-part (sets l i vs) k) ∙ ap (λ (r : List ℕ). u32_at r 0) (part-before l vs i k 4 h) ∙ number-part l k

  pub number-after : i + length vs ≤ k → u32_at (sets l i vs) k ≡ u32_at l k
  number-after h = sym (number-part (sets l i vs) k) ∙ ap (λ (r : List ℕ). u32_at r 0) (part-after l vs i k 4 h) ∙ number-part l k

-- what is stored as a number is read as that number
number-front : (n : ℕ) (r : List ℕ) → u32_at (number_bytes n ++ r) 0 ≡ n
number-front n r = omega arith

pub number-there : (l : List ℕ) (k n : ℕ) → k + 4 ≤ length l → u32_at (sets l k (number_bytes n)) k ≡ n
number-there l k n h =
    let d = length-drop k l in
    let t = length-take 4 (drop k l) in
    let four : 0 + 4 ≤ length (part k 4 l) = omega (arith, d, t, h) in
    sym (number-part (sets l k (number_bytes n)) k)
    ∙ ap (λ (m : ℕ). u32_at (part k 4 (sets l m (number_bytes n))) 0) (sym (add-zero k))
    ∙ ap (λ (r : List ℕ). u32_at r 0) (part-there l (number_bytes n) k 0 4 (omega arith) ∙ sets-eq (number_bytes n) (part k 4 l) 0 four)
    ∙ number-front n (drop (0 + 4) (part k 4 l))

-- and past an offset as from there on
pub number_past : (l : List ℕ) (k i : ℕ) → u32_at l (k + i) ≡ u32_at (drop k l) i
number_past l k i =
    number-as l (drop k l) (k + i) i
    (λ j h. let e : k + i + j ≡ k + (i + j) = omega arith in ap (λ (n : ℕ). get_or l n 0) e ∙ sym (get_or-drop k l (i + j) 0))
