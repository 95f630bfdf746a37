-- A name is well formed where its last character is zero and no other is. The others are tested in windows of four: windows that meet or overlap make one.
-- Assumes nothing.
use Prim.Native.Nat.{ℕ, zero, suc, ◌+◌, ◌*◌, ◌-◌, ◌%◌, ◌/◌, ◌≤◌, ◌<◌}
use native.Mathlib.Omega.{arith}
use mathlib.Core.Path.{◌≡◌, refl, sym, ◌∙◌}
use mathlib.Core.Logic.{◌≢◌}
use mathlib.Core.Bool.{Bool, true, false, not, ◌&&◌}
use mathlib.Core.List.{List}
use lib.ListN.{length, get_or, drop}
use lib.Dec.{eqb, ltb}
use borrow.Author.Tests.{eqb-true, eqb-false, ltb-true, ltb-false, not-true}
use Rattle.model.proofs.Tests.{and_split}
use Rattle.model.specs.Name.{zero_character, zero_ended, well_named}
use Rattle.slices.specs.Characters.{NonZero}
use Rattle.slices.proofs.Ended.{named-ended, ended-last, ended-next, zero-pair, low_byte, high_byte}

-- a character is zero just if its number is
module _ (a b : ℕ) where
  pub number-nonzero : a + 256 * b ≢ 0 → zero_character a b ≡ false
  number-nonzero h = go (eqb a 0) refl
    where
      go : (t : Bool) → eqb a 0 ≡ t → zero_character a b ≡ false
      go true e = let z = eqb-true a 0 e in high_byte a b (λ q. h (omega arith))
      go false e = low_byte a b (eqb-false a 0 e)

  pub number-zero : a + 256 * b ≡ 0 → zero_character a b ≡ true
  number-zero h = zero-pair a b (omega arith) (omega arith)

  pub number-test : (k : ℕ) → k ≡ a + 256 * b → eqb k 0 ≡ zero_character a b
  number-test k e = go (eqb k 0) refl
    where
      go : (t : Bool) → eqb k 0 ≡ t → t ≡ zero_character a b
      go true z = sym (number-zero (sym e ∙ eqb-true k 0 z))
      go false z = sym (number-nonzero (λ q. eqb-false k 0 z (e ∙ q)))

-- by the test of its number
tested-nonzero : (a b k : ℕ) → k ≡ a + 256 * b → not (eqb k 0) ≡ true → zero_character a b ≡ false
tested-nonzero a b k e h = number-nonzero a b (λ z. eqb-false k 0 (not-true (eqb k 0) h) (e ∙ z))

-- the character at an offset is not zero
abbrev NonZeroAt : List ℕ → ℕ → Type 0
NonZeroAt s i = zero_character (get_or s i 0) (get_or s (i + 1) 0) ≡ false

module _ (s : List ℕ) where
  pub nonzero-none : (a : ℕ) → NonZero s a a
  nonzero-none a = record { each = λ j p q. absurd (omega arith) }

  pub nonzero-join : (a b c d : ℕ) → NonZero s a b → NonZero s c d → c ≤ b → NonZero s a d
  nonzero-join a b c d f g h = record { each = λ j p q. go j p q (ltb (2 * j) b) refl }
    where
      go : (j : ℕ) → a ≤ 2 * j → 2 * j < d → (t : Bool) → ltb (2 * j) b ≡ t → NonZeroAt s (2 * j)
      go j p q true e = f.each j p (ltb-true (2 * j) b e)
      go j p q false e = let l = ltb-false (2 * j) b e in g.each j (omega arith) q

  pub nonzero-less : (a b c : ℕ) → NonZero s a b → c ≤ b → NonZero s a c
  nonzero-less a b c f h = record { each = λ j p q. f.each j p (omega arith) }

  pub nonzero-one : (i : ℕ) → i % 2 ≡ 0 → NonZeroAt s i → NonZero s i (i + 2)
  nonzero-one i h f = record { each = λ j p q. let e : 2 * j ≡ i = omega arith in rw e f }

  nonzero-four : (i : ℕ) → i % 2 ≡ 0 → NonZeroAt s i → NonZeroAt s (i + 2) → NonZeroAt s (i + 4) → NonZeroAt s (i + 6) → NonZero s i (i + 8)
  nonzero-four i h a b c d =
      let b' = nonzero-one (i + 2) (omega arith) b in
      let c' = nonzero-one (i + 4) (omega arith) c in
      let d' = nonzero-one (i + 6) (omega arith) d in
      nonzero-less i (i + 6 + 2) (i + 8)
      (nonzero-join i (i + 4 + 2) (i + 6) (i + 6 + 2)
      (nonzero-join i (i + 2 + 2) (i + 4) (i + 4 + 2)
      (nonzero-join i (i + 2) (i + 2) (i + 2 + 2) (nonzero-one i h a) b' (omega arith)) c' (omega arith)) d' (omega arith)) (omega arith)

  abbrev number : ℕ → ℕ
  number i = get_or s i 0 + 256 * get_or s (i + 1) 0

  -- a window, by the numbers of its characters
  pub window : (i : ℕ) → i % 2 ≡ 0 → (w x y z : ℕ) → w ≡ number i → x ≡ number (i + 2) → y ≡ number (i + 4) → z ≡ number (i + 6)
      → (((not (eqb w 0) && not (eqb x 0)) && not (eqb y 0)) && not (eqb z 0)) ≡ true → NonZero s i (i + 8)
  window i h w x y z a b c d t =
      let p = and_split ((not (eqb w 0) && not (eqb x 0)) && not (eqb y 0)) (not (eqb z 0)) t in
      let q = and_split (not (eqb w 0) && not (eqb x 0)) (not (eqb y 0)) p.0 in
      let r = and_split (not (eqb w 0)) (not (eqb x 0)) q.0 in
      nonzero-four i h (tested-nonzero (get_or s i 0) (get_or s (i + 1) 0) w a r.0)
      (tested-nonzero (get_or s (i + 2) 0) (get_or s (i + 2 + 1) 0) x b r.1)
      (tested-nonzero (get_or s (i + 4) 0) (get_or s (i + 4 + 1) 0) y c q.1)
      (tested-nonzero (get_or s (i + 6) 0) (get_or s (i + 6 + 1) 0) z d p.1)

  -- where no other is zero, the last character decides whether the name is well formed
  module _ (n : ℕ) (long : length s ≡ n) (f : NonZero s 0 (n - 2)) where
    ended : (k j : ℕ) → 2 * j + 2 * k + 2 ≡ n → zero_ended (drop (2 * j) s) ≡ zero_character (get_or s (n - 2) 0) (get_or s (n - 2 + 1) 0)
    ended zero j h =
        let e : 2 * j ≡ n - 2 = omega arith in
        rw (← e) (ended-last s (2 * j) (omega arith))
    ended (suc k) j h =
        let e : 2 * j + 2 ≡ 2 * (j + 1) = omega arith in
        ended-next s (2 * j) (omega arith) (f.each j (omega arith) (omega arith)) ∙ rw e (ended k (j + 1) (omega arith))

    pub named-last : 4 ≤ n → n ≤ 128 → n % 2 ≡ 0 → well_named s ≡ zero_character (get_or s (n - 2) 0) (get_or s (n - 2 + 1) 0)
    named-last h k e = named-ended s (omega arith) (omega arith) ∙ ended (n / 2 - 1) 0 (omega arith)
