-- A name's characters are tested in pairs of bytes: a pair that is not the last must not be zero, the last must be, and one byte alone is no character.
-- Assumes nothing.
use Prim.Native.Nat.{ℕ, suc, ◌+◌, ◌%◌, ◌≤◌, ◌<◌}
use native.Mathlib.Omega.{arith}
use native.Mathlib.Numerals.{towards_suc}
use mathlib.Core.Path.{◌≡◌, refl, ap, ◌∙◌}
use mathlib.Core.Bool.{true, false, not, ◌&&◌, and-false}
use mathlib.Core.List.{List, [], ◌∷◌}
use lib.ListN.{length, get_or, drop, drop_of_length-le}
use lib.Seq.{drop-cons}
use lib.Dec.{eqb, leb}
use borrow.Author.Tests.{eq-eqb, ne_eqb, le-leb, lt-leb}
use Rattle.model.specs.Name.{zero_character, zero_ended, well_named}

odd : (s : List ℕ) → length s % 2 ≡ 1 → zero_ended s ≡ false
unfolding zero_ended
odd [] h = refl
odd (a ∷ []) h = refl
odd (a ∷ b ∷ []) h = absurd (omega arith)
odd (a ∷ b ∷ c ∷ s) h = rw (odd (c ∷ s) (omega arith)) (and-false (not (zero_character a b)))

module _ (s : List ℕ) (i : ℕ) where
  two : i + 2 ≤ length s → drop i s ≡ get_or s i 0 ∷ get_or s (i + 1) 0 ∷ drop (i + 2) s
  two h = simp towards_suc (drop-cons s i 0 (omega arith) ∙ ap (λ l. get_or s i 0 ∷ l) (drop-cons s (suc i) 0 (omega arith)))

  pub ended-last : i + 2 ≡ length s → zero_ended (drop i s) ≡ zero_character (get_or s i 0) (get_or s (i + 1) 0)
  unfolding zero_ended
  ended-last h = rw (two (omega arith), drop_of_length-le s {i = i + 2} (omega arith))

  ended-step : i + 2 < length s
      → zero_ended (drop i s) ≡ (not (zero_character (get_or s i 0) (get_or s (i + 1) 0)) && zero_ended (drop (i + 2) s))
  unfolding zero_ended
  ended-step h = rw (two (omega arith), drop-cons s (i + 2) 0 h)

  pub ended-early : i + 2 < length s → zero_character (get_or s i 0) (get_or s (i + 1) 0) ≡ true → zero_ended (drop i s) ≡ false
  ended-early h z = rw (ended-step h, z)

  pub ended-next : i + 2 < length s → zero_character (get_or s i 0) (get_or s (i + 1) 0) ≡ false
      → zero_ended (drop i s) ≡ zero_ended (drop (i + 2) s)
  ended-next h z = rw (ended-step h, z)

pub zero-pair : (a b : ℕ) → a ≡ 0 → b ≡ 0 → zero_character a b ≡ true
zero-pair a b p q = rw (eq-eqb a 0 p, eq-eqb b 0 q)

pub low_byte : (a b : ℕ) → (a ≡ 0 → ⊥) → zero_character a b ≡ false
low_byte a b p = rw (ne_eqb a 0 p)

pub high_byte : (a b : ℕ) → (b ≡ 0 → ⊥) → zero_character a b ≡ false
high_byte a b p = rw (ne_eqb b 0 p) (and-false (eqb a 0))

pub named-short : (s : List ℕ) → length s < 4 → well_named s ≡ false
unfolding well_named
named-short s h = rw (lt-leb 4 (length s) h)

pub named-long : (s : List ℕ) → 4 ≤ length s → 128 < length s → well_named s ≡ false
unfolding well_named
named-long s h k = rw (le-leb 4 (length s) h, lt-leb (length s) 128 k)

pub named-ended : (s : List ℕ) → 4 ≤ length s → length s ≤ 128 → well_named s ≡ zero_ended s
unfolding well_named
named-ended s h k = rw (le-leb 4 (length s) h, le-leb (length s) 128 k)

pub named-odd : (s : List ℕ) → length s % 2 ≡ 1 → well_named s ≡ false
unfolding well_named
named-odd s h = rw (odd s h) (and-false (leb 4 (length s) && leb (length s) 128))
