-- A record's name is 26 bytes long, and its digits stand one behind the other, at 16, 18, 20 and 22, with the zero character at 24.
-- Assumes nothing.
use Prim.Native.Nat.{ℕ, zero, suc, ◌+◌, ◌*◌, ◌≤◌}
use native.Mathlib.Omega.{arith}
use mathlib.Core.Path.{◌≡◌, refl, sym, ap, ap₂, ◌∙◌}
use mathlib.Core.Logic.{◌≢◌}
use mathlib.Core.Bool.{Bool, true, false, ◌&&◌, and_assoc, and-true, and-false, false≢true}
use mathlib.Core.List.{List, [], ◌∷◌}
use lib.ListN.{length, get_or, take, drop, length-drop}
use lib.Dec.{eqb}
use lib.Seq.{drop-drop, get_or-drop}
use Rattle.model.specs.Lists.{same}
use Rattle.model.specs.Name.{Key, record_vendor_def, record_front_def, is_digit_def, digits, record_name}
use Rattle.model.proofs.Tests.{and_split, same-eq}
use Rattle.layout.specs.Digits.{digit_at}

-- ---- its length

digits-length : (n : ℕ) (s : List ℕ) → digits n s ≡ true → length s ≡ 2 * n + 2
unfolding digits
digits-length zero s h = ap length (same-eq s (0 ∷ 0 ∷ []) h)
digits-length (suc n) [] h = absurd (false≢true h)
digits-length (suc n) (a ∷ []) h = absurd (false≢true h)
digits-length (suc n) (a ∷ b ∷ s) h =
    let l = digits-length n s (and_split (is_digit_def a && eqb b 0) (digits n s) h).1 in
    omega arith

pub record_length : (k : Key) → length k.name ≢ 26 → record_name k ≡ false
unfolding record_name
record_length k h = go (digits 4 (drop 16 k.name)) refl
  where
    go : (t : Bool) → digits 4 (drop 16 k.name) ≡ t
        → (same (take 16 k.name) record_front_def && digits 4 (drop 16 k.name) && same k.vendor record_vendor_def) ≡ false
    go true q =
        let l = simp length-drop at (digits-length 4 (drop 16 k.name) q) in
        absurd (h (omega arith))
    go false q = rw (q, and-false (same (take 16 k.name) record_front_def))

-- where the form is right the vendor decides, and no vendor mends it
pub record-form : (k : Key) (t : Bool) → (same (take 16 k.name) record_front_def && digits 4 (drop 16 k.name)) ≡ t
    → record_name k ≡ (t && same k.vendor record_vendor_def)
unfolding record_name
record-form k t h = rw h

-- ---- its digits

first-digit : (n : ℕ) (s : List ℕ) → 2 ≤ length s → digits (suc n) s ≡ (digit_at s 0 && digits n (drop 2 s))
unfolding digits digit_at
first-digit n [] h = absurd (omega arith)
first-digit n (a ∷ []) h = absurd (omega arith)
first-digit n (a ∷ b ∷ s) h = refl

digit-drop : (s : List ℕ) (at : ℕ) → digit_at (drop at s) 0 ≡ digit_at s at
unfolding digit_at
digit-drop s at =
    let here : at + 0 ≡ at = omega arith in
    rw (get_or-drop at s 0 0 ∙ ap (λ (k : ℕ). get_or s k 0) here, get_or-drop at s 1 0)

next-digit : (n : ℕ) (s : List ℕ) (at : ℕ) → at + 2 ≤ length s → digits (suc n) (drop at s) ≡ (digit_at s at && digits n (drop (at + 2) s))
next-digit n s at h =
    first-digit n (drop at s) (rw length-drop (omega arith))
    ∙ ap₂ (λ (a b : Bool). a && b) (digit-drop s at) (ap (digits n) (drop-drop 2 at s))

last-zero : (s : List ℕ) → length s ≡ 2 → digits 0 s ≡ (eqb (get_or s 0 0) 0 && eqb (get_or s 1 0) 0)
unfolding digits same
last-zero [] h = absurd (omega arith)
last-zero (a ∷ []) h = absurd (omega arith)
last-zero (a ∷ b ∷ []) h = ap (λ (t : Bool). eqb a 0 && t) (and-true (eqb b 0))
last-zero (a ∷ b ∷ c ∷ s) h = absurd (omega arith)

digits-in-turn : (s : List ℕ) → length s ≡ 26
    → digits 4 (drop 16 s) ≡ (digit_at s 16 && (digit_at s 18 && (digit_at s 20 && (digit_at s 22 && (eqb (get_or s 24 0) 0 && eqb (get_or s 25 0) 0)))))
digits-in-turn s h =
    next-digit 3 s 16 (omega arith)
    ∙ ap (λ (t : Bool). digit_at s 16 && t) (next-digit 2 s 18 (omega arith)
    ∙ ap (λ (t : Bool). digit_at s 18 && t) (next-digit 1 s 20 (omega arith)
    ∙ ap (λ (t : Bool). digit_at s 20 && t) (next-digit 0 s 22 (omega arith)
    ∙ ap (λ (t : Bool). digit_at s 22 && t) (last-zero (drop 24 s) (rw length-drop (omega arith))
    ∙ rw (get_or-drop 24 s 0 0, get_or-drop 24 s 1 0)))))

pub digits_bytes : (s : List ℕ) → length s ≡ 26
    → digits 4 (drop 16 s) ≡ (digit_at s 16 && digit_at s 18 && digit_at s 20 && digit_at s 22 && eqb (get_or s 24 0) 0 && eqb (get_or s 25 0) 0)
digits_bytes s h = digits-in-turn s h ∙ sym (simp and_assoc)
