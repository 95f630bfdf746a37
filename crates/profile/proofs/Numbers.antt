-- Numbers at places of a file, group by group: what the groups from one on are, behind those that were read.
-- Assumes nothing.
use Prim.Native.Nat.{ℕ, zero, suc, ◌+◌, ◌*◌, ◌-◌, ◌^◌, ◌≤◌, ◌<◌}
use native.Mathlib.Omega.{arith}
use native.Mathlib.Numerals.{add-one}
use mathlib.Core.Path.{◌≡◌, refl, sym, ap, subst}
use mathlib.Core.Logic.{◌≢◌}
use mathlib.Core.Bool.{Bool, true, false, cond}
use mathlib.Core.List.{List}
use mathlib.Core.Option as math
use Rattle.std.specs.Prelude.{Some, None}
use lib.ListN.{length, drop, get_or, drop_of_length-le}
use lib.Seq.{drop-cons}
use lib.Dec.{eqb}
use borrow.Author.Tests.{lt-ltb, le-ltb, eq-eqb, ne_eqb, eqb-false}
use Rattle.model.specs.Lists.{on_some}
use Rattle.model.specs.Profile.{Number, number}
use Rattle.profile.specs.Reader.{number_of}

-- the number by the groups from the i-th on, of which the first weighs so much, and the value of those before it: behind another group they are not 0
abbrev pub shifted : ℕ → ℕ → ℕ → math.Option Number → math.Option Number
shifted zero w v o = o
shifted (suc i) w v o = on_some o (λ m. cond (eqb m.value 0) math.none (math.some (record { value = v + w * m.value; rest = m.rest }))) math.none

shifted-none : (i w v : ℕ) → shifted i w v math.none ≡ math.none
shifted-none zero w v = refl
shifted-none (suc i) w v = refl

-- no byte there
pub no_group : (i w v n : ℕ) (s : List ℕ) (at : ℕ) → length s ≤ at → number_of s None ≡ shifted i w v (number n (drop at s))
unfolding number_of number
no_group i w v zero s at h = sym (shifted-none i w v)
no_group i w v (suc n) s at h = rw (drop_of_length-le s h) (sym (shifted-none i w v))

-- no more groups
pub too_many : (i w v : ℕ) (s t : List ℕ) → number_of s None ≡ shifted i w v (number 0 t)
unfolding number_of number
too_many i w v s t = sym (shifted-none i w v)

module _ (n : ℕ) (s : List ℕ) (at b d : ℕ) (inside : at < length s) (is : b ≡ get_or s at d) where
  last-is : b < 128 → number (suc n) (drop at s) ≡ math.some (record { value = b; rest = drop (at + 1) s })
  unfolding number
  last-is l = rw (drop-cons s at d inside, add-one at, ← is, lt-ltb b 128 l)

  -- a last group
  pub last-group : (i w v : ℕ) → (i ≡ 0 → (w ≡ 1) × (v ≡ 0)) → (i ≢ 0 → b ≢ 0) → b < 128
      → number_of s (Some (record { value = v + w * b; next = at + 1 })) ≡ shifted i w v (number (suc n) (drop at s))
  unfolding number_of
  last-group zero w v e f l =
      let p = e refl in
      let same : v + w * b ≡ b = rw (p.0, p.1) (omega arith) in
      rw (last-is l, same)
  last-group (suc i) w v e f l = rw (last-is l, ne_eqb b 0 (f (λ z. absurd (omega arith))))

  -- one of 0 behind another
  pub last-zero : (i w v : ℕ) → i ≢ 0 → b ≡ 0 → number_of s None ≡ shifted i w v (number (suc n) (drop at s))
  unfolding number_of
  last-zero zero w v f e = absurd (f refl)
  last-zero (suc i) w v f e = let l : b < 128 = omega arith in rw (last-is l, eq-eqb b 0 e)

  -- another follows
  pub group-more : (i w v : ℕ) → (i ≡ 0 → (w ≡ 1) × (v ≡ 0)) → 128 ≤ b
      → shifted i w v (number (suc n) (drop at s)) ≡ shifted (i + 1) (w * 128) (v + w * (b - 128)) (number n (drop (at + 1) s))
  unfolding number
  group-more i w v e l = rw (drop-cons s at d inside, add-one at, ← is, le-ltb b 128 l, add-one i) (go i e (number n (drop (suc at) s)))
    where
      go : (i : ℕ) → (i ≡ 0 → (w ≡ 1) × (v ≡ 0)) → (o : math.Option Number)
          → shifted i w v (on_some o (λ m. cond (eqb m.value 0) math.none (math.some (record { value = b - 128 + 128 * m.value; rest = m.rest }))) math.none)
          ≡ shifted (suc i) (w * 128) (v + w * (b - 128)) o
      go zero e math.none = refl
      go (suc i) e math.none = refl
      go zero e (math.some m) = at_first (eqb m.value 0)
        where
          at_first : (t : Bool) → cond {A = math.Option Number} t math.none (math.some (record { value = b - 128 + 128 * m.value; rest = m.rest }))
              ≡ cond {A = math.Option Number} t math.none (math.some (record { value = v + w * (b - 128) + w * 128 * m.value; rest = m.rest }))
          at_first true = refl
          at_first false = let p = e refl in rw (p.0, p.1) (ap (λ (x : ℕ). math.some (record { value = x; rest = m.rest })) (omega arith))
      go (suc i) e (math.some m) = behind (eqb m.value 0) refl
        where
          behind : (t : Bool) → eqb m.value 0 ≡ t
              → on_some (cond {A = math.Option Number} t math.none (math.some (record { value = b - 128 + 128 * m.value; rest = m.rest })))
              (λ m. cond (eqb m.value 0) math.none (math.some (record { value = v + w * m.value; rest = m.rest }))) math.none
              ≡ cond {A = math.Option Number} t math.none (math.some (record { value = v + w * (b - 128) + w * 128 * m.value; rest = m.rest }))
          behind true f = refl
          behind false f =
              let n : m.value ≢ 0 = eqb-false m.value 0 f in
              rw (ne_eqb (b - 128 + 128 * m.value) 0 (λ z. n (omega arith))) (ap (λ (x : ℕ). math.some (record { value = x; rest = m.rest })) (omega arith))

-- at the first group nothing was read
pub first : (i w v : ℕ) → w ≡ 128 ^ i → v < w → i ≡ 0 → (w ≡ 1) × (v ≡ 0)
first zero w v e l z = (e, omega arith)
first (suc i) w v e l z = absurd (omega arith)

-- ---- how large they are

three : (P : ℕ → Type 0) → P 1 → P 128 → P 16384 → (i : ℕ) → i < 3 → P (128 ^ i)
three P a b c zero h = a
three P a b c (suc zero) h = b
three P a b c (suc (suc zero)) h = c
three P a b c (suc (suc (suc i))) h = absurd (omega arith)

pub next-weight : (i : ℕ) → i < 3 → 128 ^ i * 128 ≡ 128 ^ (i + 1)
next-weight zero h = refl
next-weight (suc zero) h = refl
next-weight (suc (suc zero)) h = refl
next-weight (suc (suc (suc i))) h = absurd (omega arith)

pub record Small (w v b : ℕ) : Type 0 where
  pub product : w * b < 2 ^ 22
  pub last : b < 128 → v + w * b < 2 ^ 21
  pub weight : w * 128 ≤ 2 ^ 21
  pub value : 128 ≤ b → v + w * (b - 128) < w * 128

pub small-groups : (i w v b : ℕ) → i < 3 → w ≡ 128 ^ i → v < w → b < 256 → Small w v b
small-groups i w v b h e k l =
    (subst (λ (w : ℕ). v < w → Small w v b) (sym e)
    (three (λ (w : ℕ). v < w → Small w v b)
    (λ k. record { product = omega arith; last = λ m. omega arith; weight = omega arith; value = λ m. omega arith })
    (λ k. record { product = omega arith; last = λ m. omega arith; weight = omega arith; value = λ m. omega arith })
    (λ k. record { product = omega arith; last = λ m. omega arith; weight = omega arith; value = λ m. omega arith })
    i h)) k
