-- What the definitions of digits say: a few texts written out, and that reading the decimal digits of a number gives the number back, by induction over a count above it.
-- Assumes nothing.
use Prim.Native.Nat.{ℕ, zero, suc, ◌+◌, ◌*◌, ◌-◌, ◌/◌, ◌%◌, ◌≤◌, ◌<◌}
use native.Mathlib.Omega.{arith}
use mathlib.Core.Path.{◌≡◌, refl}
use mathlib.Core.Bool.{Bool, true, false}
use mathlib.Core.List.{List, [], ◌∷◌, ◌++◌}
use lib.Dec.{ltb}
use borrow.Author.Tests.{ltb-true, ltb-false}
use Rattle.output.specs.Text.{ascii, digit, leading, decimal_of, hex_of}
use Rattle.output.proofs.Digits.{decimal-one, decimal-more}

hex-bytes : hex_of (0x00 ∷ 0x09 ∷ 0x0A ∷ 0x10 ∷ 0x9F ∷ 0xFF ∷ []) ≡ ascii "00090A109FFF"
unfolding hex_of digit ascii
hex-bytes = refl

hex-none : hex_of [] ≡ ascii ""
unfolding hex_of ascii
hex-none = refl

decimal-0 : decimal_of 0 ≡ ascii "0"
unfolding decimal_of leading digit ascii
decimal-0 = refl

decimal-7 : decimal_of 7 ≡ ascii "7"
unfolding decimal_of leading digit ascii
decimal-7 = refl

decimal-10 : decimal_of 10 ≡ ascii "10"
unfolding decimal_of leading digit ascii
decimal-10 = refl

decimal-4096 : decimal_of 4096 ≡ ascii "4096"
unfolding decimal_of leading digit ascii
decimal-4096 = refl

decimal-28672 : decimal_of 28672 ≡ ascii "28672"
unfolding decimal_of leading digit ascii
decimal-28672 = refl

decimal-4294967295 : decimal_of 4294967295 ≡ ascii "4294967295"
unfolding decimal_of leading digit ascii
decimal-4294967295 = refl

-- the number that digits give, behind those that gave n
pub number_from : ℕ → List ℕ → ℕ
number_from n [] = n
number_from n (d ∷ ds) = number_from (10 * n + (d - 0x30)) ds

number_append : (n : ℕ) (ds : List ℕ) (d : ℕ) → number_from n (ds ++ (d ∷ [])) ≡ 10 * number_from n ds + (d - 0x30)
unfolding number_from
number_append n [] d = refl
number_append n (x ∷ ds) d = number_append (10 * n + (x - 0x30)) ds d

digit-number : (n : ℕ) → n < 10 → digit n - 0x30 ≡ n
unfolding digit ascii
digit-number zero h = refl
digit-number (suc zero) h = refl
digit-number (suc (suc zero)) h = refl
digit-number (suc (suc (suc zero))) h = refl
digit-number (suc (suc (suc (suc zero)))) h = refl
digit-number (suc (suc (suc (suc (suc zero))))) h = refl
digit-number (suc (suc (suc (suc (suc (suc zero)))))) h = refl
digit-number (suc (suc (suc (suc (suc (suc (suc zero))))))) h = refl
digit-number (suc (suc (suc (suc (suc (suc (suc (suc zero)))))))) h = refl
digit-number (suc (suc (suc (suc (suc (suc (suc (suc (suc zero))))))))) h = refl
digit-number (suc (suc (suc (suc (suc (suc (suc (suc (suc (suc n)))))))))) h = absurd (omega arith)

read_step : (n : ℕ) (t : Bool) → ltb n 10 ≡ t → (10 ≤ n → number_from 0 (decimal_of (n / 10)) ≡ n / 10) → number_from 0 (decimal_of n) ≡ n
unfolding number_from
read_step n true less f = let h : n < 10 = ltb-true n 10 less in rw (decimal-one n h) (omega (arith, digit-number n h))
read_step n false more f =
    let ten : 10 ≤ n = ltb-false n 10 more in
    let tenth = f ten in
    let last = digit-number (n % 10) (omega arith) in
    rw (decimal-more n ten, number_append) (omega arith)

read_below : (count n : ℕ) → n < count → number_from 0 (decimal_of n) ≡ n
read_below zero n h = absurd (omega arith)
read_below (suc count) n h = read_step n (ltb n 10) refl (λ ten. read_below count (n / 10) (omega arith))

-- the digits of a number read as that number
pub read_back : (n : ℕ) → number_from 0 (decimal_of n) ≡ n
read_back n = read_below (suc n) n (omega arith)
