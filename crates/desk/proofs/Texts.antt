-- Numbers of up to twenty digits: one digit more than a tenth has.
-- Assumes nothing.
use Prim.Native.Nat.{ℕ, zero, suc, ◌+◌, ◌*◌, ◌/◌, ◌%◌, ◌^◌, ◌≤◌, ◌<◌}
use native.Mathlib.Omega.{arith}
use native.Mathlib.Nat.{pow-suc}
use mathlib.Core.Path.{◌≡◌, refl, sym, ap, ◌∙◌}
use mathlib.Core.Bool.{Bool, true, false}
use mathlib.Core.List.{List, ◌++◌}
use lib.ListN.{length, length-append}
use lib.Dec.{ltb}
use borrow.Author.Tests.{ltb-true, ltb-false}
use Rattle.output.specs.Text.{decimal_of}
use Rattle.output.proofs.Digits.{decimal-one, decimal-more, decimal-length}

-- the last digit by itself
pub tenth-and-last : (n : ℕ) → 10 ≤ n → decimal_of (n / 10) ++ decimal_of (n % 10) ≡ decimal_of n
tenth-and-last n h = ap (λ (l : List ℕ). decimal_of (n / 10) ++ l) (decimal-one (n % 10) (omega arith)) ∙ sym (decimal-more n h)

one_more : (k n : ℕ) (t : Bool) → ltb n 10 ≡ t → length (decimal_of (n / 10)) ≤ k + 10 → length (decimal_of n) ≤ suc k + 10
one_more k n true e h = let l = decimal-length n (omega (arith, ltb-true n 10 e)) in omega arith
one_more k n false e h = rw (decimal-more n (ltb-false n 10 e), length-append) (omega arith)

digits : (k n : ℕ) → n < 10 ^ k * 2 ^ 32 → length (decimal_of n) ≤ k + 10
digits zero n h = decimal-length n (omega arith)
digits (suc k) n h = one_more k n (ltb n 10) refl (digits k (n / 10) (omega (arith, pow-suc 10 k)))

-- twenty digits hold any number of 64 bits
pub long-decimal : (n : ℕ) → n < 2 ^ 64 → length (decimal_of n) ≤ 20
long-decimal n h = digits 10 n (omega arith)
