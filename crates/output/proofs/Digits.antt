-- Decimal digits: the definition's count is never short, so the digits of a number are those of its tenth and one more.
-- Assumes nothing.
use Prim.Native.Nat.{ℕ, zero, suc, ◌/◌, ◌%◌, ◌^◌, ◌≤◌, ◌<◌}
use native.Mathlib.Omega.{arith}
use native.Mathlib.Nat.{pow-suc}
use mathlib.Core.Path.{◌≡◌, refl, ap, ◌∙◌}
use mathlib.Core.Bool.{Bool, true, false}
use mathlib.Core.List.{List, [], ◌∷◌, ◌++◌}
use lib.Dec.{ltb}
use lib.ListN.{length, length-append}
use borrow.Author.Tests.{ltb-true, ltb-false}
use Rattle.output.specs.Text.{digit, leading, decimal_of}

leading-none : (count : ℕ) → leading count 0 ≡ []
unfolding leading
leading-none zero = refl
leading-none (suc count) = refl

one_more : (a b n : ℕ) → (0 < n → leading a (n / 10) ≡ leading b (n / 10)) → leading (suc a) n ≡ leading (suc b) n
unfolding leading
one_more a b zero f = refl
one_more a b (suc n) f = ap (λ (l : List ℕ). l ++ (digit (suc n % 10) ∷ [])) (f (omega arith))

-- any count serves that is not below the number
enough : (a b n : ℕ) → n ≤ a → n ≤ b → leading a n ≡ leading b n
enough zero b n h k = let none : n ≡ 0 = omega arith in rw (none, leading-none zero, leading-none b)
enough (suc a) zero n h k = let none : n ≡ 0 = omega arith in rw (none, leading-none (suc a), leading-none zero)
enough (suc a) (suc b) n h k = one_more a b n (λ p. enough a b (n / 10) (omega arith) (omega arith))

-- of a number that is not 0 these are all its digits
leading-all : (count n : ℕ) → 0 < n → n ≤ count → leading count n ≡ decimal_of n
unfolding leading decimal_of
leading-all count zero p h = absurd (omega arith)
leading-all zero (suc n) p h = absurd (omega arith)
leading-all (suc count) (suc n) p h =
    ap (λ (l : List ℕ). l ++ (digit (suc n % 10) ∷ [])) (enough count (suc n) (suc n / 10) (omega arith) (omega arith))

opened : (n : ℕ) → decimal_of n ≡ leading n (n / 10) ++ (digit (n % 10) ∷ [])
unfolding decimal_of
opened n = refl

pub decimal-one : (n : ℕ) → n < 10 → decimal_of n ≡ digit n ∷ []
unfolding decimal_of
decimal-one n h =
    let tenth : n / 10 ≡ 0 = omega arith in
    let last : n % 10 ≡ n = omega arith in
    rw (tenth, leading-none n, last)

pub decimal-more : (n : ℕ) → 10 ≤ n → decimal_of n ≡ decimal_of (n / 10) ++ (digit (n % 10) ∷ [])
decimal-more n h = opened n ∙ ap (λ (l : List ℕ). l ++ (digit (n % 10) ∷ [])) (leading-all n (n / 10) (omega arith) (omega arith))

-- one digit more than its tenth
longer : (k n : ℕ) (t : Bool) → ltb n 10 ≡ t → (10 ≤ n → length (decimal_of (n / 10)) ≤ k) → length (decimal_of n) ≤ suc k
longer k n true less f = rw (decimal-one n (ltb-true n 10 less)) (omega arith)
longer k n false more f =
    let ten : 10 ≤ n = ltb-false n 10 more in
    let tenth = f ten in
    rw (decimal-more n ten, length-append) (omega arith)

-- a number below 10 ^ (k + 1) has at most k + 1 digits
within : (k n : ℕ) → n < 10 ^ suc k → length (decimal_of n) ≤ suc k
within zero n h = longer 0 n (ltb n 10) refl (λ ten. absurd (omega arith))
within (suc k) n h = longer (suc k) n (ltb n 10) refl (λ ten. within k (n / 10) (omega (arith, pow-suc 10 (suc k))))

-- ten digits hold any number of 32 bits
pub decimal-length : (n : ℕ) → n < 2 ^ 32 → length (decimal_of n) ≤ 10
decimal-length n h = within 9 n (omega arith)
