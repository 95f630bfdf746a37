-- The bytes of a number are those of its halves: what stands above the low half is a multiple of 65,536, so of 256 after the division by 256.
-- Assumes nothing.
use Prim.Native.Nat.{ℕ, ◌+◌, ◌*◌, ◌/◌, ◌%◌}
use native.Mathlib.Omega.{arith}
use mathlib.Core.Path.{◌≡◌, ap}

pub second-byte : (n : ℕ) → n / 256 % 256 ≡ n % 65536 / 256 % 256
second-byte n =
    let above : n / 256 ≡ 256 * (n / 65536) + n % 65536 / 256 = omega arith in
    rw above (omega arith)

pub fourth-byte : (n : ℕ) → n / 16777216 % 256 ≡ n / 65536 / 256 % 256
fourth-byte n = ap (λ (k : ℕ). k % 256) (omega arith)
