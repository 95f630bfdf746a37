-- Two lists that are compared from their ends, and numbers of four and eight bytes.
use Rattle.std.specs.Prelude.{ℕ, ◌+◌, ◌*◌, ◌≤◌, ◌≡◌, cond, List, length, get_or, leb}
use Rattle.model.specs.Lists.{u32_at}

-- they are equally long, and agree from an offset on
pub record Agree (xs ys : List ℕ) (i : ℕ) : Type 0 where
  pub long : length xs ≡ length ys
  pub on : (j : ℕ) → i ≤ j → get_or xs j 0 ≡ get_or ys j 0

-- eight bytes as a number
unfoldable pub u64_at : List ℕ → ℕ → ℕ
u64_at s i = u32_at s i + 4294967296 * u32_at s (i + 4)

-- four bytes as a number, 0 where they do not all stand
unfoldable pub four_at : List ℕ → ℕ → ℕ
four_at s i = cond (leb (i + 4) (length s)) (u32_at s i) 0
