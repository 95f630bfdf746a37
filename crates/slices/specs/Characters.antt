-- The characters of a name, two bytes each.
use Rattle.std.specs.Prelude.{ℕ, ◌+◌, ◌*◌, ◌≤◌, ◌<◌, ◌≡◌, false, List, get_or}
use Rattle.model.specs.Name.{zero_character}

-- none of them is zero that begins at or after an offset and before another
pub record NonZero (s : List ℕ) (from to : ℕ) : Type 0 where
  pub each : (j : ℕ) → from ≤ 2 * j → 2 * j < to → zero_character (get_or s (2 * j) 0) (get_or s (2 * j + 1) 0) ≡ false
