-- A digit of a record's name, by its offset.
use Rattle.std.specs.Prelude.{ℕ, ◌+◌, Bool, ◌&&◌, List, get_or, eqb}
use Rattle.model.specs.Name.{is_digit_def}

unfoldable pub digit_at : List ℕ → ℕ → Bool
digit_at s at = is_digit_def (get_or s at 0) && eqb (get_or s (at + 1) 0) 0
