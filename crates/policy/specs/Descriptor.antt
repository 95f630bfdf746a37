-- A descriptor's parts, and the stamp, by attributes and data.
use Rattle.std.specs.Prelude.{ℕ, Bool, cond, ◌&&◌, List, ◌++◌, length, take, replicate, eqb, leb}
use Rattle.model.specs.Lists.{part, same, u16_at_def}
use Rattle.model.specs.Request.{time_based_def, stamp_size, certificate, descriptor_length, proper_at}

-- no stamp
unfoldable pub no_stamp_def : List ℕ
no_stamp_def = replicate stamp_size 0

-- the stamp at the front of some bytes, zeros in place of what they lack of it
unfoldable pub stamp_in_def : List ℕ → List ℕ
stamp_in_def bytes = take stamp_size (take stamp_size bytes ++ no_stamp_def)

-- the descriptor's stamp; zeros without 0x20
unfoldable pub stamp_of_def : ℕ → List ℕ → List ℕ
stamp_of_def a bytes = cond (time_based_def a) (stamp_in_def bytes) no_stamp_def

-- a descriptor's length suits it and the data
unfoldable pub right_size : List ℕ → Bool
right_size bytes = leb 24 (descriptor_length bytes) && leb (proper_at bytes) (length bytes)

-- revision, type and certificate GUID are right
unfoldable pub right_kind : List ℕ → Bool
right_kind bytes = eqb (u16_at_def bytes 20) 0x0200 && eqb (u16_at_def bytes 22) 0x0EF1 && same (part 24 16 bytes) certificate
