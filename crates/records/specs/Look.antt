-- What a look at a work block tells, by the definitions of document 01.
use Rattle.std.specs.Prelude.{ℕ, Bool, not, ◌&&◌, List, eqb}
use Rattle.model.specs.Work.{records, well_formed, used_records, last_used}
use Rattle.records.specs.declared.Look.{Look}

-- well formed or not, the number of used records, the last used one (FF where none is)
unfoldable pub look_at_def : List ℕ → Look
look_at_def w = record { formed = well_formed w; used = used_records w; last = last_used (records w) }

-- the block looked at is well formed and does not end in FC
abbrev pub idle_at : Look → Bool
idle_at l = l.formed && not (eqb l.last 0xFC)

-- the block looked at is well formed and ends in FC
abbrev pub ends_at : Look → Bool
ends_at l = l.formed && eqb l.last 0xFC
