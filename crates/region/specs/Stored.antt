-- An entry where it stands, and those that a walk has left.
use Rattle.std.specs.Prelude as std
use Rattle.std.specs.Prelude.{ℕ, List, Some, None}
use Rattle.std.proofs.Math.Option.{Option, none, some}
use Rattle.model.specs.declared.Layout.{Layout}
use Rattle.model.specs.Layout.{header_length}
use Rattle.model.specs.Entry.{read_header_in}
use Rattle.model.specs.Walk as walk
use Rattle.model.specs.Beside.{from_in}
use Rattle.layout.specs.Head.{header_as}
use Rattle.layout.specs.declared.Entry as numbers
use Rattle.region.specs.declared.walk.Stored.{Stored}
use Rattle.region.specs.declared.walk.Walk.{Walk}

-- the entry at an offset, by that of the next one, its numbers and the bytes from its first one on
abbrev pub entry_by : Layout → ℕ → ℕ → numbers.Entry → List ℕ → walk.Entry
entry_by y at next e s =
    let p = walk.placed (header_length y) (read_header_in y) at (header_as y e s) s in
    record { at = at; header = header_as y e s; name = p.name; bytes = p.bytes; ends = p.ends; next = next }

-- the entry that it is
abbrev pub entry_of : Stored → walk.Entry
entry_of s = entry_by s.form s.at s.next s.entry s.bytes.now

-- the entries that are left
abbrev pub left : Walk → List walk.Entry
left s = from_in s.form s.region.now s.at

-- the entry that is found, if one is
abbrev pub found_entry : std.Option Stored → Option walk.Entry
found_entry (Some s) = some (entry_of s)
found_entry None = none
