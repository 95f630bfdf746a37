-- What is found among the entries of a region, by offset and numbers.
use Rattle.std.specs.Prelude.{ℕ, ◌≡◌, List, [], Option, Some, None}
use Rattle.std.proofs.Math.Option.{Option as Maybe, none, some}
use Rattle.model.specs.Lists.{first}
use Rattle.model.specs.Name.{keyed}
use Rattle.model.specs.Walk.{Entry}
use Rattle.model.specs.Region.{is_entry_def}
use Rattle.model.specs.Beside.{from}
use Rattle.layout.specs.Head.{numbers_of}
use Rattle.layout.specs.declared.Entry as numbers
use Rattle.region.specs.Walk.{entry_at}
use Rattle.region.specs.declared.Placed.{Placed}

-- an entry by its offset and its numbers
abbrev pub placed_at : ℕ → numbers.Entry → Option Placed
placed_at at e = Some (record { at = at; entry = e })

-- where there is one
abbrev pub found_of : Maybe Entry → Option Placed
found_of (some e) = placed_at e.at (numbers_of e.header)
found_of none = None

-- one or the other
abbrev pub else_found : Option Placed → Option Placed → Option Placed
else_found (Some p) g = Some p
else_found None g = g

-- the data of an entry that is found; nothing has none
abbrev pub old_data_def : List ℕ → Option Placed → List ℕ
old_data_def r (Some p) = (entry_at r p.at p.entry).bytes
old_data_def r None = []

-- the first entry of a name, in each state and under each GUID, is the same from an offset on as from another on
abbrev pub NoneBefore : List ℕ → List ℕ → ℕ → ℕ → Type 0
NoneBefore r name at later =
    (state : ℕ) (vendor : List ℕ) → first (is_entry_def state (keyed name vendor)) (from r at) ≡ first (is_entry_def state (keyed name vendor)) (from r later)
