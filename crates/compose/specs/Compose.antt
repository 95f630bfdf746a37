-- The bytes of an entry's header by its fields, and the values that a compaction carries over.
use Rattle.std.specs.Prelude.{ℕ, not, Option, Some, None, List, [], ◌∷◌, ◌++◌, map, replicate}
use Rattle.model.specs.Lists.{bytes32, keep, among}
use Rattle.model.specs.Entry.{header_front, Value}
use Rattle.model.specs.Walk.{Entry, entry_value_def}
use Rattle.model.specs.Region.{entries, is_value}
use Rattle.region.specs.declared.Placed.{Placed}

-- up to the stamp: start id, state, zero, attributes, "We write count and key index as 0"
unfoldable pub before_stamp_def : ℕ → ℕ → List ℕ
before_stamp_def state attributes = header_front ++ (state ∷ 0 ∷ []) ++ bytes32 attributes ++ replicate 8 0

-- from behind the stamp up to the GUID: key index, name size, data size
unfoldable pub behind_stamp_def : ℕ → ℕ → List ℕ
behind_stamp_def name size = replicate 4 0 ++ bytes32 name ++ bytes32 size

-- a header: state, attributes, stamp, name size, data size, GUID
unfoldable pub header_bytes_def : ℕ → ℕ → List ℕ → ℕ → ℕ → List ℕ → List ℕ
header_bytes_def state attributes stamp name size vendor =
    before_stamp_def state attributes ++ stamp ++ behind_stamp_def name size ++ vendor

-- what entries hold, but those at one of some offsets
unfoldable pub leaving : List ℕ → List Entry → List Value
leaving leave es = map entry_value_def (keep (λ e. not (among leave e.at)) es)

-- the values of a region, but those whose entry is at one of some offsets
unfoldable pub values_but : List ℕ → List ℕ → List Value
values_but leave r = leaving leave (keep (is_value (entries r)) (entries r))

-- the offset of what is found as the one of eight, and 0 for each that is not used: no entry is there
abbrev pub leave_of : Option Placed → List ℕ
leave_of (Some p) = p.at ∷ replicate 7 0
leave_of None = replicate 8 0
