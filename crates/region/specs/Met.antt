-- Where a sought name is met among the entries: the offsets of its 3F entry and of its 3E entry.
use Rattle.std.specs.Prelude.{ℕ, Bool, cond, ◌&&◌, List, drop, ◌==◌, Option, Some, None, option_map}
use Rattle.std.proofs.Math.Option as maybe
use Rattle.model.specs.declared.Layout.{Layout}
use Rattle.model.specs.Lists.{first, on_some, part}
use Rattle.model.specs.Name.{Key, keyed, same_key_def}
use Rattle.model.specs.Walk.{Entry, entry_key}
use Rattle.model.specs.Region.{entries_in, live, added, replacing}
use Rattle.region.specs.Judge.{scan_of, judged_in}
use Rattle.region.specs.declared.Met.{Met}
use Rattle.region.specs.declared.Survey.{Survey}
use Rattle.region.specs.declared.Searched.{Searched}

-- the offset of an entry
abbrev pub offset_of : maybe.Option Entry → Option ℕ
offset_of o = on_some o (λ e. Some e.at) None

-- the offset of the first entry of a list that passes a test
abbrev pub first_at : (Entry → Bool) → List Entry → Option ℕ
first_at f es = offset_of (first f es)

-- the name and GUID of bytes in which the name stands behind the GUID
abbrev pub key_from : List ℕ → Key
key_from key = keyed (drop 16 key) (part 0 16 key)

-- an entry is live and has a name and GUID
abbrev pub is_sought_def : Key → Entry → Bool
is_sought_def k e = live e && same_key_def (entry_key e) k

-- a name that is not met
abbrev pub nowhere : Met
nowhere = record { added = None; replacing = None }

-- where the 3F entry of a name and GUID begins, and where the 3E entry
unfoldable pub met_of : Key → List Entry → Met
met_of k es = record { added = offset_of (added k es); replacing = offset_of (replacing k es) }

-- where a name is met in one live state; and what is met once it is met there too
abbrev pub met_by : ℕ → Met → Option ℕ
met_by state m = cond (state == 0x3F) m.added m.replacing

abbrev pub met_at_def : ℕ → ℕ → Met → Met
met_at_def state at m = cond (state == 0x3F) (record { added = Some at; replacing = m.replacing }) (record { added = m.added; replacing = Some at })

-- what one pass tells, if all is sound: where the tail begins, and where the sought name is met
unfoldable pub surveyed : Layout → List ℕ → List ℕ → Option Survey
surveyed y r key = option_map (λ tail. record { tail = tail; met = met_of (key_from key) (entries_in y r) }) (scan_of y r)

-- what is told of the region, if it is *sound*: the tail, *clean*, and where the region has the sought name
unfoldable pub searched_in : Layout → List ℕ → List ℕ → Option Searched
searched_in y r key = option_map (λ sound. record { sound = sound; met = met_of (key_from key) (entries_in y r) }) (judged_in y r)
