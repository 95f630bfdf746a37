-- Many names sought at once, each as a GUID with a name behind it in a place of its own: the table of their marks, and where each is met.
use Rattle.std.specs.Prelude.{ℕ, ◌+◌, ◌<◌, ◌≡◌, Bool, true, cond, ◌&&◌, ◌||◌, List, length, get_or, replicate, eqb, leb, ltb, Option, Some, None}
use Rattle.std.specs.Option.{option_or}
use Rattle.model.specs.Walk.{Entry}
use Rattle.model.specs.Region.{entries, is_entry_def}
use Rattle.model.specs.Beside.{asked_bytes}
use Rattle.layout.specs.declared.Entry as numbers
use Rattle.region.specs.Walk.{entry_at}
use Rattle.region.specs.Marks.{key_mark}
use Rattle.region.specs.Met.{key_from, met_of}
use Rattle.region.specs.declared.Met.{Met}
use Rattle.query.specs.declared.many.Offsets.{Offsets}

-- the bytes of a place by the list of sizes
abbrev pub key_bytes : List ℕ → List ℕ → ℕ → List ℕ
key_bytes keys sizes k = asked_bytes keys k (get_or sizes k 0)

-- an entry has a state, and the name and GUID of a place
unfoldable pub is_asked_def : ℕ → List ℕ → List ℕ → ℕ → Entry → Bool
is_asked_def state keys sizes k e = is_entry_def state (key_from (key_bytes keys sizes k)) e

-- what is told of a mark's place by the table leads to a name: its number and one more, or 255, which leads to all
unfoldable pub leads : ℕ → ℕ → Bool
leads told k = eqb told (k + 1) || eqb told 255

-- so many names have their marks in a table
pub record Indexed (keys sizes table : List ℕ) (n : ℕ) : Type 0 where
  pub leading : (k : ℕ) → k < n → leads (get_or table (key_mark (key_bytes keys sizes k)).place 0) k ≡ true

-- a number is in a range
unfoldable pub within : ℕ → ℕ → ℕ → Bool
within start end k = leb start k && ltb k end

-- the offset of the first of some entries, with one more entry that may be one of them
unfoldable pub first_of : Bool → ℕ → Option ℕ → Option ℕ
first_of here at old = cond here (option_or old (Some at)) old

-- with one more entry, that may be one in state 3F, or one in state 3E
abbrev pub noted_at : Bool → Bool → ℕ → Offsets → Offsets
noted_at added replacing at old = record { added = first_of added at old.added; replacing = first_of replacing at old.replacing }

-- no name is met
abbrev pub unmet : Offsets
unmet = record { added = None; replacing = None }

unfoldable pub none_met_def : List Offsets
none_met_def = replicate 64 unmet

-- of the names of a range those of an entry are met at its offset, in its state
pub record NotedIn (keys sizes r : List ℕ) (at : ℕ) (e : numbers.Entry) (start end : ℕ) (old new : List Offsets) : Type 0 where
  pub each : (k : ℕ) → get_or new k unmet
      ≡ noted_at (within start end k && is_asked_def 0x3F keys sizes k (entry_at r at e)) (within start end k && is_asked_def 0x3E keys sizes k (entry_at r at e)) at (get_or old k unmet)

-- of all names
pub record Noted (keys sizes r : List ℕ) (at : ℕ) (e : numbers.Entry) (old new : List Offsets) : Type 0 where
  pub each : (k : ℕ) → k < length sizes → get_or new k unmet
      ≡ noted_at (is_asked_def 0x3F keys sizes k (entry_at r at e)) (is_asked_def 0x3E keys sizes k (entry_at r at e)) at (get_or old k unmet)

-- where a name is met, by its two offsets
abbrev pub met_as : Offsets → Met
met_as o = record { added = o.added; replacing = o.replacing }

-- these are where the names are met in a region
pub record AllMet (keys sizes r : List ℕ) (found : List Offsets) : Type 0 where
  pub met : (k : ℕ) → k < length sizes → met_as (get_or found k unmet) ≡ met_of (key_from (key_bytes keys sizes k)) (entries r)
