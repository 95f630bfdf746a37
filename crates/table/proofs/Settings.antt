-- Cases of 02 (e) as rows of a table of their own: a field's width, place and number; sizes; several rules, rules not in use, and rules for no variable or another
-- one; what would stand; read-only; the place of 21. Each holds by evaluation.
-- Assumes nothing.
use Prim.Native.Nat.{ℕ}
use mathlib.Core.Path.{◌≡◌, refl}
use mathlib.Core.Bool.{false}
use mathlib.Core.List.{List, [], ◌∷◌, ◌++◌}
use lib.ListN.{length, replicate}
use Rattle.model.specs.Session.{fresh_session}
use Rattle.model.specs.Answers.{done}
use Rattle.model.specs.Book.{Call, set}
use Rattle.table.proofs.Pieces.{store}
use Rattle.table.proofs.Row.{Row, Holds, HoldAll, end, ◌and◌, computed, refuses, idles, given_rules, session_of, setting_in, ff, zeros, header, image, empty, guid, rate, four, behind_state, start_id, rate_header, rate_entry, rate_stands, rated, joined, platform, pk, described, errors, named, Field, between, rule, wanting, below, under}
use Rattle.table.proofs.Held.{held}

abbrev one_of : ℕ → ℕ → ℕ → List ℕ → Field
one_of at width count numbers = record { at = at; width = width; ranged = 0; low = 0; high = 0; count = count; numbers = numbers }

-- any first byte, for a rule of sizes alone
abbrev any_byte : Field
any_byte = between 0 1 0 255

-- a rule for RATE, of sizes; one that is read-only; one of a field, which the number 100 meets
abbrev sized : ℕ → ℕ → List ℕ
sized least most = rule 10 rate guid least most 0 any_byte

abbrev read_only : List ℕ
read_only = rule 10 rate guid 1 2048 1 any_byte

abbrev from : List ℕ
from = wanting (between 0 4 100 200)

-- RATE is set
abbrev rating : List (List ℕ) → ℕ → List ℕ → Call
rating limits attributes bytes = setting_in (under limits) rate guid attributes bytes

-- four bytes of data break a rule
abbrev breaks : List ℕ → List ℕ → Row
breaks limit bytes = refuses empty 28 (rating (limit ∷ []) 0x07 bytes) 21

-- they meet it, and come in
abbrev meets : List ℕ → List ℕ → Row
meets limit bytes = rated (under (limit ∷ [])) bytes

-- 01 02 03 04
abbrev rising : List ℕ
rising = 0x01 ∷ 0x02 ∷ 0x03 ∷ 0x04 ∷ []

-- ---- "a field of 1, 2 or 4 bytes": multi-byte fields are little-endian

abbrev one_byte_def : Row
one_byte_def = meets (wanting (between 3 1 0x04 0x04)) rising

one_byte-holds : Holds one_byte_def
unfolding computed
one_byte-holds = held one_byte_def refl refl tt tt refl refl

abbrev little_two : Row
little_two = meets (wanting (between 1 2 0x0302 0x0302)) rising

little_two-holds : Holds little_two
unfolding computed
little_two-holds = held little_two refl refl tt tt refl refl

abbrev little_four : Row
little_four = meets (wanting (between 0 4 0x04030201 0x04030201)) rising

little_four-holds : Holds little_four
unfolding computed
little_four-holds = held little_four refl refl tt tt refl refl

-- "A field of another width .. breaks its rule", whatever its number: 0 is another width too
abbrev width0 : Row
width0 = breaks (wanting (between 0 0 0 0xFFFFFFFF)) (four 0x64)

width0-holds : Holds width0
unfolding computed
width0-holds = held width0 refl refl tt tt refl refl

abbrev width3 : Row
width3 = breaks (wanting (between 0 3 0 0xFFFFFFFF)) (four 0x64)

width3-holds : Holds width3
unfolding computed
width3-holds = held width3 refl refl tt tt refl refl

-- as does one of 8, also where so many bytes stand there
abbrev width8 : Row
width8 = breaks (wanting (between 0 8 0 0xFFFFFFFF)) (four 0x64 ++ four 0x00)

width8-holds : Holds width8
unfolding computed
width8-holds = held width8 refl refl tt tt refl refl

-- ---- "or one not wholly inside the data": it may end where they end

abbrev at_end : Row
at_end = meets (wanting (between 2 2 0 0xFFFF)) (four 0x64)

at_end-holds : Holds at_end
unfolding computed
at_end-holds = held at_end refl refl tt tt refl refl

abbrev beyond_end : Row
beyond_end = breaks (wanting (between 3 2 0 0xFFFF)) (four 0x64)

beyond_end-holds : Holds beyond_end
unfolding computed
beyond_end-holds = held beyond_end refl refl tt tt refl refl

-- offset and width make 3 in 32 bits, which is inside; there is no wrap
abbrev far_offset : Row
far_offset = breaks (wanting (between 0xFFFFFFFF 4 0 0xFFFFFFFF)) (four 0x64)

far_offset-holds : Holds far_offset
unfolding computed
far_offset-holds = held far_offset refl refl tt tt refl refl

-- ---- "a list of up to eight numbers", "numbers past eight" "are ignored"

abbrev seven : List ℕ
seven = 1 ∷ 2 ∷ 3 ∷ 4 ∷ 5 ∷ 6 ∷ 7 ∷ []

-- nine numbers count as eight
abbrev eighth : Row
eighth = meets (wanting (one_of 0 4 9 (seven ++ (100 ∷ [])))) (four 0x64)

eighth-holds : Holds eighth
unfolding computed
eighth-holds = held eighth refl refl tt tt refl refl

-- what comes after the eight is none of them: the first bytes of the rule's name
abbrev ninth : Row
ninth = breaks (wanting (one_of 0 4 9 (seven ++ (8 ∷ [])))) (0x52 ∷ 0x00 ∷ 0x41 ∷ 0x00 ∷ [])

ninth-holds : Holds ninth
unfolding computed
ninth-holds = held ninth refl refl tt tt refl refl

-- the eighth is not in use
abbrev not_counted : Row
not_counted = breaks (wanting (one_of 0 4 7 (seven ++ (100 ∷ [])))) (four 0x64)

not_counted-holds : Holds not_counted
unfolding computed
not_counted-holds = held not_counted refl refl tt tt refl refl

-- an empty list allows nothing, 0 neither
abbrev empty_list : Row
empty_list = breaks (wanting (one_of 0 4 0 (zeros 8))) (four 0x00)

empty_list-holds : Holds empty_list
unfolding computed
empty_list-holds = held empty_list refl refl tt tt refl refl

-- ---- "between two numbers, ends included"

abbrev at_low : Row
at_low = meets (wanting (between 0 4 100 200)) (four 0x64)

at_low-holds : Holds at_low
unfolding computed
at_low-holds = held at_low refl refl tt tt refl refl

abbrev under_low : Row
under_low = breaks (wanting (between 0 4 101 200)) (four 0x64)

under_low-holds : Holds under_low
unfolding computed
under_low-holds = held under_low refl refl tt tt refl refl

abbrev at_high : Row
at_high = meets (wanting (between 0 4 0 100)) (four 0x64)

at_high-holds : Holds at_high
unfolding computed
at_high-holds = held at_high refl refl tt tt refl refl

abbrev over_high : Row
over_high = breaks (wanting (between 0 4 0 99)) (four 0x64)

over_high-holds : Holds over_high
unfolding computed
over_high-holds = held over_high refl refl tt tt refl refl

-- no number is between a greater and a smaller one
abbrev crossed : Row
crossed = breaks (wanting (between 0 4 200 50)) (four 0x64)

crossed-holds : Holds crossed
unfolding computed
crossed-holds = held crossed refl refl tt tt refl refl

-- between two numbers, as the first one here says, with a third in the list, which does not count then
abbrev beside : ℕ → ℕ → ℕ → ℕ → Field
beside ranged low high number = record { at = 0; width = 4; ranged = ranged; low = low; high = high; count = 1; numbers = number ∷ zeros 7 }

abbrev listed_outside : Row
listed_outside = breaks (wanting (beside 1 200 300 100)) (four 0x64)

listed_outside-holds : Holds listed_outside
unfolding computed
listed_outside-holds = held listed_outside refl refl tt tt refl refl

-- whatever the first one is, if it is not 0
abbrev ranged_by_two : Row
ranged_by_two = meets (wanting (beside 2 100 200 50)) (four 0x64)

ranged_by_two-holds : Holds ranged_by_two
unfolding computed
ranged_by_two-holds = held ranged_by_two refl refl tt tt refl refl

-- ---- "a smallest and largest size"

abbrev within : Row
within = meets (sized 1 8) (four 0x64)

within-holds : Holds within
unfolding computed
within-holds = held within refl refl tt tt refl refl

abbrev exactly : Row
exactly = meets (sized 4 4) (four 0x64)

exactly-holds : Holds exactly
unfolding computed
exactly-holds = held exactly refl refl tt tt refl refl

abbrev under_least : Row
under_least = breaks (sized 5 8) (four 0x64)

under_least-holds : Holds under_least
unfolding computed
under_least-holds = held under_least refl refl tt tt refl refl

abbrev over_most : Row
over_most = breaks (sized 1 3) (four 0x64)

over_most-holds : Holds over_most
unfolding computed
over_most-holds = held over_most refl refl tt tt refl refl

-- the data proper count, not the descriptor: 40 bytes of it and 4 of data, in a creating set with the payload's own key
abbrev stamp : List ℕ
stamp = (0xE8 ∷ 0x07 ∷ 0x06 ∷ 0x01 ∷ []) ++ zeros 12

abbrev timed_header : List ℕ
timed_header = behind_state 0x27 stamp 0x0A 0x00 0x04 0x00 guid

abbrev timed : List ℕ → List ℕ → Field → Call
timed name vendor field =
    set
    false
    (under (rule (length name) name vendor 4 4 0 field ∷ []))
    (record { name = name; vendor = vendor; attributes = 0x27; bytes = described stamp ++ four 0x64; presence = 0; verdict = 3 })

abbrev proper : Row
proper = record {
  image = empty;
  call = timed rate guid (between 0 4 100 100);
  answer = done 75;
  stores = store 28 start_id
      ∷ store 31 timed_header
      ∷ store 30 (0x7F ∷ [])
      ∷ store 88 rate
      ∷ store 98 (four 0x64)
      ∷ store 30 (0x3F ∷ [])
      ∷ [];
  left = image (header ++ start_id ++ (0x3F ∷ []) ++ timed_header ++ rate ++ four 0x64 ++ ff 2 ++ ff 3992);
  tail = 104;
}

proper-holds : Holds proper
unfolding computed
proper-holds = held proper refl refl tt tt refl refl

abbrev proper_breaks : Row
proper_breaks = refuses empty 28 (timed rate guid (between 0 4 101 101)) 21

proper_breaks-holds : Holds proper_breaks
unfolding computed
proper_breaks-holds = held proper_breaks refl refl tt tt refl refl

-- a key name may have a rule too: PK in setup mode, with the payload's own key
abbrev key_breaks : Row
key_breaks = refuses empty 28 (timed pk platform (between 0 4 101 101)) 21

key_breaks-holds : Holds key_breaks
unfolding computed
key_breaks-holds = held key_breaks refl refl tt tt refl refl

-- ---- "21 when a rule for that name is broken": any of several

abbrev first_broken : Row
first_broken = refuses empty 28 (rating (below ∷ from ∷ []) 0x07 (four 0x64)) 21

first_broken-holds : Holds first_broken
unfolding computed
first_broken-holds = held first_broken refl refl tt tt refl refl

abbrev second_broken : Row
second_broken = refuses empty 28 (rating (from ∷ below ∷ []) 0x07 (four 0x64)) 21

second_broken-holds : Holds second_broken
unfolding computed
second_broken-holds = held second_broken refl refl tt tt refl refl

abbrev both_met : Row
both_met = rated (under (from ∷ sized 4 4 ∷ [])) (four 0x64)

both_met-holds : Holds both_met
unfolding computed
both_met-holds = held both_met refl refl tt tt refl refl

-- ---- "for a variable, by name and GUID": a rule says nothing of another one

-- a rule that any data break
abbrev forbidding : List ℕ → List ℕ → List ℕ
forbidding name vendor = rule (length name) name vendor 1 2048 0 (between 0 0 0 0)

abbrev other : List ℕ
other = forbidding (0x41 ∷ 0x00 ∷ 0x00 ∷ 0x00 ∷ []) guid

abbrev other_name_def : Row
other_name_def = meets other (four 0x64)

other_name-holds : Holds other_name_def
unfolding computed
other_name-holds = held other_name_def refl refl tt tt refl refl

abbrev other_guid : Row
other_guid = meets (forbidding rate platform) (four 0x64)

other_guid-holds : Holds other_guid
unfolding computed
other_guid-holds = held other_guid refl refl tt tt refl refl

-- 63 characters and a zero character: a read-only rule for it, of a size, and an empty append where nothing stands
abbrev long : List ℕ
long = replicate 126 0x41 ++ zeros 2

abbrev appending_to : List ℕ → List ℕ → Call
appending_to name limit = setting_in (under (limit ∷ [])) name guid 0x47 []

abbrev long_name : Row
long_name = refuses empty 28 (appending_to long (rule 128 long guid 1 2048 1 any_byte)) 21

long_name-holds : Holds long_name
unfolding computed
long_name-holds = held long_name refl refl tt tt refl refl

-- a size above 128 makes no name, so the rule is for no variable
abbrev too_long_name : Row
too_long_name = idles empty 28 (appending_to long (rule 129 long guid 1 2048 1 any_byte))

too_long_name-holds : Holds too_long_name
unfolding computed
too_long_name-holds = held too_long_name refl refl tt tt refl refl

-- nor do RATE and two zero characters
abbrev ill_formed : Row
ill_formed = idles empty 28 (appending_to rate (rule 12 rate guid 1 2048 1 any_byte))

ill_formed-holds : Holds ill_formed
unfolding computed
ill_formed-holds = held ill_formed refl refl tt tt refl refl

-- what stands behind the name in its 128 bytes does not count
abbrev behind_name : Row
behind_name = refuses empty 28 (appending_to rate (rule 10 (rate ++ replicate 118 0xEE) guid 1 2048 1 any_byte)) 21

behind_name-holds : Holds behind_name
unfolding computed
behind_name-holds = held behind_name refl refl tt tt refl refl

-- ---- "Up to 32 such rules (more are ignored ..)"

-- the last of 32, where 40 are said to be in use
abbrev last : Row
last = refuses empty 28 (setting_in (session_of 0 (given_rules 0 0 0 40 (replicate 31 other ++ (below ∷ [])))) rate guid 0x07 (four 0x64)) 21

last-holds : Holds last
unfolding computed
last-holds = held last refl refl tt tt refl refl

abbrev one_too_many : Row
one_too_many = rated (under (replicate 32 other ++ (below ∷ []))) (four 0x64)

one_too_many-holds : Holds one_too_many
unfolding computed
one_too_many-holds = held one_too_many refl refl tt tt refl refl

abbrev not_in_use : Row
not_in_use = rated (session_of 0 (given_rules 0 0 0 1 (other ∷ below ∷ []))) (four 0x64)

not_in_use-holds : Holds not_in_use
unfolding computed
not_in_use-holds = held not_in_use refl refl tt tt refl refl

-- ---- they "stand in the session", in every phase

abbrev runtime_breaks : Row
runtime_breaks = refuses empty 28 (setting_in (session_of 2 (given_rules 0 0 0 1 (below ∷ []))) rate guid 0x07 (four 0x64)) 21

runtime_breaks-holds : Holds runtime_breaks
unfolding computed
runtime_breaks-holds = held runtime_breaks refl refl tt tt refl refl

-- ---- "tried on the data as they would stand, if any, also where nothing changes"

-- an append's are the joined ones: two bytes alone have no field of 4
abbrev append_meets : Row
append_meets = joined (under (from ∷ []))

append_meets-holds : Holds append_meets
unfolding computed
append_meets-holds = held append_meets refl refl tt tt refl refl

-- two bytes alone are few enough
abbrev append_breaks : Row
append_breaks = refuses rate_stands 104 (rating (sized 1 5 ∷ []) 0x47 (0x65 ∷ 0x66 ∷ [])) 21

append_breaks-holds : Holds append_breaks
unfolding computed
append_breaks-holds = held append_breaks refl refl tt tt refl refl

-- an append where nothing stands puts its own data
abbrev created_breaks : Row
created_breaks = refuses empty 28 (rating (below ∷ []) 0x47 (four 0x64)) 21

created_breaks-holds : Holds created_breaks
unfolding computed
created_breaks-holds = held created_breaks refl refl tt tt refl refl

-- a value that stands and breaks a rule: an equal set, an empty append
abbrev equal_breaks : Row
equal_breaks = refuses rate_stands 104 (rating (below ∷ []) 0x07 (four 0x64)) 21

equal_breaks-holds : Holds equal_breaks
unfolding computed
equal_breaks-holds = held equal_breaks refl refl tt tt refl refl

abbrev empty_breaks : Row
empty_breaks = refuses rate_stands 104 (rating (below ∷ []) 0x47 []) 21

empty_breaks-holds : Holds empty_breaks
unfolding computed
empty_breaks-holds = held empty_breaks refl refl tt tt refl refl

-- one that meets it
abbrev equal_meets : Row
equal_meets = idles rate_stands 104 (rating (from ∷ []) 0x07 (four 0x64))

equal_meets-holds : Holds equal_meets
unfolding computed
equal_meets-holds = held equal_meets refl refl tt tt refl refl

abbrev empty_meets : Row
empty_meets = idles rate_stands 104 (rating (from ∷ []) 0x47 [])

empty_meets-holds : Holds empty_meets
unfolding computed
empty_meets-holds = held empty_meets refl refl tt tt refl refl

-- no data would stand
abbrev empty_absent : Row
empty_absent = idles empty 28 (rating (forbidding rate guid ∷ []) 0x47 [])

empty_absent-holds : Holds empty_absent
unfolding computed
empty_absent-holds = held empty_absent refl refl tt tt refl refl

-- what stood is not tried: data that meet the rule take the place of those that break it
abbrev bad_replaced : Row
bad_replaced = record {
  image = rate_stands;
  call = rating (below ∷ []) 0x07 (four 0x63);
  answer = done 77;
  stores = store 30 (0x3E ∷ [])
      ∷ store 104 start_id
      ∷ store 107 rate_header
      ∷ store 106 (0x7F ∷ [])
      ∷ store 164 rate
      ∷ store 174 (four 0x63)
      ∷ store 106 (0x3F ∷ [])
      ∷ store 30 (0x3C ∷ [])
      ∷ [];
  left = image (header ++ rate_entry 0x3C 0x64 ++ rate_entry 0x3F 0x63 ++ ff 3916);
  tail = 180;
}

bad_replaced-holds : Holds bad_replaced
unfolding computed
bad_replaced-holds = held bad_replaced refl refl tt tt refl refl

-- "Deletes obey only read-only": the value breaks a rule, and goes by attributes 0 and by empty data
abbrev goes : ℕ → Row
goes attributes = record {
  image = rate_stands;
  call = rating (below ∷ []) attributes [];
  answer = done 1;
  stores = store 30 (0x3D ∷ []) ∷ [];
  left = image (header ++ rate_entry 0x3D 0x64 ++ ff 3992);
  tail = 104;
}

abbrev deleted : Row
deleted = goes 0x00

deleted-holds : Holds deleted
unfolding computed
deleted-holds = held deleted refl refl tt tt refl refl

abbrev cleared : Row
cleared = goes 0x07

cleared-holds : Holds cleared
unfolding computed
cleared-holds = held cleared refl refl tt tt refl refl

-- ---- "read-only, which also refuses every set"

abbrev fixed_new : Row
fixed_new = breaks read_only (four 0x64)

fixed_new-holds : Holds fixed_new
unfolding computed
fixed_new-holds = held fixed_new refl refl tt tt refl refl

-- by any number but 0
abbrev fixed_by_two : Row
fixed_by_two = breaks (rule 10 rate guid 1 2048 2 any_byte) (four 0x64)

fixed_by_two-holds : Holds fixed_by_two
unfolding computed
fixed_by_two-holds = held fixed_by_two refl refl tt tt refl refl

abbrev fixed_replaced : Row
fixed_replaced = refuses rate_stands 104 (rating (read_only ∷ []) 0x07 (four 0x65)) 21

fixed_replaced-holds : Holds fixed_replaced
unfolding computed
fixed_replaced-holds = held fixed_replaced refl refl tt tt refl refl

abbrev fixed_equal : Row
fixed_equal = refuses rate_stands 104 (rating (read_only ∷ []) 0x07 (four 0x64)) 21

fixed_equal-holds : Holds fixed_equal
unfolding computed
fixed_equal-holds = held fixed_equal refl refl tt tt refl refl

-- an empty append, also where nothing stands
abbrev fixed_empty : Row
fixed_empty = refuses rate_stands 104 (rating (read_only ∷ []) 0x47 []) 21

fixed_empty-holds : Holds fixed_empty
unfolding computed
fixed_empty-holds = held fixed_empty refl refl tt tt refl refl

abbrev fixed_empty_absent : Row
fixed_empty_absent = refuses empty 28 (rating (read_only ∷ []) 0x47 []) 21

fixed_empty_absent-holds : Holds fixed_empty_absent
unfolding computed
fixed_empty_absent-holds = held fixed_empty_absent refl refl tt tt refl refl

-- a delete, by attributes 0 and by empty data
abbrev fixed_deleted : Row
fixed_deleted = refuses rate_stands 104 (rating (read_only ∷ []) 0x00 []) 21

fixed_deleted-holds : Holds fixed_deleted
unfolding computed
fixed_deleted-holds = held fixed_deleted refl refl tt tt refl refl

abbrev fixed_cleared : Row
fixed_cleared = refuses rate_stands 104 (rating (read_only ∷ []) 0x07 []) 21

fixed_cleared-holds : Holds fixed_cleared
unfolding computed
fixed_cleared-holds = held fixed_cleared refl refl tt tt refl refl

-- ---- "after 12, before 18"

-- so after 11: there is nothing to delete
abbrev fixed_absent : Row
fixed_absent = refuses empty 28 (rating (read_only ∷ []) 0x00 []) 11

fixed_absent-holds : Holds fixed_absent
unfolding computed
fixed_absent-holds = held fixed_absent refl refl tt tt refl refl

abbrev too_long_def : Row
too_long_def = refuses empty 28 (rating (sized 1 4 ∷ []) 0x07 (replicate 2049 0x64)) 12

too_long-holds : Holds too_long_def
unfolding computed
too_long-holds = held too_long_def refl refl tt tt refl refl

-- HwErrRec0001 with one byte takes 60 + 26 + 1 bytes and 1 of padding, and H is 87; a rule says what its byte is at least
abbrev logging : ℕ → Call
logging low =
    let first = named 0x30 0x30 0x30 0x31 in
    let limits = rule 26 first errors 1 2048 0 (between 0 1 low 255) ∷ [] in
    setting_in (session_of 0 (given_rules 0 0 87 1 limits)) first errors 0x0F (0x65 ∷ [])

abbrev record_breaks : Row
record_breaks = refuses empty 28 (logging 0x66) 21

record_breaks-holds : Holds record_breaks
unfolding computed
record_breaks-holds = held record_breaks refl refl tt tt refl refl

abbrev record_meets : Row
record_meets = refuses empty 28 (logging 0x65) 18

record_meets-holds : Holds record_meets
unfolding computed
record_meets-holds = held record_meets refl refl tt tt refl refl

-- and before 13: H leaves no room for any other value
abbrev roomless : List ℕ → Call
roomless limit = setting_in (session_of 0 (given_rules 0 0 0xFFFFFFFF 1 (limit ∷ []))) rate guid 0x07 (four 0x64)

abbrev room_breaks : Row
room_breaks = refuses empty 28 (roomless below) 21

room_breaks-holds : Holds room_breaks
unfolding computed
room_breaks-holds = held room_breaks refl refl tt tt refl refl

abbrev room_meets : Row
room_meets = refuses empty 28 (roomless from) 13

room_meets-holds : Holds room_meets
unfolding computed
room_meets-holds = held room_meets refl refl tt tt refl refl

-- ---- the table

pub table : List Row
table =
    one_byte_def
    ∷ little_two
    ∷ little_four
    ∷ width0
    ∷ width3
    ∷ width8
    ∷ at_end
    ∷ beyond_end
    ∷ far_offset
    ∷ eighth
    ∷ ninth
    ∷ not_counted
    ∷ empty_list
    ∷ at_low
    ∷ under_low
    ∷ at_high
    ∷ over_high
    ∷ crossed
    ∷ listed_outside
    ∷ ranged_by_two
    ∷ within
    ∷ exactly
    ∷ under_least
    ∷ over_most
    ∷ proper
    ∷ proper_breaks
    ∷ key_breaks
    ∷ first_broken
    ∷ second_broken
    ∷ both_met
    ∷ other_name_def
    ∷ other_guid
    ∷ long_name
    ∷ too_long_name
    ∷ ill_formed
    ∷ behind_name
    ∷ last
    ∷ one_too_many
    ∷ not_in_use
    ∷ runtime_breaks
    ∷ append_meets
    ∷ append_breaks
    ∷ created_breaks
    ∷ equal_breaks
    ∷ empty_breaks
    ∷ equal_meets
    ∷ empty_meets
    ∷ empty_absent
    ∷ bad_replaced
    ∷ deleted
    ∷ cleared
    ∷ fixed_new
    ∷ fixed_by_two
    ∷ fixed_replaced
    ∷ fixed_equal
    ∷ fixed_empty
    ∷ fixed_empty_absent
    ∷ fixed_deleted
    ∷ fixed_cleared
    ∷ fixed_absent
    ∷ too_long_def
    ∷ record_breaks
    ∷ record_meets
    ∷ room_breaks
    ∷ room_meets
    ∷ []

-- every row holds
pub settings : HoldAll table
unfolding table
settings =
    one_byte-holds
    and little_two-holds
    and little_four-holds
    and width0-holds
    and width3-holds
    and width8-holds
    and at_end-holds
    and beyond_end-holds
    and far_offset-holds
    and eighth-holds
    and ninth-holds
    and not_counted-holds
    and empty_list-holds
    and at_low-holds
    and under_low-holds
    and at_high-holds
    and over_high-holds
    and crossed-holds
    and listed_outside-holds
    and ranged_by_two-holds
    and within-holds
    and exactly-holds
    and under_least-holds
    and over_most-holds
    and proper-holds
    and proper_breaks-holds
    and key_breaks-holds
    and first_broken-holds
    and second_broken-holds
    and both_met-holds
    and other_name-holds
    and other_guid-holds
    and long_name-holds
    and too_long_name-holds
    and ill_formed-holds
    and behind_name-holds
    and last-holds
    and one_too_many-holds
    and not_in_use-holds
    and runtime_breaks-holds
    and append_meets-holds
    and append_breaks-holds
    and created_breaks-holds
    and equal_breaks-holds
    and empty_breaks-holds
    and equal_meets-holds
    and empty_meets-holds
    and empty_absent-holds
    and bad_replaced-holds
    and deleted-holds
    and cleared-holds
    and fixed_new-holds
    and fixed_by_two-holds
    and fixed_replaced-holds
    and fixed_equal-holds
    and fixed_empty-holds
    and fixed_empty_absent-holds
    and fixed_deleted-holds
    and fixed_cleared-holds
    and fixed_absent-holds
    and too_long-holds
    and record_breaks-holds
    and record_meets-holds
    and room_breaks-holds
    and room_meets-holds
    and end

-- the rules "stand in the session, given at start-up": also how many are said to be in use
pub rules-kept : (fresh_session (given_rules 0 0 0 40 (below ∷ []))).setup ≡ given_rules 0 0 0 40 (below ∷ [])
unfolding computed
rules-kept = refl
