-- Cases of 02 (a) as rows of a table of their own: names of records and others, sums at H, at L and one beyond, what is exempt, what is sound. Each holds by
-- evaluation.
-- Assumes nothing.
use Prim.Native.Nat.{ℕ}
use mathlib.Core.Path.{◌≡◌, refl}
use mathlib.Core.List.{List, [], ◌∷◌, ◌++◌}
use lib.ListN.{replicate}
use Rattle.model.specs.declared.Session.{Session}
use Rattle.model.specs.Session.{fresh_session}
use Rattle.model.specs.Answers.{done}
use Rattle.table.proofs.Pieces.{store}
use Rattle.table.proofs.Row.{Row, Holds, HoldAll, end, ◌and◌, computed, refuses, idles, given, session_of, setting_in as setting, ff, zeros, header, image, empty, guid, rate, four, behind_state, start_id, rate_header, rate_entry, rate_stands, rated, platform, errors, named, first, record_header, record_entry as entry, record_stands as stands, logged}
use Rattle.table.proofs.Held.{held}

-- a session in a phase, with a reserve and H
abbrev session : ℕ → ℕ → ℕ → Session
session phase reserve h = session_of phase (given 0 reserve h)

-- HwErrRec00AF
abbrev letters : List ℕ
letters = named 0x30 0x30 0x41 0x46

-- ---- "with the name HwErrRec and four digits 0 to F in upper case", "H bytes of their own"

-- at H exactly
abbrev at_h : Row
at_h = logged (session 0 0 88) first

at_h-holds : Holds at_h
unfolding computed
at_h-holds = held at_h refl refl tt tt refl refl

abbrev upper_case : Row
upper_case = logged (session 0 0 88) letters

upper_case-holds : Holds upper_case
unfolding computed
upper_case-holds = held upper_case refl refl tt tt refl refl

-- 17: a digit beyond F, one in lower case, another GUID, the name without 0x08
abbrev digit_g : Row
digit_g = refuses empty 28 (setting (session 0 0 88) (named 0x30 0x30 0x30 0x47) errors 0x0F (0x65 ∷ [])) 17

digit_g-holds : Holds digit_g
unfolding computed
digit_g-holds = held digit_g refl refl tt tt refl refl

abbrev lower_case : Row
lower_case = refuses empty 28 (setting (session 0 0 88) (named 0x30 0x30 0x61 0x66) errors 0x0F (0x65 ∷ [])) 17

lower_case-holds : Holds lower_case
unfolding computed
lower_case-holds = held lower_case refl refl tt tt refl refl

abbrev other_guid : Row
other_guid = refuses empty 28 (setting (session 0 0 88) first guid 0x0F (0x65 ∷ [])) 17

other_guid-holds : Holds other_guid
unfolding computed
other_guid-holds = held other_guid refl refl tt tt refl refl

abbrev without08 : Row
without08 = refuses empty 28 (setting (session 0 0 88) first errors 0x07 (0x65 ∷ [])) 17

without08-holds : Holds without08
unfolding computed
without08-holds = held without08 refl refl tt tt refl refl

-- 17 "after 5": KEK with 0x0F; and before 6: a record's name that is locked, when the boot phase is over
abbrev key_first : Row
key_first = refuses empty 28 (setting (session 0 0 88) (0x4B ∷ 0x00 ∷ 0x45 ∷ 0x00 ∷ 0x4B ∷ 0x00 ∷ 0x00 ∷ 0x00 ∷ []) platform 0x0F (0x65 ∷ [])) 5

key_first-holds : Holds key_first
unfolding computed
key_first-holds = held key_first refl refl tt tt refl refl

abbrev locked_record : Session
locked_record = record {
  phase = 1;
  setup = given 0 0 88;
  count = 1;
  sizes = 26 ∷ zeros 15;
  locks = first ++ zeros 102 ++ errors ++ zeros 2160;
}

abbrev lock_later : Row
lock_later = refuses empty 28 (setting locked_record first errors 0x07 (0x65 ∷ [])) 17

lock_later-holds : Holds lock_later
unfolding computed
lock_later-holds = held lock_later refl refl tt tt refl refl

-- with 0x0F it is the lock
abbrev locked_out : Row
locked_out = refuses empty 28 (setting locked_record first errors 0x0F (0x65 ∷ [])) 6

locked_out-holds : Holds locked_out
unfolding computed
locked_out-holds = held locked_out refl refl tt tt refl refl

-- not for attributes 0: a delete, here of another writer's value without 0x08 under a record's name, which is sound
abbrev foreign_deleted : Row
foreign_deleted = record {
  image = stands 0x07 first;
  call = setting (session 0 0 0) first errors 0x00 [];
  answer = done 1;
  stores = store 30 (0x3D ∷ []) ∷ [];
  left = image (header ++ entry 0x3D 0x07 first ++ ff 3980);
  tail = 116;
}

foreign_deleted-holds : Holds foreign_deleted
unfolding computed
foreign_deleted-holds = held foreign_deleted refl refl tt tt refl refl

-- 0x0F under another name is not: RATE's entry with it
abbrev unsound_refused : Row
unsound_refused =
    refuses
    (image (header ++ start_id ++ (0x3F ∷ []) ++ behind_state 0x0F (zeros 16) 0x0A 0x00 0x04 0x00 guid ++ rate ++ four 0x64 ++ ff 2 ++ ff 3992))
    104
    (setting (session 0 0 88) first errors 0x0F (0x65 ∷ []))
    2

unsound_refused-holds : Holds unsound_refused
unfolding computed
unsound_refused-holds = held unsound_refused refl refl tt tt refl refl

-- ---- 18: "when after a set of one their rounded sizes exceed H, before 13 and with its exemptions"

abbrev one_more_def : Row
one_more_def = refuses (stands 0x0F first) 116 (setting (session 0 0 175) letters errors 0x0F (0x65 ∷ [])) 18

one_more-holds : Holds one_more_def
unfolding computed
one_more-holds = held one_more_def refl refl tt tt refl refl

-- the records alone: RATE, which stands, does not count
abbrev beside_rate : Row
beside_rate = record {
  image = rate_stands;
  call = setting (session 0 0 88) first errors 0x0F (0x65 ∷ []);
  answer = done 88;
  stores = store 104 start_id
      ∷ store 107 (record_header 0x0F)
      ∷ store 106 (0x7F ∷ [])
      ∷ store 164 first
      ∷ store 190 (0x65 ∷ [])
      ∷ store 106 (0x3F ∷ [])
      ∷ [];
  left = image (header ++ rate_entry 0x3F 0x64 ++ entry 0x3F 0x0F first ++ ff 3904);
  tail = 192;
}

beside_rate-holds : Holds beside_rate
unfolding computed
beside_rate-holds = held beside_rate refl refl tt tt refl refl

-- a delete, and a set that stores nothing, though H is below what stands
abbrev record_deleted : Row
record_deleted = record {
  image = stands 0x0F first;
  call = setting (session 0 0 0) first errors 0x0F [];
  answer = done 1;
  stores = store 30 (0x3D ∷ []) ∷ [];
  left = image (header ++ entry 0x3D 0x0F first ++ ff 3980);
  tail = 116;
}

record_deleted-holds : Holds record_deleted
unfolding computed
record_deleted-holds = held record_deleted refl refl tt tt refl refl

abbrev equal_record : Row
equal_record = idles (stands 0x0F first) 116 (setting (session 0 0 0) first errors 0x0F (0x65 ∷ []))

equal_record-holds : Holds equal_record
unfolding computed
equal_record-holds = held equal_record refl refl tt tt refl refl

-- a record of 2,048 bytes stands: 60 + 26 + 2,048 and 2 of padding, 2,136 in all, 28 to 2,164; another one makes 4,272 of records, 4,300 with the header
abbrev long_stands : List ℕ
long_stands =
    image (header ++ start_id ++ (0x3F ∷ []) ++ behind_state 0x0F (zeros 16) 0x1A 0x00 0x00 0x08 errors ++ first ++ replicate 2048 0x65 ++ ff 2 ++ ff 1932)

abbrev long_more : ℕ → ℕ → Row
long_more h rule = refuses long_stands 2164 (setting (session 0 0 h) letters errors 0x0F (replicate 2048 0x66)) rule

-- 18 comes before 13
abbrev records_first : Row
records_first = long_more 4271 18

records_first-holds : Holds records_first
unfolding computed
records_first-holds = held records_first refl refl tt tt refl refl

-- ---- 13: "a set of any other value .. if 28, the other values, H and (at runtime) R exceed L; every set, if 28 and all values do"

abbrev all_values : Row
all_values = long_more 4272 13

all_values-holds : Holds all_values
unfolding computed
all_values-holds = held all_values refl refl tt tt refl refl

-- for another value too: RATE with 1,866 bytes takes 1,936, and 28 + 2,136 + 1,936 = 4,100
abbrev all_for_others : Row
all_for_others = refuses long_stands 2164 (setting (session 0 0 0) rate guid 0x07 (replicate 1866 0x64)) 13

all_for_others-holds : Holds all_for_others
unfolding computed
all_for_others-holds = held all_for_others refl refl tt tt refl refl

-- 28 + 76 + 3,992 = 4,096
abbrev beside_h : Row
beside_h = rated (session 0 0 3992) (four 0x64)

beside_h-holds : Holds beside_h
unfolding computed
beside_h-holds = held beside_h refl refl tt tt refl refl

abbrev over_h : Row
over_h = refuses empty 28 (setting (session 0 0 3993) rate guid 0x07 (four 0x64)) 13

over_h-holds : Holds over_h
unfolding computed
over_h-holds = held over_h refl refl tt tt refl refl

-- at runtime R comes to it: 28 + 76 + 1,992 + 2,000 = 4,096
abbrev beside_r : Row
beside_r = rated (session 2 2000 1992) (four 0x64)

beside_r-holds : Holds beside_r
unfolding computed
beside_r-holds = held beside_r refl refl tt tt refl refl

abbrev over_r : Row
over_r = refuses empty 28 (setting (session 2 2000 1993) rate guid 0x07 (four 0x64)) 13

over_r-holds : Holds over_r
unfolding computed
over_r-holds = held over_r refl refl tt tt refl refl

-- H and R are not kept back from records: H beyond L, as great as it can be, and R at its greatest
abbrev free_record : Row
free_record = logged (session 2 4096 4294967295) first

free_record-holds : Holds free_record
unfolding computed
free_record-holds = held free_record refl refl tt tt refl refl

-- any other value then has no room
abbrev nothing_else : Row
nothing_else = refuses empty 28 (setting (session 0 0 4294967295) rate guid 0x07 (four 0x64)) 13

nothing_else-holds : Holds nothing_else
unfolding computed
nothing_else-holds = held nothing_else refl refl tt tt refl refl

-- what records take counts for another value by H, not once more: 28 + 76 + 3,992 beside a record of 88 bytes
abbrev beside_record : Row
beside_record = record {
  image = stands 0x0F first;
  call = setting (session 0 0 3992) rate guid 0x07 (four 0x64);
  answer = done 75;
  stores = store 116 start_id
      ∷ store 119 rate_header
      ∷ store 118 (0x7F ∷ [])
      ∷ store 176 rate
      ∷ store 186 (four 0x64)
      ∷ store 118 (0x3F ∷ [])
      ∷ [];
  left = image (header ++ entry 0x3F 0x0F first ++ rate_entry 0x3F 0x64 ++ ff 3904);
  tail = 192;
}

beside_record-holds : Holds beside_record
unfolding computed
beside_record-holds = held beside_record refl refl tt tt refl refl

-- ---- the table

pub table : List Row
table =
    at_h
    ∷ upper_case
    ∷ digit_g
    ∷ lower_case
    ∷ other_guid
    ∷ without08
    ∷ key_first
    ∷ lock_later
    ∷ locked_out
    ∷ foreign_deleted
    ∷ unsound_refused
    ∷ one_more_def
    ∷ beside_rate
    ∷ record_deleted
    ∷ equal_record
    ∷ records_first
    ∷ all_values
    ∷ all_for_others
    ∷ beside_h
    ∷ over_h
    ∷ beside_r
    ∷ over_r
    ∷ free_record
    ∷ nothing_else
    ∷ beside_record
    ∷ []

-- every row holds
pub records : HoldAll table
unfolding table
records =
    at_h-holds
    and upper_case-holds
    and digit_g-holds
    and lower_case-holds
    and other_guid-holds
    and without08-holds
    and key_first-holds
    and lock_later-holds
    and locked_out-holds
    and foreign_deleted-holds
    and unsound_refused-holds
    and one_more-holds
    and beside_rate-holds
    and record_deleted-holds
    and equal_record-holds
    and records_first-holds
    and all_values-holds
    and all_for_others-holds
    and beside_h-holds
    and over_h-holds
    and beside_r-holds
    and over_r-holds
    and free_record-holds
    and nothing_else-holds
    and beside_record-holds
    and end

-- "given at start-up and kept in the session": as great as it can be
pub records-kept : (fresh_session (given 0 0 4294967295)).setup.records ≡ 4294967295
unfolding computed
records-kept = refl
