-- The cases with a star of 01, "Values to try", as rows of one table; `starred` says that all of them hold.
-- Assumes nothing.
use Prim.Native.Nat.{ℕ}
use mathlib.Core.Path.{refl}
use mathlib.Core.Bool.{false}
use mathlib.Core.List.{List, [], ◌∷◌, ◌++◌}
use lib.ListN.{replicate}
use Rattle.model.specs.Answers.{done}
use Rattle.model.specs.Book.{Call, set, start_up_def}
use Rattle.table.proofs.Pieces.{store, clear}
use Rattle.table.proofs.Row.{Row, Holds, HoldAll, end, ◌and◌, computed, refuses, plain, boot, ff, zeros, header, image, empty, guid, rate, four, behind_state, start_id, rate_header, rate_entry, setting, rate_stands, platform, pk, described, june, pk_header, pk_entry, user}
use Rattle.table.proofs.Held.{held}

-- ---- "New: 75 stores; entry 28 to 104 with padding."

abbrev new : Row
new = record {
  image = empty;
  call = setting rate 0x07 (four 0x64);
  answer = done 75;
  stores = store 28 start_id
      ∷ store 31 rate_header
      ∷ store 30 (0x7F ∷ [])
      ∷ store 88 rate
      ∷ store 98 (four 0x64)
      ∷ store 30 (0x3F ∷ [])
      ∷ [];
  left = rate_stands;
  tail = 104;
}

new-holds : Holds new
unfolding computed
new-holds = held new refl refl tt tt refl refl

-- ---- "Replaced by other data, same length, tail free: 77 stores. Same data: 0."

abbrev replaced : Row
replaced = record {
  image = rate_stands;
  call = setting rate 0x07 (four 0x65);
  answer = done 77;
  stores = store 30 (0x3E ∷ [])
      ∷ store 104 start_id
      ∷ store 107 rate_header
      ∷ store 106 (0x7F ∷ [])
      ∷ store 164 rate
      ∷ store 174 (four 0x65)
      ∷ store 106 (0x3F ∷ [])
      ∷ store 30 (0x3C ∷ [])
      ∷ [];
  left = image (header ++ rate_entry 0x3C 0x64 ++ rate_entry 0x3F 0x65 ++ ff 3916);
  tail = 180;
}

replaced-holds : Holds replaced
unfolding computed
replaced-holds = held replaced refl refl tt tt refl refl

abbrev same_data : Row
same_data = record {
  image = rate_stands;
  call = setting rate 0x07 (four 0x64);
  answer = done 0;
  stores = [];
  left = rate_stands;
  tail = 104;
}

same_data-holds : Holds same_data
unfolding computed
same_data-holds = held same_data refl refl tt tt refl refl

-- ---- "Deleted: 1 store, state 3D. Deleted again: 11."

abbrev rate_deleted : List ℕ
rate_deleted = image (header ++ rate_entry 0x3D 0x64 ++ ff 3992)

-- by attributes 0, and by empty data
abbrev deleted : ℕ → Row
deleted attributes = record {
  image = rate_stands;
  call = setting rate attributes [];
  answer = done 1;
  stores = store 30 (0x3D ∷ []) ∷ [];
  left = rate_deleted;
  tail = 104;
}

deleted-holds : Holds (deleted 0x00)
unfolding computed
deleted-holds = held (deleted 0x00) refl refl tt tt refl refl

deleted_empty-holds : Holds (deleted 0x07)
unfolding computed
deleted_empty-holds = held (deleted 0x07) refl refl tt tt refl refl

abbrev again : Row
again = refuses rate_deleted 104 (setting rate 0x00 []) 11

again-holds : Holds again
unfolding computed
again-holds = held again refl refl tt tt refl refl

-- ---- "Name sizes 4 and 128 pass; 2, 5, 130: 3."

abbrev short : List ℕ
short = 0x41 ∷ 0x00 ∷ 0x00 ∷ 0x00 ∷ []

-- 63 characters and a zero character
abbrev long : List ℕ
long = replicate 126 0x41 ++ zeros 2

abbrev short_header : List ℕ
short_header = behind_state 0x07 (zeros 16) 0x04 0x00 0x04 0x00 guid

abbrev long_header : List ℕ
long_header = behind_state 0x07 (zeros 16) 0x80 0x00 0x04 0x00 guid

abbrev name4 : Row
name4 = record {
  image = empty;
  call = setting short 0x07 (four 0x64);
  answer = done 69;
  stores = store 28 start_id
      ∷ store 31 short_header
      ∷ store 30 (0x7F ∷ [])
      ∷ store 88 short
      ∷ store 92 (four 0x64)
      ∷ store 30 (0x3F ∷ [])
      ∷ [];
  left = image (header ++ start_id ++ (0x3F ∷ []) ++ short_header ++ short ++ four 0x64 ++ ff 4000);
  tail = 96;
}

name4-holds : Holds name4
unfolding computed
name4-holds = held name4 refl refl tt tt refl refl

abbrev name128 : Row
name128 = record {
  image = empty;
  call = setting long 0x07 (four 0x64);
  answer = done 193;
  stores = store 28 start_id
      ∷ store 31 long_header
      ∷ store 30 (0x7F ∷ [])
      ∷ store 88 long
      ∷ store 216 (four 0x64)
      ∷ store 30 (0x3F ∷ [])
      ∷ [];
  left = image (header ++ start_id ++ (0x3F ∷ []) ++ long_header ++ long ++ four 0x64 ++ ff 3876);
  tail = 220;
}

name128-holds : Holds name128
unfolding computed
name128-holds = held name128 refl refl tt tt refl refl

abbrev name2 : Row
name2 = refuses empty 28 (setting (zeros 2) 0x07 (four 0x64)) 3

name2-holds : Holds name2
unfolding computed
name2-holds = held name2 refl refl tt tt refl refl

abbrev name5 : Row
name5 = refuses empty 28 (setting (0x41 ∷ 0x00 ∷ 0x42 ∷ 0x00 ∷ 0x00 ∷ []) 0x07 (four 0x64)) 3

name5-holds : Holds name5
unfolding computed
name5-holds = held name5 refl refl tt tt refl refl

abbrev name130 : Row
name130 = refuses empty 28 (setting (replicate 128 0x41 ++ zeros 2) 0x07 (four 0x64)) 3

name130-holds : Holds name130
unfolding computed
name130-holds = held name130 refl refl tt tt refl refl

-- ---- "Attributes 0x13 and 0x40: 4. PK with 0x07: 5."

abbrev attributes : ℕ → Row
attributes a = refuses empty 28 (setting rate a (four 0x64)) 4

attributes13-holds : Holds (attributes 0x13)
unfolding computed
attributes13-holds = held (attributes 0x13) refl refl tt tt refl refl

attributes40-holds : Holds (attributes 0x40)
unfolding computed
attributes40-holds = held (attributes 0x40) refl refl tt tt refl refl

abbrev setting_pk : ℕ → List ℕ → ℕ → Call
setting_pk a bytes verdict =
    set false boot (record { name = pk; vendor = platform; attributes = a; bytes = bytes; presence = 0; verdict = verdict })

abbrev pk07 : Row
pk07 = refuses empty 28 (setting_pk 0x07 (four 0x64) 0) 5

pk07-holds : Holds pk07
unfolding computed
pk07-holds = held pk07 refl refl tt tt refl refl

-- ---- "Name size 4 with 2,048 data, then another with 1,892: the region is exactly full; 1,893 instead: 13; 2,049: 12."

abbrev other : List ℕ
other = 0x42 ∷ 0x00 ∷ 0x00 ∷ 0x00 ∷ []

abbrev first_header : List ℕ
first_header = behind_state 0x07 (zeros 16) 0x04 0x00 0x00 0x08 guid

abbrev first_entry : ℕ → List ℕ
first_entry b = start_id ++ (0x3F ∷ []) ++ first_header ++ short ++ replicate 2048 b

abbrev second_header : List ℕ
second_header = behind_state 0x07 (zeros 16) 0x04 0x00 0x64 0x07 guid

abbrev second_entry : List ℕ
second_entry = start_id ++ (0x3F ∷ []) ++ second_header ++ other ++ replicate 1892 0x22

abbrev first_stands : List ℕ
first_stands = image (header ++ first_entry 0x11 ++ ff 1956)

abbrev full : List ℕ
full = image (header ++ first_entry 0x11 ++ second_entry)

abbrev first2048 : Row
first2048 = record {
  image = empty;
  call = setting short 0x07 (replicate 2048 0x11);
  answer = done 2113;
  stores = store 28 start_id
      ∷ store 31 first_header
      ∷ store 30 (0x7F ∷ [])
      ∷ store 88 short
      ∷ store 92 (replicate 2048 0x11)
      ∷ store 30 (0x3F ∷ [])
      ∷ [];
  left = first_stands;
  tail = 2140;
}

first2048-holds : Holds first2048
unfolding computed
first2048-holds = held first2048 refl refl tt tt refl refl

abbrev second1892 : Row
second1892 = record {
  image = first_stands;
  call = setting other 0x07 (replicate 1892 0x22);
  answer = done 1957;
  stores = store 2140 start_id
      ∷ store 2143 second_header
      ∷ store 2142 (0x7F ∷ [])
      ∷ store 2200 other
      ∷ store 2204 (replicate 1892 0x22)
      ∷ store 2142 (0x3F ∷ [])
      ∷ [];
  left = full;
  tail = 4096;
}

second1892-holds : Holds second1892
unfolding computed
second1892-holds = held second1892 refl refl tt tt refl refl

abbrev second1893 : Row
second1893 = refuses first_stands 2140 (setting other 0x07 (replicate 1893 0x22)) 13

second1893-holds : Holds second1893
unfolding computed
second1893-holds = held second1893 refl refl tt tt refl refl

abbrev second2049 : Row
second2049 = refuses first_stands 2140 (setting other 0x07 (replicate 2049 0x22)) 12

second2049-holds : Holds second2049
unfolding computed
second2049-holds = held second2049 refl refl tt tt refl refl

-- ---- "Full as above, first value replaced by 2,048 other bytes: 8,197 stores, not 13."

-- the second value, and then the first with its new data
abbrev compacted : List ℕ
compacted = header ++ second_entry ++ first_entry 0x33

abbrev full_replaced : Row
full_replaced = record {
  image = full;
  call = setting short 0x07 (replicate 2048 0x33);
  answer = done 8197;
  stores = store 4096 (0xFE ∷ [])
      ∷ store 8192 compacted
      ∷ store 4096 (0xFC ∷ [])
      ∷ clear 0
      ∷ store 0 compacted
      ∷ store 4096 (0xF8 ∷ [])
      ∷ clear 2
      ∷ [];
  left = compacted ++ (0xF8 ∷ []) ++ ff 8191;
  tail = 4096;
}

full_replaced-holds : Holds full_replaced
unfolding computed
full_replaced-holds = held full_replaced refl refl tt tt refl refl

-- ---- "Equal stamps in user mode, the wanted verdict given: 10."

abbrev descriptor : ℕ → List ℕ
descriptor second = described (june second)

abbrev equal_stamps : Row
equal_stamps = refuses user 100 (setting_pk 0x27 (descriptor 5 ++ four 0x71) 1) 10

equal_stamps-holds : Holds equal_stamps
unfolding computed
equal_stamps-holds = held equal_stamps refl refl tt tt refl refl

-- a second later it is done, so that nothing but the stamp was in the way
abbrev later_stamp : Row
later_stamp = record {
  image = user;
  call = setting_pk 0x27 (descriptor 6 ++ four 0x71) 1;
  answer = done 73;
  stores = store 30 (0x3E ∷ [])
      ∷ store 100 start_id
      ∷ store 103 (pk_header 6)
      ∷ store 102 (0x7F ∷ [])
      ∷ store 160 pk
      ∷ store 166 (four 0x71)
      ∷ store 102 (0x3F ∷ [])
      ∷ store 30 (0x3C ∷ [])
      ∷ [];
  left = image (header ++ pk_entry 0x3C 5 0x70 ++ pk_entry 0x3F 6 0x71 ++ ff 3924);
  tail = 172;
}

later_stamp-holds : Holds later_stamp
unfolding computed
later_stamp-holds = held later_stamp refl refl tt tt refl refl

-- ---- "Work block ending in FC, spare all FF: start-up erases the work block."

abbrev closed_work : Row
closed_work = record {
  image = (header ++ rate_entry 0x3F 0x64 ++ ff 3992) ++ (0xF8 ∷ 0xFC ∷ []) ++ ff 8190;
  call = start_up_def plain;
  answer = done 1;
  stores = clear 1 ∷ [];
  left = rate_stands;
  tail = 104;
}

closed_work-holds : Holds closed_work
unfolding computed
closed_work-holds = held closed_work refl refl tt tt refl refl

-- ---- the table

pub table : List Row
table =
    new
    ∷ replaced
    ∷ same_data
    ∷ deleted 0x00
    ∷ deleted 0x07
    ∷ again
    ∷ name4
    ∷ name128
    ∷ name2
    ∷ name5
    ∷ name130
    ∷ attributes 0x13
    ∷ attributes 0x40
    ∷ pk07
    ∷ first2048
    ∷ second1892
    ∷ second1893
    ∷ second2049
    ∷ full_replaced
    ∷ equal_stamps
    ∷ later_stamp
    ∷ closed_work
    ∷ []

-- every row holds
pub starred : HoldAll table
unfolding table
starred =
    new-holds
    and replaced-holds
    and same_data-holds
    and deleted-holds
    and deleted_empty-holds
    and again-holds
    and name4-holds
    and name128-holds
    and name2-holds
    and name5-holds
    and name130-holds
    and attributes13-holds
    and attributes40-holds
    and pk07-holds
    and first2048-holds
    and second1892-holds
    and second1893-holds
    and second2049-holds
    and full_replaced-holds
    and equal_stamps-holds
    and later_stamp-holds
    and closed_work-holds
    and end
