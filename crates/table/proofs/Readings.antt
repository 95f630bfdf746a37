-- Cases beyond those with a star, as rows of a second table: leftover and lone 3E entries, unfinished headers, all records used, resumption and
-- tidying at a start-up, the run-time reserve, and two blocks. Each holds by evaluation.
-- Assumes nothing.
use Prim.Native.Nat.{ℕ}
use mathlib.Core.Path.{◌≡◌, refl, ap, ◌∙◌}
use mathlib.Core.List.{List, [], ◌∷◌, ◌++◌, append-nil}
use lib.ListN.{replicate}
use Rattle.model.specs.Stores.{todays}
use Rattle.model.specs.Set.{make}
use Rattle.model.specs.Answers.{done}
use Rattle.model.specs.Book.{Call, start_up_def, plan_of}
use Rattle.table.proofs.Pieces.{store, clear, as_writes, as-flat}
use Rattle.table.proofs.Runs.{resumption}
use Rattle.table.proofs.Row.{Row, Holds, HoldAll, end, ◌and◌, computed, refuses, given, plain, session_of, boot, ff, zeros, header, header_of, image, guid, rate, four, behind_state, start_id, rate_header, rate_entry, setting_in, setting, rate_stands, joined}
use Rattle.table.proofs.Held.{held, listed, told}

-- ---- a 3E entry alone is the value: 76 stores to replace it, 3E becomes 3C to delete it, an equal set stores nothing

abbrev lone : List ℕ
lone = image (header ++ rate_entry 0x3E 0x64 ++ ff 3992)

abbrev lone_replaced : Row
lone_replaced = record {
  image = lone;
  call = setting rate 0x07 (four 0x65);
  answer = done 76;
  stores = store 104 start_id
      ∷ store 107 rate_header
      ∷ store 106 (0x7F ∷ [])
      ∷ store 164 rate
      ∷ store 174 (four 0x65)
      ∷ store 106 (0x3F ∷ [])
      ∷ store 30 (0x3C ∷ [])
      ∷ [];
  left = image (header ++ rate_entry 0x3C 0x64 ++ rate_entry 0x3F 0x65 ++ ff 3916);
  tail = 180;
}

lone_replaced-holds : Holds lone_replaced
unfolding computed
lone_replaced-holds = held lone_replaced refl refl tt tt refl refl

abbrev lone_deleted : Row
lone_deleted = record {
  image = lone;
  call = setting rate 0x00 [];
  answer = done 1;
  stores = store 30 (0x3C ∷ []) ∷ [];
  left = image (header ++ rate_entry 0x3C 0x64 ++ ff 3992);
  tail = 104;
}

lone_deleted-holds : Holds lone_deleted
unfolding computed
lone_deleted-holds = held lone_deleted refl refl tt tt refl refl

abbrev lone_equal : Row
lone_equal = record {
  image = lone;
  call = setting rate 0x07 (four 0x64);
  answer = done 0;
  stores = [];
  left = lone;
  tail = 104;
}

lone_equal-holds : Holds lone_equal
unfolding computed
lone_equal-holds = held lone_equal refl refl tt tt refl refl

-- ---- a 3E entry beside a 3F entry is left over: it goes first, and is not the value

abbrev beside : List ℕ
beside = image (header ++ rate_entry 0x3E 0x63 ++ rate_entry 0x3F 0x64 ++ ff 3916)

abbrev leftover_replaced : ℕ → Row
leftover_replaced b = record {
  image = beside;
  call = setting rate 0x07 (four b);
  answer = done 78;
  stores = store 30 (0x3C ∷ [])
      ∷ store 106 (0x3E ∷ [])
      ∷ store 180 start_id
      ∷ store 183 rate_header
      ∷ store 182 (0x7F ∷ [])
      ∷ store 240 rate
      ∷ store 250 (four b)
      ∷ store 182 (0x3F ∷ [])
      ∷ store 106 (0x3C ∷ [])
      ∷ [];
  left = image (header ++ rate_entry 0x3C 0x63 ++ rate_entry 0x3C 0x64 ++ rate_entry 0x3F b ++ ff 3840);
  tail = 256;
}

leftover_replaced-holds : Holds (leftover_replaced 0x65)
unfolding computed
leftover_replaced-holds = held (leftover_replaced 0x65) refl refl tt tt refl refl

-- the data of the 3E entry are no equal data
leftover_restored-holds : Holds (leftover_replaced 0x63)
unfolding computed
leftover_restored-holds = held (leftover_replaced 0x63) refl refl tt tt refl refl

abbrev leftover_equal : Row
leftover_equal = record {
  image = beside;
  call = setting rate 0x07 (four 0x64);
  answer = done 0;
  stores = [];
  left = beside;
  tail = 180;
}

leftover_equal-holds : Holds leftover_equal
unfolding computed
leftover_equal-holds = held leftover_equal refl refl tt tt refl refl

abbrev leftover_deleted : Row
leftover_deleted = record {
  image = beside;
  call = setting rate 0x00 [];
  answer = done 2;
  stores = store 30 (0x3C ∷ []) ∷ store 106 (0x3D ∷ []) ∷ [];
  left = image (header ++ rate_entry 0x3C 0x63 ++ rate_entry 0x3D 0x64 ++ ff 3916);
  tail = 180;
}

leftover_deleted-holds : Holds leftover_deleted
unfolding computed
leftover_deleted-holds = held leftover_deleted refl refl tt tt refl refl

-- ---- an append joins the data

abbrev appended : Row
appended = joined boot

appended-holds : Holds appended
unfolding computed
appended-holds = held appended refl refl tt tt refl refl

-- ---- an unfinished header counts as 60 bytes, whatever its sizes read

abbrev unfinished : Row
unfinished = record {
  image = image (header ++ start_id ++ ff 58 ++ ff 4008);
  call = setting rate 0x07 (four 0x64);
  answer = done 75;
  stores = store 88 start_id
      ∷ store 91 rate_header
      ∷ store 90 (0x7F ∷ [])
      ∷ store 148 rate
      ∷ store 158 (four 0x64)
      ∷ store 90 (0x3F ∷ [])
      ∷ [];
  left = image (header ++ start_id ++ ff 58 ++ rate_entry 0x3F 0x64 ++ ff 3932);
  tail = 164;
}

unfinished-holds : Holds unfinished
unfolding computed
unfinished-holds = held unfinished refl refl tt tt refl refl

-- ---- deleted entries do not count as values: a full region with a deleted entry is compacted

abbrev name_a : List ℕ
name_a = 0x41 ∷ 0x00 ∷ 0x00 ∷ 0x00 ∷ []

abbrev name_b : List ℕ
name_b = 0x42 ∷ 0x00 ∷ 0x00 ∷ 0x00 ∷ []

abbrev name_c : List ℕ
name_c = 0x43 ∷ 0x00 ∷ 0x00 ∷ 0x00 ∷ []

-- 2,048 and 1,892 bytes of data
abbrev large : ℕ → List ℕ → ℕ → List ℕ
large state name b =
    start_id ++ (state ∷ []) ++ behind_state 0x07 (zeros 16) 0x04 0x00 0x00 0x08 guid ++ name ++ replicate 2048 b

abbrev rest : List ℕ → ℕ → List ℕ
rest name b =
    start_id ++ (0x3F ∷ []) ++ behind_state 0x07 (zeros 16) 0x04 0x00 0x64 0x07 guid ++ name ++ replicate 1892 b

-- the stores of a compaction of one block, at a record
abbrev compacting : ℕ → List ℕ
compacting b = header ++ rest name_b 0x22 ++ large 0x3F name_c b

abbrev deleted_room : Row
deleted_room = record {
  image = image (header ++ large 0x3D name_a 0x11 ++ rest name_b 0x22);
  call = setting name_c 0x07 (replicate 2048 0x33);
  answer = done 8197;
  stores = store 4096 (0xFE ∷ [])
      ∷ store 8192 (compacting 0x33)
      ∷ store 4096 (0xFC ∷ [])
      ∷ clear 0
      ∷ store 0 (compacting 0x33)
      ∷ store 4096 (0xF8 ∷ [])
      ∷ clear 2
      ∷ [];
  left = compacting 0x33 ++ (0xF8 ∷ []) ++ ff 8191;
  tail = 4096;
}

deleted_room-holds : Holds deleted_room
unfolding computed
deleted_room-holds = held deleted_room refl refl tt tt refl refl

-- ---- with 64 records used the work block is erased first: 8,198 stores

abbrev all_records : Row
all_records = record {
  image = (header ++ large 0x3D name_a 0x11 ++ rest name_b 0x22) ++ replicate 64 0xF8 ++ ff 8128;
  call = setting name_c 0x07 (replicate 2048 0x33);
  answer = done 8198;
  stores = clear 1
      ∷ store 4096 (0xFE ∷ [])
      ∷ store 8192 (compacting 0x33)
      ∷ store 4096 (0xFC ∷ [])
      ∷ clear 0
      ∷ store 0 (compacting 0x33)
      ∷ store 4096 (0xF8 ∷ [])
      ∷ clear 2
      ∷ [];
  left = compacting 0x33 ++ (0xF8 ∷ []) ++ ff 8191;
  tail = 4096;
}

all_records-holds : Holds all_records
unfolding computed
all_records-holds = held all_records refl refl tt tt refl refl

-- ---- the run-time reserve counts at runtime alone: one byte of it, where the region would be exactly full

abbrev in_phase : ℕ → Call
in_phase phase = setting_in (session_of phase (given 0 1 0)) name_b guid 0x07 (replicate 1892 0x22)

abbrev reserve_kept : Row
reserve_kept = refuses (image (header ++ large 0x3F name_a 0x11 ++ ff 1956)) 2140 (in_phase 2) 13

reserve_kept-holds : Holds reserve_kept
unfolding computed
reserve_kept-holds = held reserve_kept refl refl tt tt refl refl

abbrev reserve_free : Row
reserve_free = record {
  image = image (header ++ large 0x3F name_a 0x11 ++ ff 1956);
  call = in_phase 1;
  answer = done 1957;
  stores = store 2140 start_id
      ∷ store 2143 (behind_state 0x07 (zeros 16) 0x04 0x00 0x64 0x07 guid)
      ∷ store 2142 (0x7F ∷ [])
      ∷ store 2200 name_b
      ∷ store 2204 (replicate 1892 0x22)
      ∷ store 2142 (0x3F ∷ [])
      ∷ [];
  left = image (header ++ large 0x3F name_a 0x11 ++ rest name_b 0x22);
  tail = 4096;
}

reserve_free-holds : Holds reserve_free
unfolding computed
reserve_free-holds = held reserve_free refl refl tt tt refl refl

-- ---- the work block: a used record after an unused one is not well formed; a call refuses it, a start-up erases it

abbrev gap : List ℕ
gap = (header ++ rate_entry 0x3F 0x64 ++ ff 3992) ++ (0xF8 ∷ 0xFF ∷ 0xFE ∷ []) ++ ff 8189

abbrev gap_refused : Row
gap_refused = refuses gap 104 (setting rate 0x07 (four 0x65)) 2

gap_refused-holds : Holds gap_refused
unfolding computed
gap_refused-holds = held gap_refused refl refl tt tt refl refl

abbrev gap_erased : Row
gap_erased = record {
  image = gap;
  call = start_up_def plain;
  answer = done 1;
  stores = clear 1 ∷ [];
  left = rate_stands;
  tail = 104;
}

gap_erased-holds : Holds gap_erased
unfolding computed
gap_erased-holds = held gap_erased refl refl tt tt refl refl

-- ---- pending: a start-up resumes at the erase of the region, whatever that holds: b + L + 1 + b stores

abbrev resumed : Row
resumed = record {
  image = replicate 4096 0x00 ++ (0xF8 ∷ 0xFC ∷ []) ++ ff 4094 ++ (header ++ rate_entry 0x3E 0x64 ++ ff 3992);
  call = start_up_def plain;
  answer = done 4099;
  stores = clear 0
      ∷ store 0 (header ++ rate_entry 0x3E 0x64 ++ ff 3992)
      ∷ store 4097 (0xF8 ∷ [])
      ∷ clear 2
      ∷ [];
  left = (header ++ rate_entry 0x3E 0x64 ++ ff 3992) ++ (0xF8 ∷ 0xF8 ∷ []) ++ ff 8190;
  tail = 104;
}

resumed-plan : plan_of resumed.call resumed.image ≡ make [] (as_writes resumed.stores ++ [])
unfolding computed
resumed-plan = resumption resumed.image resumed.stores refl refl tt refl

resumed-holds : Holds resumed
unfolding computed
resumed-holds =
    held resumed (ap told resumed-plan)
    (ap listed resumed-plan ∙ ap todays (append-nil (as_writes resumed.stores)) ∙ as-flat resumed.stores) tt tt refl refl

-- ---- b = 2, nothing pending: spare erased, work block erased, and a tail that is not all FF compacted, with a lone 3E entry carried

abbrev tidied : Row
tidied = record {
  image = (header_of 0x20 ++ rate_entry 0x3E 0x64 ++ (0xAA ∷ []) ++ ff 8087)
      ++ (0xFC ∷ [])
      ++ ff 4095
      ++ (0x00 ∷ [])
      ++ ff 8191;
  call = start_up_def plain;
  answer = done 16394;
  stores = clear 3
      ∷ clear 4
      ∷ clear 2
      ∷ store 8192 (0xFE ∷ [])
      ∷ store 12288 (header_of 0x20 ++ rate_entry 0x3F 0x64 ++ ff 8088)
      ∷ store 8192 (0xFC ∷ [])
      ∷ clear 0
      ∷ clear 1
      ∷ store 0 (header_of 0x20 ++ rate_entry 0x3F 0x64 ++ ff 8088)
      ∷ store 8192 (0xF8 ∷ [])
      ∷ clear 3
      ∷ clear 4
      ∷ [];
  left = (header_of 0x20 ++ rate_entry 0x3F 0x64 ++ ff 8088) ++ (0xF8 ∷ []) ++ ff 12287;
  tail = 104;
}

tidied-holds : Holds tidied
unfolding computed
tidied-holds = held tidied refl refl tt tt refl refl

-- ---- the table

pub table : List Row
table =
    lone_replaced
    ∷ lone_deleted
    ∷ lone_equal
    ∷ leftover_replaced 0x65
    ∷ leftover_replaced 0x63
    ∷ leftover_equal
    ∷ leftover_deleted
    ∷ appended
    ∷ unfinished
    ∷ deleted_room
    ∷ all_records
    ∷ reserve_kept
    ∷ reserve_free
    ∷ gap_refused
    ∷ gap_erased
    ∷ resumed
    ∷ tidied
    ∷ []

-- every row holds
pub readings : HoldAll table
unfolding table
readings =
    lone_replaced-holds
    and lone_deleted-holds
    and lone_equal-holds
    and leftover_replaced-holds
    and leftover_restored-holds
    and leftover_equal-holds
    and leftover_deleted-holds
    and appended-holds
    and unfinished-holds
    and deleted_room-holds
    and all_records-holds
    and reserve_kept-holds
    and reserve_free-holds
    and gap_refused-holds
    and gap_erased-holds
    and resumed-holds
    and tidied-holds
    and end
