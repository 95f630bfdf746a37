-- Calls that make no stores, and formatting, on small examples: get, next-name, locks, phases. Each holds by evaluation.
-- Assumes nothing.
use Prim.Native.Nat.{ℕ}
use mathlib.Core.Path.{◌≡◌, refl}
use mathlib.Core.Bool.{false}
use mathlib.Core.List.{List, [], ◌∷◌, ◌++◌}
use lib.ListN.{replicate}
use Rattle.model.specs.declared.Session.{Session}
use Rattle.model.specs.Name.{Key}
use Rattle.model.specs.Session.{moved_to_def}
use Rattle.model.specs.StartUp.{format_plan}
use Rattle.model.specs.Answers.{done, refused, outcome, stores_of, Reply, get_reply, next_reply, lock_outcome, lock_session}
use Rattle.table.proofs.Pieces.{store, clear, flat}
use Rattle.table.proofs.Row.{computed, quiet, plain, boot, zeros, header, guid, rate, four, rate_stands}
use Rattle.table.proofs.Held.{plan-listed, plan-told}

abbrev the_rate : Key
the_rate = record { name = rate; vendor = guid }

abbrev other : Key
other = record { name = 0x41 ∷ 0x00 ∷ 0x00 ∷ 0x00 ∷ []; vendor = guid }

abbrev begin : Key
begin = record { name = zeros 2; vendor = zeros 16 }

-- a buffer of so many bytes A5
abbrev room : ℕ → List ℕ
room n = replicate n 0xA5

abbrev no : ℕ → List ℕ → Reply
no needed buffer = record { size = 0; attributes = 0; needed = needed; buffer = buffer }

-- a get writes the front of the buffer; it tells the size needed where that is too short
got : get_reply false boot the_rate (room 6) rate_stands
    ≡ record { size = 4; attributes = 0x07; needed = 0; buffer = four 0x64 ++ room 2 }
unfolding computed
got = refl

got_short : get_reply false boot the_rate (room 3) rate_stands ≡ no 4 (room 3)
unfolding computed
got_short = refl

got_nothing : get_reply false boot other (room 6) rate_stands ≡ no 0 (room 6)
unfolding computed
got_nothing = refl

-- next-name begins with the empty name, whatever its GUID, and ends after the last value
named_first : next_reply false boot begin (room 30) rate_stands
    ≡ record { size = 26; attributes = 0; needed = 0; buffer = guid ++ rate ++ room 4 }
unfolding computed
named_first = refl

named_short : next_reply false boot begin (room 25) rate_stands ≡ no 26 (room 25)
unfolding computed
named_short = refl

named_last : next_reply false boot the_rate (room 30) rate_stands ≡ no 0 (room 30)
unfolding computed
named_last = refl

named_absent : next_reply false boot other (room 30) rate_stands ≡ no 0 (room 30)
unfolding computed
named_absent = refl

-- a lock takes the next place of the list; asked again it changes nothing; after the boot phase it is refused
abbrev one_lock : ℕ → Session
one_lock phase = record {
  phase = phase;
  setup = plain;
  count = 1;
  sizes = 10 ∷ zeros 15;
  locks = rate ++ zeros 118 ++ guid ++ zeros 2160;
}

lock_first : lock_session false boot the_rate ≡ one_lock 0
unfolding computed
lock_first = refl

lock_again : lock_session false (one_lock 0) the_rate ≡ one_lock 0
unfolding computed
lock_again = refl

lock_again_done : lock_outcome false (one_lock 0) the_rate ≡ done 0
unfolding computed
lock_again_done = refl

lock_late : lock_outcome false (one_lock 1) the_rate ≡ refused 15
unfolding computed
lock_late = refl

-- 16 places in use
abbrev full_locks : ℕ → Session
full_locks count = record {
  phase = 0;
  setup = plain;
  count = count;
  sizes = 10 ∷ zeros 15;
  locks = rate ++ zeros 118 ++ guid ++ zeros 2160;
}

lock_full : lock_outcome false (full_locks 17) other ≡ refused 16
unfolding computed
lock_full = refl

lock_listed : lock_outcome false (full_locks 17) the_rate ≡ done 0
unfolding computed
lock_listed = refl

-- a phase only goes forward
phase_on : moved_to_def (one_lock 0) 7 ≡ one_lock 2
unfolding computed
phase_on = refl

phase_back : moved_to_def (one_lock 2) 1 ≡ one_lock 2
unfolding computed
phase_back = refl

-- formatting: three erases and 28 bytes
formatted : stores_of 1 (format_plan (replicate 12288 0x00)) ≡ flat (clear 0 ∷ clear 1 ∷ clear 2 ∷ store 0 header ∷ [])
unfolding computed
formatted = plan-listed (format_plan (replicate 12288 0x00))

formatted_done : outcome quiet (format_plan (replicate 12288 0x00)) (replicate 12288 0x00) ≡ done 31
unfolding computed
formatted_done = plan-told (format_plan (replicate 12288 0x00)) (replicate 12288 0x00)

formatted_short : outcome quiet (format_plan (replicate 12287 0x00)) (replicate 12287 0x00) ≡ refused 1
unfolding computed
formatted_short = plan-told (format_plan (replicate 12287 0x00)) (replicate 12287 0x00)
