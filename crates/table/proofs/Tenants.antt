-- Cases of 02 (f) as rows of a table of their own: a side's share, its reserve, and H beside them; whose a name is, and the place of 22; what a get and next-name show a side;
-- locks by side; what a start-up finds, in the spare if pending; what a query tells a side. Each holds by evaluation.
-- Assumes nothing.
use Prim.Native.Nat.{ℕ, ◌+◌, ◌-◌}
use mathlib.Core.Path.{◌≡◌, refl}
use mathlib.Core.Bool.{Bool, true, false}
use mathlib.Core.List.{List, [], ◌∷◌, ◌++◌}
use mathlib.Core.Option.{none}
use lib.ListN.{replicate}
use Rattle.model.specs.declared.Setup.{Setup}
use Rattle.model.specs.declared.Session.{Session}
use Rattle.model.specs.Name.{Key}
use Rattle.model.specs.Session.{is_modem_def}
use Rattle.model.specs.Region.{values_of}
use Rattle.model.specs.Rules.{start_up_broken, terms_for_def}
use Rattle.model.specs.Query.{storage_for, remaining_for}
use Rattle.model.specs.Answers.{done, refused, Reply, next_reply, get_reply, lock_outcome}
use Rattle.model.specs.Book.{Call, set, get, next, start_up_def}
use Rattle.table.proofs.Pieces.{store}
use Rattle.table.proofs.Row.{Row, Holds, HoldAll, end, ◌and◌, computed, refuses, idles, boot, session_of, ff, zeros, header, image, empty, guid, rate, four, behind_state, start_id, ten_and_four, rate_header, rate_entry, rate_stands, rated, shared, modem, temp, platform, pk, errors, named, first, record_entry as entry, record_stands as stands, logged}
use Rattle.table.proofs.Held.{held}

-- a set by a side; and of RATE by us, of TEMP by the modem
abbrev asking : Bool → Session → List ℕ → List ℕ → ℕ → List ℕ → Call
asking side s name vendor attributes bytes =
    set side s (record { name = name; vendor = vendor; attributes = attributes; bytes = bytes; presence = 0; verdict = 0 })

abbrev our_rate : Session → Call
our_rate s = asking false s rate guid 0x07 (four 0x64)

abbrev modem_temp : Session → Call
modem_temp s = asking true s temp modem 0x07 (four 0x64)

-- a value of 76 bytes, as RATE's is: a name of 10 bytes, and 64 00 00 00
abbrev like_rate : List ℕ → List ℕ → List ℕ
like_rate name vendor = start_id ++ (0x3F ∷ []) ++ ten_and_four vendor ++ name ++ four 0x64 ++ ff 2

abbrev temp_entry : List ℕ
temp_entry = like_rate temp modem

-- it comes in by a side after what is there up to an offset; and so TEMP does
abbrev comes : Bool → List ℕ → List ℕ → List ℕ → ℕ → ℕ → Session → Row
comes side name vendor content at rest s = record {
  image = image (content ++ ff rest);
  call = asking side s name vendor 0x07 (four 0x64);
  answer = done 75;
  stores = store at start_id
      ∷ store (3 + at) (ten_and_four vendor)
      ∷ store (2 + at) (0x7F ∷ [])
      ∷ store (60 + at) name
      ∷ store (70 + at) (four 0x64)
      ∷ store (2 + at) (0x3F ∷ [])
      ∷ [];
  left = image (content ++ like_rate name vendor ++ ff (rest - 76));
  tail = at + 76;
}

abbrev warmed : List ℕ → ℕ → ℕ → Session → Row
warmed = comes true temp modem

-- ---- "a side's sum without error records .. against its share": RATE takes 76 bytes

abbrev share_exact : Row
share_exact = rated (session_of 0 (shared 76 0 0 0 0 modem)) (four 0x64)

share_exact-holds : Holds share_exact
unfolding computed
share_exact-holds = held share_exact refl refl tt tt refl refl

abbrev share_short : Row
share_short = refuses empty 28 (our_rate (session_of 0 (shared 75 0 4068 0 0 modem))) 13

share_short-holds : Holds share_short
unfolding computed
share_short-holds = held share_short refl refl tt tt refl refl

abbrev modem_exact : Row
modem_exact = warmed header 28 4068 (session_of 0 (shared 0 0 76 0 0 modem))

modem_exact-holds : Holds modem_exact
unfolding computed
modem_exact-holds = held modem_exact refl refl tt tt refl refl

abbrev modem_short : Row
modem_short = refuses empty 28 (modem_temp (session_of 0 (shared 4068 0 75 0 0 modem))) 13

modem_short-holds : Holds modem_short
unfolding computed
modem_short-holds = held modem_short refl refl tt tt refl refl

-- what the other side has stored takes nothing of it
abbrev other_uncounted : Row
other_uncounted = warmed (header ++ rate_entry 0x3F 0x64) 104 3992 (session_of 0 (shared 76 0 76 0 0 modem))

other_uncounted-holds : Holds other_uncounted
unfolding computed
other_uncounted-holds = held other_uncounted refl refl tt tt refl refl

-- two of ours take 152
abbrev room_less : Row
room_less = refuses (image (header ++ rate_entry 0x3F 0x64 ++ ff 3992)) 104 (asking false (session_of 0 (shared 151 0 76 0 0 modem)) temp guid 0x07 (four 0x64)) 13

room_less-holds : Holds room_less
unfolding computed
room_less-holds = held room_less refl refl tt tt refl refl

-- H has its own place beside the shares, and is in no side's sum
abbrev h_apart : Row
h_apart = rated (session_of 0 (shared 76 0 0 0 4294967295 modem)) (four 0x64)

h_apart-holds : Holds h_apart
unfolding computed
h_apart-holds = held h_apart refl refl tt tt refl refl

-- "and still 28 plus all values against L", where shares do not fit: 28, 2,112 and 1,960 are 4 bytes too many
abbrev modem_large : List ℕ
modem_large = start_id ++ (0x3F ∷ []) ++ behind_state 0x07 (zeros 16) 0x04 0x00 0x00 0x08 modem ++ (0x41 ∷ 0x00 ∷ 0x00 ∷ 0x00 ∷ []) ++ replicate 2048 0x11

abbrev all_beside : Row
all_beside = refuses (image (header ++ modem_large ++ ff 1956)) 2140
    (asking false (session_of 0 (shared 4294967295 0 4294967295 0 0 modem)) rate guid 0x07 (replicate 1887 0x22)) 13

all_beside-holds : Holds all_beside
unfolding computed
all_beside-holds = held all_beside refl refl tt tt refl refl

-- "(an error record's set meets only this)": it comes in where no side has a byte and a reserve counts, and not where all values are 4 bytes too many, whatever H
abbrev record_free : Row
record_free = logged (session_of 2 (shared 0 4096 0 4096 88 modem)) first

record_free-holds : Holds record_free
unfolding computed
record_free-holds = held record_free refl refl tt tt refl refl

abbrev record_beside : Row
record_beside = refuses (image (header ++ modem_large ++ ff 1956)) 2140
    (asking false (session_of 0 (shared 0 0 2112 0 4294967295 modem)) first errors 0x0F (replicate 1871 0x22)) 13

record_beside-holds : Holds record_beside
unfolding computed
record_beside-holds = held record_beside refl refl tt tt refl refl

-- another writer's 0x07 under a record's name, 88 bytes, is no error record: it takes of our share, also where its GUID is the modem's
abbrev foreign_counted : Row
foreign_counted = refuses (stands 0x07 first) 116 (our_rate (session_of 0 (shared 163 0 88 0 88 errors))) 13

foreign_counted-holds : Holds foreign_counted
unfolding computed
foreign_counted-holds = held foreign_counted refl refl tt tt refl refl

abbrev foreign_exact : Row
foreign_exact = comes false rate guid (header ++ entry 0x3F 0x07 first) 116 3980 (session_of 0 (shared 164 0 0 0 0 errors))

foreign_exact-holds : Holds foreign_exact
unfolding computed
foreign_exact-holds = held foreign_exact refl refl tt tt refl refl

-- and nothing of the modem's
abbrev foreign_theirs : Row
foreign_theirs = comes true temp errors (header ++ entry 0x3F 0x07 first) 116 3980 (session_of 0 (shared 0 0 76 0 0 errors))

foreign_theirs-holds : Holds foreign_theirs
unfolding computed
foreign_theirs-holds = held foreign_theirs refl refl tt tt refl refl

-- ---- "with its reserve at runtime"

abbrev own_reserve : Row
own_reserve = rated (session_of 2 (shared 80 4 0 4096 0 modem)) (four 0x64)

own_reserve-holds : Holds own_reserve
unfolding computed
own_reserve-holds = held own_reserve refl refl tt tt refl refl

abbrev over_reserve : Row
over_reserve = refuses empty 28 (our_rate (session_of 2 (shared 80 5 0 0 0 modem))) 13

over_reserve-holds : Holds over_reserve
unfolding computed
over_reserve-holds = held over_reserve refl refl tt tt refl refl

abbrev modem_reserve : Row
modem_reserve = warmed header 28 4068 (session_of 2 (shared 0 4096 80 4 0 modem))

modem_reserve-holds : Holds modem_reserve
unfolding computed
modem_reserve-holds = held modem_reserve refl refl tt tt refl refl

abbrev modem_over : Row
modem_over = refuses empty 28 (modem_temp (session_of 2 (shared 0 0 80 5 0 modem))) 13

modem_over-holds : Holds modem_over
unfolding computed
modem_over-holds = held modem_over refl refl tt tt refl refl

-- not before
abbrev reserve_later : Row
reserve_later = warmed header 28 4068 (session_of 1 (shared 0 0 76 4096 0 modem))

reserve_later-holds : Holds reserve_later
unfolding computed
reserve_later-holds = held reserve_later refl refl tt tt refl refl

-- a reserve above 4,096 counts as 4,096
abbrev reserve_capped : Row
reserve_capped = refuses empty 28 (modem_temp (session_of 2 (shared 0 0 4171 4294967295 0 modem))) 13

reserve_capped-holds : Holds reserve_capped
unfolding computed
reserve_capped-holds = held reserve_capped refl refl tt tt refl refl

abbrev reserve_at_cap : Row
reserve_at_cap = warmed header 28 4068 (session_of 2 (shared 0 0 4172 4294967295 0 modem))

reserve_at_cap-holds : Holds reserve_at_cap
unfolding computed
reserve_at_cap-holds = held reserve_at_cap refl refl tt tt refl refl

-- so does ours
abbrev own_capped : Row
own_capped = refuses empty 28 (our_rate (session_of 2 (shared 4171 4294967295 0 0 0 modem))) 13

own_capped-holds : Holds own_capped
unfolding computed
own_capped-holds = held own_capped refl refl tt tt refl refl

abbrev own_at_cap : Row
own_at_cap = rated (session_of 2 (shared 4172 4294967295 0 0 0 modem)) (four 0x64)

own_at_cap-holds : Holds own_at_cap
unfolding computed
own_at_cap-holds = held own_at_cap refl refl tt tt refl refl

-- ---- numbers of 32 bits, all of them FFFFFFFF: no sum wraps

abbrev most : Setup
most = record {
  custom = 4294967295;
  reserve = 4294967295;
  records = 4294967295;
  share = 4294967295;
  modem = record { share = 4294967295; reserve = 4294967295; vendor = modem };
  rules = 4294967295;
  limits = [];
}

abbrev most_ours : Row
most_ours = rated (session_of 4294967295 most) (four 0x64)

most_ours-holds : Holds most_ours
unfolding computed
most_ours-holds = held most_ours refl refl tt tt refl refl

abbrev most_modems : Row
most_modems = warmed header 28 4068 (session_of 4294967295 most)

most_modems-holds : Holds most_modems
unfolding computed
most_modems-holds = held most_modems refl refl tt tt refl refl

abbrev most_records : Row
most_records = logged (session_of 4294967295 most) first

most_records-holds : Holds most_records
unfolding computed
most_records-holds = held most_records refl refl tt tt refl refl

-- all values are still against L
abbrev most_all : Row
most_all = refuses (image (header ++ modem_large ++ ff 1956)) 2140 (asking false (session_of 0 most) rate guid 0x07 (replicate 1887 0x22)) 13

most_all-holds : Holds most_all
unfolding computed
most_all-holds = held most_all refl refl tt tt refl refl

-- ---- 22: "when a call names the other side's name"

abbrev both : Session
both = session_of 0 (shared 2000 0 2000 0 68 modem)

abbrev theirs : Row
theirs = refuses empty 28 (asking false both temp modem 0x07 (four 0x64)) 22

theirs-holds : Holds theirs
unfolding computed
theirs-holds = held theirs refl refl tt tt refl refl

abbrev ours : Row
ours = refuses empty 28 (asking true both rate guid 0x07 (four 0x64)) 22

ours-holds : Holds ours
unfolding computed
ours-holds = held ours refl refl tt tt refl refl

abbrev theirs_deleted : Row
theirs_deleted = refuses rate_stands 104 (asking true both rate guid 0x00 []) 22

theirs_deleted-holds : Holds theirs_deleted
unfolding computed
theirs_deleted-holds = held theirs_deleted refl refl tt tt refl refl

-- "after 3", and before 4
abbrev name_first : Row
name_first = refuses empty 28 (asking false both (zeros 2) modem 0x07 (four 0x64)) 3

name_first-holds : Holds name_first
unfolding computed
name_first-holds = held name_first refl refl tt tt refl refl

abbrev attributes_later : Row
attributes_later = refuses empty 28 (asking false both temp modem 0x13 (four 0x64)) 22

attributes_later-holds : Holds attributes_later
unfolding computed
attributes_later-holds = held attributes_later refl refl tt tt refl refl

abbrev got_theirs : Row
got_theirs = refuses rate_stands 104 (get true both (record { name = rate; vendor = guid }) (zeros 8)) 22

got_theirs-holds : Holds got_theirs
unfolding computed
got_theirs-holds = held got_theirs refl refl tt tt refl refl

abbrev next_foreign : Row
next_foreign = refuses rate_stands 104 (next true both (record { name = rate; vendor = guid }) (zeros 30)) 22

next_foreign-holds : Holds next_foreign
unfolding computed
next_foreign-holds = held next_foreign refl refl tt tt refl refl

abbrev next_away : Row
next_away = refuses rate_stands 104 (next false both (record { name = temp; vendor = guid }) (zeros 30)) 11

next_away-holds : Holds next_away
unfolding computed
next_away-holds = held next_away refl refl tt tt refl refl

-- in 01's cases the modem's GUID is zeros, and its share 0
abbrev zero_guid : Row
zero_guid = refuses empty 28 (asking false boot rate (zeros 16) 0x07 (four 0x64)) 22

zero_guid-holds : Holds zero_guid
unfolding computed
zero_guid-holds = held zero_guid refl refl tt tt refl refl

abbrev zero_share : Row
zero_share = refuses empty 28 (asking true boot rate (zeros 16) 0x07 (four 0x64)) 13

zero_share-holds : Holds zero_share
unfolding computed
zero_share-holds = held zero_share refl refl tt tt refl refl

-- ---- "key names and error records always included": ours, also where their GUID is the modem's

abbrev keyed : Session
keyed = session_of 0 (shared 2000 0 2000 0 68 platform)

abbrev recorded : Session
recorded = session_of 0 (shared 2000 0 1000 0 1000 errors)

abbrev pk_by_modem : Row
pk_by_modem = refuses empty 28 (asking true keyed pk platform 0x07 (four 0x64)) 22

pk_by_modem-holds : Holds pk_by_modem
unfolding computed
pk_by_modem-holds = held pk_by_modem refl refl tt tt refl refl

abbrev pk_by_us : Row
pk_by_us = refuses empty 28 (asking false keyed pk platform 0x07 (four 0x64)) 5

pk_by_us-holds : Holds pk_by_us
unfolding computed
pk_by_us-holds = held pk_by_us refl refl tt tt refl refl

-- any other name under it is the modem's
abbrev other_by_us : Row
other_by_us = refuses empty 28 (asking false keyed rate platform 0x07 (four 0x64)) 22

other_by_us-holds : Holds other_by_us
unfolding computed
other_by_us-holds = held other_by_us refl refl tt tt refl refl

abbrev record_by_modem : Row
record_by_modem = refuses empty 28 (asking true recorded first errors 0x0F (four 0x64)) 22

record_by_modem-holds : Holds record_by_modem
unfolding computed
record_by_modem-holds = held record_by_modem refl refl tt tt refl refl

abbrev record_by_us : Row
record_by_us = refuses empty 28 (asking false recorded first errors 0x07 (four 0x64)) 17

record_by_us-holds : Holds record_by_us
unfolding computed
record_by_us-holds = held record_by_us refl refl tt tt refl refl

-- a name that is not of the form is the modem's
abbrev form_by_us : Row
form_by_us = refuses empty 28 (asking false recorded (named 0x30 0x30 0x30 0x67) errors 0x0F (four 0x64)) 22

form_by_us-holds : Holds form_by_us
unfolding computed
form_by_us-holds = held form_by_us refl refl tt tt refl refl

abbrev form_by_modem : Row
form_by_modem = refuses empty 28 (asking true recorded (named 0x30 0x30 0x30 0x67) errors 0x0F (four 0x64)) 17

form_by_modem-holds : Holds form_by_modem
unfolding computed
form_by_modem-holds = held form_by_modem refl refl tt tt refl refl

-- ---- a start-up: "a side above its share, the error records above H, or shares that do not fit"

-- RATE and TEMP stand, 76 bytes each
abbrev pair : List ℕ
pair = image (header ++ rate_entry 0x3F 0x64 ++ temp_entry ++ ff 3916)

-- reserves do not count there
abbrev up_exact : Row
up_exact = idles pair 180 (start_up_def (shared 76 4294967295 76 4294967295 0 modem))

up_exact-holds : Holds up_exact
unfolding computed
up_exact-holds = held up_exact refl refl tt tt refl refl

abbrev up_ours : Row
up_ours = refuses pair 180 (start_up_def (shared 75 0 76 0 0 modem)) 22

up_ours-holds : Holds up_ours
unfolding computed
up_ours-holds = held up_ours refl refl tt tt refl refl

abbrev up_modems : Row
up_modems = refuses pair 180 (start_up_def (shared 76 0 75 0 0 modem)) 22

up_modems-holds : Holds up_modems
unfolding computed
up_modems-holds = held up_modems refl refl tt tt refl refl

abbrev up_fits : Row
up_fits = idles pair 180 (start_up_def (shared 2000 0 2000 0 68 modem))

up_fits-holds : Holds up_fits
unfolding computed
up_fits-holds = held up_fits refl refl tt tt refl refl

-- 28 and both shares and H are one byte too many
abbrev up_over : Row
up_over = refuses pair 180 (start_up_def (shared 2000 0 2000 0 69 modem)) 22

up_over-holds : Holds up_over
unfolding computed
up_over-holds = held up_over refl refl tt tt refl refl

-- sums do not wrap
abbrev up_huge : Row
up_huge = refuses pair 180 (start_up_def (shared 4294967295 0 77 0 0 modem)) 22

up_huge-holds : Holds up_huge
unfolding computed
up_huge-holds = held up_huge refl refl tt tt refl refl

abbrev up_huge_modems : Row
up_huge_modems = refuses pair 180 (start_up_def (shared 76 0 4294967295 0 0 modem)) 22

up_huge_modems-holds : Holds up_huge_modems
unfolding computed
up_huge_modems-holds = held up_huge_modems refl refl tt tt refl refl

abbrev up_huge_records : Row
up_huge_records = refuses pair 180 (start_up_def (shared 76 0 76 0 4294967295 modem)) 22

up_huge_records-holds : Holds up_huge_records
unfolding computed
up_huge_records-holds = held up_huge_records refl refl tt tt refl refl

-- 28 and all three are 25 more than a multiple of 2 to the 32nd
abbrev up_most : Row
up_most = refuses pair 180 (start_up_def most) 22

up_most-holds : Holds up_most
unfolding computed
up_most-holds = held up_most refl refl tt tt refl refl

-- a record of 88 bytes
abbrev up_records : Row
up_records = refuses (stands 0x0F first) 116 (start_up_def (shared 2000 0 0 0 87 modem)) 22

up_records-holds : Holds up_records
unfolding computed
up_records-holds = held up_records refl refl tt tt refl refl

-- it is in no side's sum
abbrev up_recorded : Row
up_recorded = idles (stands 0x0F first) 116 (start_up_def (shared 0 0 0 0 88 modem))

up_recorded-holds : Holds up_recorded
unfolding computed
up_recorded-holds = held up_recorded refl refl tt tt refl refl

-- another writer's 0x07 under a record's name is no error record, and in our sum, also where the GUID is the modem's
abbrev up_foreign : Row
up_foreign = refuses (stands 0x07 first) 116 (start_up_def (shared 87 0 88 0 88 errors)) 22

up_foreign-holds : Holds up_foreign
unfolding computed
up_foreign-holds = held up_foreign refl refl tt tt refl refl

abbrev up_foreign_fits : Row
up_foreign_fits = idles (stands 0x07 first) 116 (start_up_def (shared 88 0 0 0 0 errors))

up_foreign_fits-holds : Holds up_foreign_fits
unfolding computed
up_foreign_fits-holds = held up_foreign_fits refl refl tt tt refl refl

-- "after 2": the region is not sound, and our share is one byte too many
abbrev up_unsound : Row
up_unsound = refuses (replicate 12288 0x00) 28 (start_up_def (shared 4069 0 0 0 0 modem)) 2

up_unsound-holds : Holds up_unsound
unfolding computed
up_unsound-holds = held up_unsound refl refl tt tt refl refl

-- ---- "(in the spare if pending)": nothing is stored

-- the region holds nothing, the spare RATE; and the other way round
abbrev up_pending : Row
up_pending = refuses ((header ++ ff 4068) ++ (0xFC ∷ []) ++ ff 4095 ++ (header ++ rate_entry 0x3F 0x64 ++ ff 3992)) 28 (start_up_def (shared 75 0 0 0 0 modem)) 22

up_pending-holds : Holds up_pending
unfolding computed
up_pending-holds = held up_pending refl refl tt tt refl refl

-- a region that is not sound is not looked at where the spare is
abbrev up_pending_unsound : Row
up_pending_unsound = refuses (replicate 4096 0x00 ++ (0xFC ∷ []) ++ ff 4095 ++ (header ++ rate_entry 0x3F 0x64 ++ ff 3992)) 28 (start_up_def (shared 75 0 0 0 0 modem)) 22

up_pending_unsound-holds : Holds up_pending_unsound
unfolding computed
up_pending_unsound-holds = held up_pending_unsound refl refl tt tt refl refl

up_spare-holds : start_up_broken (shared 0 0 0 0 0 modem) ((header ++ rate_entry 0x3F 0x64 ++ ff 3992) ++ (0xFC ∷ []) ++ ff 4095 ++ (header ++ ff 4068)) ≡ none
unfolding computed
up_spare-holds = refl

-- ---- all of them

abbrev pub table : List Row
table =
    share_exact
    ∷ share_short
    ∷ modem_exact
    ∷ modem_short
    ∷ other_uncounted
    ∷ room_less
    ∷ h_apart
    ∷ all_beside
    ∷ record_free
    ∷ record_beside
    ∷ foreign_counted
    ∷ foreign_exact
    ∷ foreign_theirs
    ∷ own_reserve
    ∷ over_reserve
    ∷ modem_reserve
    ∷ modem_over
    ∷ reserve_later
    ∷ reserve_capped
    ∷ reserve_at_cap
    ∷ own_capped
    ∷ own_at_cap
    ∷ most_ours
    ∷ most_modems
    ∷ most_records
    ∷ most_all
    ∷ theirs
    ∷ ours
    ∷ theirs_deleted
    ∷ name_first
    ∷ attributes_later
    ∷ got_theirs
    ∷ next_foreign
    ∷ next_away
    ∷ zero_guid
    ∷ zero_share
    ∷ pk_by_modem
    ∷ pk_by_us
    ∷ other_by_us
    ∷ record_by_modem
    ∷ record_by_us
    ∷ form_by_us
    ∷ form_by_modem
    ∷ up_exact
    ∷ up_ours
    ∷ up_modems
    ∷ up_fits
    ∷ up_over
    ∷ up_huge
    ∷ up_huge_modems
    ∷ up_huge_records
    ∷ up_most
    ∷ up_records
    ∷ up_recorded
    ∷ up_foreign
    ∷ up_foreign_fits
    ∷ up_unsound
    ∷ up_pending
    ∷ up_pending_unsound
    ∷ []

pub tenants : HoldAll table
tenants =
    share_exact-holds
    and share_short-holds
    and modem_exact-holds
    and modem_short-holds
    and other_uncounted-holds
    and room_less-holds
    and h_apart-holds
    and all_beside-holds
    and record_free-holds
    and record_beside-holds
    and foreign_counted-holds
    and foreign_exact-holds
    and foreign_theirs-holds
    and own_reserve-holds
    and over_reserve-holds
    and modem_reserve-holds
    and modem_over-holds
    and reserve_later-holds
    and reserve_capped-holds
    and reserve_at_cap-holds
    and own_capped-holds
    and own_at_cap-holds
    and most_ours-holds
    and most_modems-holds
    and most_records-holds
    and most_all-holds
    and theirs-holds
    and ours-holds
    and theirs_deleted-holds
    and name_first-holds
    and attributes_later-holds
    and got_theirs-holds
    and next_foreign-holds
    and next_away-holds
    and zero_guid-holds
    and zero_share-holds
    and pk_by_modem-holds
    and pk_by_us-holds
    and other_by_us-holds
    and record_by_modem-holds
    and record_by_us-holds
    and form_by_us-holds
    and form_by_modem-holds
    and up_exact-holds
    and up_ours-holds
    and up_modems-holds
    and up_fits-holds
    and up_over-holds
    and up_huge-holds
    and up_huge_modems-holds
    and up_huge_records-holds
    and up_most-holds
    and up_records-holds
    and up_recorded-holds
    and up_foreign-holds
    and up_foreign_fits-holds
    and up_unsound-holds
    and up_pending-holds
    and up_pending_unsound-holds
    and end

-- ---- next-name: "shows a side only its own values"

abbrev key : List ℕ → List ℕ → Key
key name vendor = record { name = name; vendor = vendor }

abbrev no : Reply
no = record { size = 0; attributes = 0; needed = 0; buffer = zeros 30 }

abbrev names : List ℕ → List ℕ → Reply
names name vendor = record { size = 26; attributes = 0; needed = 0; buffer = vendor ++ name ++ zeros 4 }

-- RATE, TEMP, and after them another of ours, named TEMP too
abbrev three : List ℕ
three = image (header ++ rate_entry 0x3F 0x64 ++ temp_entry ++ start_id ++ (0x3F ∷ []) ++ rate_header ++ temp ++ four 0x65 ++ ff 2 ++ ff 3840)

first_ours-holds : next_reply false both (key (zeros 2) modem) (zeros 30) three ≡ names rate guid
unfolding computed
first_ours-holds = refl

next_ours-holds : next_reply false both (key rate guid) (zeros 30) three ≡ names temp guid
unfolding computed
next_ours-holds = refl

last_ours-holds : next_reply false both (key temp guid) (zeros 30) three ≡ no
unfolding computed
last_ours-holds = refl

first_theirs-holds : next_reply true both (key (zeros 2) guid) (zeros 30) three ≡ names temp modem
unfolding computed
first_theirs-holds = refl

-- a get of ours
got_ours-holds : get_reply false both (key rate guid) (zeros 4) three ≡ record { size = 4; attributes = 0x07; needed = 0; buffer = four 0x64 }
unfolding computed
got_ours-holds = refl

-- ---- locks: 3, 22, 15, then 16, "eight of that side's names or no free place"

-- a place that holds a name of four bytes under a GUID; seven of them, B up; and eight
abbrev place : ℕ → List ℕ → List ℕ
place letter vendor = (letter ∷ 0x00 ∷ 0x00 ∷ 0x00 ∷ []) ++ zeros 124 ++ vendor

abbrev seven_of : List ℕ → List ℕ
seven_of vendor =
    place 0x42 vendor
    ++ place 0x43 vendor
    ++ place 0x44 vendor
    ++ place 0x45 vendor
    ++ place 0x46 vendor
    ++ place 0x47 vendor
    ++ place 0x48 vendor

abbrev eight_of : List ℕ → List ℕ
eight_of vendor = place 0x41 vendor ++ seven_of vendor

-- a list by its count, sizes and bytes, in a phase; and eight names in it
abbrev listing : ℕ → ℕ → List ℕ → List ℕ → Session
listing phase count sizes locks = record { phase = phase; setup = shared 2000 0 2000 0 68 modem; count = count; sizes = sizes; locks = locks }

abbrev eight_locks : ℕ → List ℕ → Session
eight_locks phase vendor = listing phase 8 (replicate 8 4 ++ zeros 8) (eight_of vendor ++ zeros 1152)

ninth-holds : lock_outcome false (eight_locks 0 guid) (key rate guid) ≡ refused 16
unfolding computed
ninth-holds = refl

listed_again-holds : lock_outcome false (eight_locks 0 guid) (key (0x41 ∷ 0x00 ∷ 0x00 ∷ 0x00 ∷ []) guid) ≡ done 0
unfolding computed
listed_again-holds = refl

their_first-holds : lock_outcome true (eight_locks 0 guid) (key temp modem) ≡ done 0
unfolding computed
their_first-holds = refl

their_ninth-holds : lock_outcome true (eight_locks 0 modem) (key temp modem) ≡ refused 16
unfolding computed
their_ninth-holds = refl

our_first-holds : lock_outcome false (eight_locks 0 modem) (key rate guid) ≡ done 0
unfolding computed
our_first-holds = refl

lock_foreign-holds : lock_outcome false (eight_locks 1 guid) (key temp modem) ≡ refused 22
unfolding computed
lock_foreign-holds = refl

lock_late-holds : lock_outcome false (eight_locks 1 guid) (key rate guid) ≡ refused 15
unfolding computed
lock_late-holds = refl

lock_latest-holds : lock_outcome false (eight_locks 4294967295 guid) (key rate guid) ≡ refused 15
unfolding computed
lock_latest-holds = refl

lock_ill-holds : lock_outcome false (eight_locks 1 guid) (key (zeros 2) modem) ≡ refused 3
unfolding computed
lock_ill-holds = refl

-- sixteen places that hold no names: no free place
no_place-holds : lock_outcome true (listing 0 16 (zeros 16) (zeros 2304)) (key temp modem) ≡ refused 16
unfolding computed
no_place-holds = refl

-- a count above 16 is 16: also then a name that is listed is accepted
abbrev many_locks : Session
many_locks = listing 0 4294967295 (4 ∷ zeros 15) (place 0x41 guid ++ zeros 2160)

count_most-holds : lock_outcome false many_locks (key rate guid) ≡ refused 16
unfolding computed
count_most-holds = refl

listed_most-holds : lock_outcome false many_locks (key (0x41 ∷ 0x00 ∷ 0x00 ∷ 0x00 ∷ []) guid) ≡ done 0
unfolding computed
listed_most-holds = refl

-- eight places under a GUID, of which the first has another size: its name is not well formed, and it is no side's
abbrev seven_locks : ℕ → List ℕ → Session
seven_locks size vendor = listing 0 8 (size ∷ replicate 7 4 ++ zeros 8) (eight_of vendor ++ zeros 1152)

ill_uncounted-holds : lock_outcome false (seven_locks 3 guid) (key rate guid) ≡ done 0
unfolding computed
ill_uncounted-holds = refl

ill_theirs-holds : lock_outcome true (seven_locks 3 modem) (key temp modem) ≡ done 0
unfolding computed
ill_theirs-holds = refl

ill_most-holds : lock_outcome false (seven_locks 4294967295 guid) (key rate guid) ≡ done 0
unfolding computed
ill_most-holds = refl

-- places that repeat a name count each
abbrev twice_of : List ℕ → List ℕ
twice_of vendor = place 0x41 vendor ++ place 0x41 vendor

abbrev repeated_locks : List ℕ → Session
repeated_locks vendor = listing 0 8 (replicate 8 4 ++ zeros 8) (twice_of vendor ++ twice_of vendor ++ twice_of vendor ++ twice_of vendor ++ zeros 1152)

repeated_counted-holds : lock_outcome false (repeated_locks guid) (key rate guid) ≡ refused 16
unfolding computed
repeated_counted-holds = refl

repeated_theirs-holds : lock_outcome true (repeated_locks modem) (key temp modem) ≡ refused 16
unfolding computed
repeated_theirs-holds = refl

-- a key name under the modem's GUID takes one of our eight
key_counted-holds : lock_outcome false (record { phase = 0; setup = shared 2000 0 2000 0 68 platform; count = 8; sizes = 6 ∷ replicate 7 4 ++ zeros 8; locks = pk ++ zeros 122 ++ platform ++ seven_of guid ++ zeros 1152 }) (key rate guid) ≡ refused 16
unfolding computed
key_counted-holds = refl

-- ---- a side is 1, the modem, or any other number, ours

sides-holds : (is_modem_def 0 ≡ false) × (is_modem_def 1 ≡ true) × (is_modem_def 2 ≡ false) × (is_modem_def 4294967295 ≡ false)
sides-holds = (refl, refl, refl, refl)

-- ---- what a query tells a side: its share, less its reserve at runtime, for error records H to us and nothing to the modem; no more than all values may take

abbrev parted : ℕ → Session
parted phase = session_of phase (shared 1500 10 2000 20 90 modem)

storage-holds : (storage_for (terms_for_def false (parted 1)) false 4096 ≡ 1500) × (storage_for (terms_for_def true (parted 1)) false 4096 ≡ 2000)
unfolding computed storage_for terms_for_def
storage-holds = (refl, refl)

storage_runtime-holds : (storage_for (terms_for_def false (parted 2)) false 4096 ≡ 1490) × (storage_for (terms_for_def true (parted 2)) false 4096 ≡ 1980)
unfolding computed storage_for terms_for_def
storage_runtime-holds = (refl, refl)

storage_records-holds : (storage_for (terms_for_def false (parted 2)) true 4096 ≡ 90) × (storage_for (terms_for_def true (parted 2)) true 4096 ≡ 0)
unfolding computed storage_for terms_for_def
storage_records-holds = (refl, refl)

storage_most-holds : (storage_for (terms_for_def false (session_of 2 most)) false 4096 ≡ 4068) × (storage_for (terms_for_def false (session_of 2 most)) true 4096 ≡ 4068)
unfolding computed storage_for terms_for_def
storage_most-holds = (refl, refl)

-- two of ours take 152 bytes, and one of the modem's 76; what remains is in whole words: of 1,338 bytes 1,336, of 1,904 all, of 90 88
remaining-holds : (remaining_for (terms_for_def false (parted 2)) false 4096 (values_of three) ≡ 1336) × (remaining_for (terms_for_def true (parted 2)) false 4096 (values_of three) ≡ 1904)
unfolding computed remaining_for terms_for_def
remaining-holds = (refl, refl)

remaining_records-holds : (remaining_for (terms_for_def false (parted 2)) true 4096 (values_of three) ≡ 88) × (remaining_for (terms_for_def true (parted 2)) true 4096 (values_of three) ≡ 0)
unfolding computed remaining_for terms_for_def
remaining_records-holds = (refl, refl)

-- 28 and 228 bytes of 4,096 are taken
remaining_most-holds : (remaining_for (terms_for_def true (session_of 2 most)) false 4096 (values_of three) ≡ 3840) × (remaining_for (terms_for_def false (session_of 2 most)) true 4096 (values_of three) ≡ 3840)
unfolding computed remaining_for terms_for_def
remaining_most-holds = (refl, refl)
