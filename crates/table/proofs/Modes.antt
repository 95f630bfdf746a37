-- Cases of 02 (j): modes by what is stored, verdicts, requests, changes of PK with PlatMode's, sets that name PlatMode, room, and the two sides. Rows of a
-- table of their own where every store is written out; of the other calls the plan: a refusal, one compaction and the values that it leaves, or what a set
-- stores. Each holds by evaluation.
-- Assumes nothing.
use Prim.Native.Nat.{ℕ}
use mathlib.Core.Path.{◌≡◌, refl, ◌∙◌}
use mathlib.Core.Bool.{Bool, true, false}
use mathlib.Core.List.{List, [], ◌∷◌, ◌++◌}
use mathlib.Core.Option.{none}
use lib.ListN.{length}
use Rattle.model.specs.declared.Session.{Session}
use Rattle.model.specs.declared.PlatMode.TheVariants as modes
use Rattle.model.specs.declared.Rule.{Rule}
use Rattle.model.specs.declared.Rule.TheVariants.{Length, Unready, Locked, Descriptor, Verdict, Stamp, Room, Side, Mode}
use Rattle.model.specs.Name.{Key}
use Rattle.model.specs.Entry.{Value}
use Rattle.model.specs.Request.{mode_of}
use Rattle.model.specs.Change.{put}
use Rattle.model.specs.Rules.{start_up_broken}
use Rattle.model.specs.Set.{refuse, compact_plan, change_plan}
use Rattle.model.specs.Answers.{done, refused, next_reply, lock_outcome, decided}
use Rattle.model.specs.Book.{Call, set, get, start_up_def, profile, mode, plan_of, entered}
use Rattle.table.proofs.Pieces.{store, clear}
use Rattle.table.proofs.Row.{Row, Holds, HoldAll, end, ◌and◌, computed, plain, given, boot, session_of, ff, zeros, header, image, empty, guid, rate, setting, four, start_id, platform, pk, pk_entry, user, pk_with, june, plat_mode, mode_header, mode_entry, stray_three, shared}
use Rattle.table.proofs.Held.{held, plan-settled}

-- values of PlatMode, PK and RATE
abbrev mode_with : ℕ → List ℕ → Value
mode_with attributes bytes = record { name = plat_mode; vendor = platform; attributes = attributes; stamp = zeros 16; bytes = bytes }

abbrev mode_is : ℕ → Value
mode_is m = mode_with 0x07 (m ∷ [])

abbrev pk_is : ℕ → ℕ → Value
pk_is second b = record { name = pk; vendor = platform; attributes = 0x27; stamp = june second; bytes = four b }

abbrev rate_is : Value
rate_is = record { name = rate; vendor = guid; attributes = 0x07; stamp = zeros 16; bytes = four 0x64 }

-- in audit, and deployed; and a 2 beside a PK, which counts as absent
abbrev audit : List ℕ
audit = image (header ++ mode_entry 0x3F 2 ++ ff 3988)

abbrev deployed : List ℕ
deployed = image (header ++ pk_entry 0x3F 5 0x70 ++ mode_entry 0x3F 3 ++ ff 3916)

abbrev stray_two : List ℕ
stray_two = image (header ++ mode_entry 0x3F 2 ++ pk_entry 0x3F 5 0x70 ++ ff 3916)

-- a mode is requested by us; in the boot phase
abbrev asked_in : Session → ℕ → Call
asked_in s to = mode false s to

abbrev asked : ℕ → Call
asked to = asked_in boot to

-- PK is set in a session; and in the boot phase
abbrev pk_in : Session → ℕ → List ℕ → ℕ → Call
pk_in s second bytes verdict = pk_with s 0 0x27 second bytes verdict

abbrev pk_set : ℕ → List ℕ → ℕ → Call
pk_set second bytes verdict = pk_in boot second bytes verdict

-- a side sets PlatMode
abbrev mode_by_def : Bool → Session → ℕ → List ℕ → Call
mode_by_def side s attributes bytes =
    set side s (record { name = plat_mode; vendor = platform; attributes = attributes; bytes = bytes; presence = 0; verdict = 0 })

-- custom mode; one of our names locked, and boot over; our share, by H and at runtime with R; and shares of both sides, the modem's GUID being PK's
abbrev custom : Session
custom = session_of 0 (given 1 0 0)

abbrev locked_name : List ℕ → ℕ → Session
locked_name name rest = record { phase = 1; setup = plain; count = 1; sizes = length name ∷ zeros 15; locks = name ++ zeros rest ++ platform ++ zeros 2160 }

abbrev locked_mode : Session
locked_mode = locked_name plat_mode 110

abbrev locked_pk : Session
locked_pk = locked_name pk 122

abbrev leaving : ℕ → Session
leaving h = session_of 0 (given 0 0 h)

abbrev under : ℕ → ℕ → Session
under ours modems = session_of 0 (shared ours 0 modems 0 0 platform)

-- a call over an image breaks a rule; is a compaction that leaves these values; or stores what a set of a value stores
abbrev Breaks : List ℕ → Call → Rule → Type 0
Breaks img call rule = plan_of call img ≡ refuse rule

abbrev Folds : List ℕ → Call → List Value → Type 0
Folds img call vs = plan_of call img ≡ compact_plan img vs

abbrev Puts : List ℕ → Call → Value → Type 0
Puts img call v = plan_of call img ≡ change_plan img (put v)

-- ---- "If it is absent, PK says setup or user; a 2 beside a PK, a 3 without one, or other data or attributes count as absent"

is_setup-holds : mode_of (rate_is ∷ []) ≡ modes.Setup
unfolding computed
is_setup-holds = refl

is_user-holds : mode_of (pk_is 5 0x70 ∷ []) ≡ modes.User
unfolding computed
is_user-holds = refl

is_audit-holds : mode_of (mode_is 2 ∷ []) ≡ modes.Audit
unfolding computed
is_audit-holds = refl

is_deployed-holds : mode_of (pk_is 5 0x70 ∷ mode_is 3 ∷ []) ≡ modes.Deployed
unfolding computed
is_deployed-holds = refl

beside_two-holds : mode_of (pk_is 5 0x70 ∷ mode_is 2 ∷ []) ≡ modes.User
unfolding computed
beside_two-holds = refl

alone_three-holds : mode_of (mode_is 3 ∷ []) ≡ modes.Setup
unfolding computed
alone_three-holds = refl

other_byte-holds : mode_of (mode_is 1 ∷ []) ≡ modes.Setup
unfolding computed
other_byte-holds = refl

longer-holds : mode_of (mode_with 0x07 (0x02 ∷ 0x00 ∷ []) ∷ []) ≡ modes.Setup
unfolding computed
longer-holds = refl

other_attributes-holds : mode_of (pk_is 5 0x70 ∷ mode_with 0x03 (0x03 ∷ []) ∷ []) ≡ modes.User
unfolding computed
other_attributes-holds = refl

-- ---- "Setup may go to audit; user to audit, losing PK, or to deployed"

-- "A mode alone is stored as a set stores": 28 to 108
abbrev setup_to_audit : Row
setup_to_audit = record {
  image = empty;
  call = asked 2;
  answer = done 80;
  stores = store 28 start_id
      ∷ store 31 mode_header
      ∷ store 30 (0x7F ∷ [])
      ∷ store 88 plat_mode
      ∷ store 106 (0x02 ∷ [])
      ∷ store 30 (0x3F ∷ [])
      ∷ [];
  left = audit;
  tail = 108;
}

setup_to_audit-holds : Holds setup_to_audit
unfolding computed
setup_to_audit-holds = held setup_to_audit refl refl tt tt refl refl

-- over a byte that counts as absent
abbrev over_stray : Row
over_stray = record {
  image = stray_three;
  call = asked 2;
  answer = done 82;
  stores = store 30 (0x3E ∷ [])
      ∷ store 108 start_id
      ∷ store 111 mode_header
      ∷ store 110 (0x7F ∷ [])
      ∷ store 168 plat_mode
      ∷ store 186 (0x02 ∷ [])
      ∷ store 110 (0x3F ∷ [])
      ∷ store 30 (0x3C ∷ [])
      ∷ [];
  left = image (header ++ mode_entry 0x3C 3 ++ mode_entry 0x3F 2 ++ ff 3908);
  tail = 188;
}

over_stray-holds : Holds over_stray
unfolding computed
over_stray-holds = held over_stray refl refl tt tt refl refl

user_to_deployed-holds : Puts user (asked 3) (mode_is 3)
unfolding computed
user_to_deployed-holds = refl

-- no phase is asked for, and no verdict
late_to_deployed-holds : Puts user (asked_in (session_of 2 plain) 3) (mode_is 3)
unfolding computed
late_to_deployed-holds = refl

-- one compaction, also where the tail has room
user_to_audit-holds : Folds user (asked 2) (mode_is 2 ∷ [])
unfolding computed
user_to_audit-holds = refl

-- the book: "a stored mode goes to the end even where its byte stays"
byte_stays-holds : entered (asked 2) (mode_is 2 ∷ pk_is 5 0x70 ∷ rate_is ∷ []) ≡ rate_is ∷ mode_is 2 ∷ []
unfolding computed
byte_stays-holds = refl

-- ---- "24 when another transition is requested"

setup_deployed-holds : Breaks empty (asked 3) Mode
unfolding computed
setup_deployed-holds = refl

audit_audit-holds : Breaks audit (asked 2) Mode
unfolding computed
audit_audit-holds = refl

audit_deployed-holds : Breaks audit (asked 3) Mode
unfolding computed
audit_deployed-holds = refl

deployed_audit-holds : Breaks deployed (asked 2) Mode
unfolding computed
deployed_audit-holds = refl

user_setup-holds : Breaks user (asked 0) Mode
unfolding computed
user_setup-holds = refl

-- a 3 without a PK is believed no more than none
stray_deployed-holds : Breaks stray_three (asked 3) Mode
unfolding computed
stray_deployed-holds = refl

-- ---- "A mode request meets 1, 2, 22, 6 (PlatMode, and PK if lost), 24, 13"

short-holds : Breaks ((header ++ ff 4068) ++ ff 8191) (asked 0) Length
unfolding computed
short-holds = refl

-- a byte in the tail; asked by the modem
unready-holds : Breaks (image (header ++ (0xAA ∷ []) ++ ff 4067)) (mode true boot 3) Unready
unfolding computed
unready-holds = refl

-- 22 before 6 and 24
by_modem-holds : Breaks user (mode true locked_mode 0) Side
unfolding computed
by_modem-holds = refl

-- 6 before 24
mode_locked-holds : Breaks user (asked_in locked_mode 0) Locked
unfolding computed
mode_locked-holds = refl

pk_locked-holds : Breaks user (asked_in locked_pk 2) Locked
unfolding computed
pk_locked-holds = refl

-- where PK is not lost its lock does not matter
pk_kept-holds : Puts user (asked_in locked_pk 3) (mode_is 3)
unfolding computed
pk_kept-holds = refl

not_lost-holds : Breaks deployed (asked_in locked_pk 2) Mode
unfolding computed
not_lost-holds = refl

-- PK takes 72 bytes and PlatMode 80. H leaves 151, and 152
no_room-holds : Breaks user (asked_in (leaving 3917) 3) Room
unfolding computed
no_room-holds = refl

exact_room-holds : Puts user (asked_in (leaving 3916) 3) (mode_is 3)
unfolding computed
exact_room-holds = refl

-- losing PK makes room
room_made-holds : Folds user (asked_in (leaving 3988) 2) (mode_is 2 ∷ [])
unfolding computed
room_made-holds = refl

-- R counts at runtime
reserved-holds : Breaks user (asked_in (session_of 2 (given 0 1 3916)) 3) Room
unfolding computed
reserved-holds = refl

-- ---- "audit to deployed when PK is enrolled, with verdict 3 (any, where custom mode wants none)"

-- "one compaction, PlatMode last, PK before it": every store of it. 28 to 100, and to 180
abbrev after : List ℕ
after = header ++ pk_entry 0x3F 6 0x71 ++ mode_entry 0x3F 3 ++ ff 3916

abbrev audit_to_deployed : Row
audit_to_deployed = record {
  image = audit;
  call = pk_set 6 (four 0x71) 3;
  answer = done 8197;
  stores = store 4096 (0xFE ∷ [])
      ∷ store 8192 after
      ∷ store 4096 (0xFC ∷ [])
      ∷ clear 0
      ∷ store 0 after
      ∷ store 4096 (0xF8 ∷ [])
      ∷ clear 2
      ∷ [];
  left = after ++ (0xF8 ∷ []) ++ ff 8191;
  tail = 180;
}

audit_to_deployed-holds : Holds audit_to_deployed
unfolding computed
audit_to_deployed-holds = held audit_to_deployed refl refl tt tt refl refl

-- FC decides for both
before_fc-holds : decided 1 4097 (plan_of (pk_set 6 (four 0x71) 3) audit) ≡ false
unfolding computed
before_fc-holds = plan-settled 4097 (plan_of (pk_set 6 (four 0x71) 3) audit) ∙ refl

-- "Audit wants the verdicts of setup"
audit_wants-holds : Breaks audit (pk_set 6 (four 0x71) 1) Verdict
unfolding computed
audit_wants-holds = refl

audit_custom-holds : Folds audit (pk_with custom 1 0x27 6 (four 0x71) 0) (pk_is 6 0x71 ∷ mode_is 3 ∷ [])
unfolding computed
audit_custom-holds = refl

-- a creating append enrols PK too, and an empty one does not
appended-holds : Folds audit (pk_with boot 0 0x67 6 (four 0x71) 3) (pk_is 6 0x71 ∷ mode_is 3 ∷ [])
unfolding computed
appended-holds = refl

empty_append-holds : entered (pk_with boot 0 0x67 6 [] 3) (mode_is 2 ∷ []) ≡ mode_is 2 ∷ []
unfolding computed
empty_append-holds = refl

-- ---- "deployed to setup when PK is deleted, with verdict 1"

deployed_to_setup-holds : Folds deployed (pk_set 6 [] 1) []
unfolding computed
deployed_to_setup-holds = refl

-- "and deployed those of user"
deployed_wants-holds : Breaks deployed (pk_set 6 [] 3) Verdict
unfolding computed
deployed_wants-holds = refl

-- "Custom mode does not count in deployed"; so 10 is met there too
deployed_custom-holds : Breaks deployed (pk_with custom 1 0x27 6 [] 0) Verdict
unfolding computed
deployed_custom-holds = refl

deployed_stamp-holds : Breaks deployed (pk_with custom 1 0x27 5 [] 1) Stamp
unfolding computed
deployed_stamp-holds = refl

-- ---- "a PK that comes or goes also removes a byte that counts as absent"

stray_comes-holds : Folds stray_three (pk_set 6 (four 0x71) 3) (pk_is 6 0x71 ∷ [])
unfolding computed
stray_comes-holds = refl

stray_goes-holds : Folds stray_two (pk_set 6 [] 1) []
unfolding computed
stray_goes-holds = refl

-- one that is replaced neither comes nor goes, and the byte stays
replaced-holds : Puts stray_two (pk_set 6 (four 0x71) 1) (pk_is 6 0x71)
unfolding computed
replaced-holds = refl

-- a change of another name leaves it
rate_goes-holds : entered (setting rate 0x07 []) (rate_is ∷ mode_is 2 ∷ []) ≡ mode_is 2 ∷ []
unfolding computed
rate_goes-holds = refl

-- "a lock on PlatMode does not bar PK"
beside_locked-holds : Folds audit (pk_in locked_mode 6 (four 0x71) 3) (pk_is 6 0x71 ∷ mode_is 3 ∷ [])
unfolding computed
beside_locked-holds = refl

-- 13 judges the values after both changes: H leaves 72, and 151 for 152; a delete is exempt
joint_room-holds : Folds stray_three (pk_in (leaving 3996) 6 (four 0x71) 3) (pk_is 6 0x71 ∷ [])
unfolding computed
joint_room-holds = refl

no_joint_room-holds : Breaks audit (pk_in (leaving 3917) 6 (four 0x71) 3) Room
unfolding computed
no_joint_room-holds = refl

joint_unasked-holds : Folds deployed (pk_in (leaving 5000) 6 [] 1) []
unfolding computed
joint_unasked-holds = refl

-- ---- "or a set or delete names PlatMode, after 9"

-- before 10 and 11; not before 8
named-holds : Breaks audit (mode_by_def false boot 0x07 (0x03 ∷ [])) Mode
unfolding computed
named-holds = refl

named_absent-holds : Breaks empty (mode_by_def false boot 0x00 []) Mode
unfolding computed
named_absent-holds = refl

named_timed-holds : Breaks empty (mode_by_def false boot 0x27 (0x03 ∷ [])) Descriptor
unfolding computed
named_timed-holds = refl

-- an item of a profile: a name of 18 bytes and one byte of data
abbrev item : List ℕ
item = (0x01 ∷ 0x07 ∷ 0x12 ∷ 0x01 ∷ []) ++ platform ++ plat_mode ++ (0x02 ∷ [])

named_item-holds : Breaks empty (profile false boot item) Mode
unfolding computed
named_item-holds = refl

-- ---- "PlatMode is ours, like the key names", also where the modem's GUID is PK's

ours-holds : Breaks user (mode_by_def false (under 4068 0) 0x07 (0x02 ∷ [])) Mode
unfolding computed
ours-holds = refl

foreign-holds : Breaks user (mode_by_def true (under 0 4068) 0x07 (0x02 ∷ [])) Side
unfolding computed
foreign-holds = refl

-- another name there is the modem's, and not ours
rest_foreign-holds : Breaks user (set false (under 4068 0) (record { name = rate; vendor = platform; attributes = 0x07; bytes = four 0x64; presence = 0; verdict = 0 })) Side
unfolding computed
rest_foreign-holds = refl

abbrev the_mode : Key
the_mode = record { name = plat_mode; vendor = platform }

read_foreign-holds : Breaks audit (get true (under 80 0) the_mode (zeros 8)) Side
unfolding computed
read_foreign-holds = refl

shown_to_us-holds : next_reply false (under 80 0) (record { name = zeros 2; vendor = guid }) (zeros 34) audit
    ≡ record { size = 34; attributes = 0; needed = 0; buffer = platform ++ plat_mode }
unfolding computed
shown_to_us-holds = refl

not_shown-holds : next_reply true (under 80 0) (record { name = zeros 2; vendor = guid }) (zeros 34) audit
    ≡ record { size = 0; attributes = 0; needed = 0; buffer = zeros 34 }
unfolding computed
not_shown-holds = refl

lock_ours-holds : lock_outcome false (under 80 0) the_mode ≡ done 0
unfolding computed
lock_ours-holds = refl

lock_foreign-holds : lock_outcome true (under 80 0) the_mode ≡ refused 22
unfolding computed
lock_foreign-holds = refl

-- it takes 80 of our share, beside PK's 72; and a start-up counts it so
share_short-holds : Breaks user (asked_in (under 151 3000) 3) Room
unfolding computed
share_short-holds = refl

share_exact-holds : Puts user (asked_in (under 152 3000) 3) (mode_is 3)
unfolding computed
share_exact-holds = refl

up_short-holds : Breaks audit (start_up_def (shared 79 0 3000 0 0 platform)) Side
unfolding computed
up_short-holds = refl

up_exact-holds : start_up_broken (shared 80 0 0 0 0 platform) audit ≡ none
unfolding computed
up_exact-holds = refl

-- ---- the table

pub modes_table : List Row
modes_table = setup_to_audit ∷ over_stray ∷ audit_to_deployed ∷ []

pub modes-hold : HoldAll modes_table
unfolding modes_table
modes-hold = setup_to_audit-holds and over_stray-holds and audit_to_deployed-holds and end
