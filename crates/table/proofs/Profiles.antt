-- Cases of 02 (l): the form of a file, two items of one name, items in turn, what is folded in, room, and the two sides. Rows of a table of their own for answers; of a
-- profile that is carried out, the plan: one compaction, and the values that it leaves. Each holds by evaluation.
-- Assumes nothing.
use Prim.Native.Nat.{ℕ}
use mathlib.Core.Path.{◌≡◌, refl, ◌∙◌}
use mathlib.Core.Bool.{Bool, true, false}
use mathlib.Core.List.{List, [], ◌∷◌, ◌++◌}
use mathlib.Core.Option.{none, some}
use lib.ListN.{length, replicate}
use Rattle.model.specs.declared.Session.{Session}
use Rattle.model.specs.declared.Rule.TheVariants.{Length}
use Rattle.model.specs.Entry.{Value}
use Rattle.model.specs.Profile.{number_at}
use Rattle.model.specs.Rules.{profile_broken}
use Rattle.model.specs.Set.{compact_plan}
use Rattle.model.specs.Answers.{done, decided}
use Rattle.model.specs.Book.{Call, profile, profile_plan, entered}
use Rattle.table.proofs.Pieces.{store, clear}
use Rattle.table.proofs.Row.{Row, Holds, HoldAll, end, ◌and◌, computed, refuses, idles, plain, given, boot, session_of, ff, zeros, header, guid, rate, four, behind_state, start_id, rate_entry, rate_stands, platform, pk, errors, first, below, under, shared, modem, temp}
use Rattle.table.proofs.Held.{held, plan-settled}

-- TRIG, 10 bytes as RATE has; with two bytes of data and attributes 0x03
abbrev trig : List ℕ
trig = 0x54 ∷ 0x00 ∷ 0x52 ∷ 0x00 ∷ 0x49 ∷ 0x00 ∷ 0x47 ∷ 0x00 ∷ 0x00 ∷ 0x00 ∷ []

abbrev two : List ℕ
two = 0x01 ∷ 0x02 ∷ []

-- an item whose sizes are below 128: attributes, name size, data size, GUID, name, data
abbrev item : ℕ → List ℕ → List ℕ → List ℕ → List ℕ
item attributes vendor name bytes = (attributes ∷ length name ∷ length bytes ∷ []) ++ vendor ++ name ++ bytes

abbrev the_rate : ℕ → List ℕ
the_rate b = item 0x07 guid rate (four b)

abbrev no_rate : List ℕ
no_rate = item 0x07 guid rate []

abbrev the_trig : List ℕ
the_trig = item 0x03 guid trig two

abbrev the_temp : List ℕ
the_temp = item 0x07 modem temp (four 0x64)

-- files of one item, and of two
abbrev one : List ℕ → List ℕ
one a = 0x01 ∷ a

abbrev pair : List ℕ → List ℕ → List ℕ
pair a b = 0x02 ∷ a ++ b

-- the values that they ask for: with name, GUID, attributes and data
abbrev value : List ℕ → List ℕ → ℕ → List ℕ → Value
value name vendor attributes bytes =
    record { name = name; vendor = vendor; attributes = attributes; stamp = zeros 16; bytes = bytes }

abbrev rate_is : ℕ → Value
rate_is b = value rate guid 0x07 (four b)

abbrev trig_is : Value
trig_is = value trig guid 0x03 two

-- a profile of ours in the boot phase
abbrev profiling : List ℕ → Call
profiling file = profile false boot file

-- RATE stands with 64 00 00 00. A profile over it is refused; and one by a side in a session is a compaction that leaves these values
abbrev broken : List ℕ → ℕ → Row
broken file rule = refuses rate_stands 104 (profiling file) rule

abbrev Folds : Bool → Session → List ℕ → List Value → Type 0
Folds m s file vs = profile_plan m s file rate_stands ≡ compact_plan rate_stands vs

-- ---- "Numbers are groups of seven bits, low group first, top bit set where another follows, shortest form, three at most"

zero-holds : number_at (0x00 ∷ 0x07 ∷ []) ≡ some (record { value = 0; rest = 0x07 ∷ [] })
unfolding computed
zero-holds = refl

two_groups-holds : number_at (0x80 ∷ 0x01 ∷ []) ≡ some (record { value = 128; rest = [] })
unfolding computed
two_groups-holds = refl

low_first-holds : number_at (0x81 ∷ 0x10 ∷ []) ≡ some (record { value = 2049; rest = [] })
unfolding computed
low_first-holds = refl

largest-holds : number_at (0xFF ∷ 0xFF ∷ 0x7F ∷ []) ≡ some (record { value = 2097151; rest = [] })
unfolding computed
largest-holds = refl

four_groups-holds : number_at (0x80 ∷ 0x80 ∷ 0x80 ∷ 0x01 ∷ []) ≡ none
unfolding computed
four_groups-holds = refl

not_shortest-holds : number_at (0x80 ∷ 0x00 ∷ []) ≡ none
unfolding computed
not_shortest-holds = refl

third_not_shortest-holds : number_at (0x81 ∷ 0x80 ∷ 0x00 ∷ []) ≡ none
unfolding computed
third_not_shortest-holds = refl

unfinished-holds : number_at (0x80 ∷ []) ≡ none
unfolding computed
unfinished-holds = refl

-- ---- "25 when the file is not of this form or leaves bytes over, after 2"

-- no bytes at all
abbrev no_file : Row
no_file = broken [] 25

no_file-holds : Holds no_file
unfolding computed
no_file-holds = held no_file refl refl tt tt refl refl

-- 80 00 is no number of items, and 8A 00 no name size
abbrev long_number : Row
long_number = broken (0x80 ∷ 0x00 ∷ []) 25

long_number-holds : Holds long_number
unfolding computed
long_number-holds = held long_number refl refl tt tt refl refl

abbrev long_size : Row
long_size = broken ((0x01 ∷ 0x07 ∷ 0x8A ∷ 0x00 ∷ 0x04 ∷ []) ++ guid ++ rate ++ four 0x65) 25

long_size-holds : Holds long_size
unfolding computed
long_size-holds = held long_size refl refl tt tt refl refl

-- "up to eight settings"; eight are of the form
abbrev nine : Row
nine = broken ((0x09 ∷ []) ++ the_trig ++ the_trig ++ the_trig ++ the_trig ++ the_trig ++ the_trig ++ the_trig ++ the_trig ++ the_trig) 25

nine-holds : Holds nine
unfolding computed
nine-holds = held nine refl refl tt tt refl refl

abbrev eight : Row
eight = broken ((0x08 ∷ []) ++ the_trig ++ the_trig ++ the_trig ++ the_trig ++ the_trig ++ the_trig ++ the_trig ++ the_trig) 26

eight-holds : Holds eight
unfolding computed
eight-holds = held eight refl refl tt tt refl refl

-- a byte left over; a byte and an item too few
abbrev over : Row
over = broken (one the_trig ++ (0x00 ∷ [])) 25

over-holds : Holds over
unfolding computed
over-holds = held over refl refl tt tt refl refl

abbrev cut : Row
cut = broken (one ((0x03 ∷ 0x0A ∷ 0x03 ∷ []) ++ guid ++ trig ++ two)) 25

cut-holds : Holds cut
unfolding computed
cut-holds = held cut refl refl tt tt refl refl

abbrev missing : Row
missing = broken (0x02 ∷ the_trig) 25

missing-holds : Holds missing
unfolding computed
missing-holds = held missing refl refl tt tt refl refl

-- "Attributes are 0x03 or 0x07"
abbrev timed : Row
timed = broken (one (item 0x27 guid trig two)) 25

timed-holds : Holds timed
unfolding computed
timed-holds = held timed refl refl tt tt refl refl

abbrev no_attributes : Row
no_attributes = broken (one (item 0x00 guid rate [])) 25

no_attributes-holds : Holds no_attributes
unfolding computed
no_attributes-holds = held no_attributes refl refl tt tt refl refl

-- a work block that ends in FC; an image that is a byte too short
abbrev unready : Row
unready = refuses ((header ++ rate_entry 0x3F 0x64 ++ ff 3992) ++ (0xFC ∷ []) ++ ff 8191) 104 (profiling []) 2

unready-holds : Holds unready
unfolding computed
unready-holds = held unready refl refl tt tt refl refl

short-holds : profile_broken false boot [] ((header ++ rate_entry 0x3F 0x64 ++ ff 3992) ++ ff 8191) ≡ some Length
unfolding computed
short-holds = refl

-- ---- "26 when two items share name and GUID, after 25"

-- also of names that are not well formed, before any item's own rules
abbrev twice : Row
twice = broken (pair (item 0x07 guid (0x01 ∷ []) []) (item 0x03 guid (0x01 ∷ []) two)) 26

twice-holds : Holds twice
unfolding computed
twice-holds = held twice refl refl tt tt refl refl

abbrev twice_last : Row
twice_last = broken ((0x03 ∷ []) ++ the_trig ++ the_rate 0x65 ++ the_trig) 26

twice_last-holds : Holds twice_last
unfolding computed
twice_last-holds = held twice_last refl refl tt tt refl refl

abbrev twice_later : Row
twice_later = broken ((0x03 ∷ []) ++ the_rate 0x65 ++ the_trig ++ the_trig) 26

twice_later-holds : Holds twice_later
unfolding computed
twice_later-holds = held twice_later refl refl tt tt refl refl

abbrev twice_over : Row
twice_over = broken (pair the_trig the_trig ++ (0x00 ∷ [])) 25

twice_over-holds : Holds twice_over
unfolding computed
twice_over-holds = held twice_over refl refl tt tt refl refl

-- one name under two GUIDs
other_guid-holds : Folds false boot (pair (the_rate 0x65) (item 0x07 errors rate two)) (rate_is 0x65 ∷ value rate errors 0x07 two ∷ [])
unfolding computed
other_guid-holds = refl

-- ---- "Each item is checked in turn as if those before it stood": each by all its rules before the next

-- a name of three bytes is of the form, and breaks 3
abbrev ill_named : Row
ill_named = broken (one (item 0x03 guid (0x01 ∷ 0x02 ∷ 0x03 ∷ []) two)) 3

ill_named-holds : Holds ill_named
unfolding computed
ill_named-holds = held ill_named refl refl tt tt refl refl

-- 0x03 at runtime
abbrev late : Row
late = refuses rate_stands 104 (profile false (session_of 2 plain) (one the_trig)) 4

late-holds : Holds late
unfolding computed
late-holds = held late refl refl tt tt refl refl

-- PK; an error record's name
abbrev key_name : Row
key_name = broken (one (item 0x07 platform pk two)) 5

key_name-holds : Holds key_name
unfolding computed
key_name-holds = held key_name refl refl tt tt refl refl

abbrev record_named : Row
record_named = broken (one (item 0x07 errors first two)) 17

record_named-holds : Holds record_named
unfolding computed
record_named-holds = held record_named refl refl tt tt refl refl

-- RATE is locked, and boot is over
abbrev locked : Session
locked = record { phase = 1; setup = plain; count = 1; sizes = 0x0A ∷ zeros 15; locks = rate ++ zeros 118 ++ guid ++ zeros 2160 }

abbrev locked_name : Row
locked_name = refuses rate_stands 104 (profile false locked (pair the_trig (the_rate 0x65))) 6

locked_name-holds : Holds locked_name
unfolding computed
locked_name-holds = held locked_name refl refl tt tt refl refl

-- RATE has 0x07
abbrev other_attributes : Row
other_attributes = broken (one (item 0x03 guid rate (four 0x65))) 7

other_attributes-holds : Holds other_attributes
unfolding computed
other_attributes-holds = held other_attributes refl refl tt tt refl refl

-- "empty data deletes", and TRIG is absent
abbrev absent : Row
absent = broken (one (item 0x03 guid trig [])) 11

absent-holds : Holds absent
unfolding computed
absent-holds = held absent refl refl tt tt refl refl

-- 2,049 bytes of data, and then a name that is not well formed; and the other way round
abbrev in_turn : Row
in_turn = broken ((0x02 ∷ 0x07 ∷ 0x0A ∷ 0x81 ∷ 0x10 ∷ []) ++ guid ++ trig ++ replicate 2049 0x01 ++ item 0x03 guid (0x01 ∷ []) two) 12

in_turn-holds : Holds in_turn
unfolding computed
in_turn-holds = held in_turn refl refl tt tt refl refl

abbrev in_turn_back : Row
in_turn_back = broken ((0x02 ∷ []) ++ item 0x03 guid (0x01 ∷ []) two ++ (0x07 ∷ 0x0A ∷ 0x81 ∷ 0x10 ∷ []) ++ guid ++ trig ++ replicate 2049 0x01) 3

in_turn_back-holds : Holds in_turn_back
unfolding computed
in_turn_back-holds = held in_turn_back refl refl tt tt refl refl

-- a rule for RATE, also where the item changes nothing
abbrev setting : Row
setting = refuses rate_stands 104 (profile false (under (below ∷ [])) (pair the_trig (the_rate 0x64))) 21

setting-holds : Holds setting
unfolding computed
setting-holds = held setting refl refl tt tt refl refl

-- 21 of an item before 11 of the next
abbrev setting_first : Row
setting_first = refuses rate_stands 104 (profile false (under (below ∷ [])) (pair (the_rate 0x64) (item 0x03 guid trig []))) 21

setting_first-holds : Holds setting_first
unfolding computed
setting_first-holds = held setting_first refl refl tt tt refl refl

-- ---- "The whole profile is one compaction, or no stores if nothing differs"; "changed values stand last, in file order"

-- RATE changes and TRIG comes: every store of it. 28 to 104, and 72 bytes to 176
abbrev after : List ℕ
after =
    header
    ++ rate_entry 0x3F 0x65
    ++ start_id
    ++ (0x3F ∷ [])
    ++ behind_state 0x03 (zeros 16) 0x0A 0x00 0x02 0x00 guid
    ++ trig
    ++ two
    ++ ff 3920

abbrev both : Row
both = record {
  image = rate_stands;
  call = profiling (pair (the_rate 0x65) the_trig);
  answer = done 8197;
  stores = store 4096 (0xFE ∷ [])
      ∷ store 8192 after
      ∷ store 4096 (0xFC ∷ [])
      ∷ clear 0
      ∷ store 0 after
      ∷ store 4096 (0xF8 ∷ [])
      ∷ clear 2
      ∷ [];
  left = after ++ (0xF8 ∷ []) ++ ff 8191;
  tail = 176;
}

both-holds : Holds both
unfolding computed
both-holds = held both refl refl tt tt refl refl

-- "FC decides for all items together": it is the 4,098th store
before_fc-holds : decided 1 4097 (profile_plan false boot (pair (the_rate 0x65) the_trig) rate_stands) ≡ false
unfolding computed
before_fc-holds = plan-settled 4097 (profile_plan false boot (pair (the_rate 0x65) the_trig) rate_stands) ∙ refl

at_fc-holds : decided 1 4098 (profile_plan false boot (pair (the_rate 0x65) the_trig) rate_stands) ≡ true
unfolding computed
at_fc-holds = plan-settled 4098 (profile_plan false boot (pair (the_rate 0x65) the_trig) rate_stands) ∙ refl

-- the book takes the items "as sets, in file order"
as_sets-holds : entered (profiling (pair (the_rate 0x65) the_trig)) (rate_is 0x64 ∷ []) ≡ rate_is 0x65 ∷ trig_is ∷ []
unfolding computed
as_sets-holds = refl

-- in the file's order
file_order-holds : Folds false boot (pair the_trig (the_rate 0x65)) (trig_is ∷ rate_is 0x65 ∷ [])
unfolding computed
file_order-holds = refl

-- an equal item keeps its place
equal_stays-holds : Folds false boot (pair the_trig (the_rate 0x64)) (rate_is 0x64 ∷ trig_is ∷ [])
unfolding computed
equal_stays-holds = refl

-- also for one item, though the tail has room; and for a delete
alone-holds : Folds false boot (one (the_rate 0x65)) (rate_is 0x65 ∷ [])
unfolding computed
alone-holds = refl

goes-holds : Folds false boot (one no_rate) []
unfolding computed
goes-holds = refl

exchanged-holds : Folds false boot (pair the_trig no_rate) (trig_is ∷ [])
unfolding computed
exchanged-holds = refl

-- nothing differs; no items
abbrev only_equal : Row
only_equal = idles rate_stands 104 (profiling (one (the_rate 0x64)))

only_equal-holds : Holds only_equal
unfolding computed
only_equal-holds = held only_equal refl refl tt tt refl refl

abbrev no_items_def : Row
no_items_def = idles rate_stands 104 (profiling (0x00 ∷ []))

no_items-holds : Holds no_items_def
unfolding computed
no_items-holds = held no_items_def refl refl tt tt refl refl

-- ---- "room is judged after the last, if one stores a value"

-- the two take 148 bytes. H leaves 147, and 148
abbrev no_room_def : Row
no_room_def = refuses rate_stands 104 (profile false (session_of 0 (given 0 0 3921)) (pair (the_rate 0x65) the_trig)) 13

no_room-holds : Holds no_room_def
unfolding computed
no_room-holds = held no_room_def refl refl tt tt refl refl

exact_room-holds : Folds false (session_of 0 (given 0 0 3920)) (pair (the_rate 0x65) the_trig) (rate_is 0x65 ∷ trig_is ∷ [])
unfolding computed
exact_room-holds = refl

-- H leaves 72: a later item makes room for an earlier one
room_made-holds : Folds false (session_of 0 (given 0 0 3996)) (pair the_trig no_rate) (trig_is ∷ [])
unfolding computed
room_made-holds = refl

-- a delete and an equal item never meet 13
room_unasked-holds : Folds false (session_of 0 (given 0 0 5000)) (one no_rate) []
unfolding computed
room_unasked-holds = refl

abbrev equal_unasked : Row
equal_unasked = idles rate_stands 104 (profile false (session_of 0 (given 0 0 5000)) (one (the_rate 0x64)))

equal_unasked-holds : Holds equal_unasked
unfolding computed
equal_unasked-holds = held equal_unasked refl refl tt tt refl refl

-- H leaves 76, and R counts at runtime
abbrev reserved : Row
reserved = refuses rate_stands 104 (profile false (session_of 2 (given 0 1 3992)) (one (the_rate 0x65))) 13

reserved-holds : Holds reserved
unfolding computed
reserved-holds = held reserved refl refl tt tt refl refl

unreserved-holds : Folds false (session_of 0 (given 0 1 3992)) (one (the_rate 0x65)) (rate_is 0x65 ∷ [])
unfolding computed
unreserved-holds = refl

-- ---- 02 (f): 22 by item; room by the side's share

-- our share, and the modem's
abbrev sides : ℕ → ℕ → Session
sides ours modems = session_of 0 (shared ours 0 modems 0 0 modem)

abbrev foreign_item : Row
foreign_item = refuses rate_stands 104 (profile false (sides 4068 0) (pair (the_rate 0x65) the_temp)) 22

foreign_item-holds : Holds foreign_item
unfolding computed
foreign_item-holds = held foreign_item refl refl tt tt refl refl

-- in its turn: after what an item before it breaks, and after 26
abbrev foreign_after : Row
foreign_after = refuses rate_stands 104 (profile false (sides 4068 0) (pair (item 0x07 guid temp []) the_temp)) 11

foreign_after-holds : Holds foreign_after
unfolding computed
foreign_after-holds = held foreign_after refl refl tt tt refl refl

abbrev foreign_before : Row
foreign_before = refuses rate_stands 104 (profile false (sides 4068 0) (pair the_temp (item 0x07 guid temp []))) 22

foreign_before-holds : Holds foreign_before
unfolding computed
foreign_before-holds = held foreign_before refl refl tt tt refl refl

abbrev foreign_twice : Row
foreign_twice = refuses rate_stands 104 (profile false (sides 4068 0) (pair the_temp the_temp)) 26

foreign_twice-holds : Holds foreign_twice
unfolding computed
foreign_twice-holds = held foreign_twice refl refl tt tt refl refl

-- TEMP takes 76 of the modem's share
abbrev own_share : Row
own_share = refuses rate_stands 104 (profile true (sides 3993 75) (one the_temp)) 13

own_share-holds : Holds own_share
unfolding computed
own_share-holds = held own_share refl refl tt tt refl refl

own_share_exact-holds : Folds true (sides 76 76) (one the_temp) (rate_is 0x64 ∷ value temp modem 0x07 (four 0x64) ∷ [])
unfolding computed
own_share_exact-holds = refl

-- ---- the table

pub profiles : List Row
profiles =
    no_file
    ∷ long_number
    ∷ long_size
    ∷ nine
    ∷ eight
    ∷ over
    ∷ cut
    ∷ missing
    ∷ timed
    ∷ no_attributes
    ∷ unready
    ∷ twice
    ∷ twice_last
    ∷ twice_later
    ∷ twice_over
    ∷ ill_named
    ∷ late
    ∷ key_name
    ∷ record_named
    ∷ locked_name
    ∷ other_attributes
    ∷ absent
    ∷ in_turn
    ∷ in_turn_back
    ∷ setting
    ∷ setting_first
    ∷ both
    ∷ only_equal
    ∷ no_items_def
    ∷ no_room_def
    ∷ equal_unasked
    ∷ reserved
    ∷ foreign_item
    ∷ foreign_after
    ∷ foreign_before
    ∷ foreign_twice
    ∷ own_share
    ∷ []

pub profiles-hold : HoldAll profiles
unfolding profiles
profiles-hold =
    no_file-holds
    and long_number-holds
    and long_size-holds
    and nine-holds
    and eight-holds
    and over-holds
    and cut-holds
    and missing-holds
    and timed-holds
    and no_attributes-holds
    and unready-holds
    and twice-holds
    and twice_last-holds
    and twice_later-holds
    and twice_over-holds
    and ill_named-holds
    and late-holds
    and key_name-holds
    and record_named-holds
    and locked_name-holds
    and other_attributes-holds
    and absent-holds
    and in_turn-holds
    and in_turn_back-holds
    and setting-holds
    and setting_first-holds
    and both-holds
    and only_equal-holds
    and no_items-holds
    and no_room-holds
    and equal_unasked-holds
    and reserved-holds
    and foreign_item-holds
    and foreign_after-holds
    and foreign_before-holds
    and foreign_twice-holds
    and own_share-holds
    and end
