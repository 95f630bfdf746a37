-- Cases of 02 (b) as rows of a table of their own: appends with 0x20 whose stamp is earlier than the stored one, later, or equal; what rules 9 and 10 still
-- refuse; empty and creating appends. Each holds by evaluation.
-- Assumes nothing.
use Prim.Native.Nat.{ℕ}
use mathlib.Core.Path.{refl}
use mathlib.Core.Bool.{false}
use mathlib.Core.List.{List, [], ◌∷◌, ◌++◌}
use lib.ListN.{replicate}
use Rattle.model.specs.declared.Session.{Session}
use Rattle.model.specs.Answers.{done}
use Rattle.model.specs.Book.{Call, set}
use Rattle.table.proofs.Pieces.{store}
use Rattle.table.proofs.Row.{Row, Holds, HoldAll, end, ◌and◌, computed, refuses, given, session_of, boot, ff, zeros, header, image, guid, rate, four, behind_state, start_id, setting, platform, pk, described}
use Rattle.table.proofs.Held.{held}

-- 1 April and 1 October 2024; the second with other bytes than zeros behind what is compared, as another writer may have left it
abbrev spring : List ℕ
spring = (0xE8 ∷ 0x07 ∷ 0x04 ∷ 0x01 ∷ 0x00 ∷ 0x00 ∷ 0x00 ∷ []) ++ zeros 9

abbrev october : List ℕ
october = 0xE8 ∷ 0x07 ∷ 0x0A ∷ 0x01 ∷ 0x00 ∷ 0x00 ∷ 0x00 ∷ []

abbrev autumn : List ℕ
autumn = october ++ zeros 9

abbrev foreign : List ℕ
foreign = october ++ replicate 9 0xEE

-- dbx and its GUID
abbrev database : List ℕ
database =
    0xCB ∷ 0xB2 ∷ 0x19 ∷ 0xD7 ∷ 0x3A ∷ 0x3D ∷ 0x96 ∷ 0x45 ∷ 0xA3 ∷ 0xBC ∷ 0xDA ∷ 0xD0 ∷ 0x0E ∷ 0x67 ∷ 0x65 ∷ 0x6F ∷ []

abbrev dbx : List ℕ
dbx = 0x64 ∷ 0x00 ∷ 0x62 ∷ 0x00 ∷ 0x78 ∷ 0x00 ∷ 0x00 ∷ 0x00 ∷ []

-- PK stands, so that the mode is user: 60 + 6 + 4 bytes and 2 of padding, 28 to 100
abbrev owner : List ℕ
owner = start_id ++ (0x3F ∷ []) ++ behind_state 0x27 spring 0x06 0x00 0x04 0x00 platform ++ pk ++ four 0x70 ++ ff 2

abbrev user_mode_def : List ℕ
user_mode_def = image (header ++ owner ++ ff 3996)

-- behind it dbx, with a stamp: 60 + 8 + 4 bytes, 100 to 172
abbrev dbx_header : List ℕ → ℕ → List ℕ
dbx_header stamp size = behind_state 0x27 stamp 0x08 0x00 size 0x00 database

abbrev listed : ℕ → List ℕ → List ℕ
listed state stamp = owner ++ start_id ++ (state ∷ []) ++ dbx_header stamp 0x04 ++ dbx ++ four 0x71

abbrev revoked : List ℕ → List ℕ
revoked stamp = image (header ++ listed 0x3F stamp ++ ff 3924)

-- a set of dbx, in a session, with presence and verdict
abbrev revoking : Session → ℕ → List ℕ → List ℕ → ℕ → ℕ → Call
revoking s a stamp bytes presence verdict =
    set false s (record { name = dbx; vendor = database; attributes = a; bytes = described stamp ++ bytes; presence = presence; verdict = verdict })

abbrev more : List ℕ
more = 0x72 ∷ 0x73 ∷ []

-- two bytes are appended: by a call over one stamp, leaving another; 60 + 8 + 6 bytes and 2 of padding, 172 to 248
abbrev joined : List ℕ → Call → List ℕ → Row
joined old call kept = record {
  image = revoked old;
  call = call;
  answer = done 77;
  stores = store 102 (0x3E ∷ [])
      ∷ store 172 start_id
      ∷ store 175 (dbx_header kept 0x06)
      ∷ store 174 (0x7F ∷ [])
      ∷ store 232 dbx
      ∷ store 240 (four 0x71 ++ more)
      ∷ store 174 (0x3F ∷ [])
      ∷ store 102 (0x3C ∷ [])
      ∷ [];
  left = image (header ++ listed 0x3C old ++ start_id ++ (0x3F ∷ []) ++ dbx_header kept 0x06 ++ dbx ++ four 0x71 ++ more ++ ff 3850);
  tail = 248;
}

-- ---- "with 0x20 the stored stamp becomes the later of the two, the old one if neither is later"

abbrev autumn_spring : Row
autumn_spring = joined autumn (revoking boot 0x67 spring more 0 2) autumn

autumn_spring-holds : Holds autumn_spring
unfolding computed
autumn_spring-holds = held autumn_spring refl refl tt tt refl refl

abbrev spring_autumn : Row
spring_autumn = joined spring (revoking boot 0x67 autumn more 0 2) autumn

spring_autumn-holds : Holds spring_autumn
unfolding computed
spring_autumn-holds = held spring_autumn refl refl tt tt refl refl

abbrev tied : Row
tied = joined foreign (revoking boot 0x67 autumn more 0 1) foreign

tied-holds : Holds tied
unfolding computed
tied-holds = held tied refl refl tt tt refl refl

-- in custom mode with presence no verdict is wanted, and the same is stored
abbrev custom : Session
custom = session_of 0 (given 1 0 0)

abbrev in_person_def : Row
in_person_def = joined autumn (revoking custom 0x67 spring more 1 0) autumn

in_person-holds : Holds in_person_def
unfolding computed
in_person-holds = held in_person_def refl refl tt tt refl refl

-- where no value stands there are no two: the append's own
abbrev created : Row
created = record {
  image = user_mode_def;
  call = revoking boot 0x67 spring (four 0x71) 0 2;
  answer = done 73;
  stores = store 100 start_id
      ∷ store 103 (dbx_header spring 0x04)
      ∷ store 102 (0x7F ∷ [])
      ∷ store 160 dbx
      ∷ store 168 (four 0x71)
      ∷ store 102 (0x3F ∷ [])
      ∷ [];
  left = revoked spring;
  tail = 172;
}

created-holds : Holds created
unfolding computed
created-holds = held created refl refl tt tt refl refl

-- without 0x20 the stamp is zeros, also over another writer's: RATE, 28 to 104, and the append behind it
abbrev stamped_rate : ℕ → List ℕ
stamped_rate state = start_id ++ (state ∷ []) ++ behind_state 0x07 autumn 0x0A 0x00 0x04 0x00 guid ++ rate ++ four 0x64 ++ ff 2

abbrev without_stamp : Row
without_stamp = record {
  image = image (header ++ stamped_rate 0x3F ++ ff 3992);
  call = setting rate 0x47 more;
  answer = done 79;
  stores = store 30 (0x3E ∷ [])
      ∷ store 104 start_id
      ∷ store 107 (behind_state 0x07 (zeros 16) 0x0A 0x00 0x06 0x00 guid)
      ∷ store 106 (0x7F ∷ [])
      ∷ store 164 rate
      ∷ store 174 (four 0x64 ++ more)
      ∷ store 106 (0x3F ∷ [])
      ∷ store 30 (0x3C ∷ [])
      ∷ [];
  left = image
      (header
      ++ stamped_rate 0x3C
      ++ start_id
      ++ (0x3F ∷ [])
      ++ behind_state 0x07 (zeros 16) 0x0A 0x00 0x06 0x00 guid
      ++ rate
      ++ four 0x64
      ++ more
      ++ ff 3916);
  tail = 180;
}

without_stamp-holds : Holds without_stamp
unfolding computed
without_stamp-holds = held without_stamp refl refl tt tt refl refl

-- ---- "an empty append still changes nothing": also with a later stamp

abbrev nothing_appended : Row
nothing_appended = record {
  image = revoked spring;
  call = revoking boot 0x67 autumn [] 0 2;
  answer = done 0;
  stores = [];
  left = revoked spring;
  tail = 172;
}

nothing_appended-holds : Holds nothing_appended
unfolding computed
nothing_appended-holds = held nothing_appended refl refl tt tt refl refl

-- ---- "Rule 10 no longer concerns appends": it still concerns other sets, and rule 9 concerns appends as before

abbrev set_earlier : Row
set_earlier = refuses (revoked autumn) 172 (revoking boot 0x27 spring more 0 2) 10

set_earlier-holds : Holds set_earlier
unfolding computed
set_earlier-holds = held set_earlier refl refl tt tt refl refl

abbrev unsigned : Row
unsigned = refuses (revoked autumn) 172 (revoking boot 0x67 spring more 0 0) 9

unsigned-holds : Holds unsigned
unfolding computed
unsigned-holds = held unsigned refl refl tt tt refl refl

-- ---- the table

pub table : List Row
table =
    autumn_spring
    ∷ spring_autumn
    ∷ tied
    ∷ in_person_def
    ∷ created
    ∷ without_stamp
    ∷ nothing_appended
    ∷ set_earlier
    ∷ unsigned
    ∷ []

-- every row holds
pub appends : HoldAll table
unfolding table
appends =
    autumn_spring-holds
    and spring_autumn-holds
    and tied-holds
    and in_person-holds
    and created-holds
    and without_stamp-holds
    and nothing_appended-holds
    and set_earlier-holds
    and unsigned-holds
    and end
