-- A row of a table of cases: an image and a call, and what document 01 says of them, which is what holds with w = 1 and no dead byte; and what the rows are
-- made of.
-- Assumes nothing.
use Prim.Native.Nat.{ℕ, ◌-◌, ◌/◌, ◌%◌}
use mathlib.Core.Path.{◌≡◌}
use mathlib.Core.Bool.{false}
use mathlib.Core.List.{List, [], ◌∷◌, ◌++◌, map}
use lib.ListN.{length, replicate}
use Rattle.model.specs.declared.Setup.{Setup}
use Rattle.model.specs.declared.Tenant.{Tenant}
use Rattle.model.specs.declared.Session.{Session}
use Rattle.model.specs.declared.Context.{Context}
use Rattle.model.specs.Image.{region}
use Rattle.model.specs.Region.{tail_at}
use Rattle.model.specs.Answers.{Outcome, done, refused, outcome, image_after, stores_of}
use Rattle.model.specs.Book.{Call, set, plan_of}
use Rattle.model.proofs.Evaluated.{evaluated}
use Rattle.table.proofs.Pieces.{Piece, store, flat, laid_all, all_inside, as_writes}

-- an image, a call; its answer, its stores in their order, the whole image after it, and the offset of that region's tail
pub record Row : Type 0 where
  pub image : List ℕ
  pub call : Call
  pub answer : Outcome
  pub stores : List Piece
  pub left : List ℕ
  pub tail : ℕ

-- more stores than any list here has
abbrev pub unlimited : ℕ
unlimited = 100000

-- no stop, no dead byte, single bytes
abbrev pub quiet : Context
quiet = record { limit = unlimited; count = 0; dead = []; width = 1; side = 0 }

pub record Holds (row : Row) : Type 0 where
  pub answer : outcome quiet (plan_of row.call row.image) row.image ≡ row.answer
  pub stores : stores_of 1 (plan_of row.call row.image) ≡ flat row.stores
  pub left : image_after quiet (plan_of row.call row.image) row.image ≡ row.left
  pub tail : tail_at (region row.left) ≡ row.tail

-- every row of a table holds
infixr 5 ◌and◌
pub data HoldAll : List Row → Type 0 where
  end : HoldAll []
  ◌and◌ : {row : Row} {rows : List Row} → Holds row → HoldAll rows → HoldAll (row ∷ rows)

-- a call that breaks a rule, on an image whose tail begins at an offset
abbrev pub refuses : List ℕ → ℕ → Call → ℕ → Row
refuses img at call rule = record { image = img; call = call; answer = refused rule; stores = []; left = img; tail = at }

-- a call that is done and changes nothing
abbrev pub idles : List ℕ → ℕ → Call → Row
idles img at call = record { image = img; call = call; answer = done 0; stores = []; left = img; tail = at }

-- all that a row's evaluation opens
unfoldable pub computed : Unit {0}
unfolding evaluated flat laid_all all_inside as_writes
computed = tt

-- ---- what the rows are made of; every byte is written out here, and none is taken from the definitions

-- bytes one part after another
abbrev pub joint : List (List ℕ) → List ℕ
joint [] = []
joint (part ∷ parts) = part ++ joint parts

-- what a start-up is given: custom mode, R, H, and rules for settings, each by its bytes, so many of them in use; and without such rules. 02 (f): "In 01's cases our
-- share is L less 28, the rest 0", L being 4,096; beside H it is what H leaves
abbrev pub nobody : Tenant
nobody = record { share = 0; reserve = 0; vendor = replicate 16 0 }

abbrev pub given_rules : ℕ → ℕ → ℕ → ℕ → List (List ℕ) → Setup
given_rules custom reserve h n limits = record {
  custom = custom;
  reserve = reserve;
  records = h;
  share = 4068 - h;
  modem = nobody;
  rules = n;
  limits = joint limits;
}

abbrev pub given : ℕ → ℕ → ℕ → Setup
given custom reserve h = given_rules custom reserve h 0 []

-- no custom mode, no reserve, nothing for error records
abbrev pub plain : Setup
plain = given 0 0 0

-- a phase, so set up, no locks; and the boot phase
abbrev pub session_of : ℕ → Setup → Session
session_of phase setup = record { phase = phase; setup = setup; count = 0; sizes = replicate 16 0; locks = replicate 2304 0 }

abbrev pub boot : Session
boot = session_of 0 plain

abbrev pub ff : ℕ → List ℕ
ff n = replicate n 0xFF

abbrev pub zeros : ℕ → List ℕ
zeros n = replicate n 0

-- the header of a region of L bytes, of which the second byte is given; and of 4,096 bytes
abbrev pub header_of : ℕ → List ℕ
header_of size =
    (0x78 ∷ 0x2C ∷ 0xF3 ∷ 0xAA ∷ 0x7B ∷ 0x94 ∷ 0x9A ∷ 0x43 ∷ 0xA1 ∷ 0x80 ∷ 0x2E ∷ 0x14 ∷ 0x4E ∷ 0xC3 ∷ 0x77 ∷ 0x92 ∷ [])
    ++ (0x00 ∷ size ∷ 0x00 ∷ 0x00 ∷ 0x5A ∷ 0xFE ∷ 0x00 ∷ 0x00 ∷ 0x00 ∷ 0x00 ∷ 0x00 ∷ 0x00 ∷ [])

abbrev pub header : List ℕ
header = header_of 0x10

-- b = 1: a region, a work block, a spare of 4,096 bytes each
abbrev pub image : List ℕ → List ℕ
image content = content ++ ff 8192

abbrev pub empty : List ℕ
empty = image (header ++ ff 4068)

-- GUID 01 02 up to 10
abbrev pub guid : List ℕ
guid =
    0x01 ∷ 0x02 ∷ 0x03 ∷ 0x04 ∷ 0x05 ∷ 0x06 ∷ 0x07 ∷ 0x08 ∷ 0x09 ∷ 0x0A ∷ 0x0B ∷ 0x0C ∷ 0x0D ∷ 0x0E ∷ 0x0F ∷ 0x10 ∷ []

-- RATE in UTF-16, 10 bytes; its data 64 00 00 00, or with another first byte
abbrev pub rate : List ℕ
rate = 0x52 ∷ 0x00 ∷ 0x41 ∷ 0x00 ∷ 0x54 ∷ 0x00 ∷ 0x45 ∷ 0x00 ∷ 0x00 ∷ 0x00 ∷ []

abbrev pub four : ℕ → List ℕ
four b = b ∷ 0x00 ∷ 0x00 ∷ 0x00 ∷ []

-- the bytes of a header behind its state, 57 of them: attributes, stamp, name size and data size in two bytes each, GUID
abbrev pub behind_state : ℕ → List ℕ → ℕ → ℕ → ℕ → ℕ → List ℕ → List ℕ
behind_state attributes stamp n₀ n₁ d₀ d₁ vendor =
    (0x00 ∷ attributes ∷ 0x00 ∷ 0x00 ∷ 0x00 ∷ [])
    ++ zeros 8
    ++ stamp
    ++ zeros 4
    ++ (n₀ ∷ n₁ ∷ 0x00 ∷ 0x00 ∷ d₀ ∷ d₁ ∷ 0x00 ∷ 0x00 ∷ [])
    ++ vendor

abbrev pub start_id : List ℕ
start_id = 0xAA ∷ 0x55 ∷ []

-- the header behind the state of a name of 10 bytes under a GUID, with four bytes of data; RATE's, and its whole entry in a state: 74 bytes, and 2 of padding
abbrev pub ten_and_four : List ℕ → List ℕ
ten_and_four vendor = behind_state 0x07 (zeros 16) 0x0A 0x00 0x04 0x00 vendor

abbrev pub rate_header : List ℕ
rate_header = ten_and_four guid

abbrev pub rate_entry : ℕ → ℕ → List ℕ
rate_entry state b = start_id ++ (state ∷ []) ++ rate_header ++ rate ++ four b ++ ff 2

-- a set with neither presence nor verdict; and in the boot phase, under the GUID above
abbrev pub setting_in : Session → List ℕ → List ℕ → ℕ → List ℕ → Call
setting_in s name vendor attributes bytes =
    set false s (record { name = name; vendor = vendor; attributes = attributes; bytes = bytes; presence = 0; verdict = 0 })

abbrev pub setting : List ℕ → ℕ → List ℕ → Call
setting name attributes bytes = setting_in boot name guid attributes bytes

-- RATE stands
abbrev pub rate_stands : List ℕ
rate_stands = image (header ++ rate_entry 0x3F 0x64 ++ ff 3992)

-- RATE comes into an empty store with four bytes of data: 28 to 104
abbrev pub rated : Session → List ℕ → Row
rated s bytes = record {
  image = empty;
  call = setting_in s rate guid 0x07 bytes;
  answer = done 75;
  stores = store 28 start_id
      ∷ store 31 rate_header
      ∷ store 30 (0x7F ∷ [])
      ∷ store 88 rate
      ∷ store 98 bytes
      ∷ store 30 (0x3F ∷ [])
      ∷ [];
  left = image (header ++ start_id ++ (0x3F ∷ []) ++ rate_header ++ rate ++ bytes ++ ff 2 ++ ff 3992);
  tail = 104;
}

-- two bytes are appended to RATE: 104 to 180
abbrev pub joined : Session → Row
joined s = record {
  image = rate_stands;
  call = setting_in s rate guid 0x47 (0x65 ∷ 0x66 ∷ []);
  answer = done 79;
  stores = store 30 (0x3E ∷ [])
      ∷ store 104 start_id
      ∷ store 107 (behind_state 0x07 (zeros 16) 0x0A 0x00 0x06 0x00 guid)
      ∷ store 106 (0x7F ∷ [])
      ∷ store 164 rate
      ∷ store 174 (four 0x64 ++ (0x65 ∷ 0x66 ∷ []))
      ∷ store 106 (0x3F ∷ [])
      ∷ store 30 (0x3C ∷ [])
      ∷ [];
  left = image
      (header
      ++ rate_entry 0x3C 0x64
      ++ start_id
      ++ (0x3F ∷ [])
      ++ behind_state 0x07 (zeros 16) 0x0A 0x00 0x06 0x00 guid
      ++ rate
      ++ four 0x64
      ++ (0x65 ∷ 0x66 ∷ [])
      ++ ff 3916);
  tail = 180;
}

-- PK and its GUID
abbrev pub platform : List ℕ
platform =
    0x61 ∷ 0xDF ∷ 0xE4 ∷ 0x8B ∷ 0xCA ∷ 0x93 ∷ 0xD2 ∷ 0x11 ∷ 0xAA ∷ 0x0D ∷ 0x00 ∷ 0xE0 ∷ 0x98 ∷ 0x03 ∷ 0x2B ∷ 0x8C ∷ []

abbrev pub pk : List ℕ
pk = 0x50 ∷ 0x00 ∷ 0x4B ∷ 0x00 ∷ 0x00 ∷ 0x00 ∷ []

-- a descriptor: a stamp, length 24, revision, type, certificate GUID
abbrev pub described : List ℕ → List ℕ
described stamp =
    stamp
    ++ (0x18 ∷ 0x00 ∷ 0x00 ∷ 0x00 ∷ 0x00 ∷ 0x02 ∷ 0xF1 ∷ 0x0E ∷ [])
    ++ (0x9D ∷ 0xD2 ∷ 0xAF ∷ 0x4A ∷ 0xDF ∷ 0x68 ∷ 0xEE ∷ 0x49 ∷ 0x8A ∷ 0xA9 ∷ 0x34 ∷ 0x7D ∷ 0x37 ∷ 0x56 ∷ 0x65 ∷ 0xA7 ∷ [])

-- 1 June 2024, 12:30, and a second; PK with that stamp: 60 + 6 + 4 bytes, and 2 of padding
abbrev pub june : ℕ → List ℕ
june second = (0xE8 ∷ 0x07 ∷ 0x06 ∷ 0x01 ∷ 0x0C ∷ 0x1E ∷ second ∷ []) ++ zeros 9

abbrev pub pk_header : ℕ → List ℕ
pk_header second = behind_state 0x27 (june second) 0x06 0x00 0x04 0x00 platform

abbrev pub pk_entry : ℕ → ℕ → ℕ → List ℕ
pk_entry state second b = start_id ++ (state ∷ []) ++ pk_header second ++ pk ++ four b ++ ff 2

-- PK stands, stamped at second 5, so that the mode is user: 28 to 100
abbrev pub user : List ℕ
user = image (header ++ pk_entry 0x3F 5 0x70 ++ ff 3996)

-- PK is set in a session, with presence and verdict
abbrev pub pk_with : Session → ℕ → ℕ → ℕ → List ℕ → ℕ → Call
pk_with s presence attributes second bytes verdict =
    set false s (record { name = pk; vendor = platform; attributes = attributes; bytes = described (june second) ++ bytes; presence = presence; verdict = verdict })

-- 02 (j): PlatMode, 18 bytes; its entry with a byte of data: 79 bytes and 1 of padding
abbrev pub plat_mode : List ℕ
plat_mode =
    0x50 ∷ 0x00 ∷ 0x6C ∷ 0x00 ∷ 0x61 ∷ 0x00 ∷ 0x74 ∷ 0x00 ∷ 0x4D ∷ 0x00 ∷ 0x6F ∷ 0x00 ∷ 0x64 ∷ 0x00 ∷ 0x65 ∷ 0x00 ∷ 0x00 ∷ 0x00 ∷ []

abbrev pub mode_header : List ℕ
mode_header = behind_state 0x07 (zeros 16) 0x12 0x00 0x01 0x00 platform

abbrev pub mode_entry : ℕ → ℕ → List ℕ
mode_entry state m = start_id ++ (state ∷ []) ++ mode_header ++ plat_mode ++ (m ∷ []) ++ ff 1

-- a 3 without a PK, which counts as absent: 28 to 108
abbrev pub stray_three : List ℕ
stray_three = image (header ++ mode_entry 0x3F 3 ++ ff 3988)

-- the error records' GUID, and HwErrRec with four characters behind it: 26 bytes
abbrev pub errors : List ℕ
errors =
    0xDD ∷ 0x6B ∷ 0x4E ∷ 0x41 ∷ 0x7B ∷ 0xE4 ∷ 0xCC ∷ 0x47 ∷ 0xB2 ∷ 0x44 ∷ 0xBB ∷ 0x61 ∷ 0x02 ∷ 0x0C ∷ 0xF5 ∷ 0x16 ∷ []

abbrev pub named : ℕ → ℕ → ℕ → ℕ → List ℕ
named a b c d =
    (0x48 ∷ 0x00 ∷ 0x77 ∷ 0x00 ∷ 0x45 ∷ 0x00 ∷ 0x72 ∷ 0x00 ∷ 0x72 ∷ 0x00 ∷ 0x52 ∷ 0x00 ∷ 0x65 ∷ 0x00 ∷ 0x63 ∷ 0x00 ∷ [])
    ++ (a ∷ 0x00 ∷ b ∷ 0x00 ∷ c ∷ 0x00 ∷ d ∷ 0x00 ∷ 0x00 ∷ 0x00 ∷ [])

-- HwErrRec0001
abbrev pub first : List ℕ
first = named 0x30 0x30 0x30 0x31

-- a record with one byte of data: 60 + 26 + 1 bytes and 1 of padding, 28 to 116
abbrev pub record_header : ℕ → List ℕ
record_header attributes = behind_state attributes (zeros 16) 0x1A 0x00 0x01 0x00 errors

abbrev pub record_entry : ℕ → ℕ → List ℕ → List ℕ
record_entry state attributes name = start_id ++ (state ∷ []) ++ record_header attributes ++ name ++ (0x65 ∷ []) ++ ff 1

abbrev pub record_stands : ℕ → List ℕ → List ℕ
record_stands attributes name = image (header ++ record_entry 0x3F attributes name ++ ff 3980)

-- its stores: 59 of the header, 7F, 26 of the name, 1 of the data, 3F
abbrev pub logged : Session → List ℕ → Row
logged s name = record {
  image = empty;
  call = setting_in s name errors 0x0F (0x65 ∷ []);
  answer = done 88;
  stores = store 28 start_id
      ∷ store 31 (record_header 0x0F)
      ∷ store 30 (0x7F ∷ [])
      ∷ store 88 name
      ∷ store 114 (0x65 ∷ [])
      ∷ store 30 (0x3F ∷ [])
      ∷ [];
  left = record_stands 0x0F name;
  tail = 116;
}

-- ---- rules for settings

-- what a rule wants of a field: an offset, a width, and a number between two or in a list of eight, of which so many are in use
pub record Field : Type 0 where
  pub at : ℕ
  pub width : ℕ
  pub ranged : ℕ
  pub low : ℕ
  pub high : ℕ
  pub count : ℕ
  pub numbers : List ℕ

abbrev pub between : ℕ → ℕ → ℕ → ℕ → Field
between at width low high = record { at = at; width = width; ranged = 1; low = low; high = high; count = 0; numbers = zeros 8 }

-- a number in four bytes, low byte first
abbrev number : ℕ → List ℕ
number n = n % 256 ∷ n / 256 % 256 ∷ n / 65536 % 256 ∷ n / 16777216 ∷ []

-- a rule, 216 bytes: the size of its name, smallest and largest size, read-only or not, the field, and its name, which is in 128 bytes, and GUID
abbrev pub rule : ℕ → List ℕ → List ℕ → ℕ → ℕ → ℕ → Field → List ℕ
rule size name vendor least most fixed field =
    number size
    ++ number least
    ++ number most
    ++ number fixed
    ++ number field.at
    ++ number field.width
    ++ number field.ranged
    ++ number field.low
    ++ number field.high
    ++ number field.count
    ++ joint (map number field.numbers)
    ++ name
    ++ zeros (128 - length name)
    ++ vendor

-- a rule for RATE, of a field
abbrev pub wanting : Field → List ℕ
wanting field = rule 10 rate guid 1 2048 0 field

-- RATE's data are 64 00 00 00, the number 100, which breaks this one
abbrev pub below : List ℕ
below = wanting (between 0 4 0 99)

-- rules in the boot phase, all of them in use
abbrev pub under : List (List ℕ) → Session
under limits = session_of 0 (given_rules 0 0 0 (length limits) limits)

-- 02 (f): what a start-up is given: our share and reserve, the modem's, H, and the modem's GUID
abbrev pub shared : ℕ → ℕ → ℕ → ℕ → ℕ → List ℕ → Setup
shared share reserve modems kept h vendor = record {
  custom = 0;
  reserve = reserve;
  records = h;
  share = share;
  modem = record { share = modems; reserve = kept; vendor = vendor };
  rules = 0;
  limits = [];
}

-- the modem's GUID: 20 up to 2F; one of its names, TEMP, 10 bytes as RATE has
abbrev pub modem : List ℕ
modem =
    0x20 ∷ 0x21 ∷ 0x22 ∷ 0x23 ∷ 0x24 ∷ 0x25 ∷ 0x26 ∷ 0x27 ∷ 0x28 ∷ 0x29 ∷ 0x2A ∷ 0x2B ∷ 0x2C ∷ 0x2D ∷ 0x2E ∷ 0x2F ∷ []

abbrev pub temp : List ℕ
temp = 0x54 ∷ 0x00 ∷ 0x45 ∷ 0x00 ∷ 0x4D ∷ 0x00 ∷ 0x50 ∷ 0x00 ∷ 0x00 ∷ 0x00 ∷ []
