-- 01 and 02 (d), the stored forms: "Each stored form has a header length of its own". Header length, offsets of fields, signature.
use Rattle.std.specs.Prelude.{ℕ, ◌+◌, ◌*◌, Bool, cond, List, [], ◌∷◌, leb}
use Rattle.model.specs.declared.Layout.{Layout}

-- the form in which calls store: "monotonic count u64, time stamp 16, key index u32", seven words of four bytes more than the plain one
abbrev pub authenticated : Layout
authenticated = record { words = 7 }

-- "EDK II's plain store: .. a 32-byte entry header (start id, state, zero, attributes, name size, data size, GUID)"
abbrev pub plain : Layout
plain = record { words = 0 }

-- "an entry header": 32 bytes and the words that a form has more; 60 and 32 by computation
abbrev pub header_length : Layout → ℕ
header_length y = 32 + 4 * y.words

-- where its fields stand: before the words that a form has more, among them, behind them
abbrev pub state_at : ℕ
state_at = 2

abbrev pub attributes_at : ℕ
attributes_at = 4

abbrev pub stamp_at : ℕ
stamp_at = 16

abbrev pub name_size_at : Layout → ℕ
name_size_at y = 8 + 4 * y.words

abbrev pub data_size_at : Layout → ℕ
data_size_at y = 12 + 4 * y.words

abbrev pub vendor_at : Layout → ℕ
vendor_at y = 16 + 4 * y.words

-- a form whose header has room for them has count, stamp and key index
abbrev pub is_stamped_def : Layout → Bool
is_stamped_def y = leb 7 y.words

-- the region's signature, of the authenticated form and of the plain one
unfoldable pub signature : List ℕ
signature =
    0x78 ∷ 0x2C ∷ 0xF3 ∷ 0xAA ∷ 0x7B ∷ 0x94 ∷ 0x9A ∷ 0x43 ∷ 0xA1 ∷ 0x80 ∷ 0x2E ∷ 0x14 ∷ 0x4E ∷ 0xC3 ∷ 0x77 ∷ 0x92 ∷ []

unfoldable pub plain_signature : List ℕ
plain_signature =
    0x16 ∷ 0x36 ∷ 0xCF ∷ 0xDD ∷ 0x75 ∷ 0x32 ∷ 0x64 ∷ 0x41 ∷ 0x98 ∷ 0xB6 ∷ 0xFE ∷ 0x85 ∷ 0x70 ∷ 0x7F ∷ 0xFE ∷ 0x7D ∷ []

abbrev pub signature_of : Layout → List ℕ
signature_of y = cond (is_stamped_def y) signature plain_signature
