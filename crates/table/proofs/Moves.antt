-- Cases of 02 (d) as rows of a table of their own: moves between the plain form and the new one. A row has source and target, and what the paper says of them: the
-- answer, and every byte of the target after it. Each holds by evaluation. The images are written out byte by byte from the paper, and none is taken from the
-- definitions; unless a row says otherwise the target is 12,288 bytes of A5, so that a byte which a move leaves alone is seen.
-- Assumes nothing.
use Prim.Native.Nat.{ℕ, ◌-◌}
use mathlib.Core.Path.{◌≡◌, refl, ap, ◌∙◌}
use mathlib.Core.List.{List, [], ◌∷◌, ◌++◌}
use mathlib.Core.Option.{Option, none, some}
use lib.ListN.{length, replicate}
use Rattle.model.specs.declared.Layout.{Layout}
use Rattle.model.specs.declared.Rule.{Rule}
use Rattle.model.specs.declared.Rule.TheVariants.{Length, Room, Source, TimeBased}
use Rattle.model.specs.Lists.{on_some}
use Rattle.model.specs.Layout.{authenticated, plain}
use Rattle.model.specs.Image.{region_size}
use Rattle.model.specs.Compact.{encode_in}
use Rattle.model.specs.Move.{moved_values, move_broken, moved, image_moved, move_answer}
use Rattle.model.specs.Answers.{Outcome, done, refused, rule_number}
use Rattle.table.proofs.Row.{computed, ff, zeros, header, header_of, image, guid, rate, four, behind_state, start_id, rate_entry, rate_stands}

pub record Move : Type 0 where
  pub from : Layout
  pub to : Layout
  pub source : List ℕ
  pub target : List ℕ
  pub answer : Outcome
  pub left : List ℕ

pub record Holds (row : Move) : Type 0 where
  pub answer : move_answer row.from row.to row.source row.target ≡ row.answer
  pub left : image_moved row.from row.to row.source row.target ≡ row.left

-- every row of a table holds
infixr 5 ◌and◌
pub data HoldAll : List Move → Type 0 where
  end : HoldAll []
  ◌and◌ : {row : Move} {rows : List Move} → Holds row → HoldAll rows → HoldAll (row ∷ rows)

-- ---- what the rows are made of

abbrev other : ℕ → List ℕ
other size = replicate size 0xA5

-- a move into the new form, or into the plain one, that leaves an image; one that is refused by a rule, and then the target stays
abbrev to_new : List ℕ → List ℕ → Move
to_new source left = record { from = plain; to = authenticated; source = source; target = other 12288; answer = done 0; left = left }

abbrev to_plain : List ℕ → List ℕ → Move
to_plain source left = record { from = authenticated; to = plain; source = source; target = other 12288; answer = done 0; left = left }

abbrev new_refused : ℕ → List ℕ → List ℕ → Move
new_refused rule source target = record { from = plain; to = authenticated; source = source; target = target; answer = refused rule; left = target }

abbrev plain_refused : ℕ → List ℕ → List ℕ → Move
plain_refused rule source target = record { from = authenticated; to = plain; source = source; target = target; answer = refused rule; left = target }

-- b = 2: a region of 8,192 bytes, a work block, a spare of 8,192 bytes
abbrev two_blocks : List ℕ → List ℕ
two_blocks content = content ++ ff 12288

-- "signature 16 36 CF DD ..": the header of a region of L bytes in the plain form, of which the second byte is given; the rest is as in the new form
abbrev old_header_of : ℕ → List ℕ
old_header_of size =
    (0x16 ∷ 0x36 ∷ 0xCF ∷ 0xDD ∷ 0x75 ∷ 0x32 ∷ 0x64 ∷ 0x41 ∷ 0x98 ∷ 0xB6 ∷ 0xFE ∷ 0x85 ∷ 0x70 ∷ 0x7F ∷ 0xFE ∷ 0x7D ∷ [])
    ++ (0x00 ∷ size ∷ 0x00 ∷ 0x00 ∷ 0x5A ∷ 0xFE ∷ 0x00 ∷ 0x00 ∷ 0x00 ∷ 0x00 ∷ 0x00 ∷ 0x00 ∷ [])

abbrev old_header : List ℕ
old_header = old_header_of 0x10

-- "a 32-byte entry header (start id, state, zero, attributes, name size, data size, GUID)", here in a state and with sizes of two bytes each
abbrev old_entry_header : ℕ → ℕ → ℕ → ℕ → ℕ → ℕ → List ℕ
old_entry_header state attributes n₀ n₁ d₀ d₁ =
    start_id
    ++ (state ∷ 0x00 ∷ attributes ∷ 0x00 ∷ 0x00 ∷ 0x00 ∷ [])
    ++ (n₀ ∷ n₁ ∷ 0x00 ∷ 0x00 ∷ d₀ ∷ d₁ ∷ 0x00 ∷ 0x00 ∷ [])
    ++ guid

-- the header of the new form, with a stamp
abbrev new_entry_header : ℕ → ℕ → List ℕ → ℕ → ℕ → ℕ → ℕ → List ℕ
new_entry_header state attributes stamp n₀ n₁ d₀ d₁ = start_id ++ (state ∷ []) ++ behind_state attributes stamp n₀ n₁ d₀ d₁ guid

-- RATE in the plain form: 32 + 10 + 4 = 46 bytes, and 2 of padding
abbrev old_rate : ℕ → ℕ → List ℕ
old_rate state b = old_entry_header state 0x07 0x0A 0x00 0x04 0x00 ++ rate ++ four b ++ ff 2

-- 28 to 76
abbrev old_rate_stands : List ℕ
old_rate_stands = image (old_header ++ old_rate 0x3F 0x64 ++ ff 4020)

-- a name of four bytes
abbrev letter : ℕ → List ℕ
letter c = c ∷ 0x00 ∷ 0x00 ∷ 0x00 ∷ []

-- a value under it, of one byte: in the plain form 32 + 4 + 1 = 37 bytes and 3 of padding, in the new one 60 + 4 + 1 = 65 and 3
abbrev old_letter : ℕ → ℕ → ℕ → ℕ → List ℕ
old_letter state attributes c b = old_entry_header state attributes 0x04 0x00 0x01 0x00 ++ letter c ++ (b ∷ []) ++ ff 3

abbrev new_letter : ℕ → List ℕ → ℕ → ℕ → List ℕ
new_letter attributes stamp c b = new_entry_header 0x3F attributes stamp 0x04 0x00 0x01 0x00 ++ letter c ++ (b ∷ []) ++ ff 3

-- 1 October 2024
abbrev autumn : List ℕ
autumn = (0xE8 ∷ 0x07 ∷ 0x0A ∷ 0x01 ∷ 0x00 ∷ 0x00 ∷ 0x00 ∷ []) ++ zeros 9

-- ---- a move that is done and one that is refused, evaluated whole

-- an empty store
abbrev nothing : Move
nothing = to_new (image (old_header ++ ff 4068)) (image (header ++ ff 4068))

nothing-holds : Holds nothing
unfolding computed
nothing-holds = record { answer = refl; left = refl }

-- 12,287 bytes
abbrev source_short : Move
source_short = new_refused 1 (old_header ++ ff 12259) (other 12288)

source_short-holds : Holds source_short
unfolding computed
source_short-holds = record { answer = refl; left = refl }

-- the other rows hold by the rule that is broken, or none, which is evaluated once for answer and image; and by the region that is left and the number of FF behind it
module _ (row : Move) where
  pub accepted : (content : List ℕ) (rest : ℕ)
      → move_broken row.from row.to row.source row.target ≡ none
      → done 0 ≡ row.answer
      → encode_in row.to (region_size row.target) (moved_values row.from row.source) ≡ content
      → length row.target - region_size row.target ≡ rest
      → content ++ ff rest ≡ row.left
      → Holds row
  unfolding image_moved move_answer moved
  accepted content rest whole answer front blank left = record {
    answer = ap (λ (o : Option Rule). on_some o (λ rule. refused (rule_number rule)) (done 0)) whole ∙ answer;
    left = ap (λ (o : Option Rule). on_some o (λ rule. row.target) (moved row.from row.to row.source row.target)) whole
        ∙ ap (λ (l : List ℕ). l ++ ff (length row.target - region_size row.target)) front
        ∙ ap (λ (n : ℕ). content ++ ff n) blank
        ∙ left;
  }

  pub declined : (rule : Rule)
      → move_broken row.from row.to row.source row.target ≡ some rule
      → refused (rule_number rule) ≡ row.answer
      → row.target ≡ row.left
      → Holds row
  unfolding image_moved move_answer
  declined rule breaks answer left = record {
    answer = ap (λ (o : Option Rule). on_some o (λ rule. refused (rule_number rule)) (done 0)) breaks ∙ answer;
    left = ap (λ (o : Option Rule). on_some o (λ rule. row.target) (moved row.from row.to row.source row.target)) breaks ∙ left;
  }

-- ---- "header, values as 3F entries, and FF"

-- RATE: 28 to 104 in the new form, count, stamp and key index zeros
abbrev out : Move
out = to_new old_rate_stands (image (header ++ rate_entry 0x3F 0x64 ++ ff 3992))

out-holds : Holds out
unfolding computed
out-holds = accepted out (header ++ rate_entry 0x3F 0x64 ++ ff 3992) 8192 refl refl refl refl refl

-- and home again: 28 to 76
abbrev home : Move
home = to_plain rate_stands old_rate_stands

home-holds : Holds home
unfolding computed
home-holds = accepted home (old_header ++ old_rate 0x3F 0x64 ++ ff 4020) 8192 refl refl refl refl refl

-- values, attributes and order are kept: RATE, which is 3E alone and becomes 3F; B with 0x20, whose stamp is zeros; C. What is no value stays behind: A's 3D and
-- 3C entries; a header that was begun, in the plain form an entry of 32 bytes; C's 3E entry, since its 3F entry stands; D, which is 7F, never added.
-- In the source 28 + 40 + 48 + 40 + 32 + 40 + 40 + 40 + 40 = 348 bytes, in the target 28 + 76 + 68 + 68 = 240
abbrev begun : List ℕ
begun = start_id ++ (0xFF ∷ 0x00 ∷ 0x07 ∷ []) ++ ff 27

abbrev behind : Move
behind =
    to_new
    (image
    (old_header
    ++ old_letter 0x3D 0x07 0x41 0x01
    ++ old_rate 0x3E 0x64
    ++ old_letter 0x3E 0x03 0x43 0x02
    ++ begun
    ++ old_letter 0x3F 0x27 0x42 0x03
    ++ old_letter 0x3C 0x07 0x41 0x04
    ++ old_letter 0x3F 0x03 0x43 0x05
    ++ old_letter 0x7F 0x07 0x44 0x06
    ++ ff 3748))
    (image (header ++ rate_entry 0x3F 0x64 ++ new_letter 0x27 (zeros 16) 0x42 0x03 ++ new_letter 0x03 (zeros 16) 0x43 0x05 ++ ff 3856))

behind-holds : Holds behind
unfolding computed
behind-holds = accepted behind (header ++ rate_entry 0x3F 0x64 ++ new_letter 0x27 (zeros 16) 0x42 0x03 ++ new_letter 0x03 (zeros 16) 0x43 0x05 ++ ff 3856) 8192 refl refl refl refl refl

-- from the new form, where a header that was begun is an entry of 60 bytes. Nobody looks at an entry's zero byte, count, key index and padding, at a stamp without
-- 0x20, or at the record of a compaction that was finished: in the target there are zeros, FF, and no stamp. 28 + 76 + 60 + 76 = 240
abbrev unseen : Move
unseen =
    to_plain
    (header
    ++ rate_entry 0x3D 0x65
    ++ begun
    ++ ff 28
    ++ start_id
    ++ (0x3F ∷ 0x5A ∷ 0x07 ∷ 0x00 ∷ 0x00 ∷ 0x00 ∷ [])
    ++ replicate 8 0x11
    ++ autumn
    ++ replicate 4 0x22
    ++ (0x0A ∷ 0x00 ∷ 0x00 ∷ 0x00 ∷ 0x04 ∷ 0x00 ∷ 0x00 ∷ 0x00 ∷ [])
    ++ guid
    ++ rate
    ++ four 0x64
    ++ replicate 2 0x33
    ++ ff 3856
    ++ (0xF8 ∷ [])
    ++ ff 8191)
    old_rate_stands

unseen-holds : Holds unseen
unfolding computed
unseen-holds = accepted unseen (old_header ++ old_rate 0x3F 0x64 ++ ff 4020) 8192 refl refl refl refl refl

-- "stamps become zero in the new form"; the definitions have any two forms: from the new form into the new form, where there is a stamp to lose
abbrev stamp_zero : Move
stamp_zero = record {
  from = authenticated;
  to = authenticated;
  source = image (header ++ new_letter 0x27 autumn 0x41 0x01 ++ ff 4000);
  target = other 12288;
  answer = done 0;
  left = image (header ++ new_letter 0x27 (zeros 16) 0x41 0x01 ++ ff 4000);
}

stamp_zero-holds : Holds stamp_zero
unfolding computed
stamp_zero-holds = accepted stamp_zero (header ++ new_letter 0x27 (zeros 16) 0x41 0x01 ++ ff 4000) 8192 refl refl refl refl refl

-- ---- "1 is tried on both"

abbrev target_long : Move
target_long = new_refused 1 old_rate_stands (other 12289)

target_long-holds : Holds target_long
unfolding computed
target_long-holds = declined target_long Length refl refl refl

-- four blocks; and 1 before 19, the source being blank
abbrev target_even : Move
target_even = plain_refused 1 (ff 12288) (other 16384)

target_even-holds : Holds target_even
unfolding computed
target_even-holds = declined target_even Length refl refl refl

-- ---- "19, in the place of 2, when the source breaks 2 in its form"

abbrev new_as_plain : Move
new_as_plain = new_refused 19 rate_stands (other 12288)

new_as_plain-holds : Holds new_as_plain
unfolding computed
new_as_plain-holds = declined new_as_plain Source refl refl refl

abbrev plain_as_new : Move
plain_as_new = plain_refused 19 old_rate_stands (other 12288)

plain_as_new-holds : Holds plain_as_new
unfolding computed
plain_as_new-holds = declined plain_as_new Source refl refl refl

-- ---- "20 when a value with 0x20 would go to the plain form, after 19"

-- behind a value without it
abbrev time_based_def : Move
time_based_def = plain_refused 20 (image (header ++ rate_entry 0x3F 0x64 ++ new_letter 0x23 autumn 0x41 0x01 ++ ff 3924)) (other 12288)

time_based-holds : Holds time_based_def
unfolding computed
time_based-holds = declined time_based_def TimeBased refl refl refl

-- the spare's last byte is used: 19 before 20
abbrev source_first : Move
source_first = plain_refused 19 (header ++ new_letter 0x27 autumn 0x41 0x01 ++ ff 12191 ++ (0x00 ∷ [])) (other 12288)

source_first-holds : Holds source_first
unfolding computed
source_first-holds = declined source_first Source refl refl refl

-- ---- "13, without reserves, on the target"

-- two values, of 2,048 bytes and of so many, the second size also in two bytes; the first takes 32 + 4 + 2,048 = 2,084 bytes, and 2,112 in the new form
abbrev old_pair : ℕ → ℕ → ℕ → List ℕ
old_pair size d₀ d₁ =
    old_entry_header 0x3F 0x07 0x04 0x00 0x00 0x08
    ++ letter 0x41
    ++ replicate 2048 0xAA
    ++ old_entry_header 0x3F 0x07 0x04 0x00 d₀ d₁
    ++ letter 0x42
    ++ replicate size 0xBB

abbrev new_pair : ℕ → ℕ → ℕ → ℕ → List ℕ
new_pair attributes size d₀ d₁ =
    new_entry_header 0x3F 0x07 (zeros 16) 0x04 0x00 0x00 0x08
    ++ letter 0x41
    ++ replicate 2048 0xAA
    ++ new_entry_header 0x3F attributes (zeros 16) 0x04 0x00 d₀ d₁
    ++ letter 0x42
    ++ replicate size 0xBB

-- 1,892 bytes (0x0764): 28 + 2,112 + 60 + 4 + 1,892 = 4,096, the new form's region is exactly full; in the plain form 28 + 2,084 + 1,928 = 4,040
abbrev full : Move
full = to_new (image (old_header ++ old_pair 1892 0x64 0x07 ++ ff 56)) (image (header ++ new_pair 0x07 1892 0x64 0x07))

full-holds : Holds full
unfolding computed
full-holds = accepted full (header ++ new_pair 0x07 1892 0x64 0x07) 8192 refl refl refl refl refl

-- 1,893 bytes, and 3 of padding: 4,100
abbrev over : Move
over = new_refused 13 (image (old_header ++ old_pair 1893 0x65 0x07 ++ ff 55)) (other 12288)

over-holds : Holds over
unfolding computed
over-holds = declined over Room refl refl refl

-- 1,948 bytes (0x079C): 28 + 2,084 + 32 + 4 + 1,948 = 4,096, the plain form's region is exactly full; in the new form 28 + 2,112 + 2,012 = 4,152
abbrev old_full : List ℕ
old_full = image (old_header ++ old_pair 1948 0x9C 0x07)

abbrev full_out : Move
full_out = new_refused 13 old_full (other 12288)

full_out-holds : Holds full_out
unfolding computed
full_out-holds = declined full_out Room refl refl refl

-- with b = 2 they fit, and 4,040 bytes are left of 8,192
abbrev full_out_two : Move
full_out_two = record {
  from = plain;
  to = authenticated;
  source = old_full;
  target = other 20480;
  answer = done 0;
  left = two_blocks (header_of 0x20 ++ new_pair 0x07 1948 0x9C 0x07 ++ ff 4040);
}

full_out_two-holds : Holds full_out_two
unfolding computed
full_out_two-holds = accepted full_out_two (header_of 0x20 ++ new_pair 0x07 1948 0x9C 0x07 ++ ff 4040) 12288 refl refl refl refl refl

-- from there with a byte more, 1,949 and 3 of padding, which the plain form has no room for, 28 + 2,084 + 1,988 = 4,100; with 0x20 beside it: 20 before 13
abbrev stamps_first : Move
stamps_first = plain_refused 20 (two_blocks (header_of 0x20 ++ new_pair 0x27 1949 0x9D 0x07 ++ ff 4039)) (other 12288)

stamps_first-holds : Holds stamps_first
unfolding computed
stamps_first-holds = declined stamps_first TimeBased refl refl refl

-- ---- the table

pub table : List Move
table =
    nothing
    ∷ out
    ∷ home
    ∷ behind
    ∷ unseen
    ∷ stamp_zero
    ∷ source_short
    ∷ target_long
    ∷ target_even
    ∷ new_as_plain
    ∷ plain_as_new
    ∷ time_based_def
    ∷ source_first
    ∷ full
    ∷ over
    ∷ full_out
    ∷ full_out_two
    ∷ stamps_first
    ∷ []

-- every row holds
pub moves : HoldAll table
unfolding table
moves =
    nothing-holds
    and out-holds
    and home-holds
    and behind-holds
    and unseen-holds
    and stamp_zero-holds
    and source_short-holds
    and target_long-holds
    and target_even-holds
    and new_as_plain-holds
    and plain_as_new-holds
    and time_based-holds
    and source_first-holds
    and full-holds
    and over-holds
    and full_out-holds
    and full_out_two-holds
    and stamps_first-holds
    and end
