-- What is judged of a region, and of its entries one by one.
use Rattle.std.specs.Prelude.{◌≡◌, ℕ, ◌+◌, ◌%◌, ◌≤◌, Bool, true, cond, ◌&&◌, ◌||◌, List, [], ◌∷◌, length, ◌==◌, slice_index_or, Option, Some, None}
use Rattle.model.specs.Lists.{all, any, among, part, u16_at_def, u32_at}
use Rattle.model.specs.Name.{Key, well_named, record_name}
use Rattle.model.specs.Walk.{Entry, state_of, entry_key}
use Rattle.model.specs.declared.Layout.{Layout}
use Rattle.model.specs.Layout.{header_length, state_at, attributes_at, name_size_at, data_size_at}
use Rattle.model.specs.Entry.{start_id}
use Rattle.model.specs.Region.{entries_in, tail_at_in, known_state_def, within, live, max_data, right_live_def, is_entry_def, undoubled, sound_in, clean_in}
use Rattle.region.specs.declared.Sound.{Sound}

-- a state is 3F or 3E
abbrev pub live_state_def : ℕ → Bool
live_state_def s = s == 0x3F || s == 0x3E

-- attributes that are stored, an error record's apart
abbrev pub plain_attributes_def : List ℕ
plain_attributes_def = 0x03 ∷ 0x07 ∷ 0x23 ∷ 0x27 ∷ []

-- what *sound* asks of the attributes and the name of an error record
abbrev pub right_record_def : ℕ → Key → Bool
right_record_def a k = well_named k.name && (a == 0x0F && record_name k)

-- what it asks of an entry by itself, in a region of so many bytes
unfoldable pub entry_sound_def : ℕ → Entry → Bool
entry_sound_def size e = known_state_def e && within size e && right_live_def e

-- what it asks of every entry by itself
unfoldable pub entries_sound : Layout → List ℕ → Bool
entries_sound y r = all known_state_def (entries_in y r) && all (within (length r)) (entries_in y r) && all right_live_def (entries_in y r)

-- an entry is live, and its state, name and GUID come again in a list
unfoldable pub doubled_in : Entry → List Entry → Bool
doubled_in e es = live e && any (is_entry_def (state_of e) (entry_key e)) es

-- every entry is sound by itself, and no name is doubled
unfoldable pub all_sound : Layout → List ℕ → Bool
all_sound y r = entries_sound y r && undoubled (entries_in y r)

-- if that holds, the offset of the tail
unfoldable pub scan_of : Layout → List ℕ → Option ℕ
scan_of y r = cond (all_sound y r) (Some (tail_at_in y r)) None

-- the offset of the tail, and *clean*
abbrev pub sound_of : Layout → List ℕ → Sound
sound_of y r = record { tail = tail_at_in y r; clean = clean_in y r }

-- these, if the region is *sound*
unfoldable pub judged_in : Layout → List ℕ → Option Sound
judged_in y r = cond (sound_in y r) (Some (sound_of y r)) None

-- ---- *usual* entries: in state 3F, no error record, sound by themselves

-- a header begins as that of one
pub record UsualFront (s : List ℕ) : Type 0 where
  pub start : u16_at_def s 0 ≡ start_id
  pub state : slice_index_or s state_at 0 ≡ 0x3F
  pub plain : among plain_attributes_def (u32_at s attributes_at) ≡ true

-- sizes that a name and data may have
pub record RightSizes (name size : ℕ) : Type 0 where
  pub some-data : 1 ≤ size
  pub few-data : size ≤ max_data
  pub long : 4 ≤ name
  pub short : name ≤ 128
  pub even : name % 2 ≡ 0

-- such an entry is at the front of a part of the region; `name` is the size of its name, `end` that of header, name and data
pub record UsualOf (y : Layout) (s : List ℕ) (name end : ℕ) : Type 0 where
  pub front : UsualFront s
  pub header : header_length y ≤ length s
  pub name-size : u32_at s (name_size_at y) ≡ name
  pub sizes : RightSizes name (u32_at s (data_size_at y))
  pub ends : header_length y + name + u32_at s (data_size_at y) ≡ end
  pub within : end ≤ length s
  pub named : well_named (part (header_length y) name s) ≡ true
