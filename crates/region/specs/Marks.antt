-- Marks of names, by which a name that came before is found. The proofs ask of a mark only that it is a function of state, name and GUID, and that its
-- sign is not 0.
use Rattle.std.specs.Prelude.{ℕ, zero, suc, ◌+◌, ◌-◌, ◌/◌, ◌%◌, ◌^◌, Bool, cond, not, ◌&&◌, ◌||◌, List, [], ◌∷◌, ◌++◌, length, replicate, ◌==◌, nat_le}
use Rattle.model.specs.declared.Layout.{Layout}
use Rattle.model.specs.Name.{Key, keyed}
use Rattle.model.specs.Entry.{header_fields_in}
use Rattle.model.specs.Walk.{Entry, state_of, entry_key}
use Rattle.slices.specs.Agree.{u64_at}
use Rattle.layout.specs.Head.{name_in}
use Rattle.layout.specs.declared.Entry as numbers
use Rattle.region.specs.Judge.{live_state_def}
use Rattle.region.specs.declared.Mark.{Mark}

-- no mark is noted
unfoldable pub no_marks_def : List ℕ
no_marks_def = replicate 1280 0

-- a sum that goes round at 2^64
unfoldable pub plus : ℕ → ℕ → ℕ
plus a b = (a + b) % 2 ^ 64

-- the words of a GUID, and the last of the name behind it
unfoldable pub outer_words_def : List ℕ → ℕ
outer_words_def key = plus (plus (u64_at key 0) (u64_at key 8)) (u64_at key (length key - 8))

-- the first word of the name, and two before its last
unfoldable pub inner_words_def : List ℕ → ℕ
inner_words_def key = plus (u64_at key 16) (plus (u64_at key (length key - 22)) (u64_at key (length key - 15)))

-- a sum, with so many words from an offset on, seven bytes apart
unfoldable pub words_from : List ℕ → ℕ → ℕ → ℕ → ℕ
words_from key zero at sum = sum
words_from key (suc left) at sum = words_from key left (at + 7) (plus sum (u64_at key at))

-- the words of a longer name between its first and the last three
unfoldable pub middle_words_def : List ℕ → ℕ
middle_words_def key = words_from key ((length key - 38) / 7) 22 0

-- the words that a key is long enough for
unfoldable pub weighed : List ℕ → ℕ
weighed key =
    cond
    (nat_le 16 (length key))
    (cond
    (nat_le 24 (length key))
    (cond (nat_le 45 (length key)) (plus (plus (outer_words_def key) (inner_words_def key)) (middle_words_def key)) (plus (outer_words_def key) (inner_words_def key)))
    (outer_words_def key))
    0

-- the mark of a GUID with the name behind it
unfoldable pub key_mark : List ℕ → Mark
key_mark key = record { place = weighed key % 1279; sign = weighed key / 1279 % 128 + 128 }

-- the mark of what is not live
unfoldable pub dead_mark : Mark
dead_mark = record { place = 1279; sign = 128 }

-- the mark of a state, name and GUID
unfoldable pub mark_of : ℕ → Key → Mark
mark_of state k = cond (live_state_def state) (key_mark (k.vendor ++ k.name)) dead_mark

-- the mark of an entry
unfoldable pub mark_at : Entry → Mark
mark_at e = mark_of (state_of e) (entry_key e)

-- the mark of the entry of these numbers at the front of a part of the region
unfoldable pub mark_in : Layout → List ℕ → numbers.Entry → Mark
mark_in y s e = mark_of e.state (keyed (name_in y s e) (header_fields_in y s).vendor)

-- by what is noted at its place, a name of a sign may have been met
unfoldable pub is_noted_def : ℕ → ℕ → Bool
is_noted_def noted sign = not (noted == 0) && (noted == sign || noted == 1)

-- what is noted once it is met: its sign, or 1 if there was another
unfoldable pub note : ℕ → ℕ → ℕ
note noted sign = cond (noted == 0) sign (cond (noted == sign) sign 1)

-- the entries of a list that begin before an offset, up to the first that does not
unfoldable pub up_to : ℕ → List Entry → List Entry
up_to end [] = []
up_to end (e ∷ es) = cond (nat_le end e.at) [] (e ∷ up_to end es)
