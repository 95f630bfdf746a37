-- The place of a state, name and GUID in a table of offsets. The proofs ask of it only that it is a function of these.
use Rattle.std.specs.Prelude.{ℕ, zero, suc, ◌+◌, ◌-◌, ◌/◌, Bool, false, cond, not, ◌&&◌, ◌||◌, List, ◌++◌, length, drop, ◌==◌, nat_le, nat_lt, slice_index, slice_index_or}
use Rattle.model.specs.declared.Layout.{Layout}
use Rattle.model.specs.Lists.{u32_at}
use Rattle.model.specs.Layout.{state_at, name_size_at, vendor_at}
use Rattle.model.specs.Walk.{Entry, state_of, entry_key}
use Rattle.model.specs.Region.{live}
use Rattle.slices.specs.Agree.{u64_at}

-- of so many words from an offset on the first that differs decides, and then the last eight bytes
unfoldable pub words_before : List ℕ → List ℕ → ℕ → ℕ → Bool
words_before a b zero i = nat_lt (u64_at a (length b - 8)) (u64_at b (length b - 8))
words_before a b (suc left) i = cond (u64_at a i == u64_at b i) (words_before a b left (i + 8)) (nat_lt (u64_at a i) (u64_at b i))

-- bytes come before as many others
unfoldable pub key_before_def : List ℕ → List ℕ → Bool
key_before_def a b = words_before a b (length b / 8) 0

-- the entry at the front of a part of the region comes before a state, and a GUID with the name after it
unfoldable pub front_before : Layout → List ℕ → ℕ → List ℕ → Bool
front_before y s state key =
    cond
    (u32_at s (name_size_at y) == length key - 16)
    (cond (slice_index s state_at == state) (key_before_def (drop (vendor_at y) s) key) (nat_lt (slice_index s state_at) state))
    (nat_lt (length key - 16) (u32_at s (name_size_at y)))

-- the entry at an offset does
unfoldable pub is_before_def : Layout → List ℕ → ℕ → ℕ → List ℕ → Bool
is_before_def y r at state key = cond (nat_le (at + (vendor_at y + length key)) (length r)) (front_before y (drop at r) state key) false

-- in so many halvings, how many of a sorted list pass a test
unfoldable pub halving : (ℕ → Bool) → ℕ → ℕ → ℕ → ℕ
halving f zero step low = low
halving f (suc left) step low = halving f left (step / 2) (cond (f (low + step)) (low + step + 1) low)

-- the place of a state, and a GUID with the name after it
unfoldable pub place_of_def : Layout → List ℕ → List ℕ → ℕ → List ℕ → ℕ
place_of_def y r table state key =
    cond (nat_le 16 (length key) && nat_le (length key) 65536) (halving (λ i. is_before_def y r (slice_index_or table i 65535) state key) 10 511 0) 0

-- an entry, if it is live, is the one at its place
unfoldable pub owns_place_def : Layout → List ℕ → List ℕ → Entry → Bool
owns_place_def y r table e =
    not (live e) || slice_index_or table (place_of_def y r table (state_of e) ((entry_key e).vendor ++ (entry_key e).name)) 65535 == e.at
