-- 01, "Flash image" and "What a set does", with 02 (h) and (i): stores, what a call writes and the stores that this is, what a cut leaves.
use Rattle.std.specs.Prelude.{ℕ, zero, suc, ◌+◌, ◌-◌, ◌*◌, ◌%◌, ◌<◌, ◌≡◌, Bool, false, not, cond, ◌&&◌, ◌⊎◌, ◌≢◌, List, [], ◌∷◌, ◌++◌, length, take, get_or, replicate, eqb, leb, ltb}
use Rattle.std.proofs.lemmas.List.Edits.{sets}
use Rattle.std.specs.Int.Bits.{bit_and, bit_xor}
use Rattle.std.specs.Int.Count.{ones}
use Rattle.model.specs.Lists.{overlay, any, among}
use Rattle.model.specs.Image.{block}

-- "A store is one byte store (it may only clear bits) or one block erase"; 02 (i), "The new flash stores up to w bytes at a time, within one page of w": the first
-- byte's offset and the new bytes; a block's number
pub data Store : Type 0 where
  page : ℕ → List ℕ → Store
  erase : ℕ → Store

-- a store of one byte
abbrev pub byte : ℕ → ℕ → Store
byte at v = page at (v ∷ [])

-- "every byte becomes FF"
unfoldable pub blank : List ℕ
blank = replicate block 0xFF

unfoldable pub apply : Store → List ℕ → List ℕ
apply (page at bs) img = sets img at bs
apply (erase b) img = overlay (block * b) blank img

unfoldable pub apply_all : List Store → List ℕ → List ℕ
apply_all [] img = img
apply_all (s ∷ ss) img = apply_all ss (apply s img)

-- "the image is then as after the first n"
unfoldable pub after : ℕ → List Store → List ℕ → List ℕ
after n ss img = apply_all (take n ss) img

-- what holds of every store of a list
abbrev pub Every : (Store → Type 0) → List Store → Type 0
Every P [] = Unit {0}
Every P (s ∷ ss) = P s × Every P ss

-- "a bit would have to fall": old has a bit that new has not
abbrev pub falls : ℕ → ℕ → Bool
falls old new = not (eqb (bit_and old new) old)

-- 02 (i), "A dead byte with a bit to fall fails its whole store"; of one byte it is 02 (h), "it fails at a dead address where a bit would have to fall"
unfoldable pub fails : List ℕ → Store → List ℕ → Bool
fails dead (page at bs) img = any (λ a. leb at a && ltb a (at + length bs) && falls (get_or img a 0) (get_or bs (a - at) 0)) dead
fails dead (erase b) img = false

-- how many stores of a list come before the first that fails; all of them where none does
unfoldable pub reach : List ℕ → List Store → List ℕ → ℕ
reach dead [] img = 0
reach dead (s ∷ ss) img = cond (fails dead s img) 0 (suc (reach dead ss (apply s img)))

-- 02 (i), "w .. is 1, 2, 4, 8 or 16, any other counts as 1"
unfoldable pub width_of : ℕ → ℕ
width_of n = cond (among (2 ∷ 4 ∷ 8 ∷ 16 ∷ []) n) n 1

-- a byte joined to the store behind it
abbrev pub joined_to : ℕ → ℕ → List Store → List Store
joined_to at b [] = page at (b ∷ []) ∷ []
joined_to at b (page next bs ∷ ss) = page at (b ∷ bs) ∷ ss
joined_to at b (erase n ∷ ss) = page at (b ∷ []) ∷ erase n ∷ ss

-- bytes stored from an offset on, "in rising order, FF bytes included", and "cut at page ends": a page ends where the next offset is a multiple of w
unfoldable pub pages : ℕ → ℕ → List ℕ → List Store
pages w at [] = []
pages w at (b ∷ bs) = cond (eqb (suc at % w) 0) (page at (b ∷ []) ∷ pages w (suc at) bs) (joined_to at b (pages w (suc at) bs))

-- byte by byte, as they are stored with w = 1
unfoldable pub bytewise : ℕ → List ℕ → List Store
bytewise at [] = []
bytewise at (b ∷ bs) = byte at b ∷ bytewise (suc at) bs

-- what a call writes, whatever w is: bytes from an offset on; an entry's header, the bytes before its state and those behind it; a block erased
pub data Write : Type 0 where
  write : ℕ → List ℕ → Write
  header : ℕ → List ℕ → List ℕ → Write
  clear : ℕ → Write

-- its stores: "an entry's header has FF in the place of its state, and no store is made for that FF alone", as one would be with w = 1 only: entries begin at
-- multiples of 4, so in a longer page the byte behind the state stands beside it
unfoldable pub stores_one_def : ℕ → Write → List Store
stores_one_def w (write at bs) = pages w at bs
stores_one_def w (header at front rest) =
    cond (eqb w 1) (pages 1 at front ++ pages 1 (at + length front + 1) rest) (pages w at (front ++ (0xFF ∷ []) ++ rest))
stores_one_def w (clear b) = erase b ∷ []

unfoldable pub stores : ℕ → List Write → List Store
stores w [] = []
stores w (x ∷ xs) = stores_one_def w x ++ stores w xs

-- what a write leaves, whatever w is: its bytes in their places, of a header all but the state, which stays as it is; a blank block
unfoldable pub left_by_one : Write → List ℕ → List ℕ
left_by_one (write at bs) img = sets img at bs
left_by_one (header at front rest) img = sets (sets img at front) (at + length front + 1) rest
left_by_one (clear b) img = overlay (block * b) blank img

unfoldable pub left_by_def : List Write → List ℕ → List ℕ
left_by_def [] img = img
left_by_def (x ∷ xs) img = left_by_def xs (left_by_one x img)

-- the same byte by byte, a header without its state: 01's stores, "w = 1 gives today's sequence of stores" (`TodaysStores`, a theorem of `recovery`)
unfoldable pub todays_one : Write → List Store
todays_one (write at bs) = bytewise at bs
todays_one (header at front rest) = bytewise at front ++ bytewise (at + length front + 1) rest
todays_one (clear b) = erase b ∷ []

unfoldable pub todays : List Write → List Store
todays [] = []
todays (x ∷ xs) = todays_one x ++ todays xs

-- bytes written from an offset on
abbrev pub run : ℕ → List ℕ → List Write
run at bs = write at bs ∷ []

-- a mark: the one byte store that changes a state or a record; "state and record marks are single bytes"
abbrev pub mark : ℕ → ℕ → List Write
mark at v = write at (v ∷ []) ∷ []

-- n blocks erased from a block on, in rising order
unfoldable pub erases : ℕ → ℕ → List Write
erases b zero = []
erases b (suc n) = clear b ∷ erases (suc b) n

-- every number of a list is a byte
abbrev pub Bytes : List ℕ → Type 0
Bytes [] = Unit {0}
Bytes (b ∷ bs) = (b < 256) × Bytes bs

-- "any of its wanted bits uncleared": x has the bits of new and is within those of old
abbrev pub Uncleared : ℕ → ℕ → ℕ → Type 0
Uncleared old new x = (bit_and new x ≡ new) × (bit_and x old ≡ x)

-- a begun store: 02 (i), "each byte of that page may have any of its wanted bits uncleared, and one or more of the store's are", where a byte beside the store's has
-- no wanted bit; of one byte it is 01, "leaves uncleared one or more of the bits it had to clear"; "an erase leaves anything in its block; no other byte changes"
abbrev pub Begun : Store → List ℕ → List ℕ → Type 0
Begun (page at bs) img img' =
    (xs : List ℕ)
    × (length xs ≡ length bs)
    × ((i : ℕ) → i < length bs → Uncleared (get_or img (at + i) 0) (get_or bs i 0) (get_or xs i 0))
    × (xs ≢ bs)
    × (img' ≡ sets img at xs)
Begun (erase b) img img' =
    (left : List ℕ) × (length left ≡ block) × Bytes left × (img' ≡ overlay (block * b) left img)

-- the store after the first k is begun
abbrev pub NextBegun : List Store → ℕ → List ℕ → List ℕ → Type 0
NextBegun [] k img img' = ⊥
NextBegun (s ∷ ss) zero img img' = Begun s img img'
NextBegun (s ∷ ss) (suc k) img img' = NextBegun ss k (apply s img) img'

-- "Cut: its first stores, none to all, are complete; the next may be begun"
abbrev pub Cut : List Store → ℕ → List ℕ → List ℕ → Type 0
Cut ss k img img' = (img' ≡ after k ss img) ⊎ NextBegun ss k img img'

-- "it may only clear bits": no byte store of a list asks a cleared bit to rise
abbrev pub Clears : List Store → List ℕ → Type 0
Clears [] img = Unit {0}
Clears (page at bs ∷ ss) img =
    ((i : ℕ) → i < length bs → bit_and (get_or img (at + i) 0) (get_or bs i 0) ≡ get_or bs i 0) × Clears ss (apply (page at bs) img)
Clears (erase b ∷ ss) img = Clears ss (apply (erase b) img)

-- "Every change of state clears exactly one bit": the ones in the difference of old and new
unfoldable pub difference : ℕ → ℕ → ℕ
difference old new = ones (bit_xor old new)
