-- The places of the lock list, over the list's bytes.
use Rattle.std.specs.Prelude.{ℕ, min, ◌+◌, ◌*◌, ◌-◌, Bool, ◌&&◌, ◌||◌, List, length, get_or, leb}
use Rattle.model.specs.Lists.{part, any, keep, range}
use Rattle.model.specs.Name.{Key, same_key_def, well_named}
use Rattle.model.specs.Sides.{owns}
use Rattle.model.specs.Session.{lock_space, side_locks, place_size, name_space}

-- a place, with the size of its name, locks a key: the listed name is well formed, and name and GUID are the same
unfoldable pub holds : List ℕ → ℕ → ℕ → Key → Bool
holds locks place size k =
    well_named (part (place_size * place) size locks)
    && same_key_def (record { name = part (place_size * place) size locks; vendor = part (place_size * place + name_space) 16 locks }) k

-- one of the places in use from i on holds the name
unfoldable pub held_from : List ℕ → List ℕ → ℕ → Key → ℕ → Bool
held_from sizes locks count k i = any (λ j. holds locks j (get_or sizes j 0) k) (range i (min count lock_space - i))

-- a place, with the size of its name, holds a name of a side: well formed, and its own
unfoldable pub sides : List ℕ → Bool → List ℕ → ℕ → ℕ → Bool
sides guid modem locks place size =
    well_named (part (place_size * place) size locks)
    && owns guid modem (record { name = part (place_size * place) size locks; vendor = part (place_size * place + name_space) 16 locks })

-- how many of the places in use from i on do
unfoldable pub count_from : List ℕ → Bool → List ℕ → List ℕ → ℕ → ℕ → ℕ
count_from guid modem sizes locks count i =
    length (keep (λ j. sides guid modem locks j (get_or sizes j 0)) (range i (min count lock_space - i)))

-- a side has eight of them, or no place is free
unfoldable pub full : List ℕ → Bool → List ℕ → List ℕ → ℕ → Bool
full guid modem sizes locks count = leb side_locks (count_from guid modem sizes locks count 0) || leb lock_space (min count lock_space)
