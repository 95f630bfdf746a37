-- What is written into a session in its host's memory.
use Rattle.std.specs.Prelude.{ℕ, ◌+◌, ◌*◌, ◌/◌, ◌%◌, List, [], ◌∷◌, length}
use Rattle.std.proofs.lemmas.List.Edits.{sets}
use Rattle.model.specs.Name.{Key}
use Rattle.model.specs.Session.{place_size, place_bytes}

-- a number below 65,536 in its four bytes
abbrev pub number_bytes : ℕ → List ℕ
number_bytes n = n % 256 ∷ n / 256 ∷ 0 ∷ 0 ∷ []

-- one more lock: its bytes with a name in a place of the lock list, the size of that name, and the count
unfoldable pub enlisted : List ℕ → ℕ → Key → List ℕ
enlisted s place k =
    sets
    (sets (sets s (7028 + place_size * place) (place_bytes k)) (6964 + 4 * place) (number_bytes (length k.name)))
    6960
    (number_bytes (place + 1))
