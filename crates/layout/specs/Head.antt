-- What the reader of an entry finds at the front of a part of the region.
use Rattle.std.specs.Prelude.{ℕ, ◌+◌, ◌-◌, ◌≡◌, Bool, true, false, cond, ◌&&◌, List, length, eqb, leb, Option, Some, None}
use Rattle.model.specs.declared.Layout.{Layout}
use Rattle.model.specs.Layout.{authenticated, header_length}
use Rattle.model.specs.Lists.{on_some, same}
use Rattle.model.specs.Entry.{Header, header_size_def, header_fields_in, read_header_in}
use Rattle.model.specs.Walk.{placed}
use Rattle.slices.specs.Agree.{four_at}
use Rattle.layout.specs.declared.Entry.{Entry}

-- the numbers of a header: stamp and GUID stay in the image
abbrev pub numbers_of : Header → Entry
numbers_of h = record { state = h.state; attributes = h.attributes; name = h.name_size_def; size = h.data_size_def }

unfoldable pub head_in : Layout → List ℕ → Option Entry
head_in y s = on_some (read_header_in y s) (λ h. Some (numbers_of h)) None

-- a header of these numbers, with stamp and GUID as they stand in the bytes
abbrev pub header_as : Layout → Entry → List ℕ → Header
header_as y e s = record {
  state = e.state;
  attributes = e.attributes;
  stamp = (header_fields_in y s).stamp;
  name_size_def = e.name;
  data_size_def = e.size;
  vendor = (header_fields_in y s).vendor;
}

-- the name and the data of the entry of these numbers at the front of a part of the region
unfoldable pub name_in : Layout → List ℕ → Entry → List ℕ
name_in y s e = (placed (header_length y) (read_header_in y) 0 (header_as y e s) s).name

unfoldable pub data_in : Layout → List ℕ → Entry → List ℕ
data_in y s e = (placed (header_length y) (read_header_in y) 0 (header_as y e s) s).bytes

-- the words at the end and at the front of a name stand where they would in an entry there; a name shorter than a word has none
unfoldable pub may_be_def : List ℕ → List ℕ → Bool
may_be_def s name =
    cond
    (leb 4 (length name))
    (eqb (four_at s (header_size_def + (length name - 4))) (four_at name (length name - 4)) && eqb (four_at s header_size_def) (four_at name 0))
    true

-- the entry there, in the form in which calls store, has another name, whatever its numbers
abbrev pub Unlike : List ℕ → List ℕ → Type 0
Unlike s name = (e : Entry) → same (name_in authenticated s e) name ≡ false
