-- An entry with the zero stamp by its fields, what a move writes before the FF bytes, and what it finds before it begins.
use Rattle.std.specs.Prelude.{ℕ, ◌*◌, List, [], ◌∷◌, ◌++◌, replicate, Result, Ok, Err}
use Rattle.model.specs.declared.Layout.{Layout}
use Rattle.model.specs.Lists.{bytes32, on_some}
use Rattle.model.specs.Image.{blocks, region_header_in}
use Rattle.model.specs.Entry.{Value, header_front, no_stamp_def}
use Rattle.model.specs.Compact.{joined_in}
use Rattle.model.specs.Move.{move_broken}
use Rattle.model.specs.declared.Rule.{Rule}

-- up to what a form has more: start id, state 3F, zero, attributes
unfoldable pub bare_front : ℕ → List ℕ
bare_front attributes = header_front ++ (0x3F ∷ 0 ∷ []) ++ bytes32 attributes

-- name size, data size
unfoldable pub bare_sizes : ℕ → ℕ → List ℕ
bare_sizes name size = bytes32 name ++ bytes32 size

-- a header: where a form has more, it has zeros
unfoldable pub bare_header : Layout → ℕ → ℕ → ℕ → List ℕ → List ℕ
bare_header y attributes name size vendor =
    bare_front attributes ++ replicate (4 * y.words) 0 ++ bare_sizes name size ++ vendor

-- a value of these parts
abbrev pub bare : ℕ → List ℕ → List ℕ → List ℕ → Value
bare attributes name vendor bytes = record { name = name; vendor = vendor; attributes = attributes; stamp = no_stamp_def; bytes = bytes }

-- "header, values as 3F entries"
unfoldable pub content_in : Layout → ℕ → List Value → List ℕ
content_in y size vs = region_header_in y size ++ joined_in y vs

-- b of source and target, or the first rule broken
unfoldable pub checked_of : Layout → Layout → List ℕ → List ℕ → Result (ℕ × ℕ) Rule
checked_of from to img target = on_some (move_broken from to img target) Err (Ok (blocks img, blocks target))
