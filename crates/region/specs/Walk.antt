-- A turn of the walk: what stands at an offset of the region, and where the next entry begins.
use Rattle.std.specs.Prelude.{ℕ, ◌+◌, List, [], drop, Option, option_map}
use Rattle.model.specs.declared.Layout.{Layout}
use Rattle.model.specs.Layout.{authenticated, header_length}
use Rattle.model.specs.Entry.{header_fields_in, read_header_in}
use Rattle.model.specs.Walk as walk
use Rattle.layout.specs.Head.{head_in, header_as}
use Rattle.layout.specs.declared.Entry as numbers

-- the bytes up to the next entry, by the numbers alone
abbrev pub stride_in : Layout → numbers.Entry → ℕ
stride_in y e = walk.stride (header_length y) (read_header_in y) (header_as y e [])

-- the entry of these numbers at an offset of the region
unfoldable pub entry_as : Layout → List ℕ → ℕ → numbers.Entry → walk.Entry
entry_as y r at e = walk.placed (header_length y) (read_header_in y) at (header_as y e (drop at r)) (drop at r)

-- the stamp of the entry at an offset, in the form in which calls store
unfoldable pub stamp_at : List ℕ → ℕ → List ℕ
stamp_at r at = (header_fields_in authenticated (drop at r)).stamp

-- its GUID
unfoldable pub vendor_as : Layout → List ℕ → ℕ → List ℕ
vendor_as y r at = (header_fields_in y (drop at r)).vendor

-- the numbers of the entry at an offset, and the offset of the next one
unfoldable pub turn_in : Layout → List ℕ → ℕ → Option (numbers.Entry × ℕ)
turn_in y r at = option_map (λ e. (e, at + stride_in y e)) (head_in y (drop at r))

-- the same in the form in which calls store
abbrev pub entry_at : List ℕ → ℕ → numbers.Entry → walk.Entry
entry_at = entry_as authenticated

abbrev pub vendor_at : List ℕ → ℕ → List ℕ
vendor_at = vendor_as authenticated
