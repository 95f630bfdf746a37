-- Shares kept to, by the numbers that a start-up is given.
use Rattle.std.specs.Prelude.{ℕ, ◌+◌, Bool, true, false, ◌&&◌, List, leb}
use Rattle.model.specs.Image.{region_header_size}
use Rattle.model.specs.Entry.{Value}
use Rattle.model.specs.Change.{record_sizes}
use Rattle.model.specs.Sides.{side_sizes}

-- `allotted` of a setup with this GUID, these shares and this H: equal by computing (`allotted-by`, in `proofs/Allotted`)
unfoldable pub allotted_by : List ℕ → ℕ → ℕ → ℕ → ℕ → List Value → Bool
allotted_by guid share theirs records size vs =
    leb (region_header_size + share + theirs + records) size
    && leb (side_sizes guid false vs) share
    && leb (side_sizes guid true vs) theirs
    && leb (record_sizes vs) records
