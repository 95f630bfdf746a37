-- `region::sorted::scan_by_table` meets its contract. The loop's invariant: what the whole walk tells of each entry by itself is what the walk from here on tells; while all
-- are settled, every entry passed is at its place; no name is doubled in the whole walk just if none from here on is, neither among themselves nor with those passed.
-- Assumes nothing.
use Rattle.std.proofs.Common.{◌≡◌, length}
use Rattle.model.specs.Beside.{from_in}
use Rattle.region.specs.Stored.{left}
use Rattle.region.proofs.Passing.{Passing}
use Rattle.region.proofs.Scanning.{singly, scanned}
use Rattle.region.proofs.Settled.{Settled}
use Rattle.region.proofs.sorted.scan_by_table.Given as goal

abbrev pub invariant-loop-e : goal.invariant-loop-e
invariant-loop-e l =
    (goal.iterator-loop-e).can_next l.e-iterator × (goal.iterator-loop-e).is_finite l.e-iterator × (from_in l.y l.region l.tail ≡ left l.e-iterator)
    × (singly l.y l.region ≡ scanned (length l.region) l.tail (from_in l.y l.region l.tail)) × Passing l.y l.region (Settled l.y l.region l.table l.settled) l.tail
