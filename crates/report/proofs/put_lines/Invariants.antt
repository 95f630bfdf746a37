-- `report::put_lines` meets its contract. The loop's invariant: the lines of the values but those left are written.
-- Assumes nothing.
use Rattle.std.proofs.Common.{◌≡◌, length}
use Rattle.values.specs.Listed.{values_left}
use Rattle.report.proofs.Lines.{Written}
use Rattle.report.proofs.put_lines.Given as goal

abbrev pub invariant-loop-e : goal.invariant-loop-e
invariant-loop-e l =
    (goal.iterator-loop-e).can_next l.e-iterator × (goal.iterator-loop-e).is_finite l.e-iterator × (length l.out ≡ length l.initial.out)
    × Written l.fn.y l.region (values_left l.e-iterator) l.at l.initial.out l.out l.next
