-- `compose::put_others` meets its contract. The loop's invariant: the values but those left are written, or left out.
-- Assumes nothing.
use Rattle.values.specs.Listed.{values_left}
use Rattle.compose.proofs.Carried.{Written}
use Rattle.compose.proofs.put_others.Given as goal

abbrev pub invariant-loop-e : goal.invariant-loop-e
invariant-loop-e l =
    (goal.iterator-loop-e).can_next l.e-iterator × (goal.iterator-loop-e).is_finite l.e-iterator
    × Written l.region l.leave (values_left l.e-iterator) l.at l.initial.out l.out l.next
