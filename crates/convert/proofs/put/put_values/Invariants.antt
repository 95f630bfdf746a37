-- `convert::put::put_values` meets its contract. The loop's invariant: the values but those left are written.
-- Assumes nothing.
use Rattle.values.specs.Listed.{values_left}
use Rattle.convert.proofs.Carried.{Written}
use Rattle.convert.proofs.put.put_values.Given as goal

abbrev pub invariant-loop-e : goal.invariant-loop-e
invariant-loop-e l =
    (goal.iterator-loop-e).can_next l.e-iterator × (goal.iterator-loop-e).is_finite l.e-iterator
    × Written l.fn.from l.to l.region (values_left l.e-iterator) l.at l.initial.out l.out l.next
