-- `values::list::tally` meets its contract. The loop's invariant: what is counted and the values left make up all values. No sum is more than the region has.
-- Assumes nothing.
use Rattle.std.proofs.Common.{map}
use Rattle.model.specs.Walk.{entry_value_def}
use Rattle.model.specs.Region.{entries_in, values}
use Rattle.values.specs.Listed.{values_left}
use Rattle.values.proofs.Counting.{Counted}
use Rattle.values.proofs.list.tally.Given as goal

abbrev pub invariant-loop-e : goal.invariant-loop-e
invariant-loop-e l =
    (goal.iterator-loop-e).can_next l.e-iterator × (goal.iterator-loop-e).is_finite l.e-iterator
    × Counted l.y l.guid l.modem l.t (values (entries_in l.y l.region)) (map entry_value_def (values_left l.e-iterator))
