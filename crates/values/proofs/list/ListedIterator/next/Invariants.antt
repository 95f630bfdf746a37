-- `values::list::Listed::next` meets its contract. The loop's invariant: the values left are those left at the beginning. The entries left fall.
-- Assumes nothing.
use Rattle.std.proofs.Common.{◌≡◌, length}
use Rattle.region.specs.Stored.{left}
use Rattle.values.specs.Listed.{values_left}
use Rattle.values.proofs.list.ListedIterator.next.Given as goal

abbrev pub invariant-loop-e : goal.invariant-loop-e
invariant-loop-e l = values_left l.initial.self ≡ values_left l.self

abbrev pub decreases-loop-e : goal.decreases-loop-e
decreases-loop-e l = length (left l.self.walk)
