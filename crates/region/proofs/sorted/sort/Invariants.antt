-- `region::sorted::sort` has no contract. The loop's invariant: the table has place for as many as are entered.
-- Assumes nothing.
use Rattle.std.proofs.Common.{◌≤◌}
use Rattle.region.proofs.sorted.sort.Given as goal

abbrev pub invariant-loop-e : goal.invariant-loop-e
invariant-loop-e l = (goal.iterator-loop-e).can_next l.e-iterator × (goal.iterator-loop-e).is_finite l.e-iterator × (l.count ≤ 720)
