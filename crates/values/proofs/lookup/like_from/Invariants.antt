-- `values::lookup::like_from` meets its contract. The loop's invariant is the contract's, of the offset reached: an entry that two words of it tell from the name is
-- not the first of that name. What is left of the region falls.
-- Assumes nothing.
use Prim.Native.Nat.{◌-◌, ◌≤◌}
use lib.ListN.{length}
use Rattle.values.specs.Found.{NoneBefore}
use Rattle.values.proofs.lookup.like_from.Given as goal

abbrev pub invariant-loop-next : goal.invariant-loop-next
invariant-loop-next l = NoneBefore l.region l.name l.at l.here × (length l.region - l.here ≤ length l.region - l.at)

abbrev pub decreases-loop-next : goal.decreases-loop-next
decreases-loop-next l = length l.region - l.here
