-- `region::walk::Walk::next` meets its contract: what a turn finds is the first of the entries left, and those from the next offset on are left.
-- Assumes nothing.
use Rattle.std.proofs.Common.{length, ap, arith, rules}
use Rattle.region.proofs.Standing.{first-standing}
use Rattle.region.proofs.Turns.{rest, at_entry, at-end}
use Rattle.region.proofs.walk.WalkIterator.next.Goals as goal

pub returns-in_err-entry-clause-steps : goal.returns-in_err-entry-clause-steps
returns-in_err-entry-clause-steps c = let z = at-end c.turn.ensures c.in_err-entry.was in rw c.from_residual.ensures (z.walk, z.walk)

pub slice_bounds-result-count : goal.slice_bounds-result-count
slice_bounds-result-count c = (at_entry c.turn.ensures c.in_ok-entry.was).inside

pub slice_bounds-result-start : goal.slice_bounds-result-start
slice_bounds-result-start c = let w = at_entry c.turn.ensures c.in_ok-entry.was in omega arith

pub returns-clause-steps : goal.returns-clause-steps
returns-clause-steps c = first-standing (at_entry c.turn.ensures c.in_ok-entry.was) (rest c.args.self.now.region.now c.args.self.now.at)

pub returns-clause-goes : goal.returns-clause-goes
returns-clause-goes c = let shorter = ap length (at_entry c.turn.ensures c.in_ok-entry.was).walk in search rules
