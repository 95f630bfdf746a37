-- `planner::entries::leftover` meets its contract, by what was found. Assumes nothing.
use Rattle.planner.specs.Entries.{leftover_step}
use Rattle.planner.proofs.entries.leftover.Goals as goal

pub returns-in-Some : goal.returns-in-Some
unfolding leftover_step
returns-in-Some c = rw c.in-Some.is c.mark_found.ensures

pub returns-in-None : goal.returns-in-None
unfolding leftover_step
returns-in-None c = rw c.in-None.is
