-- `planner::entries::mark_found` meets its contract, by what was found. Assumes nothing.
use Rattle.planner.specs.Entries.{mark_found_def}
use Rattle.planner.proofs.entries.mark_found.Goals as goal

pub returns-in-Some : goal.returns-in-Some
unfolding mark_found_def
returns-in-Some c = rw c.in-Some.is

pub returns-in-None : goal.returns-in-None
unfolding mark_found_def
returns-in-None c = rw c.in-None.is
