-- `planner::entries::delete` meets its contract: its operations in their order. Assumes nothing.
use Rattle.planner.specs.Fronts.{begun_plan}
use Rattle.planner.specs.Entries.{delete_plan}
use Rattle.planner.proofs.entries.delete.Goals as goal

pub returns : goal.returns
unfolding delete_plan begun_plan
returns c = rw (c.begun.ensures, c.leftover.ensures, c.remove.ensures)
