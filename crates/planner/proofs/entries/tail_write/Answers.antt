-- `planner::entries::tail_write` meets its contract: its operations in their order. Assumes nothing.
use Rattle.planner.specs.Fronts.{begun_plan}
use Rattle.planner.specs.Entries.{tail_plan}
use Rattle.planner.proofs.entries.tail_write.Goals as goal

pub returns : goal.returns
unfolding tail_plan begun_plan
returns c = rw (c.begun-plan.ensures, c.leftover.ensures, c.mark_found.ensures, c.retire.ensures)
