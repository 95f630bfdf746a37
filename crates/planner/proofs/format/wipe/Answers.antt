-- `planner::format::wipe` meets its contract: its operations in their order. Assumes nothing.
use Rattle.planner.specs.Fronts.{begun_plan}
use Rattle.planner.specs.Format.{wipe_plan}
use Rattle.planner.proofs.format.wipe.Goals as goal

pub returns : goal.returns
unfolding wipe_plan begun_plan
returns c = c.begun.ensures
