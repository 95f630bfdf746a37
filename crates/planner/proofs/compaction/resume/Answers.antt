-- `planner::compaction::resume` meets its contract: its operations in their order. Assumes nothing.
use Rattle.model.specs.Image.{block}
use Rattle.planner.specs.Fronts.{begun_plan}
use Rattle.planner.specs.Compactions.{resume_plan}
use Rattle.planner.proofs.compaction.resume.Goals as goal

pub returns : goal.returns
unfolding resume_plan block begun_plan
returns c = rw c.begun-plan.ensures
