-- `planner::compaction::compact` meets its contract: its operations in their order. Assumes nothing.
use Rattle.model.specs.Image.{block}
use Rattle.planner.specs.Fronts.{begun_plan}
use Rattle.planner.specs.Compactions.{compact_plan}
use Rattle.planner.proofs.compaction.compact.Goals as goal

pub returns : goal.returns
unfolding compact_plan block begun_plan
returns c = rw (c.begun-plan.ensures, c.next_record.ensures.0, c.clear_full.ensures)
