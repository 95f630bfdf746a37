-- `planner::begun` meets its contract: the first two places of an empty plan. Assumes nothing.
use Rattle.plan.specs.Planned.{nothings}
use Rattle.planner.specs.Fronts.{begun_plan}
use Rattle.planner.proofs.begun.Goals as goal

pub returns : goal.returns
unfolding begun_plan nothings
returns c = rw c.nothing-plan.ensures
