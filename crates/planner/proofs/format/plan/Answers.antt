-- `planner::format::plan` meets its contract: the erases, and the header's bytes, which stand at the content's front. Assumes nothing.
use Rattle.planner.proofs.Formatting.{format-plans}
use Rattle.planner.proofs.format.plan.Goals as goal

pub returns : goal.returns
returns c =
    format-plans c.args.image.now c.args.b c.requires.0 c.region_header-header.ensures c.put_bytes.ensures c.requires.3 c.wipe-plan.ensures
