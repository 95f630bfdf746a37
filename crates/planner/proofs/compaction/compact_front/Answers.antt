-- `planner::compaction::compact_front` meets its contract: FF bytes up to the region's length, and the operations. Assumes nothing.
use Rattle.planner.proofs.Composed.{blank-to}
use Rattle.planner.proofs.compaction.compact_front.Goals as goal

pub returns : goal.returns
returns c =
    (c.compact.ensures, blank-to c.requires.0 c.put_blank.ensures)
