-- `planner::items::fold` meets its contract: what is composed is the region that the compaction is to leave. Assumes nothing.
use Rattle.planner.proofs.Folded.{items-room, items-asked, items-planned}
use Rattle.planner.proofs.items.fold.Goals as goal

pub put_after-n-requires : goal.put_after-n-requires
put_after-n-requires c =
    let k = items-room c.requires.0 c.cut.ensures in
    (k.0, c.requires.1, k.1)

pub compact_front-plan-requires : goal.compact_front-plan-requires
compact_front-plan-requires c =
    items-asked c.requires.0 c.cut.ensures c.put_after-n.ensures c.requires.2

pub returns : goal.returns
returns c =
    items-planned c.requires.0 c.cut.ensures c.put_after-n.ensures c.requires.2 c.compact_front-plan.ensures.1 c.compact_front-plan.ensures.0
