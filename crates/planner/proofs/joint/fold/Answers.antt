-- `planner::joint::fold` meets its contract: what is composed is the region that the compaction is to leave. Assumes nothing.
use Rattle.planner.proofs.Joined.{joint-room, joint-asked, joint-planned}
use Rattle.planner.proofs.joint.fold.Goals as goal

pub put_after-n-requires : goal.put_after-n-requires
put_after-n-requires c = rw (c.unwrap_or.ensures, c.unwrap_or-2.ensures) (joint-room c.requires.0 c.cut.ensures)

pub compact_front-plan-requires : goal.compact_front-plan-requires
compact_front-plan-requires c =
    let w = rw (c.unwrap_or.ensures, c.unwrap_or-2.ensures) at c.put_after-n.ensures in
    joint-asked c.requires.0 c.cut.ensures w c.requires.1

pub returns : goal.returns
returns c =
    let w = rw (c.unwrap_or.ensures, c.unwrap_or-2.ensures) at c.put_after-n.ensures in
    joint-planned c.requires.0 c.cut.ensures w c.requires.1 c.compact_front-plan.ensures.1 c.compact_front-plan.ensures.0
