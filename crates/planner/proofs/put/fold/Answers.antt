-- `planner::put::fold` meets its contract: what is composed is the region that the compaction is to leave. Assumes nothing.
use mathlib.Core.Path.{◌≡◌}
use lib.ListN.{length}
use Rattle.planner.proofs.Folded.{fold-room, fold-asked, fold-planned}
use borrow.Author.Rules.{rules}
use Rattle.planner.proofs.put.fold.Goals as goal

pub put_after-n-requires : goal.put_after-n-requires
put_after-n-requires c =
    let ve : length c.args.vendor.now ≡ 16 = search rules in
    fold-room c.requires.0 ve c.cut.ensures

pub compact_front-plan-requires : goal.compact_front-plan-requires
compact_front-plan-requires c =
    let ve : length c.args.vendor.now ≡ 16 = search rules in
    fold-asked c.requires.0 ve c.cut.ensures c.put_after-n.ensures.0 c.requires.2

pub returns : goal.returns
returns c =
    fold-planned c.requires.0 c.put_after-n.ensures.1 c.cut.ensures c.put_after-n.ensures.0 c.requires.2 c.compact_front-plan.ensures.1 c.requires.1 c.compact_front-plan.ensures.0
