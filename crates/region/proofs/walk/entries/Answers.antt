-- `region::walk::entries` meets its contract: the walk starts behind the region's header. Assumes nothing.
use Rattle.std.proofs.Common.{sym, ◌∙◌}
use Rattle.model.proofs.Walking.{entries_from}
use Rattle.region.proofs.walk.entries.Goals as goal

pub returns : goal.returns
returns c = c.entries_from.ensures ∙ sym (entries_from c.args.y c.args.region.now)
