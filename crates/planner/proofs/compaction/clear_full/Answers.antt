-- `planner::compaction::clear_full` meets its contract: the two cases of the definition. Assumes nothing.
use borrow.Author.Tests.{le-leb, lt-leb}
use Rattle.planner.specs.Compactions.{clear_step}
use Rattle.planner.proofs.compaction.clear_full.Goals as goal

pub returns-then-used-lt-RECORDS : goal.returns-then-used-lt-RECORDS
unfolding clear_step
returns-then-used-lt-RECORDS c = rw (lt-leb 64 c.args.used c.if-used-lt-RECORDS.true)

pub returns-else-used-lt-RECORDS : goal.returns-else-used-lt-RECORDS
unfolding clear_step
returns-else-used-lt-RECORDS c = rw (le-leb 64 c.args.used c.if-used-lt-RECORDS.false)
