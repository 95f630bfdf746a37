-- `decision::effect::put` meets its contract: the size decides. Assumes nothing.
use borrow.Author.Tests.{lt-ltb, le-ltb}
use Rattle.decision.specs.Parts.{result_by}
use Rattle.decision.proofs.effect.put.Goals as goal

pub returns-then-size : goal.returns-then-size
unfolding result_by
returns-then-size c = rw (lt-ltb _ _ c.if-size.true)

pub returns : goal.returns
unfolding result_by
returns c = rw (le-ltb _ _ c.if-size.false)
