-- `desk::play::share` meets its contract: a block has 4,096 bytes. Assumes nothing.
use borrow.Author.Rules.{rules}
use Rattle.model.specs.Image.{block}
use Rattle.desk.proofs.play.share.Goals as goal

pub returns : goal.returns
unfolding block
returns c = search rules
