-- `output::digit` meets its contract: the byte string is the definition's list.
-- Assumes nothing.
use borrow.Author.Rules.{rules}
use Rattle.output.specs.Text.{ascii, digit}
use Rattle.output.proofs.digit.Goals as goal

pub returns : goal.returns
unfolding digit ascii
returns c = search rules
