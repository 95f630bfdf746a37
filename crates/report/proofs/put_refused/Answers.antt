-- `report::put_refused` meets its contract: the word and the number, then the end of the line.
-- Assumes nothing.
use Rattle.output.specs.Text.{ascii}
use Rattle.output.proofs.Writing.{wrote-append}
use Rattle.report.specs.Varlist.{refused_line}
use Rattle.report.proofs.put_refused.Goals as goal

pub returns : goal.returns
unfolding refused_line ascii
returns c = wrote-append c.put_field-next.ensures.0 c.put_byte.ensures
