-- `desk::text::put_refused` meets its contract: the word and the number, then the end of the line. Assumes nothing.
use native.Mathlib.Omega.{arith}
use mathlib.Core.Path.{ap, ◌∙◌}
use Rattle.output.specs.Text.{ascii}
use Rattle.output.proofs.Writing.{wrote-append, wrote_as}
use Rattle.report.specs.Varlist.{field, refused_line}
use Rattle.desk.proofs.text.put_refused.Goals as goal

pub returns : goal.returns
unfolding refused_line ascii
returns c =
    let rule = ap (field (ascii "refused ")) (c.from-2.ensures ∙ c.from.ensures) in
    let word = c.put_field-next.ensures in
    let end = c.put_byte.ensures in
    (wrote-append (wrote_as rule word.0) end, omega (arith, word.1, end.place))
