-- `desk::text::put_field` meets its contract: the word, then the number's digits. Assumes nothing.
use native.Mathlib.Omega.{arith}
use Rattle.output.proofs.Writing.{wrote-append}
use Rattle.report.specs.Varlist.{field}
use Rattle.desk.proofs.text.put_field.Goals as goal

pub returns : goal.returns
unfolding field
returns c =
    let word = c.put_bytes-next.ensures in
    let number = c.put_number.ensures in
    (wrote-append word number.0, omega (arith, word.place))
