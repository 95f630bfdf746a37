-- `desk::text::put_line` meets its contract: the word, the three numbers, then the end of the line. Assumes nothing.
use native.Mathlib.Omega.{arith}
use Rattle.output.specs.Text.{ascii}
use Rattle.output.proofs.Writing.{wrote-append}
use Rattle.desk.specs.Season.{step_line}
use Rattle.desk.proofs.text.put_line.Goals as goal

pub returns : goal.returns
unfolding step_line ascii
returns c =
    let word = c.put_word-next.ensures in
    let stores = c.put_field-next.ensures in
    let tail = c.put_field-next-2.ensures in
    let erases = c.put_field-next-3.ensures in
    let end = c.put_byte.ensures in (
      wrote-append (wrote-append (wrote-append (wrote-append word.0 stores.0) tail.0) erases.0) end,
      omega (arith, word.1, stores.1, tail.1, erases.1, end.place),
    )
