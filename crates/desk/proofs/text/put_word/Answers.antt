-- `desk::text::put_word` meets its contract: a word for each answer. Assumes nothing.
use native.Mathlib.Omega.{arith}
use mathlib.Core.Path.{ap, ◌∙◌}
use Rattle.output.specs.Text.{ascii}
use Rattle.output.proofs.Writing.{wrote_as}
use Rattle.report.specs.Varlist.{field}
use Rattle.desk.specs.Season.{word_of}
use Rattle.desk.proofs.text.put_word.Goals as goal

pub returns-in-Done : goal.returns-in-Done
unfolding word_of ascii
returns-in-Done c =
    let word = c.put_bytes.ensures in
    (rw c.in-Done.is word, omega (arith, word.place))

pub returns-in-Stopped : goal.returns-in-Stopped
unfolding word_of ascii
returns-in-Stopped c =
    let word = c.put_bytes-in-Stopped.ensures in
    (rw c.in-Stopped.is word, omega (arith, word.place))

pub returns-in-Refused : goal.returns-in-Refused
unfolding word_of ascii
returns-in-Refused c =
    let rule = ap (field (ascii "refused ")) (c.from-in-Refused.ensures ∙ c.from.ensures) in
    let word = c.put_field.ensures in
    (rw c.in-Refused.is (wrote_as rule word.0), omega (arith, word.1))
