-- `desk::text::put_number` meets its contract: the digits are those of the tenth and one more.
-- Assumes nothing.
use native.Mathlib.Omega.{arith}
use borrow.Author.Rules.{rules}
use Rattle.output.proofs.Writing.{wrote-append, wrote_as}
use Rattle.desk.proofs.Texts.{tenth-and-last, long-decimal}
use Rattle.desk.proofs.text.+put_number.Goals as goal

pub returns-then-n-lt10 : goal.returns-then-n-lt10
returns-then-n-lt10 t c = (c.put_decimal.ensures.0, omega (arith, c.put_decimal.ensures.1))

pub returns : goal.returns
returns t c =
    let a = c.args in
    let all = wrote_as (tenth-and-last a.n (search rules)) (wrote-append c.put_number-next.ensures.0 c.put_decimal-2.ensures.0) in
    (all, omega (arith, all.place, long-decimal a.n (search rules)))
