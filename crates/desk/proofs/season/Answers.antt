-- `desk::season` meets its contract: the text of a script that is right, or of one that is refused. Assumes nothing.
use Rattle.std.proofs.Common.{rules, arith}
use Rattle.output.proofs.Writing.{wrote_as}
use Rattle.desk.proofs.Underway.{judged-right, judged-wrong}
use Rattle.desk.proofs.season.Goals as goal

pub play_in-requires : goal.play_in-requires
play_in-requires c =
    let j = judged-right c.args.script.now c.in-Some.is c.judge.ensures in
    (j.0, j.1, search rules)

pub returns-in-None : goal.returns-in-None
returns-in-None c =
    let wrong = judged-wrong c.args.script.now c.in-None.is c.judge.ensures.0 in
    let line = c.put_refused.ensures in
    (wrote_as wrong line.0, omega (arith, line.1))
