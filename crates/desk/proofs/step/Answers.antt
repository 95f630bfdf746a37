-- `desk::step` meets its contract: what was played, and the line of it. Assumes nothing.
use native.Mathlib.Omega.{arith}
use borrow.Author.Rules.{rules}
use Rattle.model.specs.Image.{block}
use Rattle.desk.specs.Reader.{step_in}
use Rattle.desk.proofs.Playing.{stepped}
use Rattle.desk.proofs.step.Goals as goal

pub step-p-requires : goal.step-p-requires
unfolding block
step-p-requires c =
    let p = c.requires in
    (p.0, p.1, omega (arith, p.1, p.2), p.3)

pub overflow_add-erases : goal.overflow_add-erases
overflow_add-erases c =
    let p = c.step-p.ensures in
    omega (arith, p.few, p.fewer, c.requires.4)

pub put_line-next-requires : goal.put_line-next-requires
put_line-next-requires c = c.requires.5

pub returns : goal.returns
returns c =
    let a = c.args in
    let p = c.requires in
    let line = c.put_line-next.ensures in
    stepped a.b (step_in a.script.now a.asked) a.before a.image.now _ p.0 p.1 (search rules) c.step-p.ensures c.cut.ensures c.tail-tail.ensures line.0 line.1
