-- `desk::play::step` meets its contract: a set, whole; or one that is cut, and a start_up. Assumes nothing.
use Rattle.desk.proofs.Playing.{step_cut, step-whole}
use Rattle.desk.proofs.play.step.Goals as goal

pub returns-in_default : goal.returns-in_default
returns-in_default c =
    let a = c.args in
    step-whole a.b a.script.now a.asked a.image.now _ c.in_default.is c.set_item.ensures

pub returns : goal.returns
returns c =
    let a = c.args in
    step_cut a.b a.script.now a.asked a.image.now _ c.in-Some.is c.set_item-p.ensures c.start_up-q.ensures
