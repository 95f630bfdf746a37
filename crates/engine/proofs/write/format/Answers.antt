-- `engine::write::format` meets its contract: planned, then carried out. Assumes nothing.
use Rattle.engine.proofs.Carrying.{planned-end}
use Rattle.engine.proofs.write.format.Goals as goal

pub returns : goal.returns
returns c =
    let a = c.args in
    let e = planned-end a.c a.image.now c.plan_format-planned.ensures.same c.carry_out.ensures in
    (e.0, e.1, c.plan_format-planned.ensures.kept)
