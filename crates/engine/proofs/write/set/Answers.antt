-- `engine::write::set` meets its contract: planned, then carried out. Assumes nothing.
use Rattle.engine.proofs.Carrying.{planned-end}
use Rattle.engine.proofs.write.set.Goals as goal

pub plan_set-planned-requires : goal.plan_set-planned-requires
plan_set-planned-requires c = c.requires

pub carry_out-requires : goal.carry_out-requires
carry_out-requires c = (c.plan_set-planned.ensures c.requires.0 c.requires.1 c.requires.2).ready

pub returns : goal.returns
returns c =
    let a = c.args in
    λ m s h. let p = c.plan_set-planned.ensures m s h in (planned-end a.c a.image.now p.same c.carry_out.ensures, p.kept)
