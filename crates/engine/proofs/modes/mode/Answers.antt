-- `engine::modes::mode` meets its contract: planned, then carried out. Assumes nothing.
use Rattle.engine.proofs.Carrying.{planned-end}
use Rattle.engine.proofs.modes.mode.Goals as goal

pub plan_mode-planned-requires : goal.plan_mode-planned-requires
plan_mode-planned-requires c = c.requires

pub carry_out-requires : goal.carry_out-requires
carry_out-requires c =
    let p = c.requires in
    (c.plan_mode-planned.ensures p.0 p.1 p.2).ready

pub returns : goal.returns
returns c =
    let a = c.args in
    λ m s h. let p = c.plan_mode-planned.ensures m s h in (planned-end a.c a.image.now p.same c.carry_out.ensures, p.kept)
