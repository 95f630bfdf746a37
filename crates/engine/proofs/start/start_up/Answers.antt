-- `engine::start::start_up` meets its contract: planned, then carried out.
-- Assumes nothing.
use Rattle.model.specs.StartUp.{start_up_plan}
use Rattle.model.specs.Book.{plan_of}
use Rattle.engine.proofs.Starts.{given, given-gives}
use Rattle.engine.proofs.Carrying.{planned-end}
use Rattle.engine.proofs.start.start_up.Goals as goal

pub carry_out-requires : goal.carry_out-requires
carry_out-requires c =
    let a = c.args in
    (c.plan_start_up-planned.ensures (given a.share a.records a.tenant) (given-gives a.share a.records a.tenant)).ready

pub returns : goal.returns
unfolding plan_of start_up_plan
returns c =
    let a = c.args in
    λ u g. let p = c.plan_start_up-planned.ensures u g in (planned-end a.c a.image.now p.same c.carry_out.ensures, p.kept)
