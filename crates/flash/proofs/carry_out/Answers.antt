-- `flash::carry_out` meets its contract, by what was planned. Assumes nothing.
use Rattle.std.proofs.Common.{sym}
use native.Mathlib.Nat.{min_comm}
use Rattle.flash.proofs.Ended.{accepted-end, refused_end}
use Rattle.flash.proofs.carry_out.Goals as goal

pub returns-in-Ok : goal.returns-in-Ok
returns-in-Ok c =
    let a = c.args in
    accepted-end a.context a.content.now a.image.now a.planned c.in-Ok.is
    (rw (min_comm a.context.count 16, sym c.min-count.ensures, sym c.width-w.ensures.0) c.make_stores.ensures)

pub returns-in-Err : goal.returns-in-Err
returns-in-Err c =
    let a = c.args in
    refused_end a.context a.content.now a.image.now a.planned c.in-Err.is
