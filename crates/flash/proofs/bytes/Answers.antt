-- `flash::bytes` meets its contract: no more than are left, and of those the ones before the first that fails. Assumes nothing.
use native.Mathlib.Omega.{arith}
use Rattle.flash.proofs.Dead.{programmed, reach-within}
use Rattle.flash.proofs.bytes.Goals as goal

pub put_run-requires : goal.put_run-requires
put_run-requires c =
    let a = c.args in
    let k =
    reach-within a.dead.now a.content.now a.at a.from c.min-n.result a.image.now c.spared-k.result (omega arith)
    c.spared-k.ensures in
    (omega arith, omega arith)

pub returns : goal.returns
returns c =
    let a = c.args in
    programmed a.dead.now a.content.now a.at a.from a.len c.min-n.result a.left c.spared-k.result a.image.now _
    c.requires.2 (omega arith) (omega arith) (omega arith) c.spared-k.ensures c.put_run.ensures
