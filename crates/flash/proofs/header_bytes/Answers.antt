-- `flash::header_bytes` meets its contract: its bytes before the state, and behind it, are runs. Assumes nothing.
use Prim.Native.Nat.{◌+◌, ◌-◌}
use native.Mathlib.Omega.{arith}
use Rattle.plan.specs.declared.Step.TheVariants.{Header}
use Rattle.plan.proofs.Stores.{front-piece, back-piece}
use Rattle.flash.proofs.Dead.{piece-turned}
use Rattle.flash.proofs.header_bytes.Goals as goal

pub returns-then-i-lt-STATE : goal.returns-then-i-lt-STATE
returns-then-i-lt-STATE c =
    let a = c.args in
    let t = c.if-i-lt-STATE.true in
    piece-turned a.dead.now 1 a.content.now (Header a.at a.from) a.i (a.at + a.i) (a.from + a.i) (2 - a.i) a.left a.image.now _ c.bytes.result
    (front-piece a.content.now a.at a.from a.i t) (omega (arith, t)) c.bytes.ensures

pub returns : goal.returns
returns c =
    let a = c.args in
    let t = c.if-i-lt-STATE.false in
    piece-turned a.dead.now 1 a.content.now (Header a.at a.from) a.i (a.at + a.i + 1) (a.from + a.i + 1) (59 - a.i) a.left a.image.now _ c.bytes-2.result
    (back-piece a.content.now a.at a.from a.i t) (omega (arith, c.requires.0)) c.bytes-2.ensures
