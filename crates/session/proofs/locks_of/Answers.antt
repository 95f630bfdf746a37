-- `session::locks_of` meets its contract. The loop's invariant: those counted, and the side's places in use from `place` on, are all. Assumes nothing.
use native.Mathlib.Omega.{arith}
use Prim.Native.Nat.{◌≤◌}
use mathlib.Core.Path.{◌≡◌, refl, ◌∙◌}
use mathlib.Core.Bool.{Bool, true, false, cond}
use mir.Val.{bool_byte}
use Rattle.session.proofs.Places.{count-end, count-here}
use Rattle.session.proofs.locks_of.Goals as goal

counted : (b : Bool) → bool_byte b ≡ cond b 1 0
counted true = refl
counted false = refl

at_most : (b : Bool) → cond b 1 0 ≤ 1
at_most true = omega arith
at_most false = omega arith

pub loop-place-preserved : goal.loop-place-preserved
loop-place-preserved c =
    let a = c.args in
    let e = count-here a.guid.now a.modem a.sizes a.locks.now a.used c.loop-place.place c.is_sides.result (omega arith) c.is_sides.ensures in
    let h = c.loop-place.invariant.1 in
    let n = c.from-n.ensures ∙ counted c.is_sides.result in
    let few : cond c.is_sides.result 1 0 ≤ 1 = at_most c.is_sides.result in
    (omega arith, omega arith)

pub returns : goal.returns
returns c =
    let a = c.args in
    let e = count-end a.guid.now a.modem a.sizes a.locks.now a.used c.loop-place.place (omega arith) in
    let h = c.loop-place.invariant.1 in
    omega arith
