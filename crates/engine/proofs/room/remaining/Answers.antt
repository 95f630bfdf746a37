-- `engine::room::remaining` meets its contract: the two differences, the lesser of them, in whole words.
-- Assumes nothing.
use native.Mathlib.Omega.{arith}
use mathlib.Core.Path.{refl}
use Rattle.engine.proofs.room.remaining.Goals as goal

pub returns-then-error : goal.returns-then-error
returns-then-error c =
    let e = c.min.ensures in
    let l = c.saturating_sub.ensures in
    let s = c.record_share.ensures in
    let a = c.saturating_sub-all.ensures in
    rw c.if-error.true (rw (e, l, a, s) refl, omega (arith, e, l, a))

pub returns : goal.returns
returns c =
    let e = c.min-2.ensures in
    let l = c.saturating_sub-2.ensures in
    let a = c.saturating_sub-all.ensures in
    rw c.if-error.false (rw (e, l, a) refl, omega (arith, e, l, a))
