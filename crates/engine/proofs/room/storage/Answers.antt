-- `engine::room::storage` meets its contract: by the class, the lesser of two.
-- Assumes nothing.
use native.Mathlib.Omega.{arith}
use Rattle.model.specs.Query.{storage_for}
use mathlib.Core.Path.{refl}
use Rattle.engine.proofs.room.storage.Goals as goal

pub returns-then-error : goal.returns-then-error
unfolding storage_for
returns-then-error c =
    let e = c.min.ensures in
    let s = c.record_share.ensures in
    let l = c.saturating_sub-all.ensures in
    rw c.if-error.true (rw (e, l, s) refl, omega (arith, e, l))

pub returns : goal.returns
unfolding storage_for
returns c =
    let e = c.min-2.ensures in
    let s = c.saturating_sub.ensures in
    let l = c.saturating_sub-all.ensures in
    rw c.if-error.false (rw (e, l, s) refl, omega (arith, e, l))
