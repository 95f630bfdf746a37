-- `engine::room::query` meets its contract: rules 1, 2 and 4, then what `room_in` gives of the region.
-- Assumes nothing.
use native.Mathlib.Omega.{arith}
use mathlib.Core.Path.{sym, ap, refl, ◌∙◌}
use lib.ListN.{length}
use Rattle.model.specs.Layout.{authenticated}
use Rattle.image.proofs.Readiness.{is-ready}
use Rattle.engine.proofs.Rooms.{told-unknown, told-refused, told-room}
use Rattle.engine.proofs.room.query.Goals as goal

pub returns-then-is_unknown : goal.returns-then-is_unknown
returns-then-is_unknown c =
    let a = c.args in
    told-unknown a.t a.image.now a.attributes (sym c.check_call.ensures ∙ c.in-Ok.is)
    (sym c.is_unknown.ensures ∙ c.if-is_unknown.true) c.refused.ensures

pub overflow_mul-ready : goal.overflow_mul-ready
overflow_mul-ready c = let r = is-ready authenticated (sym c.check_call.ensures ∙ c.in-Ok.is) in record { fits = omega (arith, r.few) }

pub room_in-room-requires : goal.room_in-room-requires
room_in-room-requires c =
    let r = is-ready authenticated (sym c.check_call.ensures ∙ c.in-Ok.is) in
    let n = ap length (c.cut-region.ensures ∙ r.cut) in
    omega (arith, r.few, r.long, n)

pub returns-else-is_unknown : goal.returns-else-is_unknown
returns-else-is_unknown c =
    let a = c.args in
    let p = sym c.check_call.ensures ∙ c.in-Ok.is in
    let r = c.room_in-room.ensures in
    let e = c.is_error_record.ensures in
    told-room a.t a.image.now a.attributes p
    (sym c.is_unknown.ensures ∙ c.if-is_unknown.false) (c.cut-region.ensures ∙ (is-ready authenticated p).cut)
    refl (rw (← e) r.0) (rw (← e) r.1) (rw (← e) r.2)

pub returns-in-Err : goal.returns-in-Err
returns-in-Err c =
    let a = c.args in
    told-refused a.t a.image.now a.attributes c.in-Err.rule (sym c.check_call.ensures ∙ c.in-Err.is) c.refused-in-Err.ensures
