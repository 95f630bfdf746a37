-- `engine::many::get_many` meets its contract: rules 1 and 2 first, then what `get_all` answers of the region. Assumes nothing.
use native.Mathlib.Omega.{arith}
use mathlib.Core.Path.{sym, ap, ◌∙◌}
use lib.ListN.{length}
use Rattle.model.specs.Layout.{authenticated}
use Rattle.image.proofs.Readiness.{is-ready, refused-rule}
use Rattle.model.specs.Beside.{asked}
use Rattle.engine.proofs.Several.{gets-answered, gets-refused}
use Rattle.engine.proofs.many.get_many.Goals as goal

pub overflow_mul-ready : goal.overflow_mul-ready
overflow_mul-ready c =
    let o = is-ready authenticated (sym c.check_call.ensures ∙ c.in-Ok.is) in
    record { fits = omega (arith, o.few) }

pub get_all-requires : goal.get_all-requires
get_all-requires c =
    let o = is-ready authenticated (sym c.check_call.ensures ∙ c.in-Ok.is) in
    let n = ap length (c.cut.ensures ∙ o.cut) in
    omega (arith, o.few, o.long)

pub returns-in-Ok : goal.returns-in-Ok
returns-in-Ok c =
    let a = c.args in
    let o = is-ready authenticated (sym c.check_call.ensures ∙ c.in-Ok.is) in
    gets-answered a.c a.view (asked a.keys.now a.sizes.now) a.buffer.now a.image.now a.told.now o.unbroken (c.cut.ensures ∙ o.cut) c.get_all.ensures

pub returns-in-Err : goal.returns-in-Err
returns-in-Err c =
    let a = c.args in
    let rule = refused-rule authenticated a.image.now c.in-Err.rule (sym c.check_call.ensures ∙ c.in-Err.is) in
    λ m s e. gets-refused a.c (asked a.keys.now a.sizes.now) a.buffer.now a.image.now a.told.now c.in-Err.rule rule m s
