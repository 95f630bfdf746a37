-- `capi::vs_check` meets its contract: what the check of rules 1 and 2 found, in numbers; b and the tail's offset are small.
-- Assumes nothing.
use Rattle.std.proofs.Common.{sym, ◌∙◌, arith}
use Rattle.model.specs.Layout.{authenticated}
use Rattle.image.proofs.Readiness.{is-ready}
use Rattle.capi.proofs.Told.{ready-told, broken-told}
use Rattle.capi.proofs.vs_check.Goals as goal

pub overflow_cast-result : goal.overflow_cast-result
overflow_cast-result c =
    let x = is-ready authenticated (sym c.check_call.ensures ∙ c.in-Ok.is) in
    record { fits = omega (arith, x.few) }

pub overflow_cast-result-in-Ok : goal.overflow_cast-result-in-Ok
overflow_cast-result-in-Ok c =
    let x = is-ready authenticated (sym c.check_call.ensures ∙ c.in-Ok.is) in
    record { fits = omega (arith, x.few, x.long, x.tail_within) }

pub returns-in-Ok : goal.returns-in-Ok
returns-in-Ok c = ready-told c.args.image.now c.from.result (sym c.check_call.ensures ∙ c.in-Ok.is) c.from.ensures

pub returns-in-Err : goal.returns-in-Err
returns-in-Err c =
    broken-told c.args.image.now c.in-Err.rule c.from-in-Err.result (sym c.check_call.ensures ∙ c.in-Err.is) c.from-in-Err.ensures
