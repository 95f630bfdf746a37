-- `capi::vs_plan_set` meets its contract: the side and what the session says to its set, one call of the engine, its plan in numbers. Assumes nothing.
use Rattle.model.specs.Session.{is_modem_def}
use Rattle.plan.proofs.InNumbers.{told}
use Rattle.capi.proofs.vs_plan_set.Goals as goal

pub plan_set-planned-requires : goal.plan_set-planned-requires
plan_set-planned-requires c =
    let a = c.args in
    let m = is_modem_def a.side in
    (m, a.session, c.terms-terms.ensures)

pub returns : goal.returns
returns c =
    let a = c.args in
    let m = is_modem_def a.side in
    let p = c.plan_set-planned.ensures m a.session c.terms-terms.ensures in
    let n = c.in_numbers.ensures in
    (told _ c.plan_set-planned.result p.same n, p.kept, record { planned = c.plan_set-planned.result; plans = p; same = n })
