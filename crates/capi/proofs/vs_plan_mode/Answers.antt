-- `capi::vs_plan_mode` meets its contract: the side and what the session says to its mode request, one call of the engine, its plan in numbers. Assumes nothing.
use mathlib.Core.Path.{refl}
use Rattle.model.specs.Session.{is_modem_def}
use Rattle.plan.proofs.InNumbers.{told}
use Rattle.capi.proofs.Said.{modes-told}
use Rattle.capi.proofs.vs_plan_mode.Goals as goal

pub plan_mode-planned-requires : goal.plan_mode-planned-requires
plan_mode-planned-requires c =
    let a = c.args in
    let m = is_modem_def a.side in
    (m, a.session, modes-told m a.session c.terms_for-said.ensures c.locks-held.ensures refl)

pub returns : goal.returns
returns c =
    let a = c.args in
    let m = is_modem_def a.side in
    let says = modes-told m a.session c.terms_for-said.ensures c.locks-held.ensures refl in
    let p = c.plan_mode-planned.ensures m a.session says in
    let n = c.in_numbers.ensures in
    (told _ c.plan_mode-planned.result p.same n, p.kept, record { planned = c.plan_mode-planned.result; plans = p; same = n })
