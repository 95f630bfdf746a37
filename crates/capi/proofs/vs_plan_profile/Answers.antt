-- `capi::vs_plan_profile` meets its contract: the side and what the session says to its profile, one call of the engine, its plan in numbers. Assumes nothing.
use mathlib.Core.Path.{refl}
use Rattle.model.specs.Session.{is_modem_def}
use Rattle.plan.proofs.InNumbers.{told}
use Rattle.capi.proofs.Said.{all_told}
use Rattle.capi.proofs.vs_plan_profile.Goals as goal

pub plan_profile-planned-requires : goal.plan_profile-planned-requires
plan_profile-planned-requires c =
    let a = c.args in
    let m = is_modem_def a.side in
    (m, a.session, all_told m a.session c.terms_for-said.ensures c.locks-held.ensures refl refl)

pub returns : goal.returns
returns c =
    let a = c.args in
    let m = is_modem_def a.side in
    let says = all_told m a.session c.terms_for-said.ensures c.locks-held.ensures refl refl in
    let p = c.plan_profile-planned.ensures m a.session says in
    let n = c.in_numbers.ensures in
    (told _ c.plan_profile-planned.result p.same n, p.kept, record { planned = c.plan_profile-planned.result; plans = p; same = n })
