-- `capi::vs_plan_profile_lent` meets its contract: the side and what the session's bytes say to its profile, one call of the engine, its plan in numbers. Assumes nothing.
use mathlib.Core.Path.{ap, ◌∙◌}
use mathlib.Core.Bool.{Bool}
use Rattle.model.specs.Rules.{terms_for_def}
use Rattle.model.specs.Session.{is_modem_def}
use Rattle.model.specs.Lent.{session_of}
use Rattle.plan.proofs.InNumbers.{told}
use Rattle.capi.proofs.Said.{all_told}
use Rattle.capi.proofs.vs_plan_profile_lent.Goals as goal

pub plan_profile-told-requires : goal.plan_profile-told-requires
plan_profile-told-requires c =
    let a = c.args in
    let m = is_modem_def a.side in
    let s = session_of a.session.now in
    (m, s, all_told m s (c.terms_for-said.ensures ∙ ap (λ (n : Bool). terms_for_def n s) c.is_modem.ensures) c.locks-held.ensures c.places-locks.ensures c.limits-limits.ensures)

pub returns : goal.returns
returns c =
    let a = c.args in
    let m = is_modem_def a.side in
    let s = session_of a.session.now in
    let says = all_told m s (c.terms_for-said.ensures ∙ ap (λ (n : Bool). terms_for_def n s) c.is_modem.ensures) c.locks-held.ensures c.places-locks.ensures c.limits-limits.ensures in
    let p = c.plan_profile-told.ensures m s says in
    let n = c.in_numbers.ensures in
    (told _ c.plan_profile-told.result p.same n, p.kept, record { planned = c.plan_profile-told.result; plans = p; same = n })
