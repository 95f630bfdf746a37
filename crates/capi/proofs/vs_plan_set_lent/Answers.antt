-- `capi::vs_plan_set_lent` meets its contract: the side and what the session's bytes say to its set, one call of the engine, its plan in numbers. Assumes nothing.
use mathlib.Core.Path.{sym, ap, ◌∙◌}
use mathlib.Core.Bool.{Bool}
use Rattle.model.specs.Name.{keyed}
use Rattle.model.specs.Rules.{terms_of}
use Rattle.model.specs.Session.{is_modem_def}
use Rattle.model.specs.Lent.{session_of}
use Rattle.plan.proofs.InNumbers.{told}
use Rattle.capi.proofs.vs_plan_set_lent.Goals as goal

pub plan_set-told-requires : goal.plan_set-told-requires
plan_set-told-requires c =
    let a = c.args in
    let s = session_of a.session.now in
    let k = keyed a.name.now a.vendor.now in
    (is_modem_def a.side, s, (sym (c.terms-terms.ensures ∙ ap (λ (m : Bool). terms_of m s k) c.is_modem.ensures), sym c.limits-limits.ensures))

pub returns : goal.returns
returns c =
    let a = c.args in
    let s = session_of a.session.now in
    let k = keyed a.name.now a.vendor.now in
    let p = c.plan_set-told.ensures (is_modem_def a.side) s (sym (c.terms-terms.ensures ∙ ap (λ (m : Bool). terms_of m s k) c.is_modem.ensures), sym c.limits-limits.ensures) in
    let n = c.in_numbers.ensures in
    (told _ c.plan_set-told.result p.same n, p.kept, record { planned = c.plan_set-told.result; plans = p; same = n })
