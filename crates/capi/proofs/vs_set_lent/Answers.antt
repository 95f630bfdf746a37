-- `capi::vs_set_lent` meets its contract: the side and what the session's bytes say to its set, one call of the engine, its answer in numbers. Assumes nothing.
use mathlib.Core.Path.{sym, ap, ◌∙◌}
use mathlib.Core.Bool.{Bool}
use Rattle.model.specs.Name.{keyed}
use Rattle.model.specs.Rules.{terms_of}
use Rattle.model.specs.Answers.{side_of}
use Rattle.model.specs.Lent.{session_of}
use Rattle.capi.specs.Numbers.{numbers_of}
use Rattle.capi.proofs.vs_set_lent.Goals as goal

pub set-told-requires : goal.set-told-requires
set-told-requires c =
    let a = c.args in
    let s = session_of a.session.now in
    let k = keyed a.name.now a.vendor.now in
    (side_of a.context, s, (sym (c.terms-terms.ensures ∙ ap (λ (m : Bool). terms_of m s k) c.is_modem.ensures), sym c.limits-limits.ensures))

pub returns : goal.returns
returns c =
    let a = c.args in
    let s = session_of a.session.now in
    let k = keyed a.name.now a.vendor.now in
    let e = c.set-told.ensures (side_of a.context) s (sym (c.terms-terms.ensures ∙ ap (λ (m : Bool). terms_of m s k) c.is_modem.ensures), sym c.limits-limits.ensures) in
    (c.from.ensures ∙ ap numbers_of e.0.0, e.0.1, e.1)
