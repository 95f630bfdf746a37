-- `capi::vs_profile_lent` meets its contract: the side and what the session's bytes say to its profile, one call of the engine, its answer in numbers. Assumes nothing.
use mathlib.Core.Path.{ap, ◌∙◌}
use mathlib.Core.Bool.{Bool}
use Rattle.model.specs.Rules.{terms_for_def}
use Rattle.model.specs.Answers.{side_of}
use Rattle.model.specs.Lent.{session_of}
use Rattle.capi.specs.Numbers.{numbers_of}
use Rattle.capi.proofs.Said.{all_told}
use Rattle.capi.proofs.vs_profile_lent.Goals as goal

pub profile-told-requires : goal.profile-told-requires
profile-told-requires c =
    let a = c.args in
    let m = side_of a.context in
    let s = session_of a.session.now in
    (m, s, all_told m s (c.terms_for-said.ensures ∙ ap (λ (n : Bool). terms_for_def n s) c.is_modem.ensures) c.locks-held.ensures c.places-locks.ensures c.limits-limits.ensures)

pub returns : goal.returns
returns c =
    let a = c.args in
    let m = side_of a.context in
    let s = session_of a.session.now in
    let says = all_told m s (c.terms_for-said.ensures ∙ ap (λ (n : Bool). terms_for_def n s) c.is_modem.ensures) c.locks-held.ensures c.places-locks.ensures c.limits-limits.ensures in
    let e = c.profile-told.ensures m s says in
    (c.from.ensures ∙ ap numbers_of e.0.0, e.0.1, e.1)
