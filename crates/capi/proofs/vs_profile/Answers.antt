-- `capi::vs_profile` meets its contract: the side and what the session says to its profile, one call of the engine, its answer in numbers. Assumes nothing.
use mathlib.Core.Path.{refl, ap, ◌∙◌}
use Rattle.model.specs.Answers.{side_of}
use Rattle.capi.specs.Numbers.{numbers_of}
use Rattle.capi.proofs.Said.{all_told}
use Rattle.capi.proofs.vs_profile.Goals as goal

pub profile-answer-requires : goal.profile-answer-requires
profile-answer-requires c =
    let a = c.args in
    let m = side_of a.context in
    (m, a.session, all_told m a.session c.terms_for-said.ensures c.locks-held.ensures refl refl)

pub returns : goal.returns
returns c =
    let a = c.args in
    let m = side_of a.context in
    let says = all_told m a.session c.terms_for-said.ensures c.locks-held.ensures refl refl in
    let e = c.profile-answer.ensures m a.session says in
    (c.from.ensures ∙ ap numbers_of e.0.0, e.0.1, e.1)
