-- `capi::vs_mode` meets its contract: the side and what the session says to its mode request, one call of the engine, its answer in numbers. Assumes nothing.
use mathlib.Core.Path.{refl, ap, ◌∙◌}
use Rattle.model.specs.Answers.{side_of}
use Rattle.capi.specs.Numbers.{numbers_of}
use Rattle.capi.proofs.Said.{modes-told}
use Rattle.capi.proofs.vs_mode.Goals as goal

pub mode-answer-requires : goal.mode-answer-requires
mode-answer-requires c =
    let a = c.args in
    let m = side_of a.context in
    (m, a.session, modes-told m a.session c.terms_for-said.ensures c.locks-held.ensures refl)

pub returns : goal.returns
returns c =
    let a = c.args in
    let m = side_of a.context in
    let says = modes-told m a.session c.terms_for-said.ensures c.locks-held.ensures refl in
    let e = c.mode-answer.ensures m a.session says in
    (c.from.ensures ∙ ap numbers_of e.0.0, e.0.1, e.1)
