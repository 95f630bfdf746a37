-- `capi::vs_set` meets its contract: the side and what the session says to its set, one call of the engine, its answer in numbers. Assumes nothing.
use mathlib.Core.Path.{ap, ◌∙◌}
use Rattle.model.specs.Answers.{side_of}
use Rattle.capi.specs.Numbers.{numbers_of}
use Rattle.capi.proofs.vs_set.Goals as goal

pub set-answer-requires : goal.set-answer-requires
set-answer-requires c =
    let a = c.args in
    let m = side_of a.context in
    (m, a.session, c.terms-terms.ensures)

pub returns : goal.returns
returns c =
    let a = c.args in
    let m = side_of a.context in
    let e = c.set-answer.ensures m a.session c.terms-terms.ensures in
    (c.from.ensures ∙ ap numbers_of e.0.0, e.0.1, e.1)
