-- `capi::vs_get_many` meets its contract: the side and what the session says to it, one call of the engine, its answer in numbers. Assumes nothing.
use mathlib.Core.Path.{ap, ◌∙◌}
use Rattle.model.specs.Answers.{side_of}
use Rattle.capi.specs.Numbers.{numbers_of}
use Rattle.capi.proofs.vs_get_many.Goals as goal

pub returns : goal.returns
returns c =
    let a = c.args in
    let m = side_of a.context in
    let e = c.get_many-answer.ensures m a.session c.view-view.ensures in
    (c.from.ensures ∙ ap numbers_of e.0.0, e.1)
