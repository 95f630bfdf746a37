-- `capi::vs_next_name` meets its contract: the side and what the session says to it, one call of the engine, its answer in numbers. Assumes nothing.
use mathlib.Core.Path.{ap, ◌∙◌}
use Rattle.model.specs.Answers.{side_of}
use Rattle.capi.specs.Numbers.{numbers_of}
use Rattle.capi.proofs.vs_next_name.Goals as goal

pub returns : goal.returns
returns c =
    let a = c.args in
    let m = side_of a.context in
    let e = c.next_name-g.ensures m a.session c.view-view.ensures in
    let r = c.from.ensures in (r.0 ∙ ap numbers_of e.0.0, rw (r.1, r.2, r.3) e.1)
