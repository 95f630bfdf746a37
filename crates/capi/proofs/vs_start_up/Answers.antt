-- `capi::vs_start_up` meets its contract: a start_up with what it is given, and a fresh session. Assumes nothing.
use mathlib.Core.Path.{refl, ap, ◌∙◌}
use Rattle.model.specs.StartUp.{start_up_plan}
use Rattle.model.specs.Book.{plan_of}
use Rattle.capi.specs.Numbers.{numbers_of}
use Rattle.capi.proofs.vs_start_up.Goals as goal

pub returns : goal.returns
unfolding plan_of start_up_plan
returns c =
    let e = c.start_up-answer.ensures c.args.setup (refl, refl, refl) in
    (c.from.ensures ∙ ap numbers_of e.0.0, c.fresh-session.ensures, e.0.1, e.1)
