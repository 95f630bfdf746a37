-- `capi::vs_from_plain` meets its contract: a move between the two forms, with the answer in numbers.
-- Assumes nothing.
use mathlib.Core.Path.{ap, ap₂, ◌∙◌}
use Rattle.model.specs.declared.Layout.{Layout}
use Rattle.model.specs.Move.{move_answer, image_moved}
use Rattle.capi.specs.Numbers.{numbers_of}
use Rattle.capi.proofs.vs_from_plain.Goals as goal

pub returns : goal.returns
returns c =
    let a = c.args in
    let e = c.move_values-answer.ensures in
    let from = c.plain.ensures in
    let to = c.authenticated.ensures in (
      c.from.ensures ∙ ap numbers_of (e.0 ∙ ap₂ (λ (y z : Layout). move_answer y z a.image.now a.target.now) from to),
      e.1 ∙ ap₂ (λ (y z : Layout). image_moved y z a.image.now a.target.now) from to,
    )
