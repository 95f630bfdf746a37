-- `desk::play::empty` meets its contract: formatting, to its end. Assumes nothing.
use native.Mathlib.Omega.{arith}
use mathlib.Core.Path.{ap, ◌∙◌}
use borrow.Author.Rules.{rules}
use Rattle.model.specs.declared.Context.{Context}
use Rattle.model.specs.StartUp.{format_plan}
use Rattle.model.specs.Answers.{image_after}
use Rattle.desk.proofs.Desk.{formatted}
use Rattle.desk.proofs.play.empty.Goals as goal

pub returns : goal.returns
returns c =
    let a = c.args in
    let img = a.image.now in
    c.format.ensures.1
    ∙ ap (λ (x : Context). image_after x (format_plan img) img) c.context.ensures
    ∙ formatted a.b img (search rules) (search rules) (search rules) 0xFFFFFFFFFFFFFFFF (omega arith)
