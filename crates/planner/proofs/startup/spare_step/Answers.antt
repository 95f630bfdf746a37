-- `planner::startup::spare_step` meets its contract: erased where it is not all FF. Assumes nothing.
use mathlib.Core.Path.{◌∙◌}
use Rattle.model.specs.Image.{block}
use Rattle.planner.specs.Compactions.{spare_step_def}
use Rattle.planner.proofs.Stages.{blank-told}
use Rattle.planner.proofs.startup.spare_step.Goals as goal

pub returns-then-is_blank : goal.returns-then-is_blank
unfolding spare_step_def block
returns-then-is_blank c =
    rw (blank-told c.args.image.now c.args.b c.requires.0 c.requires.1 c.requires.2 c.cut.ensures c.is_blank.ensures ∙ c.if-is_blank.true)

pub returns-else-is_blank : goal.returns-else-is_blank
unfolding spare_step_def block
returns-else-is_blank c =
    rw (blank-told c.args.image.now c.args.b c.requires.0 c.requires.1 c.requires.2 c.cut.ensures c.is_blank.ensures ∙ c.if-is_blank.false)
