-- `decision::effect::remove` meets its contract: a value has to stand. Assumes nothing.
use mathlib.Core.Path.{sym, ◌∙◌}
use Rattle.decision.specs.Parts.{result_by}
use Rattle.decision.proofs.Old.{is-stands}
use Rattle.decision.proofs.effect.remove.Goals as goal

pub returns-then-is_some : goal.returns-then-is_some
unfolding result_by
returns-then-is_some c = rw (sym (c.is_some.ensures ∙ is-stands c.args.old) ∙ c.if-is_some.true)

pub returns : goal.returns
unfolding result_by
returns c = rw (sym (c.is_some.ensures ∙ is-stands c.args.old) ∙ c.if-is_some.false)
