-- `decision::modes::lost` meets its contract: by whether PK is lost. Assumes nothing.
use mathlib.Core.Path.{sym, ◌∙◌}
use Rattle.decision.specs.Modes.{lost_by}
use Rattle.decision.proofs.modes.lost.Goals as goal

pub returns-then-loses : goal.returns-then-loses
unfolding lost_by
returns-then-loses c = rw (sym c.loses.ensures ∙ c.if-loses.true)

pub returns : goal.returns
unfolding lost_by
returns c = rw (sym c.loses.ensures ∙ c.if-loses.false)
