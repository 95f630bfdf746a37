-- `convert::room::is_unstampable` meets its contract: a form with stamps takes every value.
-- Assumes nothing.
use mathlib.Core.Path.{sym, ◌∙◌}
use Rattle.model.specs.Move.{rule20}
use Rattle.convert.proofs.room.is_unstampable.Goals as goal

pub returns-then-is_stamped : goal.returns-then-is_stamped
unfolding rule20
returns-then-is_stamped c = rw (sym c.is_stamped.ensures ∙ c.if-is_stamped.true)

pub returns : goal.returns
unfolding rule20
returns c = c.tally.ensures.0.stamped ∙ rw (sym c.is_stamped.ensures ∙ c.if-is_stamped.false)
