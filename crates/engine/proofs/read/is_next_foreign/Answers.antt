-- `engine::read::is_next_foreign` meets its contract: the empty name is no side's.
-- Assumes nothing.
use mathlib.Core.Path.{sym, ◌∙◌}
use Rattle.model.specs.Rules.{rule22_next}
use Rattle.engine.proofs.read.is_next_foreign.Goals as goal

pub returns-then-not-is_empty_name : goal.returns-then-not-is_empty_name
unfolding rule22_next
returns-then-not-is_empty_name c = rw (sym c.is_empty_name.ensures ∙ c.if-not-is_empty_name.true) c.is_foreign.ensures

pub returns-else-not-is_empty_name : goal.returns-else-not-is_empty_name
unfolding rule22_next
returns-else-not-is_empty_name c = rw (sym c.is_empty_name.ensures ∙ c.if-not-is_empty_name.false, c.if-not-is_empty_name.false)
