-- `decision::effect::kind` meets its contract: a delete, an empty append, equal data, else a value to put. Assumes nothing.
use mathlib.Core.Path.{sym, ◌∙◌}
use Rattle.decision.specs.Parts.{kind_by}
use Rattle.decision.proofs.effect.kind.Goals as goal

pub returns-then-deletes : goal.returns-then-deletes
unfolding kind_by
returns-then-deletes c = rw (sym c.deletes.ensures ∙ c.if-deletes.true)

pub returns-then-empty_append : goal.returns-then-empty_append
unfolding kind_by
returns-then-empty_append c = rw (sym c.deletes.ensures ∙ c.if-deletes.false, sym c.empty_append.ensures ∙ c.if-empty_append.true)

pub returns-then-is_equal : goal.returns-then-is_equal
unfolding kind_by
returns-then-is_equal c = rw (sym c.deletes.ensures ∙ c.if-deletes.false, sym c.empty_append.ensures ∙ c.if-empty_append.false, sym c.is_equal.ensures ∙ c.if-is_equal.true)

pub returns : goal.returns
unfolding kind_by
returns c = rw (sym c.deletes.ensures ∙ c.if-deletes.false, sym c.empty_append.ensures ∙ c.if-empty_append.false, sym c.is_equal.ensures ∙ c.if-is_equal.false)
