-- `decision::effect::leaves` meets its contract. Assumes nothing.
use mathlib.Core.Path.{sym, ◌∙◌}
use Rattle.decision.specs.Parts.{leaves_by}
use Rattle.decision.proofs.Old.{is-stands}
use Rattle.decision.proofs.effect.leaves.Goals as goal

pub returns-then-deletes : goal.returns-then-deletes
unfolding leaves_by
returns-then-deletes c = rw (sym c.deletes.ensures ∙ c.if-deletes.true)

pub returns-then-empty_append : goal.returns-then-empty_append
unfolding leaves_by
returns-then-empty_append c =
    rw (sym c.deletes.ensures ∙ c.if-deletes.false, sym c.empty_append.ensures ∙ c.if-empty_append.true) (c.is_some.ensures ∙ is-stands c.args.old)

pub returns : goal.returns
unfolding leaves_by
returns c =
    rw (sym c.deletes.ensures ∙ c.if-deletes.false, sym c.empty_append.ensures ∙ c.if-empty_append.false)
