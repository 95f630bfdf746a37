-- `decision::effect::kept_stamp` meets its contract: with 0x40 and 0x20 the stamp that is there counts. Assumes nothing.
use mathlib.Core.Path.{sym, ◌∙◌}
use Rattle.decision.specs.Parts.{stamp_kept}
use Rattle.decision.proofs.effect.kept_stamp.Goals as goal
use Rattle.decision.proofs.effect.kept_stamp.Goals.{else-appends-via-then-appends+else-time_based, else-appends-via-else-appends}

pub returns-then-time_based : goal.returns-then-time_based
unfolding stamp_kept
returns-then-time_based c =
    rw (
      sym c.appends.ensures ∙ c.if-appends.true,
      sym c.time_based.ensures ∙ c.if-time_based.true,
    )
    c.stamp_over.ensures

pub returns : goal.returns
unfolding stamp_kept
returns c =
    let appends = c.appends.ensures in
    elim c.else-appends.branch [
      | else-appends-via-then-appends+else-time_based w ↦ rw (sym appends ∙ w.if-appends.true, sym w.time_based.ensures ∙ w.if-time_based.false)
      | else-appends-via-else-appends w ↦ rw (sym appends ∙ w.if-appends.false)
    ]
