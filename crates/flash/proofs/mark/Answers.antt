-- `flash::mark` meets its contract: one bit differs, so the byte is stored, if its store does not fail. Assumes nothing.
use Rattle.std.proofs.Common.{◌∙◌}
use Rattle.model.specs.Stores.{difference}
use Rattle.flash.proofs.Dead.{mark_made}
use Rattle.flash.proofs.mark.Goals as goal
use Rattle.flash.proofs.mark.Goals.{then-old-new-eq1, else-old-new-eq1}

pub returns : goal.returns
unfolding difference
returns c =
    elim c.if-old-new-eq1.branch [
      | then-old-new-eq1 w ↦ (c.from.ensures ∙ mark_made _ (w.from-is ∙ w.put.ensures.0), w.image-is ∙ w.put.ensures.1)
      | else-old-new-eq1 w ↦ absurd (w.if-old-new-eq1.false c.requires.1.1)
    ]
