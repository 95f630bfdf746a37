-- `decision::modes::mode_by` meets its contract: by its tests of what is there. Assumes nothing.
use mathlib.Core.Path.{sym, ap, ◌∙◌}
use Rattle.decision.specs.Parts.{stands, stores_by, mode_by_def}
use Rattle.decision.proofs.Old.{is-stands}
use Rattle.decision.proofs.modes.mode_by.Goals as goal

pub returns-then-stores : goal.returns-then-stores
unfolding mode_by_def
returns-then-stores c =
    rw (
      sym (c.is_some.ensures ∙ is-stands c.args.pk ∙ ap stands c.requires.0) ∙ c.if-is_some.true,
      sym (c.stores.ensures ∙ ap (stores_by c.args.region.now 3) c.requires.1) ∙ c.if-stores.true,
    )

pub returns-then-is_some : goal.returns-then-is_some
unfolding mode_by_def
returns-then-is_some c =
    rw (
      sym (c.is_some.ensures ∙ is-stands c.args.pk ∙ ap stands c.requires.0) ∙ c.if-is_some.true,
      sym (c.stores.ensures ∙ ap (stores_by c.args.region.now 3) c.requires.1) ∙ c.if-stores.false,
    )

pub returns-then-stores-2 : goal.returns-then-stores-2
unfolding mode_by_def
returns-then-stores-2 c =
    rw (
      sym (c.is_some.ensures ∙ is-stands c.args.pk ∙ ap stands c.requires.0) ∙ c.if-is_some.false,
      sym (c.stores-2.ensures ∙ ap (stores_by c.args.region.now 2) c.requires.1) ∙ c.if-stores-2.true,
    )

pub returns : goal.returns
unfolding mode_by_def
returns c =
    rw (
      sym (c.is_some.ensures ∙ is-stands c.args.pk ∙ ap stands c.requires.0) ∙ c.if-is_some.false,
      sym (c.stores-2.ensures ∙ ap (stores_by c.args.region.now 2) c.requires.1) ∙ c.if-stores-2.false,
    )
