-- `decision::rules::verdict` meets its contract: each test is one rule's, in the rules' order. Assumes nothing.
use mathlib.Core.Path.{sym, ◌∙◌}
use Rattle.model.specs.Rules.{first_broken, rule24_set}
use Rattle.decision.specs.Parts.{verdict_by}
use Rattle.decision.proofs.rules.verdict.Goals as goal
use Rattle.decision.proofs.rules.verdict.Goals.{else-verdict_wanted-via-then-verdict_wanted+else-not_later, else-verdict_wanted-via-else-verdict_wanted}

pub returns-then-verdict_broken : goal.returns-then-verdict_broken
unfolding verdict_by first_broken
returns-then-verdict_broken c = rw (sym c.verdict_broken.ensures ∙ c.if-verdict_broken.true)

pub returns-then-is_mode : goal.returns-then-is_mode
unfolding verdict_by first_broken rule24_set
returns-then-is_mode c =
    rw (sym c.verdict_broken.ensures ∙ c.if-verdict_broken.false, sym c.is_mode.ensures ∙ c.if-is_mode.true)

pub returns-then-appends : goal.returns-then-appends
unfolding verdict_by first_broken rule24_set
returns-then-appends c =
    rw (sym c.verdict_broken.ensures ∙ c.if-verdict_broken.false, sym c.is_mode.ensures ∙ c.if-is_mode.false, sym c.appends.ensures ∙ c.if-appends.true)

pub returns-then-not_later : goal.returns-then-not_later
unfolding verdict_by first_broken rule24_set
returns-then-not_later c =
    rw (sym c.verdict_broken.ensures ∙ c.if-verdict_broken.false, sym c.is_mode.ensures ∙ c.if-is_mode.false, sym c.appends.ensures ∙ c.if-appends.false, sym c.verdict_wanted.ensures ∙ c.if-verdict_wanted.true, sym c.not_later.ensures ∙ c.if-not_later.true)

pub returns : goal.returns
unfolding verdict_by first_broken rule24_set
returns c =
    elim c.else-verdict_wanted.branch [
      | else-verdict_wanted-via-then-verdict_wanted+else-not_later w ↦ rw (
        sym c.verdict_broken.ensures ∙ c.if-verdict_broken.false,
        sym c.is_mode.ensures ∙ c.if-is_mode.false,
        sym c.appends.ensures ∙ c.if-appends.false,
        sym c.verdict_wanted.ensures ∙ w.if-verdict_wanted.true,
        sym w.not_later.ensures ∙ w.if-not_later.false,
      )
      | else-verdict_wanted-via-else-verdict_wanted w ↦ rw (
        sym c.verdict_broken.ensures ∙ c.if-verdict_broken.false,
        sym c.is_mode.ensures ∙ c.if-is_mode.false,
        sym c.appends.ensures ∙ c.if-appends.false,
        sym c.verdict_wanted.ensures ∙ w.if-verdict_wanted.false,
      )
    ]
