-- `decision::rules::standing` meets its contract: each test is one rule's, in the rules' order. Assumes nothing.
use mathlib.Core.Path.{sym, ◌∙◌}
use Rattle.model.specs.Rules.{first_broken}
use Rattle.decision.specs.Parts.{standing_by}
use Rattle.decision.proofs.rules.standing.Goals as goal

pub returns-then-attributes_differ : goal.returns-then-attributes_differ
unfolding standing_by first_broken
returns-then-attributes_differ c = rw (sym c.attributes_differ.ensures ∙ c.if-attributes_differ.true)

pub returns-then-descriptor_broken : goal.returns-then-descriptor_broken
unfolding standing_by first_broken
returns-then-descriptor_broken c = rw (sym c.attributes_differ.ensures ∙ c.if-attributes_differ.false, sym c.descriptor_broken.ensures ∙ c.if-descriptor_broken.true)

pub returns : goal.returns
unfolding standing_by first_broken
returns c = rw (sym c.attributes_differ.ensures ∙ c.if-attributes_differ.false, sym c.descriptor_broken.ensures ∙ c.if-descriptor_broken.false)
