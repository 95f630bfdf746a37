-- `decision::effect::is_equal` meets its contract: the data compared are those of the entry found. Assumes nothing.
use mathlib.Core.Path.{ap, ◌∙◌}
use Rattle.decision.specs.Parts.{equal_by}
use Rattle.model.specs.Change.{equal_to}
use Rattle.decision.proofs.effect.is_equal.Goals as goal

pub returns-in-Some : goal.returns-in-Some
unfolding equal_by
returns-in-Some c =
    let a = c.args in
    rw c.in-Some.is (c.equal.ensures ∙ ap (equal_to a.attributes a.proper.now c.in-Some.field-0.entry.attributes) c.data_of.ensures)

pub returns-in-None : goal.returns-in-None
unfolding equal_by
returns-in-None c = rw c.in-None.is
