-- `decision::items::leaving` meets its contract: by what was found. Assumes nothing.
use Rattle.decision.specs.Profile.{leaving_by}
use Rattle.decision.proofs.items.leaving.Goals as goal

pub returns-in-Some : goal.returns-in-Some
unfolding leaving_by
returns-in-Some c = rw (c.in-Some.is, c.size_of.ensures)

pub returns-in-None : goal.returns-in-None
unfolding leaving_by
returns-in-None c = rw (c.in-None.is, c.default.ensures.0, c.default.ensures.1.0)
