-- `decision::joint::taken` meets its contract: by what was found. Assumes nothing.
use Rattle.decision.specs.Joint.{taken_by}
use Rattle.decision.proofs.joint.taken.Goals as goal

pub returns-in-Some : goal.returns-in-Some
unfolding taken_by
returns-in-Some c = rw c.in-Some.is c.size_of.ensures

pub returns-in-None : goal.returns-in-None
unfolding taken_by
returns-in-None c = rw c.in-None.is
