-- `region::walk::Stored::name` meets its contract: the reader of names reads from the same bytes. Assumes nothing.
use Rattle.model.specs.Walk.{placed}
use Rattle.layout.specs.Head.{name_in}
use Rattle.region.proofs.walk.Stored.name.Goals as goal

pub returns : goal.returns
unfolding name_in placed
returns c = c.name_of.ensures
