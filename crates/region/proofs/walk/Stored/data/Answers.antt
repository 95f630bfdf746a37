-- `region::walk::Stored::data` meets its contract: the reader of data reads from the same bytes. Assumes nothing.
use Rattle.model.specs.Walk.{placed}
use Rattle.layout.specs.Head.{data_in}
use Rattle.region.proofs.walk.Stored.data.Goals as goal

pub returns : goal.returns
unfolding data_in placed
returns c = c.data_of.ensures
