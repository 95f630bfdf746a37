-- `session::lent::places` meets its contract: the list is the part at its place. Assumes nothing.
use Rattle.model.specs.Lent.{session_of}
use Rattle.session.proofs.lent.places.Goals as goal

pub returns : goal.returns
unfolding session_of
returns c = c.cut.ensures
