-- `session::lent::limits` meets its contract: the table is the part at its place. Assumes nothing.
use Rattle.model.specs.Lent.{setup_of, session_of}
use Rattle.session.proofs.lent.limits.Goals as goal

pub returns : goal.returns
unfolding session_of setup_of
returns c = c.cut.ensures
