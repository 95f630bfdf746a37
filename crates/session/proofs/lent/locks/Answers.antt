-- `session::lent::locks` meets its contract: each number at its place. Assumes nothing.
use Rattle.model.specs.Lent.{session_of}
use Rattle.session.proofs.lent.locks.Goals as goal

pub returns : goal.returns
unfolding session_of
returns c = (c.u32_at.ensures, c.u32_at-2.ensures, c.sizes-sizes.ensures)
