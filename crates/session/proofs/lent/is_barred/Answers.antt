-- `session::lent::is_barred` meets its contract: the parts of the session are those at their places. Assumes nothing.
use Rattle.session.proofs.lent.is_barred.Goals as goal

pub returns : goal.returns
returns c = rw (c.is_barred.ensures, c.sizes-sizes.ensures, c.u32_at.ensures, c.u32_at-2.ensures, c.cut.ensures)
