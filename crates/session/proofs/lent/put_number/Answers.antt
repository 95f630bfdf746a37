-- `session::lent::put_number` meets its contract: its four bytes are stored. Assumes nothing.
use Rattle.session.proofs.lent.put_number.Goals as goal

pub returns : goal.returns
returns c = c.put_bytes.ensures.buffer
