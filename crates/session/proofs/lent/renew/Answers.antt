-- `session::lent::renew` meets its contract: its five stores leave a fresh session. Assumes nothing.
use native.Mathlib.Omega.{arith}
use Rattle.session.proofs.Fresh.{renewed}
use Rattle.session.proofs.lent.renew.Goals as goal

pub returns : goal.returns
returns c =
    renewed c.args.s.now (omega arith)
    c.put_number.ensures c.keep_flag.ensures c.keep_reserve.ensures c.keep_reserve-2.ensures c.put_fill.ensures.buffer
