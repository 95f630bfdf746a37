-- `session::entered` meets its contract. Assumes nothing.
use Rattle.session.proofs.entered.Goals as goal

pub returns-then-enters : goal.returns-then-enters
returns-then-enters c = rw c.if-enters.true c.with_lock.ensures

pub returns : goal.returns
returns c = rw c.if-enters.false
