-- `session::of_side` meets its contract: by the side. Assumes nothing.

use Rattle.session.proofs.of_side.Goals as goal

pub returns-then-modem : goal.returns-then-modem
returns-then-modem c = rw c.if-modem.true

pub returns : goal.returns
returns c = rw c.if-modem.false
