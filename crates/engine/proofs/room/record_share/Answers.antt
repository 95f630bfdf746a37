-- `engine::room::record_share` meets its contract: error records are ours.
-- Assumes nothing.
use Rattle.engine.proofs.room.record_share.Goals as goal

pub returns-then-t : goal.returns-then-t
returns-then-t c = rw c.if-t.true

pub returns : goal.returns
returns c = rw c.if-t.false
