-- `compose::behind_stamp` meets its contract: the bytes of the definition, written out.
-- Assumes nothing.
use Rattle.compose.specs.Compose.{behind_stamp_def}
use Rattle.compose.proofs.behind_stamp.Goals as goal

pub returns : goal.returns
unfolding behind_stamp_def
returns c = rw (c.bytes32-n.ensures, c.bytes32-d.ensures)
