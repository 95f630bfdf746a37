-- `compose::before_stamp` meets its contract: the bytes of the definition, written out.
-- Assumes nothing.
use Rattle.model.specs.Entry.{header_front}
use Rattle.compose.specs.Compose.{before_stamp_def}
use Rattle.compose.proofs.before_stamp.Goals as goal

pub returns : goal.returns
unfolding before_stamp_def header_front
returns c = rw c.bytes32-a.ensures
