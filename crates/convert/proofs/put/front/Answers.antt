-- `convert::put::front` meets its contract: the bytes of the definition, written out.
-- Assumes nothing.
use Rattle.model.specs.Entry.{header_front}
use Rattle.convert.specs.Bare.{bare_front}
use Rattle.convert.proofs.put.front.Goals as goal

pub returns : goal.returns
unfolding bare_front header_front
returns c = rw c.bytes32-a.ensures
