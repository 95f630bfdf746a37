-- `convert::put::sizes` meets its contract: the bytes of the definition, written out.
-- Assumes nothing.
use Rattle.convert.specs.Bare.{bare_sizes}
use Rattle.convert.proofs.put.sizes.Goals as goal

pub returns : goal.returns
unfolding bare_sizes
returns c = rw (c.bytes32-n.ensures, c.bytes32-d.ensures)
