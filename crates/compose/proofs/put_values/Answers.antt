-- `compose::put_values` meets its contract: the region's header, then the values.
-- Assumes nothing.
use Rattle.output.proofs.Writing.{wrote-append, wrote_as}
use Rattle.compose.proofs.put_values.Goals as goal

pub returns : goal.returns
returns c = wrote-append (wrote_as c.region_header-header.ensures c.put_bytes-next.ensures) c.put_others.ensures
