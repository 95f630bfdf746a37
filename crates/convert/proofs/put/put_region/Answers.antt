-- `convert::put::put_region` meets its contract: the region's header, then the values.
-- Assumes nothing.
use Rattle.convert.specs.Bare.{content_in}
use Rattle.output.proofs.Writing.{wrote-append, wrote_as}
use Rattle.convert.proofs.put.put_region.Goals as goal

pub returns : goal.returns
unfolding content_in
returns c =
    wrote-append (wrote_as c.region_header-header.ensures
    c.put_bytes-next.ensures) c.put_values.ensures
