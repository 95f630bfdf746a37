-- `compose::put_header` meets its contract: what stands before the stamp, the stamp, the sizes, the GUID, one behind the other.
-- Assumes nothing.
use Rattle.output.proofs.Writing.{wrote_as}
use Rattle.compose.proofs.Headers.{header-wrote}
use Rattle.compose.proofs.put_header.Goals as goal

pub returns : goal.returns
returns c =
    let a = c.args in
    let first = wrote_as c.before_stamp-front.ensures c.put_bytes-next.ensures in
    let third = wrote_as c.behind_stamp-sizes.ensures c.put_bytes-next-3.ensures in
    header-wrote a.state a.attributes a.name a.size first c.put_bytes-next-2.ensures third c.put_bytes.ensures
