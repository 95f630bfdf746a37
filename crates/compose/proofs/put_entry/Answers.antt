-- `compose::put_entry` meets its contract: header, name, data and padding, one behind the other. Assumes nothing.
use Rattle.compose.proofs.Headers.{entry-joined}
use Rattle.compose.proofs.put_entry.Goals as goal

pub returns : goal.returns
returns c =
    let a = c.args in
    entry-joined a.state a.attributes a.name.now a.vendor.now a.stamp.now a.old.now a.own.now
    c.put_header-next.ensures.0 c.put_bytes-next.ensures c.put_bytes-next-2.ensures c.put_bytes-next-3.ensures c.put_padding.ensures
