-- `convert::put::put_value` meets its contract: what is read of the entry makes up its value but for the stamp.
-- Assumes nothing.
use Rattle.std.proofs.Common.{arith}
use Rattle.output.proofs.Writing.{wrote_as}
use Rattle.convert.proofs.Carried.{read-value, entry-fits}
use Rattle.convert.proofs.put.put_value.Goals as goal

pub put_entry-requires : goal.put_entry-requires
put_entry-requires c =
    let s = entry-fits c.args.to c.args.e.now c.name.ensures c.vendor.ensures c.data.ensures in
    (omega arith, omega (arith, s.name-fits), omega (arith, s.vendor-fits), omega (arith, s.bytes-fits))

pub returns : goal.returns
returns c =
    let a = c.args in
    let s = entry-fits a.to a.e.now c.name.ensures c.vendor.ensures c.data.ensures in
    let w = c.put_entry.ensures in
    (wrote_as (read-value a.to a.e.now c.name.ensures c.vendor.ensures c.data.ensures) w, omega (arith, w.place, s.whole))
