-- `report::put_entry` meets its contract: what is read of the entry makes up its value's line.
-- Assumes nothing.
use Rattle.std.proofs.Common.{length, ap, arith}
use Rattle.region.proofs.Lengths.{short}
use Rattle.output.proofs.Writing.{wrote_as}
use Rattle.report.proofs.Lines.{entry-line}
use Rattle.report.proofs.put_entry.Goals as goal

pub overflow_cast-data : goal.overflow_cast-data
overflow_cast-data c =
    let s = short c.args.e.now in
    let d = ap length c.data.ensures in
    record { fits = omega (arith, s.bytes) }

pub put_value-requires : goal.put_value-requires
put_value-requires c =
    let s = short c.args.e.now in
    let n = ap length c.name.ensures in
    let v = ap length c.vendor.ensures in
    omega (arith, s.name, s.vendor)

pub returns : goal.returns
returns c =
    let e = c.args.e.now in
    let s = short e in
    let n = ap length c.name.ensures in
    let v = ap length c.vendor.ensures in
    let w = c.put_value.ensures in
    (wrote_as (entry-line e c.name.ensures c.vendor.ensures c.data.ensures) w.0, omega (arith, w.1, s.vendor))
