-- `values::list::entry_size` meets its contract: name and data are no longer than the sizes that the entry tells. Assumes nothing.
use Rattle.std.proofs.Common.{ap, length, arith}
use Rattle.region.proofs.Lengths.{short}
use Rattle.values.proofs.list.entry_size.Goals as goal

pub entry_size-requires : goal.entry_size-requires
entry_size-requires c =
    let s = short c.args.e in
    let n = ap length c.name.ensures in
    let d = ap length c.data.ensures in
    omega (arith, s.name, s.bytes)
