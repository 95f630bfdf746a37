-- `session::lent::guid` meets its contract: the 16 bytes at their place are copied over an array of as many. Assumes nothing.
use native.Mathlib.Omega.{arith}
use mathlib.Core.Path.{ap}
use lib.ListN.{length, drop, length-take, length-drop}
use Rattle.session.proofs.lent.guid.Goals as goal

pub copy_from_slice-requires : goal.copy_from_slice-requires
copy_from_slice-requires c =
    let b = c.args.s.now in
    let t = length-take 16 (drop 28 b) in
    let d = length-drop 28 b in
    let cut = ap length c.cut.ensures in
    omega arith
