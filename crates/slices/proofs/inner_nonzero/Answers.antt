use Prim.Native.Nat.{◌+◌, ◌-◌}
use native.Mathlib.Omega.{arith}
use lib.ListN.{length}
use Rattle.slices.proofs.Windows.{nonzero-none, nonzero-join, nonzero-less}
use Rattle.slices.proofs.inner_nonzero.Goals as goal

pub loop-i-init : goal.loop-i-init
loop-i-init c = (omega arith, omega arith, nonzero-none c.args.name.now 8)

pub loop-i-preserved : goal.loop-i-preserved
loop-i-preserved c =
    let s = c.args.name.now in
    let i = c.loop-i.i in
    (omega arith, omega arith, nonzero-join s 8 i i (i + 8) c.loop-i.invariant.2 (c.four_nonzero.ensures c.if-not-four_nonzero.false) (omega arith))

pub returns : goal.returns
returns c =
    let s = c.args.name.now in
    λ t. nonzero-less s 8 c.loop-i.i (length s - 10) c.loop-i.invariant.2 (omega arith)
