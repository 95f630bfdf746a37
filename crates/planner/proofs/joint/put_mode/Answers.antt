-- `planner::joint::put_mode` meets its contract: the entry of PlatMode's value, or nothing. Assumes nothing.
use borrow.Author.Tests.{ne_eqb}
use native.Mathlib.Omega.{arith}
use mathlib.Core.Path.{refl, ap, ◌∙◌}
use lib.ListN.{length}
use Rattle.model.specs.Compact.{joined_in}
use Rattle.output.proofs.Writing.{wrote_none}
use Rattle.planner.proofs.Joined.{mode-length, vendor-length, mode-wrote}
use Rattle.planner.proofs.joint.put_mode.Goals as goal

pub returns-then-byte-eq0 : goal.returns-then-byte-eq0
unfolding joined_in
returns-then-byte-eq0 c = rw c.if-byte-eq0.true (wrote_none _ _)

pub put_entry-requires : goal.put_entry-requires
put_entry-requires c =
    let n = ap length c.mode_name-name.ensures ∙ mode-length in
    let v = ap length c.global_vendor-vendor.ensures ∙ vendor-length in
    (c.requires, omega arith, omega (arith, n), omega (arith, v), omega arith, omega arith)

pub returns : goal.returns
returns c =
    mode-wrote c.args.byte c.mode_name-name.ensures c.global_vendor-vendor.ensures refl (ne_eqb c.args.byte 0 c.if-byte-eq0.false) c.put_entry.ensures
