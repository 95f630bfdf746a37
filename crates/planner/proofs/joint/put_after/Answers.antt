-- `planner::joint::put_after` meets its contract: PK's entry is after the values that stay, and PlatMode's after PK's. Assumes nothing.
use native.Mathlib.Omega.{arith}
use mathlib.Core.List.{◌++◌}
use lib.ListN.{length}
use Rattle.compose.specs.Compose.{values_but}
use Rattle.planner.specs.Asked.{valued, stored_pk, stored_mode}
use Rattle.planner.proofs.Joined.{both-asked, both-wrote}
use Rattle.planner.proofs.joint.put_after.Goals as goal

pub put_pk-last-requires : goal.put_pk-last-requires
put_pk-last-requires c =
    let a = c.args in
    let v = valued a.name.now a.vendor.now a.attributes a.stamp.now (a.old.now ++ a.own.now) in
    both-asked (length a.region.now) (values_but a.leave.now a.region.now) (stored_pk a.comes v) (stored_mode a.byte) c.put_values-next.ensures c.requires.1

pub put_mode-requires : goal.put_mode-requires
put_mode-requires c =
    let a = c.args in
    let v = valued a.name.now a.vendor.now a.attributes a.stamp.now (a.old.now ++ a.own.now) in
    let k = both-asked (length a.region.now) (values_but a.leave.now a.region.now) (stored_pk a.comes v) (stored_mode a.byte) c.put_values-next.ensures c.requires.1 in
    let place = c.put_pk-last.ensures.place in
    omega (arith, k.0, k.1, place)

pub returns : goal.returns
returns c =
    let a = c.args in
    let v = valued a.name.now a.vendor.now a.attributes a.stamp.now (a.old.now ++ a.own.now) in
    both-wrote (length a.region.now) (values_but a.leave.now a.region.now) (stored_pk a.comes v) (stored_mode a.byte) c.put_values-next.ensures
    c.put_pk-last.ensures c.put_mode.ensures
