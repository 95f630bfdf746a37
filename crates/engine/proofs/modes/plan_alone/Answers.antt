-- `engine::modes::plan_alone` meets its contract: the value put is PlatMode's. Assumes nothing.
use Rattle.planner.proofs.Ready.{asked-as, planned-as}
use Rattle.engine.proofs.Requesting.{mode-fields}
use Rattle.engine.proofs.modes.plan_alone.Goals as goal

pub put_value-requires : goal.put_value-requires
put_value-requires c =
    let same = mode-fields c.args.byte c.mode_name-name.ensures c.global_vendor-vendor.ensures c.cut-none.ensures in
    (asked-as same c.requires.0, c.requires.1)

pub returns : goal.returns
returns c =
    let same = mode-fields c.args.byte c.mode_name-name.ensures c.global_vendor-vendor.ensures c.cut-none.ensures in
    planned-as same c.put_value.ensures
