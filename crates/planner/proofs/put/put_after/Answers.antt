-- `planner::put::put_after` meets its contract: the changed value's entry is after the others. Assumes nothing.
use native.Mathlib.Omega.{arith}
use mathlib.Core.Path.{◌≡◌, ◌∙◌}
use mathlib.Core.List.{◌++◌}
use lib.ListN.{length, length-append}
use Rattle.model.specs.Name.{keyed}
use Rattle.planner.specs.Asked.{valued}
use Rattle.planner.proofs.Composed.{others-wrote, put-wrote, put-asked}
use borrow.Author.Rules.{rules}
use Rattle.planner.proofs.put.put_after.Goals as goal

pub put_entry-requires : goal.put_entry-requires
put_entry-requires c =
    let st : length c.args.stamp.now ≡ 16 = search rules in
    let w = others-wrote c.args.region.now (keyed c.args.name.now c.args.vendor.now) c.requires.0 c.left_out-leave.ensures
    (c.standing.ensures ∙ c.requires.1) c.put_values-next.ensures in
    let k =
    put-asked _ (valued c.args.name.now c.args.vendor.now c.args.attributes c.args.stamp.now (c.args.old.now ++ c.args.own.now)) _
    w (c.requires.3, c.requires.4, c.requires.6) st c.requires.5 in
    let l = length-append c.args.old.now c.args.own.now in
    (k.0, k.1, k.2, k.3, omega (arith, k.4), omega (arith, k.4))

pub returns : goal.returns
returns c =
    let w = others-wrote c.args.region.now (keyed c.args.name.now c.args.vendor.now) c.requires.0 c.left_out-leave.ensures
    (c.standing.ensures ∙ c.requires.1) c.put_values-next.ensures in
    (put-wrote _ _ _ w c.put_entry.ensures, c.requires.5)
