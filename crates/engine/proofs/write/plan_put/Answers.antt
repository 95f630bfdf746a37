-- `engine::write::plan_put` meets its contract: the data kept and those given are the value's. Assumes nothing.
use mathlib.Core.Path.{ap₂}
use mathlib.Core.List.{List, ◌++◌}
use Prim.Native.Nat.{ℕ}
use Rattle.planner.specs.Asked.{valued}
use Rattle.planner.proofs.Ready.{asked-as, planned-as}
use Rattle.decision.specs.Parts.{value_by}
use Rattle.engine.proofs.write.plan_put.Goals as goal

pub put_value-requires : goal.put_value-requires
unfolding value_by
put_value-requires c =
    let a = c.args in
    let same = ap₂ (λ (x y : List ℕ). valued a.name.now a.vendor.now a.value.attributes a.value.stamp (x ++ y)) c.kept-kept.ensures c.from-own.ensures in
    (asked-as same c.requires.0, c.requires.1)

pub returns : goal.returns
unfolding value_by
returns c =
    let a = c.args in
    let same = ap₂ (λ (x y : List ℕ). valued a.name.now a.vendor.now a.value.attributes a.value.stamp (x ++ y)) c.kept-kept.ensures c.from-own.ensures in
    planned-as same c.put_value.ensures
