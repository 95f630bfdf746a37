-- `engine::write::plan_joint` meets its contract: the data kept and those given are the value's, and the offset is that of what stands. Assumes nothing.
use mathlib.Core.Path.{ap, ap₂, ◌∙◌}
use mathlib.Core.List.{List, ◌++◌}
use Prim.Native.Nat.{ℕ}
use Rattle.planner.specs.Asked.{valued}
use Rattle.decision.specs.Parts.{value_by, offset_of}
use Rattle.engine.proofs.Setting.{joinable-as, folded-as}
use Rattle.engine.proofs.write.plan_joint.Goals as goal

pub fold-requires : goal.fold-requires
unfolding value_by
fold-requires c =
    let a = c.args in
    let same = ap₂ (λ (x y : List ℕ). valued a.name.now a.vendor.now a.value.attributes a.value.stamp (x ++ y)) c.kept-kept.ensures c.from-own.ensures in
    (joinable-as (c.offset-pk.ensures ∙ ap offset_of c.standing.ensures) same c.byte.ensures c.requires.0, c.requires.1)

pub returns : goal.returns
unfolding value_by
returns c =
    let a = c.args in
    let same = ap₂ (λ (x y : List ℕ). valued a.name.now a.vendor.now a.value.attributes a.value.stamp (x ++ y)) c.kept-kept.ensures c.from-own.ensures in
    folded-as a.comes same c.byte.ensures c.fold.ensures
