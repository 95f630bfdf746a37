use Prim.Native.Nat.{◌+◌}
use native.Mathlib.Omega.{arith}
use mathlib.Core.Path.{ap, ◌∙◌}
use mathlib.Core.List.{List}
use lib.ListN.{take}
use lib.Seq.{take_all}
use Rattle.model.specs.Stores.{reach}
use Rattle.plan.specs.Plan.{run_of}
use Rattle.flash.proofs.Dead.{reach-no-dead, reach-next-dead, reach-within}
use Rattle.flash.proofs.spared.Goals as goal

pub loop-a-init : goal.loop-a-init
loop-a-init c =
    let a = c.args in
    (omega arith, reach-no-dead a.content.now a.at a.from a.r a.dead.now a.image.now c.requires.0)

pub loop-a-preserved : goal.loop-a-preserved
loop-a-preserved c =
    let l = c.loop-a in
    let a = c.args in
    let next =
    c.before_dead-k.ensures
    ∙ reach-next-dead a.dead.now a.content.now a.at a.from a.r a.image.now l.a-index l.k (omega arith) c.requires.0 l.invariant.1 in
    (reach-within (take (l.a-index + 1) a.dead.now) a.content.now a.at a.from a.r a.image.now c.before_dead-k.result c.requires.0 next, next)

pub returns : goal.returns
returns c =
    let l = c.loop-a in
    let a = c.args in
    l.invariant.1 ∙ ap (λ (ds : List _). reach ds (run_of 1 a.content.now a.at a.from a.r) a.image.now) (take_all l.a-index a.dead.now (omega arith))
