-- `desk::play::start_up` meets its contract: what is planned is what is then made, to its end, and its erases are counted from the plan. Assumes nothing.
use Prim.Native.Nat.{ℕ, ◌≤◌}
use native.Mathlib.Omega.{arith}
use mathlib.Core.Path.{refl, sym, ap, ◌∙◌}
use lib.ListN.{length}
use Rattle.model.specs.declared.Context.{Context}
use Rattle.model.specs.StartUp.{start_up_plan}
use Rattle.model.specs.Book.{plan_of}
use Rattle.model.specs.Answers.{outcome, image_after, stores_of}
use Rattle.engine.specs.Shares.{GivesShares}
use Rattle.desk.specs.Season.{desk_setup}
use Rattle.desk.proofs.Counting.{planned-plays, played-whole}
use Rattle.desk.proofs.play.start_up.Goals as goal

pub returns : goal.returns
unfolding desk_setup plan_of start_up_plan
returns c =
    let a = c.args in
    let u = desk_setup a.b in
    let img = a.image.now in
    let plan = start_up_plan u img in
    let gives : GivesShares u c.share-own.result 0 c.no_tenant-tenant.result = (sym c.share-own.ensures, refl, sym c.no_tenant-tenant.ensures) in
    let planned = c.plan_start_up-planned.ensures u gives in
    let made = c.start_up-answer.ensures u gives in
    let desk = c.context.ensures in
    let told = made.0.0 ∙ ap (λ (x : Context). outcome x plan img) desk in
    let left = made.0.1 ∙ ap (λ (x : Context). image_after x plan img) desk in
    let n : ℕ = 0xFFFFFFFFFFFFFFFF in
    let p = planned-plays n plan img _ _ _ c.start_up-answer.result c.requires.2 c.plan_start_up-planned.result planned told left (rw (sym c.operations-plan.ensures) c.counted.ensures.1) in
    let whole : length (stores_of 1 plan) ≤ n = omega (arith, p.short) in
    rw (c.counted.ensures.0, c.operations-plan.ensures, ← played-whole n plan img whole) p.plays
