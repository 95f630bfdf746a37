-- `desk::play::set` meets its contract: what is planned is what is then made, and its erases are counted from the plan. Assumes nothing.
use mathlib.Core.Path.{sym, ap, ◌∙◌}
use mathlib.Core.Bool.{false}
use Rattle.model.specs.declared.Context.{Context}
use Rattle.model.specs.Name.{keyed}
use Rattle.model.specs.Beside.{Says}
use Rattle.model.specs.Book.{set_plan}
use Rattle.model.specs.Answers.{outcome, image_after}
use Rattle.decision.specs.Decision.{request_of}
use Rattle.desk.specs.Season.{desk_session}
use Rattle.desk.proofs.Counting.{planned-plays}
use Rattle.desk.proofs.play.set.Goals as goal

pub plan_set-planned-requires : goal.plan_set-planned-requires
plan_set-planned-requires c =
    let t = c.terms-said.ensures in
    (false, desk_session c.args.b, (t.0, t.1 ∙ sym c.no_limits-limits.ensures))

pub set-answer-requires : goal.set-answer-requires
set-answer-requires c =
    let t = c.terms-said.ensures in
    (false, desk_session c.args.b, (t.0, t.1 ∙ sym c.no_limits-limits.ensures))

pub returns : goal.returns
returns c =
    let a = c.args in
    let s = desk_session a.b in
    let img = a.image.now in
    let plan = set_plan false s (request_of a.name.now a.vendor.now a.attributes a.bytes.now 0 0) img in
    let t = c.terms-said.ensures in
    let says : Says false s (keyed a.name.now a.vendor.now) c.terms-said.result c.no_limits-limits.result = (t.0, t.1 ∙ sym c.no_limits-limits.ensures) in
    let planned = c.plan_set-planned.ensures false s says in
    let made = c.set-answer.ensures false s says in
    let desk = c.context.ensures in
    let told = made.0.0 ∙ ap (λ (x : Context). outcome x plan img) desk in
    let left = made.0.1 ∙ ap (λ (x : Context). image_after x plan img) desk in
    rw (c.counted.ensures.0, c.operations-plan.ensures)
    (planned-plays a.n plan img _ _ _ c.set-answer.result c.requires.2 c.plan_set-planned.result planned told left (rw (sym c.operations-plan.ensures) c.counted.ensures.1))
