-- `engine::start::plan_start_up` meets its contract: what was found decides, and of it whether it keeps to the shares; a refusal makes no stores.
-- Assumes nothing.
use native.Mathlib.Omega.{arith}
use mathlib.Core.Path.{sym, ap, ◌∙◌}
use mathlib.Core.Bool.{true, false}
use Rattle.std.specs.Prelude.{Ok}
use Rattle.plan.proofs.Parts.{refused-plans}
use Rattle.planner.proofs.Starting.{accepts, sized}
use Rattle.engine.proofs.Starts.{start-refused, start-side, start-makes, as-planned}
use borrow.Author.Rules.{rules}
use Rattle.std.proofs.lemmas.Result.{err_from_is_err_and}
use Rattle.engine.proofs.start.plan_start_up.Goals as goal

pub overflow_mul-size : goal.overflow_mul-size
overflow_mul-size c =
    let f = accepts c.args.image.now c.in-Pending.b c.in-Pending.looked false true (sym c.in_ok-b.ensures ∙ ap Ok c.in-Pending.is) in
    record { fits = omega (arith, (sized _ _ _ f).1) }

pub overflow_add-size : goal.overflow_add-size
overflow_add-size c =
    let f = accepts c.args.image.now c.in-Pending.b c.in-Pending.looked false true (sym c.in_ok-b.ensures ∙ ap Ok c.in-Pending.is) in
    record { fits = omega (arith, (sized _ _ _ f).1) }

pub returns-then-is_side_broken : goal.returns-then-is_side_broken
returns-then-is_side_broken c =
    let a = c.args in
    let f = accepts a.image.now c.in-Pending.b c.in-Pending.looked false true (sym c.in_ok-b.ensures ∙ ap Ok c.in-Pending.is) in
    λ u g. refused-plans _ a.image.now _ _ (start-side u g a.image.now c.in-Pending.b true f c.cut.ensures c.is_side_broken.ensures c.if-is_side_broken.true)

pub resume-requires : goal.resume-requires
resume-requires c = (sym c.in_ok-b.ensures ∙ ap Ok c.in-Pending.is, search rules)

pub overflow_mul-b : goal.overflow_mul-b
overflow_mul-b c =
    let f = accepts c.args.image.now c.in-Sound.b c.in-Sound.looked c.in-Sound.clean false (sym c.in_ok-b.ensures ∙ ap Ok c.in-Sound.is) in
    record { fits = omega (arith, (sized _ _ _ f).1) }

pub returns-then-is_side_broken-2 : goal.returns-then-is_side_broken-2
returns-then-is_side_broken-2 c =
    let a = c.args in
    let f = accepts a.image.now c.in-Sound.b c.in-Sound.looked c.in-Sound.clean false (sym c.in_ok-b.ensures ∙ ap Ok c.in-Sound.is) in
    λ u g. refused-plans _ a.image.now _ _ (start-side u g a.image.now c.in-Sound.b false f c.cut-in-Sound.ensures c.is_side_broken-in-Sound.ensures c.if-is_side_broken-2.true)

pub tidy-requires : goal.tidy-requires
tidy-requires c = (sym c.in_ok-b.ensures ∙ ap Ok c.in-Sound.is, search rules)

pub returns-else-is_side_broken : goal.returns-else-is_side_broken
returns-else-is_side_broken c =
    let a = c.args in
    let f = accepts a.image.now c.in-Pending.b c.in-Pending.looked false true (sym c.in_ok-b.ensures ∙ ap Ok c.in-Pending.is) in
    λ u g. as-planned (start-makes u g a.image.now c.in-Pending.b true f c.cut.ensures c.is_side_broken.ensures c.if-is_side_broken.false) c.resume.ensures

pub returns-else-is_side_broken-2 : goal.returns-else-is_side_broken-2
returns-else-is_side_broken-2 c =
    let a = c.args in
    let f = accepts a.image.now c.in-Sound.b c.in-Sound.looked c.in-Sound.clean false (sym c.in_ok-b.ensures ∙ ap Ok c.in-Sound.is) in
    λ u g. as-planned (start-makes u g a.image.now c.in-Sound.b false f c.cut-in-Sound.ensures c.is_side_broken-in-Sound.ensures c.if-is_side_broken-2.false) c.tidy.ensures

pub returns-in_err-b : goal.returns-in_err-b
returns-in_err-b c =
    let a = c.args in
    let told = err_from_is_err_and c.from_residual.result c.from_residual.ensures.1 in
    rw (told.1, told.2) (λ u g. refused-plans _ a.image.now _ _ (start-refused u a.image.now _ (sym c.in_err-b.ensures)))
