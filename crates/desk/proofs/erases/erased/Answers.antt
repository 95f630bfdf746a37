use Rattle.std.proofs.Common.{◌≡◌, ℕ, ◌+◌, ◌-◌, ◌^◌, ◌<◌, get_or, sym, ap, ◌∙◌, rules, arith}
use Rattle.plan.specs.declared.Step.TheVariants.{Nothing}
use Rattle.plan.specs.Plan.{size_of}
use Rattle.desk.specs.Erasing.{erased_of_def}
use Rattle.desk.proofs.Erasing.{step-most, one-operation, no-operation}
use Rattle.desk.proofs.erases.erased.Goals as goal

pub loop-step-init : goal.loop-step-init
loop-step-init c = (omega arith, omega arith)

pub overflow_add-total : goal.overflow_add-total
overflow_add-total c =
    let l = c.loop-step in
    let e = c.erased_of-total.ensures in
    let most = step-most l.left (get_or c.args.plan l.step-index Nothing) in
    let small : c.args.n < 2 ^ 64 = search rules in
    omega (arith, e, most, l.invariant.0, small)

pub loop-step-preserved : goal.loop-step-preserved
loop-step-preserved c =
    let l = c.loop-step in
    let s = get_or c.args.plan l.step-index Nothing in
    let one = one-operation Nothing c.args.plan l.left l.step-index (search rules) in
    let most = step-most l.left s in
    let e : c.erased_of-total.result ≡ erased_of_def l.left s = c.erased_of-total.ensures in
    let d : c.saturating_sub-left.result ≡ l.left - size_of 1 s =
    c.saturating_sub-left.ensures ∙ ap (λ (k : ℕ). l.left - k) c.stores_of.ensures in (
      omega (arith, e, d, most, l.invariant.0),
      rw (d, e) (l.invariant.1 ∙ ap (λ (k : ℕ). l.total + k) one ∙ omega arith),
    )

pub returns : goal.returns
returns c =
    let l = c.loop-step in
    let none_left = no-operation c.args.plan l.left l.step-index (search rules) in
    (sym (l.invariant.1 ∙ omega (arith, none_left)), omega (arith, l.invariant.0))
