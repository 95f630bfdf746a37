use Rattle.std.proofs.Common.{◌≡◌, ℕ, suc, ◌+◌, ◌-◌, drop, sym, ap, ◌∙◌, arith}
use native.Mathlib.Nat.{sub-zero}
use Rattle.model.specs.Lists.{is_some}
use Rattle.desk.specs.Script.{steps_at}
use Rattle.desk.proofs.Steps.{none-there, one-there, nothing_left}
use Rattle.desk.proofs.script.are_steps.Goals as goal

pub loop-init : goal.loop-init
loop-init c = rw sub-zero

pub returns-in_default : goal.returns-in_default
returns-in_default c =
    let a = c.args in
    let l = c.loop in
    let x = c.step in
    let e : a.count - l.counter ≡ suc (a.count - (l.counter + 1)) = omega arith in
    sym
    (l.invariant
    ∙ ap (λ (n : ℕ). is_some (steps_at n (drop l.at a.s.now))) e
    ∙ none-there a.s.now l.at x.result x.ensures.0 (a.count - (l.counter + 1)) c.in_default.is)

pub loop-preserved : goal.loop-preserved
loop-preserved c =
    let a = c.args in
    let l = c.loop in
    let x = c.step in
    let e : a.count - l.counter ≡ suc (a.count - (l.counter + 1)) = omega arith in
    l.invariant
    ∙ ap (λ (n : ℕ). is_some (steps_at n (drop l.at a.s.now))) e
    ∙ one-there a.s.now l.at x.result x.ensures.0 (a.count - (l.counter + 1)) _ _ c.in-Some.is

pub returns : goal.returns
returns c =
    let a = c.args in
    let l = c.loop in
    let none_left : a.count - l.counter ≡ 0 = omega arith in
    sym (l.invariant ∙ ap (λ (n : ℕ). is_some (steps_at n (drop l.at a.s.now))) none_left ∙ nothing_left a.s.now l.at)
