use Rattle.std.proofs.Common.{◌≡◌, suc, ◌+◌, ◌-◌, refl, rules, arith}
use native.Mathlib.Nat.{sub-zero}
use Rattle.desk.proofs.Steps.{step-stops}
use Rattle.desk.proofs.Underway.{all-steps, underway-none, never-missing, underway-next, underway-all}
use Rattle.desk.proofs.play_all.Goals as goal

pub empty-requires : goal.empty-requires
empty-requires c =
    let p = c.requires in
    (p.1.0, p.1.1, p.2)

pub loop-init : goal.loop-init
loop-init c =
    let p = c.requires in
    let steps = all-steps c.args.script.now c.args.form p.0 p.1.3 in
    (omega arith, omega arith, search rules, refl, rw (c.empty.ensures, sub-zero) (underway-none c.args.out.now steps))

pub returns-in_default : goal.returns-in_default
returns-in_default c =
    let f = c.args.form in
    let l = c.loop in
    let e : f.count - l.counter ≡ suc (f.count - (l.counter + 1)) = omega arith in
    let u = rw e at l.invariant.4 in
    absurd (never-missing u c.step.ensures.0 c.in_default.is)

pub step-line-requires : goal.step-line-requires
step-line-requires c =
    let p = c.requires in
    let inv = c.loop.invariant in
    let few = p.1.2 in
    (p.1.0, p.1.1, inv.2, (step-stops c.in-Some.is c.step.ensures.1).1, omega (arith, inv.1, few), omega (arith, inv.0, few))

pub loop-preserved : goal.loop-preserved
loop-preserved c =
    let f = c.args.form in
    let l = c.loop in
    let s = c.step-line.ensures in
    let e : f.count - l.counter ≡ suc (f.count - (l.counter + 1)) = omega arith in
    let u = rw e at l.invariant.4 in (
      omega (arith, s.short, l.invariant.0),
      omega (arith, s.few, l.invariant.1),
      search rules,
      search rules,
      rw (s.image, s.erases) (underway-next u c.step.ensures.0 c.in-Some.is s.line),
    )

pub returns : goal.returns
returns c =
    let f = c.args.form in
    let l = c.loop in
    let few = c.requires.1.2 in
    let e : f.count - l.counter ≡ 0 = omega arith in
    let u = rw e at l.invariant.4 in
    (underway-all u, omega (arith, l.invariant.0, few))
