use Prim.Native.Nat.{ℕ, ◌+◌, ◌-◌}
use native.Mathlib.Omega.{arith}
use mathlib.Core.Path.{sym, ap, ◌∙◌, subst}
use lib.ListN.{length}
use Rattle.plan.specs.Plan.{count_of, Fits}
use Rattle.plan.proofs.Stores.{step_at, fits-at}
use Rattle.plan.proofs.Carried.{Underway, unchanged, underway-begins, underway-turns, underway-next, underway-done, underway-stopped, underway-worn}
use Rattle.flash.proofs.Counting.{count_none}
use Rattle.flash.proofs.make_stores.Goals as goal

pub loop-step-init : goal.loop-step-init
loop-step-init c =
    let a = c.args in
    (omega arith, underway-begins a.dead.now a.w a.content.now a.plan a.image.now c.requires.0)

pub returns-then-made-n : goal.returns-then-made-n
returns-then-made-n c =
    let l = c.loop-i in
    let a = c.args in
    underway-stopped a.dead.now a.w a.content.now a.plan a.image.now c.requires.0 c.loop-step.step-index l.i l.image l.made a.n l.invariant.2 (omega arith) c.if-made-n.true

pub turn-r-requires : goal.turn-r-requires
turn-r-requires c =
    let l = c.loop-i in
    let a = c.args in
    let k = c.loop-step.step-index in
    let f = fits-at (length a.content.now) (length a.image.now) a.plan k c.requires.0.fit in (
      omega arith,
      omega arith,
      subst (λ (n : ℕ). Fits (length a.content.now) n (step_at a.plan k)) (sym (l.auto.image ∙ c.loop-step.auto.image)) f,
      l.invariant.2.bit,
      c.requires.1,
    )

pub returns-then-r-eq0 : goal.returns-then-r-eq0
returns-then-r-eq0 c =
    let l = c.loop-i in
    let a = c.args in
    let m = c.turn-r.ensures.1 in
    let z = ap (count_of a.w) c.if-r-eq0.true ∙ count_none a.w c.requires.1 in
    let none = underway-worn a.dead.now a.w a.content.now a.plan a.image.now c.requires.0 c.loop-step.step-index l.i l.image l.made a.n l.invariant.2 (m.worn z) (omega arith) in
    (none.0, unchanged m z ∙ none.1)

pub loop-i-preserved : goal.loop-i-preserved
loop-i-preserved c =
    let l = c.loop-i in
    let a = c.args in
    let f = c.turn-r in
    let k = c.loop-step.step-index in
    let some = c.if-r-eq0.false in (
      omega (arith, f.ensures.1.few),
      f.ensures.0,
      subst (λ (n : ℕ). Underway a.dead.now a.w a.content.now a.plan a.image.now k (l.i + f.result) f.new.image (l.made + n)) (sym c.counted-made.ensures)
          (underway-turns a.dead.now a.w a.content.now a.plan a.image.now c.requires.0 k l.i l.image l.made (a.n - l.made) f.new.image f.result l.invariant.2 f.ensures (omega arith)),
    )

pub loop-step-preserved : goal.loop-step-preserved
loop-step-preserved c =
    let l = c.loop-i in
    let a = c.args in
    (l.invariant.0, underway-next a.dead.now a.w a.content.now a.plan a.image.now c.requires.0 c.loop-step.step-index l.i l.image l.made l.invariant.2 (omega arith))

pub returns : goal.returns
returns c =
    let l = c.loop-step in
    let a = c.args in
    underway-done a.dead.now a.w a.content.now a.plan a.image.now c.requires.0 l.step-index 0 l.image l.made a.n l.invariant.1 (omega arith) l.invariant.0
