use Prim.Native.Nat.{ℕ, ◌-◌, ◌<◌}
use native.Mathlib.Omega.{arith}
use mathlib.Core.Path.{sym, ◌∙◌}
use lib.ListN.{length, get_or}
use Rattle.slices.specs.Agree.{u64_at}
use Rattle.slices.proofs.Agreed.{differ, agree-end, agree-eight, agree-one, agree-whole}
use Rattle.slices.proofs.equal.Goals as goal

pub returns-then-a-b : goal.returns-then-a-b
returns-then-a-b c =
    let a = c.args in
    sym (differ a.a.now a.b.now length c.if-a-b.true)

pub loop-i-init : goal.loop-i-init
loop-i-init c =
    let a = c.args in
    (omega arith, agree-end a.a.now a.b.now c.if-a-b.false)

pub standing_eight-requires-in-loop-i : goal.standing_eight-requires-in-loop-i
standing_eight-requires-in-loop-i c =
    let long = c.loop-i.invariant.1.long in
    omega arith

pub returns-then-standing_eight : goal.returns-then-standing_eight
returns-then-standing_eight c =
    let a = c.args in
    let i = c.loop-i.i - 8 in
    sym (differ a.a.now a.b.now (λ s. u64_at s i)
    (λ e. c.if-standing_eight.true (c.standing_eight.ensures ∙ e ∙ sym c.standing_eight-in-loop-i.ensures)))

pub loop-i-preserved : goal.loop-i-preserved
loop-i-preserved c =
    let a = c.args in
    let hx : (j : ℕ) → get_or a.a.now j 0 < 256 = λ j. omega (arith, c.type_inv.a j) in
    let hy : (j : ℕ) → get_or a.b.now j 0 < 256 = λ j. omega (arith, c.type_inv.b j) in
    let e = sym c.standing_eight.ensures ∙ c.if-standing_eight.false ∙ c.standing_eight-in-loop-i.ensures in
    (omega arith, agree-eight a.a.now a.b.now hx hy (c.loop-i.i - 8) c.loop-i.i (omega arith) c.loop-i.invariant.1 e)

pub loop-k-init : goal.loop-k-init
loop-k-init c = λ j h. absurd (omega arith)

pub returns-then-a-k : goal.returns-then-a-k
returns-then-a-k c =
    let a = c.args in
    sym (differ a.a.now a.b.now (λ s. get_or s c.loop-k.k 0) c.if-a-k.true)

pub loop-k-preserved : goal.loop-k-preserved
loop-k-preserved c = agree-one c.args.a.now c.args.b.now c.loop-k.k c.loop-k.invariant c.if-a-k.false

pub returns : goal.returns
returns c = sym (agree-whole c.args.a.now c.args.b.now c.loop-i.i c.loop-i.invariant.1 (λ j h. c.loop-k.invariant j (omega arith)))
