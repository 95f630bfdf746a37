use Prim.Native.Nat.{ℕ, min, ◌+◌, ◌*◌}
use native.Mathlib.Omega.{arith}
use mathlib.Core.Path.{refl, sym, ◌∙◌}
use mathlib.Core.Bool.{Bool}
use lib.Dec.{eqb}
use borrow.Author.Tests.{eq-eqb, ne_eqb}
use Rattle.model.specs.Lists.{u32_at}
use Rattle.model.proofs.Tables.{from_end, from-here, from_next}
use Rattle.limits.proofs.Tried.{by-list}
use Rattle.limits.proofs.is_listed.Goals as goal

pub loop-i-init : goal.loop-i-init
loop-i-init c = refl

pub returns-then-u32_at-n : goal.returns-then-u32_at-n
returns-then-u32_at-n c =
    let a = c.args in
    let f : ℕ → Bool = λ j. eqb a.n (u32_at a.t.now (40 + 4 * j)) in
    sym (by-list a.t.now a.count a.n ∙ c.loop-i.invariant ∙ from-here f (min a.count 8) c.loop-i.i (omega arith) (eq-eqb _ _ (sym (sym c.u32_at.ensures ∙ c.if-u32_at-n.true))))

pub loop-i-preserved : goal.loop-i-preserved
loop-i-preserved c =
    let a = c.args in
    let f : ℕ → Bool = λ j. eqb a.n (u32_at a.t.now (40 + 4 * j)) in
    (c.loop-i.invariant ∙ from_next f (min a.count 8) c.loop-i.i (omega arith) (ne_eqb _ _ (λ e. c.if-u32_at-n.false (c.u32_at.ensures ∙ sym e))))

pub returns : goal.returns
returns c =
    let a = c.args in
    let f : ℕ → Bool = λ j. eqb a.n (u32_at a.t.now (40 + 4 * j)) in
    sym (by-list a.t.now a.count a.n ∙ c.loop-i.invariant ∙ from_end f (min a.count 8) c.loop-i.i (omega arith))
