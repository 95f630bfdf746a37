-- `layout::may_be` meets its contract: it answers no only where a word of the name does not stand where it would. Assumes nothing.
use Prim.Native.Nat.{◌+◌, ◌-◌}
use native.Mathlib.Omega.{arith}
use mathlib.Core.Path.{sym, ap₂, ◌∙◌}
use mathlib.Core.Logic.{◌≢◌}
use mathlib.Core.Bool.{true≢false}
use lib.ListN.{length}
use lib.Dec.{eqb}
use borrow.Author.Tests.{eq-eqb, ne_eqb}
use Rattle.slices.specs.Agree.{four_at}
use Rattle.layout.proofs.Named.{unlike, may-short, may-front, may-not}
use Rattle.layout.proofs.may_be.Goals as goal

pub returns-then-n-lt4 : goal.returns-then-n-lt4
returns-then-n-lt4 c =
    let a = c.args in
    (may-short a.s.now a.name.now (omega arith), λ h. absurd (true≢false h))

pub returns-then-four : goal.returns-then-four
returns-then-four c =
    let a = c.args in
    let e = sym c.four.ensures ∙ c.if-four.true ∙ c.four-2.ensures in (
      ap₂ eqb c.four-then-four.ensures c.four-then-four-2.ensures ∙ may-front a.s.now a.name.now (omega arith) e,
      λ h.
          unlike a.s.now a.name.now 0 60 (omega arith) (omega arith)
          (λ e. true≢false (sym (eq-eqb c.four-then-four.result c.four-then-four-2.result (c.four-then-four.ensures ∙ e ∙ sym c.four-then-four-2.ensures)) ∙ h)),
    )

pub returns-else-four : goal.returns-else-four
returns-else-four c =
    let a = c.args in
    let n = length a.name.now in
    let d : four_at a.s.now (60 + (n - 4)) ≢ four_at a.name.now (n - 4) = λ e. c.if-four.false (c.four.ensures ∙ e ∙ sym c.four-2.ensures) in (
      rw (ne_eqb _ _ c.if-four.false) (may-not a.s.now a.name.now (omega arith) d),
      λ h. unlike a.s.now a.name.now (n - 4) (60 + (n - 4)) (omega arith) (omega arith) d,
    )
