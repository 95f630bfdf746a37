-- `profile::number` meets its contract: the groups are read one after another; the last is below 128, and 0 only alone. Assumes nothing.
use borrow.Author.Rules.{rules}
use borrow.Author.Tests.{ltb-true, ltb-false}
use Prim.Native.Nat.{ℕ, suc, ◌+◌, ◌*◌, ◌-◌, ◌<◌}
use native.Mathlib.Omega.{arith}
use mathlib.Core.Path.{◌≡◌, sym, ap, ◌∙◌}
use mathlib.Core.Logic.{◌≢◌}
use lib.ListN.{length, drop}
use Rattle.model.specs.Profile.{number}
use Rattle.profile.proofs.Numbers.{shifted, no_group, too_many, last-group, last-zero, group-more, first, next-weight, small-groups}
use Rattle.profile.proofs.number.Goals as goal
use Rattle.profile.proofs.number.Goals.{else-i-gt0-via-then-i-gt0+else-b-eq0, else-i-gt0-via-else-i-gt0}

pub returns-in_err-get : goal.returns-in_err-get
returns-in_err-get c =
    let a = c.args in
    let l = c.loop-i in
    let none = no_group l.i l.weight l.value (3 - l.i) a.s.now l.next (ltb-false _ _ (sym c.in_err-get.ensures.lookup.0)) in
    (rw c.from_residual.ensures (none ∙ sym l.invariant.3), rw c.from_residual.ensures tt)

pub returns-then-b-eq0 : goal.returns-then-b-eq0
returns-then-b-eq0 c =
    let a = c.args in
    let l = c.loop-i in
    let inside : l.next < length a.s.now = ltb-true _ _ (sym c.in_ok-get.ensures.lookup.0) in
    let is = c.from-b.ensures ∙ c.in_ok-get.ensures.lookup.1 in
    let left : 3 - l.i ≡ suc (2 - l.i) = omega arith in
    let told = l.invariant.3 ∙ ap (λ (n : ℕ). shifted l.i l.weight l.value (number n (drop l.next a.s.now))) left in
    (last-zero (2 - l.i) a.s.now l.next c.from-b.result _ inside is l.i l.weight l.value (λ z. absurd (omega arith)) c.if-b-eq0.true ∙ sym told, tt)

pub overflow_mul-value : goal.overflow_mul-value
overflow_mul-value c =
    let byte : c.from-b.result < 256 = search rules in
    let small = small-groups c.loop-i.i c.loop-i.weight c.loop-i.value c.from-b.result c.loop-i-test.true c.loop-i.invariant.1 c.loop-i.invariant.2 byte in
    omega (arith, small.product)

pub overflow_add-value : goal.overflow_add-value
overflow_add-value c =
    let byte : c.from-b.result < 256 = search rules in
    let small = small-groups c.loop-i.i c.loop-i.weight c.loop-i.value c.from-b.result c.loop-i-test.true c.loop-i.invariant.1 c.loop-i.invariant.2 byte in
    omega (arith, small.last c.if-b-lt128.true)

pub returns-then-b-lt128 : goal.returns-then-b-lt128
returns-then-b-lt128 c =
    let a = c.args in
    let l = c.loop-i in
    let inside : l.next < length a.s.now = ltb-true _ _ (sym c.in_ok-get.ensures.lookup.0) in
    let is = c.from-b.ensures ∙ c.in_ok-get.ensures.lookup.1 in
    let left : 3 - l.i ≡ suc (2 - l.i) = omega arith in
    let told = l.invariant.3 ∙ ap (λ (n : ℕ). shifted l.i l.weight l.value (number n (drop l.next a.s.now))) left in
    let front = first l.i l.weight l.value l.invariant.1 l.invariant.2 in
    let byte : c.from-b.result < 256 = search rules in
    let small = small-groups c.loop-i.i c.loop-i.weight c.loop-i.value c.from-b.result c.loop-i-test.true c.loop-i.invariant.1 c.loop-i.invariant.2 byte in
    let alone : l.i ≢ 0 → c.from-b.result ≢ 0 =
    elim c.else-i-gt0.branch [ else-i-gt0-via-then-i-gt0+else-b-eq0 w ↦ (λ z. w.if-b-eq0.false) | else-i-gt0-via-else-i-gt0 w ↦ (λ z. absurd (z (omega arith))) ] in (
      last-group (2 - l.i) a.s.now l.next c.from-b.result _ inside is l.i l.weight l.value front alone c.if-b-lt128.true ∙ sym told,
      (small.last c.if-b-lt128.true, omega arith),
    )

pub overflow_mul-value-in-loop-i : goal.overflow_mul-value-in-loop-i
overflow_mul-value-in-loop-i c =
    let byte : c.from-b.result < 256 = search rules in
    let small = small-groups c.loop-i.i c.loop-i.weight c.loop-i.value c.from-b.result c.loop-i-test.true c.loop-i.invariant.1 c.loop-i.invariant.2 byte in
    omega (arith, small.weight, small.value c.if-b-lt128.false)

pub overflow_add-value-in-loop-i : goal.overflow_add-value-in-loop-i
overflow_add-value-in-loop-i c =
    let byte : c.from-b.result < 256 = search rules in
    let small = small-groups c.loop-i.i c.loop-i.weight c.loop-i.value c.from-b.result c.loop-i-test.true c.loop-i.invariant.1 c.loop-i.invariant.2 byte in
    omega (arith, small.weight, small.value c.if-b-lt128.false)

pub loop-i-preserved : goal.loop-i-preserved
loop-i-preserved c =
    let a = c.args in
    let l = c.loop-i in
    let inside : l.next < length a.s.now = ltb-true _ _ (sym c.in_ok-get.ensures.lookup.0) in
    let is = c.from-b.ensures ∙ c.in_ok-get.ensures.lookup.1 in
    let left : 3 - l.i ≡ suc (2 - l.i) = omega arith in
    let told = l.invariant.3 ∙ ap (λ (n : ℕ). shifted l.i l.weight l.value (number n (drop l.next a.s.now))) left in
    let front = first l.i l.weight l.value l.invariant.1 l.invariant.2 in
    let byte : c.from-b.result < 256 = search rules in
    let small = small-groups c.loop-i.i c.loop-i.weight c.loop-i.value c.from-b.result c.loop-i-test.true c.loop-i.invariant.1 c.loop-i.invariant.2 byte in
    let less : 2 - l.i ≡ 3 - (l.i + 1) = omega arith in
    let more = group-more (2 - l.i) a.s.now l.next c.from-b.result _ inside is l.i l.weight l.value front c.if-b-lt128.false in (
      omega arith,
      ap (λ (w : ℕ). w * 128) l.invariant.1 ∙ next-weight l.i c.loop-i-test.true,
      small.value c.if-b-lt128.false,
      told ∙ more ∙ ap (λ (n : ℕ). shifted (l.i + 1) (l.weight * 128) (l.value + l.weight * (c.from-b.result - 128)) (number n (drop (l.next + 1) a.s.now))) less,
    )

pub returns : goal.returns
returns c =
    let a = c.args in
    let l = c.loop-i in
    let done : 3 - l.i ≡ 0 = omega arith in
    let told = l.invariant.3 ∙ ap (λ (n : ℕ). shifted l.i l.weight l.value (number n (drop l.next a.s.now))) done in
    (too_many l.i l.weight l.value a.s.now (drop l.next a.s.now) ∙ sym told, tt)
