-- `region::walk::Stored::is` meets its contract: what it compares, in its own order, is what the definition does.
-- Assumes nothing.
use Rattle.std.proofs.Common.{◌≡◌, true, length, sym, ap, ◌∙◌, eqb, eq-eqb, ne_eqb}
use mathlib.Core.Bool.{and-false}
use Rattle.model.specs.Walk.{placed}
use Rattle.model.specs.Lists.{same}
use Rattle.slices.proofs.Same.{same-lengths}
use Rattle.region.specs.Stored.{entry_of}
use Rattle.region.proofs.walk.Stored.is.Goals as goal

pub returns-then-self-state : goal.returns-then-self-state
unfolding placed
returns-then-self-state c = rw (ne_eqb _ _ c.if-self-state.true)

pub returns-then-own-name : goal.returns-then-own-name
returns-then-own-name c =
    let x = entry_of c.args.self.now in
    rw (same-lengths x.name c.args.name.now (λ p. c.if-own-name.true (ap length c.name-own.ensures ∙ p)))
    (sym (and-false (eqb x.header.state c.args.state)))

pub returns-then-equal : goal.returns-then-equal
unfolding placed
returns-then-equal c =
    let own : same (entry_of c.args.self.now).name c.args.name.now ≡ true =
    sym (c.equal.ensures ∙ ap (λ l. same l c.args.name.now) c.name-own.ensures) ∙ c.if-equal.true in
    rw (eq-eqb _ _ c.if-self-state.false, own) (c.equal-then-equal.ensures ∙ ap (λ l. same l c.args.vendor.now) c.vendor.ensures)
