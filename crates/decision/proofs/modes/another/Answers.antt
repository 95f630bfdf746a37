-- `decision::modes::another` meets its contract: by the mode. Assumes nothing.
use mathlib.Core.Bool.{true, false}
use borrow.Author.Tests.{eq-eqb, ne_eqb}
use Rattle.model.specs.Rules.{rule24}
use Rattle.decision.proofs.Transitions.{setup-another, user-another}
use mathlib.Core.Path.{sym, ◌∙◌}
use Rattle.decision.proofs.modes.another.Goals as goal

pub returns-then-to-from : goal.returns-then-to-from
returns-then-to-from c =
    let a = c.args in
    rw (c.in-User.is, c.from-then-to-from.ensures) (user-another a.to false (ne_eqb a.to 2 (λ z. c.if-to-from.true (z ∙ sym c.from-in-User.ensures))))

pub returns-in-Setup : goal.returns-in-Setup
returns-in-Setup c = rw (c.in-Setup.is, c.from.ensures) (setup-another c.args.to)

pub returns-else-to-from : goal.returns-else-to-from
returns-else-to-from c =
    let a = c.args in
    rw (c.in-User.is, eq-eqb a.to c.from-in-User.result c.if-to-from.false) (user-another a.to true (eq-eqb a.to 2 (c.if-to-from.false ∙ c.from-in-User.ensures)))

pub returns-in-Audit : goal.returns-in-Audit
unfolding rule24
returns-in-Audit c = rw c.in-Audit.is

pub returns-in-Deployed : goal.returns-in-Deployed
unfolding rule24
returns-in-Deployed c = rw c.in-Deployed.is
