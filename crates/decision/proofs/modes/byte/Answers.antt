-- `decision::modes::byte` meets its contract: by its test. Assumes nothing.
use borrow.Author.Tests.{eq-eqb, ne_eqb}
use Rattle.decision.specs.Modes.{byte_of}
use mathlib.Core.Path.{sym, ◌∙◌}
use Rattle.decision.proofs.modes.byte.Goals as goal

pub returns-then-to-from : goal.returns-then-to-from
unfolding byte_of
returns-then-to-from c = rw (eq-eqb c.args.to 2 (c.if-to-from.true ∙ c.from.ensures))

pub returns : goal.returns
unfolding byte_of
returns c = rw (ne_eqb c.args.to 2 (λ z. c.if-to-from.false (z ∙ sym c.from.ensures)))
