-- `decision::rules::stores` meets its contract: attributes and data of what was found are asked. Assumes nothing.
use mathlib.Core.Path.{ap}
use mathlib.Core.List.{List, [], ◌∷◌}
use Prim.Native.Nat.{ℕ}
use borrow.Author.Tests.{ne_eqb, eq-eqb}
use Rattle.model.specs.Lists.{same}
use Rattle.decision.specs.Parts.{stores_by}
use Rattle.decision.proofs.rules.stores.Goals as goal

pub returns-then-entry-eq7 : goal.returns-then-entry-eq7
unfolding stores_by
returns-then-entry-eq7 c = rw (c.in-Some.is, eq-eqb _ _ c.if-entry-eq7.true, c.equal.ensures) (ap (λ (d : List ℕ). same d (c.args.mode ∷ [])) c.data_of.ensures)

pub returns-else-entry-eq7 : goal.returns-else-entry-eq7
unfolding stores_by
returns-else-entry-eq7 c = rw (c.in-Some.is, ne_eqb _ _ c.if-entry-eq7.false)

pub returns-in-None : goal.returns-in-None
unfolding stores_by
returns-in-None c = rw c.in-None.is
