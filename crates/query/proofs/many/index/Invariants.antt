-- `query::many::index` meets its contract: after k turns the table leads to the first k names. Assumes nothing.
use mathlib.Core.Path.{◌≡◌}
use lib.ListN.{length}
use Rattle.query.specs.Many.{Indexed}
use Rattle.query.proofs.many.index.Given as goal

abbrev pub invariant-loop-k : goal.invariant-loop-k
invariant-loop-k l = (length l.noted ≡ 1280) × Indexed l.keys l.sizes l.noted l.k
