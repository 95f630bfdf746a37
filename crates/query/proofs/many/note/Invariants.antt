-- `query::many::note` meets its contract: after each turn one name more has the entry noted. Assumes nothing.
use mathlib.Core.Path.{◌≡◌}
use lib.ListN.{length}
use Rattle.query.specs.Many.{NotedIn}
use Rattle.query.proofs.many.note.Given as goal

abbrev pub invariant-loop-k : goal.invariant-loop-k
invariant-loop-k l = (length l.found ≡ 64) × NotedIn l.keys l.sizes l.region l.placed.at l.placed.entry l.fn.names.start l.k l.initial.found l.found
