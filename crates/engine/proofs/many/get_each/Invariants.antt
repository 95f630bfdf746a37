-- `engine::many::get_each` meets its contract. The loop's invariant: what the names to come are given, behind what is told and written already, is what all are given.
-- Assumes nothing.
use mathlib.Core.Path.{◌≡◌}
use lib.ListN.{length}
use Rattle.model.specs.Region.{entries, values}
use Rattle.engine.proofs.Several.{Giving}
use Rattle.engine.proofs.many.get_each.Given as goal

abbrev pub invariant-loop-k : goal.invariant-loop-k
invariant-loop-k l =
    Giving l.view (values (entries l.region)) l.keys l.sizes l.initial.told l.initial.buffer l.k l.used l.told l.buffer × (length l.told ≡ 256) × (length l.buffer ≡ length l.initial.buffer)
