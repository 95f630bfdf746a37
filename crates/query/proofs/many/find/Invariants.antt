-- `query::many::find` meets its contract. The loop's invariant: each name is met in the region where it was met, or else where it is met from here on.
-- Assumes nothing.
use Rattle.std.proofs.Common.{◌≡◌, length}
use Rattle.model.specs.Layout.{authenticated}
use Rattle.region.specs.Stored.{left}
use Rattle.region.proofs.Standing.{LeftFrom}
use Rattle.query.proofs.Several.{Ahead}
use Rattle.query.proofs.many.find.Given as goal

abbrev pub invariant-loop-e : goal.invariant-loop-e
invariant-loop-e l =
    (goal.iterator-loop-e).can_next l.e-iterator × (goal.iterator-loop-e).is_finite l.e-iterator × (length l.found ≡ 64)
    × LeftFrom authenticated l.region (left l.e-iterator) (λ at. Ahead l.keys l.sizes l.region l.found at)
