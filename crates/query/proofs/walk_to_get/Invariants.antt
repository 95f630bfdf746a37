-- `query::walk_to_get` meets its contract: before the entry that holds the name's value none is a value of that name. The loop's invariant: the entry to get is the first of that
-- name among those seen from here on.
-- Assumes nothing.
use Rattle.std.proofs.Common.{◌≡◌}
use Rattle.model.specs.Layout.{authenticated}
use Rattle.model.specs.Lists.{first}
use Rattle.model.specs.Name.{keyed, same_key_def}
use Rattle.model.specs.Walk.{entry_key}
use Rattle.model.specs.Region.{entries}
use Rattle.region.specs.Stored.{left}
use Rattle.region.proofs.Standing.{LeftFrom}
use Rattle.query.specs.Query.{entry_to_get}
use Rattle.query.proofs.Seen.{seen_from}
use Rattle.query.proofs.walk_to_get.Given as goal

abbrev pub invariant-loop-e : goal.invariant-loop-e
invariant-loop-e l =
    (goal.iterator-loop-e).can_next l.e-iterator × (goal.iterator-loop-e).is_finite l.e-iterator
    × LeftFrom authenticated l.region (left l.e-iterator)
    (λ at. entry_to_get l.runtime (keyed l.name l.vendor) (entries l.region) ≡ first (λ e. same_key_def (entry_key e) (keyed l.name l.vendor)) (seen_from l.runtime l.region at))
