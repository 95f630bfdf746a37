-- `query::to_name` meets its contract: before the entry that holds the name's value none is a value of that name. The loop's invariant: the entry to name is, once the
-- name is passed, the first of those shown from here on, and else the one that follows the name among them.
-- Assumes nothing.
use Rattle.std.proofs.Common.{◌≡◌}
use Rattle.model.specs.Layout.{authenticated}
use Rattle.model.specs.Name.{keyed}
use Rattle.model.specs.Region.{entries}
use Rattle.region.specs.Stored.{left}
use Rattle.region.proofs.Standing.{LeftFrom}
use Rattle.query.specs.Query.{going_on, entry_to_name}
use Rattle.query.proofs.Seen.{shown_from}
use Rattle.query.proofs.to_name.Given as goal

abbrev pub invariant-loop-e : goal.invariant-loop-e
invariant-loop-e l =
    (goal.iterator-loop-e).can_next l.e-iterator × (goal.iterator-loop-e).is_finite l.e-iterator
    × LeftFrom authenticated l.region (left l.e-iterator)
    (λ at. entry_to_name l.guid l.modem l.runtime (keyed l.name l.vendor) (entries l.region) ≡ going_on l.passed (keyed l.name l.vendor) (shown_from l.guid l.modem l.runtime l.region at))
