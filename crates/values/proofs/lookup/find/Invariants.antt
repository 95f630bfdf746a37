-- `values::lookup::find` meets its contract. The loop's invariant: what stands is the first 3F entry of those left, else the 3E entry found so far, else
-- the first of those left.
-- Assumes nothing.
use Rattle.std.proofs.Common.{◌≡◌}
use Rattle.model.specs.Lists.{first}
use Rattle.model.specs.Region.{entries, is_entry_def, standing}
use Rattle.model.specs.Name.{keyed}
use Rattle.region.specs.Stored.{left}
use Rattle.values.specs.Found.{found_of, else_found}
use Rattle.values.proofs.lookup.find.Given as goal

abbrev pub invariant-loop-e : goal.invariant-loop-e
invariant-loop-e l =
    (goal.iterator-loop-e).can_next l.e-iterator × (goal.iterator-loop-e).is_finite l.e-iterator
    × (found_of (standing (keyed l.name l.vendor) (entries l.region))
    ≡ else_found (found_of (first (is_entry_def 0x3F (keyed l.name l.vendor)) (left l.e-iterator)))
    (else_found l.replacing (found_of (first (is_entry_def 0x3E (keyed l.name l.vendor)) (left l.e-iterator)))))
