-- `values::lookup::places` meets its contract. The loop's invariant: the first 3F entry of all is the one found so far, else the first from here on, and
-- so for 3E. What is left of the region falls.
-- Assumes nothing.
use Prim.Native.Nat.{◌-◌}
use mathlib.Core.Path.{◌≡◌}
use lib.ListN.{length}
use Rattle.model.specs.Lists.{first}
use Rattle.model.specs.Region.{entries, is_entry_def, added, replacing}
use Rattle.model.specs.Name.{keyed}
use Rattle.model.specs.Beside.{from}
use Rattle.values.specs.Found.{found_of, else_found}
use Rattle.values.proofs.lookup.places.Given as goal

abbrev pub invariant-loop-entry : goal.invariant-loop-entry
invariant-loop-entry l =
    (found_of (added (keyed l.name l.vendor) (entries l.region)) ≡ else_found l.added (found_of (first (is_entry_def 0x3F (keyed l.name l.vendor)) (from l.region l.at))))
    × (found_of (replacing (keyed l.name l.vendor) (entries l.region)) ≡ else_found l.replacing (found_of (first (is_entry_def 0x3E (keyed l.name l.vendor)) (from l.region l.at))))

abbrev pub decreases-loop-entry : goal.decreases-loop-entry
decreases-loop-entry l = length l.region - l.at
