-- `region::judge::first_before` meets its contract. The loop's invariant: what is met first before the offset is met first among those left.
-- Assumes nothing.
use Rattle.std.proofs.Common.{◌≡◌}
use Rattle.model.specs.Name.{keyed}
use Rattle.model.specs.Region.{is_entry_def, entries_in}
use Rattle.region.specs.Marks.{up_to}
use Rattle.region.specs.Met.{first_at}
use Rattle.region.specs.Stored.{left}
use Rattle.region.proofs.judge.first_before.Given as goal

abbrev pub invariant-loop-e : goal.invariant-loop-e
invariant-loop-e l =
    (goal.iterator-loop-e).can_next l.e-iterator × (goal.iterator-loop-e).is_finite l.e-iterator
    × (first_at (is_entry_def l.state (keyed l.name l.vendor)) (up_to l.end (entries_in l.fn.y l.region)) ≡ first_at (is_entry_def l.state (keyed l.name l.vendor)) (up_to l.end (left l.e-iterator)))
