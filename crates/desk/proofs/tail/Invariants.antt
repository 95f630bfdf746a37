-- `desk::tail` meets its contract. The loop's invariant: the walk from the first entry on ends where the walk from this place on does. Assumes nothing.
use Rattle.std.proofs.Common.{◌≡◌, ◌-◌, length}
use Rattle.model.specs.Walk.{walk_end_def}
use Rattle.model.specs.Region.{tail_at}
use Rattle.model.specs.Beside.{from}
use Rattle.desk.proofs.tail.Given as goal

abbrev pub invariant-loop-next : goal.invariant-loop-next
invariant-loop-next l = tail_at l.region ≡ walk_end_def l.at (from l.region l.at)

abbrev pub decreases-loop-next : goal.decreases-loop-next
decreases-loop-next l = length l.region - l.at
