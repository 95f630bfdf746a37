-- `region::judge::scan_by_marks` meets its contract. The loop's invariant: what the whole walk tells of each entry by itself is what the walk from here on tells; of every
-- entry passed the mark is noted, and no name is doubled in the whole walk just if none from here on is, neither among themselves nor with those passed; the sought
-- name is met among them where that is told. What is left of the region falls; in the inner loop it is no more than where that began.
-- Assumes nothing.
use Rattle.std.proofs.Common.{◌≡◌, ◌-◌, ◌≤◌, length}
use Rattle.model.specs.Beside.{from_in}
use Rattle.region.proofs.Marked.{Passed}
use Rattle.region.proofs.Scanning.{singly, scanned}
use Rattle.region.proofs.judge.scan_by_marks.Given as goal

abbrev pub invariant-loop-u-2 : goal.invariant-loop-u-2
invariant-loop-u-2 l =
    (singly l.y l.region ≡ scanned (length l.region) l.at (from_in l.y l.region l.at)) × Passed l.y l.region l.key l.noted l.met l.at × (length l.region - l.at ≤ length l.region - l.initial.at)

abbrev pub decreases-loop-u-2 : goal.decreases-loop-u-2
decreases-loop-u-2 l = length l.region - l.at

abbrev pub invariant-loop-u : goal.invariant-loop-u
invariant-loop-u l =
    (singly l.y l.region ≡ scanned (length l.region) l.at (from_in l.y l.region l.at)) × Passed l.y l.region l.key l.noted l.met l.at

abbrev pub decreases-loop-u : goal.decreases-loop-u
decreases-loop-u l = length l.region - l.at
