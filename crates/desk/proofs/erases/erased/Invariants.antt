-- `desk::erases::erased` meets its contract. The loop's invariant: what is counted, and what the operations from this one on erase with the stores that are left.
-- Assumes nothing.
use Rattle.std.proofs.Common.{◌≡◌, ◌+◌, ◌≤◌, drop}
use Rattle.desk.specs.Erasing.{erased_in}
use Rattle.desk.proofs.erases.erased.Given as goal

abbrev pub invariant-loop-step : goal.invariant-loop-step
invariant-loop-step l =
    (l.total + l.left ≤ l.n) × (erased_in l.n l.step-items ≡ l.total + erased_in l.left (drop l.step-index l.step-items))
