-- `flash::make_stores` meets its contract. The loops' invariant: the image is as after the first `made` stores of the call's list, of which none failed, n only
-- ending them (`Underway`).
-- Assumes nothing.
use Prim.Native.Nat.{◌-◌, ◌≤◌}
use Rattle.plan.specs.Plan.{size_of}
use Rattle.plan.proofs.Carried.{Underway}
use Rattle.flash.proofs.make_stores.Given as goal

abbrev pub invariant-loop-step : goal.invariant-loop-step
invariant-loop-step l =
    (l.made ≤ l.n)
    × Underway l.dead l.w l.content l.fn.plan l.initial.image l.step-index 0 l.image l.made

abbrev pub invariant-loop-i : goal.invariant-loop-i
invariant-loop-i l =
    (l.made ≤ l.n)
    × (l.i ≤ size_of l.w l.step)
    × Underway l.dead l.w l.content l.fn.plan l.fn.image l.step-index l.i l.image l.made

abbrev pub decreases-loop-i : goal.decreases-loop-i
decreases-loop-i l = l.n - l.made
