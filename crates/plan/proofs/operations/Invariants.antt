-- `plan::operations` meets its contract. The loop's invariant: at each place passed stand that operation's numbers. Assumes nothing.
use Rattle.std.proofs.Common.{◌≡◌, ℕ, ◌<◌, length, get_or}
use Rattle.plan.specs.declared.Step.TheVariants.{Nothing}
use Rattle.plan.specs.declared.HostOp.{HostOp}
use Rattle.plan.specs.Numbers.{operation_of}
use Rattle.plan.proofs.operations.Given as goal

abbrev pub invariant-loop-i : goal.invariant-loop-i
invariant-loop-i l =
    (length l.ops ≡ 12) × ((k : ℕ) (d : HostOp) → k < l.i → get_or l.ops k d ≡ operation_of (get_or l.plan k Nothing))
