-- `cases::play::play_steps` ends: every step takes a byte of the script or more. Assumes nothing.
use Rattle.std.proofs.Common.{◌≡◌, length}
use Rattle.cases.proofs.play.play_steps.Given as goal

abbrev pub invariant-loop-left : goal.invariant-loop-left
invariant-loop-left g l = (length l.buffer ≡ length l.initial.buffer) × (length l.other ≡ length l.initial.other)

abbrev pub decreases-loop-left : goal.decreases-loop-left
decreases-loop-left g l = length l.left
