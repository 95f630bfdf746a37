-- The characters before an offset are not zero, so the name is zero-ended just if what begins there is.
use Rattle.std.proofs.Common.{◌≡◌, ◌-◌, ◌%◌, ◌≤◌, length, drop}
use Rattle.model.specs.Name.{zero_ended}
use Rattle.slices.specs.Characters.{NonZero}
use Rattle.slices.proofs.front_nonzero.Given as goal

abbrev pub invariant-loop-i : goal.invariant-loop-i
invariant-loop-i l = (l.i ≤ length l.name) × (l.i % 2 ≡ 0) × NonZero l.name 0 l.i × (zero_ended l.name ≡ zero_ended (drop l.i l.name))

abbrev pub decreases-loop-i : goal.decreases-loop-i
decreases-loop-i l = length l.name - l.i
