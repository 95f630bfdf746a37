-- `plan::nothing` meets its contract. Assumes nothing.
use mathlib.Core.Path.{refl}
use Rattle.plan.specs.Planned.{nothings}
use Rattle.plan.proofs.nothing.Goals as goal

pub returns : goal.returns
unfolding nothings
returns c = refl
