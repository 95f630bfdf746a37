-- `engine::room::largest` meets its contract: it is the definition's sum.
-- Assumes nothing.
use native.Mathlib.Omega.{arith}
use mathlib.Core.Path.{refl}
use Rattle.model.specs.Query.{largest_for}
use Rattle.engine.proofs.room.largest.Goals as goal

pub returns : goal.returns
unfolding largest_for
returns c = let e = c.min.ensures in let l = c.saturating_sub.ensures in (rw (e, l) refl, omega (arith, e, l))
