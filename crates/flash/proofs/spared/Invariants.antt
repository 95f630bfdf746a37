-- `flash::spared` meets its contract: so many bytes are stored before one fails at the addresses before `a`. Assumes nothing.
use Prim.Native.Nat.{◌≤◌}
use mathlib.Core.Path.{◌≡◌}
use lib.ListN.{take}
use Rattle.model.specs.Stores.{reach}
use Rattle.plan.specs.Plan.{run_of}
use Rattle.flash.proofs.spared.Given as goal

abbrev pub invariant-loop-a : goal.invariant-loop-a
invariant-loop-a l = (l.k ≤ l.r) × (l.k ≡ reach (take l.a-index l.dead) (run_of 1 l.content l.at l.from l.r) l.image)
