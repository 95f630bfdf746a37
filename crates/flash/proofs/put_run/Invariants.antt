-- `flash::put_run` meets its contract: after j turns j bytes are stored. Assumes nothing.
use mathlib.Core.Path.{◌≡◌}
use Rattle.model.specs.Stores.{apply_all}
use Rattle.plan.specs.Plan.{run_of}
use Rattle.flash.proofs.put_run.Given as goal

abbrev pub invariant-loop-j : goal.invariant-loop-j
invariant-loop-j l = l.image ≡ apply_all (run_of 1 l.content l.at l.from l.j) l.initial.image
