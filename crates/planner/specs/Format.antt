-- The plan of a format.
use Rattle.std.specs.Prelude.{ℕ, ◌+◌, ◌*◌, List, ◌∷◌}
use Rattle.plan.specs.declared.Step.TheVariants.{Erase, Program}
use Rattle.plan.specs.declared.Step.{Step}
use Rattle.planner.specs.Fronts.{nones}

-- "it erases all blocks in rising order, then stores the 28 header bytes in rising order"
unfoldable pub wipe_plan : ℕ → List Step
wipe_plan b = (Erase 0 (2 * b + 1)) ∷ (Program 0 0 28) ∷ nones 10
