-- The front of a plan, and the places without an operation after it.
use Rattle.std.specs.Prelude.{ℕ, List, ◌∷◌, replicate}
use Rattle.plan.specs.declared.Step.{Step}
use Rattle.plan.specs.declared.Step.TheVariants.{Nothing}

-- so many places without an operation
abbrev pub nones : ℕ → List Step
nones n = replicate n Nothing

-- two operations, and none after them
unfoldable pub begun_plan : Step → Step → List Step
begun_plan first second = first ∷ second ∷ nones 10
