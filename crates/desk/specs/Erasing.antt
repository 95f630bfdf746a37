-- How many blocks are erased by the first n stores of a plan, in pages of one byte: from its operations alone.
use Rattle.std.specs.Prelude.{ℕ, ◌+◌, ◌-◌, min, List, [], ◌∷◌}
use Rattle.plan.specs.declared.Step.{Step}
use Rattle.plan.specs.declared.Step.TheVariants.{Nothing, Mark, Erase, Program, Header}
use Rattle.plan.specs.Plan.{size_of}

abbrev pub erased_of_def : ℕ → Step → ℕ
erased_of_def n Nothing = 0
erased_of_def n (Mark at v) = 0
erased_of_def n (Erase first count) = min n count
erased_of_def n (Program at from len) = 0
erased_of_def n (Header at from) = 0

unfoldable pub erased_in : ℕ → List Step → ℕ
erased_in n [] = 0
erased_in n (o ∷ os) = erased_of_def n o + erased_in (n - size_of 1 o) os
