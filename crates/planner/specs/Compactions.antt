-- The plans of a compaction and of its second half.
use Rattle.std.specs.Prelude.{ℕ, ◌+◌, ◌*◌, Bool, cond, List, ◌∷◌, leb}
use Rattle.model.specs.Image.{block}
use Rattle.model.specs.Work.{idle}
use Rattle.model.specs.Stores.{blank}
use Rattle.plan.specs.declared.Step.{Step}
use Rattle.plan.specs.declared.Step.TheVariants.{Nothing, Mark, Erase, Program}
use Rattle.planner.specs.Fronts.{nones}

unfoldable pub clear_step : ℕ → ℕ → Step
clear_step b used = cond (leb 64 used) (Erase b 1) Nothing

-- "erase the spare's blocks if it is not all FF, the work block if it is not well formed or ends in FC"
unfoldable pub spare_step_def : ℕ → Bool → Step
spare_step_def b t = cond t Nothing (Erase (b + 1) b)

unfoldable pub work_step_def : ℕ → Bool → Step
work_step_def b t = cond t Nothing (Erase b 1)

-- the work block as a start-up's compaction finds it
abbrev pub tidied : List ℕ → List ℕ
tidied w = cond (idle w) w blank

-- where the next record stands
abbrev pub record_at : ℕ → ℕ → ℕ
record_at b used = block * b + cond (leb 64 used) 0 used

unfoldable pub compact_plan : Step → Step → ℕ → ℕ → List Step
compact_plan spare work b used =
    spare
    ∷ work
    ∷ (clear_step b used)
    ∷ (Mark (record_at b used) 0xFE)
    ∷ (Program (block * b + block) 0 (block * b))
    ∷ (Mark (record_at b used) 0xFC)
    ∷ (Erase 0 b)
    ∷ (Program 0 0 (block * b))
    ∷ (Mark (record_at b used) 0xF8)
    ∷ (Erase (b + 1) b)
    ∷ nones 2

unfoldable pub resume_plan : ℕ → ℕ → List Step
resume_plan b place =
    (Erase 0 b)
    ∷ (Program 0 0 (block * b))
    ∷ (Mark (block * b + place) 0xF8)
    ∷ (Erase (b + 1) b)
    ∷ nones 8
