-- The plans of a delete and of a tail write, by what was found of the name.
use Rattle.std.specs.Prelude.{ℕ, ◌+◌, ◌≤◌, List, ◌∷◌, Option, Some, None}
use Rattle.model.specs.Layout.{state_at}
use Rattle.model.specs.Entry.{header_size_def}
use Rattle.layout.specs.declared.Entry.{Entry}
use Rattle.values.specs.Found.{else_found}
use Rattle.region.specs.declared.Placed.{Placed}
use Rattle.values.specs.declared.Places.{Places}
use Rattle.plan.specs.declared.Step.TheVariants.{Nothing, Mark, Program, Header}
use Rattle.plan.specs.declared.Step.{Step}
use Rattle.planner.specs.Fronts.{nones}

-- by what was found: f of the offset and the numbers, or d
abbrev pub on_found : {A : Type 0} → Option Placed → (ℕ → Entry → A) → A → A
on_found (Some p) f d = f p.at p.entry
on_found None f d = d

-- an entry found lies below an offset
abbrev pub Below : ℕ → Option Placed → Type 0
Below end (Some p) = p.at + header_size_def ≤ end
Below end None = Unit {0}

-- an entry's state becomes v, where one was found
unfoldable pub mark_found_def : Option Placed → ℕ → Step
mark_found_def found v = on_found found (λ at e. Mark (at + state_at) v) Nothing

-- "a leftover 3E beside a 3F becomes 3C"
unfoldable pub leftover_step : Places → Step
leftover_step places = on_found places.added (λ at e. mark_found_def places.replacing 0x3C) Nothing

-- "bit 0x02 of the state cleared": 3F becomes 3D, 3E alone becomes 3C
unfoldable pub remove_step : Places → Step
remove_step places = on_found places.added (λ at e. mark_found_def places.added 0x3D) (mark_found_def places.replacing 0x3C)

-- "the old entry 3C"
unfoldable pub retire_step : Places → Step
retire_step places = mark_found_def (else_found places.added places.replacing) 0x3C

-- "Delete: leftover first, then bit 0x02 of the state cleared (deciding)"
unfoldable pub delete_plan : Places → List Step
delete_plan places = (leftover_step places) ∷ (remove_step places) ∷ nones 10

-- "a leftover 3E beside a 3F becomes 3C; the 3F becomes 3E; header bytes in rising order without state; state 7F; name; data; state 3F (deciding); the old entry 3C"
unfoldable pub tail_plan : Places → ℕ → ℕ → ℕ → List Step
tail_plan places at name size =
    (leftover_step places)
    ∷ (mark_found_def places.added 0x3E)
    ∷ (Header at 0)
    ∷ (Mark (at + state_at) 0x7F)
    ∷ (Program (at + header_size_def) header_size_def name)
    ∷ (Program (at + header_size_def + name) (header_size_def + name) size)
    ∷ (Mark (at + state_at) 0x3F)
    ∷ (retire_step places)
    ∷ nones 4
