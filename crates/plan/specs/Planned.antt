-- What was planned for a call, as the definitions have it: a refusal, or its stores up to the deciding one and on from there.
use Rattle.std.specs.Prelude.{ℕ, suc, ◌≡◌, Bool, true, false, cond, Option, Some, None, is_none, unwrap_or, Result, Ok, Err, IfOk, List, get_or, take, drop, replicate, ltb}
use Rattle.model.specs.Lists.{is_empty}
use Rattle.model.specs.declared.Rule.{Rule}
use Rattle.model.specs.Set as set
use Rattle.plan.specs.declared.Step.{Step}
use Rattle.plan.specs.declared.Step.TheVariants.{Nothing}
use Rattle.plan.specs.declared.Planned.{Planned}
use Rattle.plan.specs.Plan.{is_mark, expand, Ready}

-- no operation at all
unfoldable pub nothings : List Step
nothings = replicate 12 Nothing

-- how many operations a plan has, and the deciding one's number where none decides
abbrev pub none_decides : ℕ
none_decides = 12

-- these operations, with the number of the deciding one
abbrev pub accepted : List Step → Option ℕ → Planned
accepted ops deciding = record { plan = ops; deciding = deciding }

-- how many operations stand up to the deciding one, by its number
abbrev pub up_to : ℕ → ℕ
up_to deciding = cond (ltb deciding none_decides) (suc deciding) 0

-- the stores of what was planned: those of its operations up to the deciding one, and of the others
unfoldable pub planned_as : List ℕ → Result Planned Rule → set.Plan
planned_as content (Ok p) =
    let n = up_to (unwrap_or p.deciding none_decides) in
    set.make (expand content (take n p.plan)) (expand content (drop n p.plan))
planned_as content (Err rule) = set.refuse rule

-- a refused call leaves the content as it was; of an accepted call's content nothing is said beyond the bytes that its operations store
abbrev pub Kept : set.Plan → List ℕ → List ℕ → Type 0
Kept (set.refuse rule) before after = after ≡ before
Kept (set.make to on) before after = Unit {0}

-- a mark decides
abbrev pub mark_decides : List Step → Option ℕ → Bool
mark_decides ops None = false
mark_decides ops (Some d) = is_mark (get_or ops d Nothing)

-- the operation `deciding` is the one whose store decides, always a mark; it is none where none does: of a list without a deciding store
unfoldable pub decides_right : set.Plan → Planned → Bool
decides_right (set.refuse rule) p = is_none p.deciding
decides_right (set.make to on) p = cond (is_empty to) (is_none p.deciding) (mark_decides p.plan p.deciding)

-- this was planned, over an image and with the content as it was before and is now: it is what the definitions plan, its deciding operation is told
-- rightly, and it is what the executor asks. Open is only which operations make up the list of writes: one may be empty, an erase may be split in two, and a mark
-- that does not decide may be a program of one byte
pub record Plans (plan : set.Plan) (img before content : List ℕ) (planned : Result Planned Rule) : Type 0 where
  pub same : planned_as content planned ≡ plan
  pub decides : IfOk planned (λ p. decides_right plan p ≡ true)
  pub kept : Kept plan before content
  pub ready : IfOk planned (λ p. Ready content p.plan img)
