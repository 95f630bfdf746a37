-- A plan in numbers: each operation's numbers write what it writes, so those of the operations up to the deciding one, and of the others, are what was planned.
-- Assumes nothing.
use Rattle.std.specs.Prelude.{ℕ, ◌≡◌, List, [], ◌∷◌, ◌++◌, map, take, drop, Result, Ok, Err, unwrap_or}
use Rattle.std.proofs.Common.{refl, sym, ap, ap₂, ◌∙◌, subst}
use Rattle.std.proofs.lemmas.List.{take-map, drop-map}
use Rattle.model.specs.declared.Rule.{Rule}
use Rattle.model.specs.Set as set
use Rattle.model.specs.Stores.{Write}
use Rattle.plan.specs.declared.Step.{Step}
use Rattle.plan.specs.declared.Step.TheVariants.{Nothing, Mark, Erase, Program, Header}
use Rattle.plan.specs.declared.Planned.{Planned}
use Rattle.plan.specs.declared.HostPlan.{HostPlan}
use Rattle.plan.specs.Plan.{stores_of_step, expand}
use Rattle.plan.specs.Planned.{none_decides, nothings, up_to, planned_as}
use Rattle.plan.specs.Told.{header_stores, stores_of_numbers, expand_numbers, no_operations_def, Told}
use Rattle.plan.specs.Numbers.{operation_of, operations_of, in_numbers_def}

pub none_at_all : operations_of nothings ≡ no_operations_def
unfolding operations_of nothings no_operations_def
none_at_all = refl

-- an operation's numbers write what it writes
stores_same : (c : List ℕ) (s : Step) → stores_of_numbers c (operation_of s) ≡ stores_of_step c s
unfolding stores_of_numbers stores_of_step header_stores
stores_same c Nothing = refl
stores_same c (Mark at v) = refl
stores_same c (Erase first count) = refl
stores_same c (Program at from len) = refl
stores_same c (Header at from) = refl

expand-same : (c : List ℕ) (ops : List Step) → expand_numbers c (map operation_of ops) ≡ expand c ops
unfolding expand_numbers expand
expand-same c [] = refl
expand-same c (o ∷ os) = ap₂ (λ (x y : List Write). x ++ y) (stores_same c o) (expand-same c os)

tells : (c : List ℕ) (p : Result Planned Rule) → Told (planned_as c p) c (in_numbers_def p)
unfolding planned_as in_numbers_def operations_of
tells c (Ok p) =
    let d = up_to (unwrap_or p.deciding none_decides) in (
      refl,
      ap (expand_numbers c) (take-map operation_of d p.plan) ∙ expand-same c (take d p.plan),
      ap (expand_numbers c) (drop-map operation_of d p.plan) ∙ expand-same c (drop d p.plan),
    )
tells c (Err rule) = refl

-- *what was planned as the definitions plan, is told so*
pub told : (c : List ℕ) (p : Result Planned Rule) {h : HostPlan} {plan : set.Plan} → planned_as c p ≡ plan → h ≡ in_numbers_def p → Told plan c h
told c p {h} {plan} e n = subst (λ (x : HostPlan). Told plan c x) (sym n) (subst (λ (q : set.Plan). Told q c (in_numbers_def p)) e (tells c p))
