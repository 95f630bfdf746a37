-- What was planned: a refusal, an empty list, or a plan's two parts.
-- Assumes nothing.
use Prim.Native.Nat.{ℕ, zero, suc}
use mathlib.Core.Path.{◌≡◌, refl, sym, ap, ap₂, ◌∙◌}
use mathlib.Core.Bool.{Bool, true, false, cond, false≢true}
use mathlib.Core.List.{List, [], ◌∷◌, ◌++◌}
use lib.ListN.{get_or, take, drop}
use Rattle.std.specs.Prelude.{Option, Some, None, unwrap_or, Ok, Err}
use Rattle.model.specs.Lists.{is_empty}
use Rattle.model.specs.declared.Rule.{Rule}
use Rattle.model.specs.Stores.{Write}
use Rattle.model.specs.Set.{Plan, make, refuse}
use Rattle.plan.specs.declared.Step.{Step}
use Rattle.plan.specs.declared.Step.TheVariants.{Nothing, Mark, Erase, Program, Header}
use Rattle.plan.specs.Plan.{is_mark, stores_of_step, expand, Ready}
use Rattle.plan.specs.Planned.{none_decides, nothings, accepted, up_to, planned_as, decides_right, Kept, Plans}

nothing-ready : (c img : List ℕ) → Ready c nothings img
unfolding nothings
nothing-ready c img = record {
  fit = (tt, (tt, (tt, (tt, (tt, (tt, (tt, (tt, (tt, (tt, (tt, (tt, tt))))))))))));
  blank = (tt, (tt, (tt, (tt, (tt, (tt, (tt, (tt, (tt, (tt, (tt, (tt, tt))))))))))));
  bits = λ w. (tt, (tt, (tt, (tt, (tt, (tt, (tt, (tt, (tt, (tt, (tt, (tt, tt))))))))))));
}

-- the content of a call that makes stores
pub made_kept : {plan : Plan} {to on : List Write} (before c : List ℕ) → plan ≡ make to on → Kept plan before c
made_kept before c f = rw f tt

pub either-kept : (t : Bool) (to on to' on' : List Write) (before c : List ℕ) → Kept (cond t (make to on) (make to' on')) before c
either-kept true to on to' on' before c = tt
either-kept false to on to' on' before c = tt

-- ---- the operation that decides

-- a mark is a store
mark-there : (c : List ℕ) (ops : List Step) (d : ℕ) → is_mark (get_or ops d Nothing) ≡ true → is_empty (expand c (take (suc d) ops)) ≡ false
unfolding expand stores_of_step
mark-there c [] d m = absurd (false≢true m)
mark-there c (o ∷ os) zero m = go o m
  where
    go : (s : Step) → is_mark s ≡ true → is_empty (stores_of_step c s ++ []) ≡ false
    go Nothing m = absurd (false≢true m)
    go (Mark at v) m = refl
    go (Erase first count) m = absurd (false≢true m)
    go (Program at from len) m = absurd (false≢true m)
    go (Header at from) m = absurd (false≢true m)
mark-there c (o ∷ os) (suc d) m = behind (stores_of_step c o) (expand c (take (suc d) os)) (mark-there c os d m)
  where
    behind : (xs ys : List Write) → is_empty ys ≡ false → is_empty (xs ++ ys) ≡ false
    behind [] ys h = h
    behind (x ∷ xs) ys h = refl

-- it decides
pub mark-decides : (c : List ℕ) (ops : List Step) (d : ℕ) (to on : List Write) {ops' : List Step} → ops' ≡ ops → is_mark (get_or ops d Nothing) ≡ true
    → expand c (take (suc d) ops) ≡ to → decides_right (make to on) (accepted ops' (Some d)) ≡ true
unfolding decides_right
mark-decides c ops d to on o m t =
    let some : is_empty to ≡ false = ap is_empty (sym t) ∙ mark-there c ops d m in
    rw (o, some) m

-- ---- what was planned

-- *refused*
pub refused-plans : (c img : List ℕ) (plan : Plan) (rule : Rule) → plan ≡ refuse rule → Plans plan img c c (Err rule)
unfolding planned_as
refused-plans c img plan rule f = rw f (record { same = refl; decides = tt; kept = refl; ready = tt })

-- *accepted*, with the plan's two parts: its stores, and whole
pub accepted-as : (c : List ℕ) (ops : List Step) (d : Option ℕ) (to on : List Write) {ops' : List Step} → ops' ≡ ops
    → expand c (take (up_to (unwrap_or d none_decides)) ops) ≡ to → expand c (drop (up_to (unwrap_or d none_decides)) ops) ≡ on
    → planned_as c (Ok (accepted ops' d)) ≡ make to on
unfolding planned_as
accepted-as c ops d to on o t u = rw o (ap₂ make t u)

pub accepted-plans : (before c img : List ℕ) (plan : Plan) (ops : List Step) (d : Option ℕ) (to on : List Write) {ops' : List Step} → ops' ≡ ops
    → expand c (take (up_to (unwrap_or d none_decides)) ops) ≡ to → expand c (drop (up_to (unwrap_or d none_decides)) ops) ≡ on
    → plan ≡ make to on → decides_right (make to on) (accepted ops' d) ≡ true → Ready c ops img → Plans plan img before c (Ok (accepted ops' d))
accepted-plans before c img plan ops d to on {ops'} o t u f decides ready = record {
  same = accepted-as c ops d to on o t u ∙ sym f;
  decides = ap (λ (q : Plan). decides_right q (accepted ops' d)) f ∙ decides;
  kept = made_kept before c f;
  ready = rw o ready;
}

-- no store decides
pub undecided-plans : (before c img : List ℕ) (plan : Plan) (ops : List Step) (on : List Write) {ops' : List Step} → ops' ≡ ops → expand c ops ≡ on
    → plan ≡ make [] on → Ready c ops img → Plans plan img before c (Ok (accepted ops' None))
unfolding expand decides_right
undecided-plans before c img plan ops on o u f ready = accepted-plans before c img plan ops None [] on o refl u f refl ready

-- *nothing to store*
pub nothing-plans : (before c img : List ℕ) (plan : Plan) {ops : List Step} → ops ≡ nothings → plan ≡ make [] [] → Plans plan img before c (Ok (accepted ops None))
unfolding expand stores_of_step nothings
nothing-plans before c img plan n f = undecided-plans before c img plan nothings [] n refl f (nothing-ready c img)
