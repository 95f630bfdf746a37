-- How a call ends that was planned and carried out: a plan's two parts, joined, are its list of stores; a refusal makes none.
-- Assumes nothing.
use Prim.Native.Nat.{ℕ, min}
use mathlib.Core.Path.{◌≡◌, refl, sym, ap, ◌∙◌}
use mathlib.Core.List.{List, ◌++◌}
use lib.ListN.{length, take, drop, take-append-drop}
use lib.Seq.{take-nil}
use Rattle.std.specs.Prelude.{Result, Ok, Err, unwrap_or}
use Rattle.model.specs.declared.Rule.{Rule}
use Rattle.model.specs.declared.Context.{Context}
use Rattle.model.specs.Stores.{stores, apply_all, after, reach}
use Rattle.model.specs.Answers.{Outcome, refused, rule_number, stores_of, dead_of, page_of, made_of, ended, outcome, image_after}
use Rattle.plan.specs.declared.Step.{Step}
use Rattle.plan.specs.declared.Planned.{Planned}
use Rattle.plan.specs.Plan.{expand}
use Rattle.plan.specs.Planned.{none_decides, up_to, planned_as}
use Rattle.plan.proofs.Stores.{expand-append}

whole : (c : List ℕ) (ops : List Step) (d : ℕ) → expand c (take d ops) ++ expand c (drop d ops) ≡ expand c ops
whole c ops d = sym (expand-append c (take d ops) (drop d ops)) ∙ ap (expand c) (take-append-drop d ops)

pub accepted-end : (x : Context) (c img : List ℕ) (r : Result Planned Rule) {p : Planned} → r ≡ Ok p → {o : Outcome} {img' : List ℕ}
    → (o ≡ ended x.limit (reach (dead_of x) (stores (page_of x) (expand c p.plan)) img) (length (stores (page_of x) (expand c p.plan))))
    × (img' ≡ after (min x.limit (reach (dead_of x) (stores (page_of x) (expand c p.plan)) img)) (stores (page_of x) (expand c p.plan)) img)
    → (o ≡ outcome x (planned_as c r) img) × (img' ≡ image_after x (planned_as c r) img)
unfolding planned_as outcome image_after made_of stores_of
accepted-end x c img r {p} j h = rw (j, whole c p.plan (up_to (unwrap_or p.deciding none_decides))) h

pub refused_end : (x : Context) (c img : List ℕ) (r : Result Planned Rule) {rule : Rule} → r ≡ Err rule
    → (refused (rule_number rule) ≡ outcome x (planned_as c r) img) × (img ≡ image_after x (planned_as c r) img)
unfolding planned_as outcome image_after stores_of after apply_all
refused_end x c img r j = rw (j, take-nil) (refl, refl)
