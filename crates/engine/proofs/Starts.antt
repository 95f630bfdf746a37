-- The plan of a start-up, by what was found: refused by rule 1 or 2, or by 22 where what stands does not keep to the shares, in the spare if a compaction is pending.
-- Assumes nothing.
use Prim.Native.Nat.{ℕ, ◌+◌, ◌*◌, ◌≤◌}
use native.Mathlib.Omega.{arith}
use mathlib.Core.Path.{◌≡◌, refl, sym, ap, ◌∙◌, subst}
use mathlib.Core.Bool.{Bool, true, false, not, cond}
use mathlib.Core.List.{List, [], ◌∷◌}
use mathlib.Core.Option.{Option, none, some}
use Rattle.std.specs.Prelude.{Result, Ok, Err}
use lib.ListN.{length, drop, length-drop}
use lib.Seq.{length-take-le}
use borrow.Author.Tests.{not-true, not-false}
use Rattle.model.specs.declared.Tenant.{Tenant}
use Rattle.model.specs.declared.Setup.{Setup}
use Rattle.model.specs.declared.Rule.{Rule}
use Rattle.model.specs.declared.Rule.TheVariants.{Length, Unready, Side}
use Rattle.model.specs.Lists.{part, on_some, or_else}
use Rattle.model.specs.Image.{block, blocks, region_size, region, work, spare}
use Rattle.model.specs.Region.{clean, entries, values, values_in}
use Rattle.model.specs.Work.{pending}
use Rattle.model.specs.Sides.{allotted}
use Rattle.model.specs.Rules.{first_broken, rule1, rule2_start_up, rule22_start_up, values_found, start_up_broken}
use Rattle.model.specs.Set.{Plan, refuse, make}
use Rattle.model.specs.StartUp.{start_up_stores, start_up_plan}
use Rattle.model.proofs.Requests.{broken-append, start_up-judged}
use Rattle.image.specs.Check.{start_up_of}
use Rattle.image.specs.declared.Start.TheVariants.{Pending, Sound}
use Rattle.records.specs.Look.{look_at_def}
use Rattle.values.specs.Allotted.{allotted_by}
use Rattle.values.proofs.Allotted.{allotted-by}
use Rattle.plan.specs.declared.Planned.{Planned}
use Rattle.plan.specs.Planned.{Plans}
use Rattle.planner.proofs.Starting.{Accepted, sized}
use Rattle.engine.specs.Shares.{GivesShares}

-- a setup that gives them: of the rest nothing is asked
pub given : ℕ → ℕ → Tenant → Setup
given share records tenant = record { custom = 0; reserve = 0; records = records; share = share; modem = tenant; rules = 0; limits = [] }

pub given-gives : (share records : ℕ) (tenant : Tenant) → GivesShares (given share records tenant) share records tenant
unfolding given
given-gives share records tenant = (refl, refl, refl)

-- rule 1 or 2
pub start-refused : (u : Setup) (img : List ℕ) (rule : Rule) → start_up_of img ≡ Err rule → start_up_plan u img ≡ refuse rule
unfolding start_up_of start_up_plan start_up_broken
start-refused u img rule h =
    let a : List (Rule × Bool) = (Length, rule1 img) ∷ (Unready, rule2_start_up img) ∷ [] in
    ap (λ (o : Option Rule). on_some o refuse (make [] (start_up_stores img)))
    (broken-append a ((Side, rule22_start_up u img) ∷ []) ∙ ap (λ (o : Option Rule). or_else o (first_broken ((Side, rule22_start_up u img) ∷ []))) (go (first_broken a) (pending img) h))
  where
    go : (o : Option Rule) (t : Bool) → on_some o Err (Ok (cond t (Pending (blocks img) (look_at_def (work img))) (Sound (blocks img) (look_at_def (work img)) (clean (region img))))) ≡ Err rule → o ≡ some rule
    go (some x) t h = cc
    go none true h = let z : ◌≡◌ {A = ℕ} 0 1 = cc in absurd (omega arith)
    go none false h = let z : ◌≡◌ {A = ℕ} 0 1 = cc in absurd (omega arith)

part-long : (at n : ℕ) (img : List ℕ) → at + n ≤ length img → length (part at n img) ≡ n
part-long at n img h = length-take-le n (drop at img) (rw (length-drop at img) (omega arith))

-- where they are kept, 22 decides, over what was found
module _ (u : Setup) {share records : ℕ} {tenant : Tenant} (gives : GivesShares u share records tenant) (img : List ℕ) (b : ℕ) (t : Bool) (ready : Accepted img b t)
    {found : List ℕ} (cut : found ≡ part (cond t (4096 * b + 4096) 0) (4096 * b) img) where
  long : length found ≡ region_size img
  unfolding region_size block
  long = let z = sized img b t ready in rw (cut, ready.same) (go t z.2)
    where
      go : (t : Bool) → length img ≡ block * (2 * b + 1) → length (part (cond t (4096 * b + 4096) 0) (4096 * b) img) ≡ 4096 * b
      go true z = part-long (4096 * b + 4096) (4096 * b) img (omega arith)
      go false z = part-long 0 (4096 * b) img (omega arith)

  its-values : values_found img ≡ values (entries found)
  unfolding values_found values_in region spare region_size block
  its-values = rw (ready.waits, cut, ready.same) (go t)
    where
      go : (t : Bool) → cond t (values (entries (part (4096 * b + 4096) (4096 * b) img))) (values (entries (part 0 (4096 * b) img))) ≡ values (entries (part (cond t (4096 * b + 4096) 0) (4096 * b) img))
      go true = refl
      go false = refl

  allots : allotted u (region_size img) (values_found img) ≡ allotted_by tenant.vendor share tenant.share records (length found) (values (entries found))
  allots =
      allotted-by u (region_size img) (values_found img)
      ∙ rw (gives.0, gives.1, gives.2, its-values, long)

  judged : start_up_plan u img ≡ on_some (cond (allotted u (region_size img) (values_found img)) none (some Side)) refuse (make [] (start_up_stores img))
  unfolding start_up_plan
  judged = ap (λ (o : Option Rule). on_some o refuse (make [] (start_up_stores img))) (start_up-judged u img ready.right ready.ready)

  abbrev kept : Bool
  kept = allotted_by tenant.vendor share tenant.share records (length found) (values (entries found))

  module _ {broken : Bool} (e : broken ≡ not kept) where
    pub start-side : broken ≡ true → start_up_plan u img ≡ refuse Side
    start-side h = judged ∙ rw (allots, not-true kept (sym e ∙ h))

    pub start-makes : broken ≡ false → start_up_plan u img ≡ make [] (start_up_stores img)
    start-makes h = judged ∙ rw (allots, not-false kept (sym e ∙ h))

-- what was planned as one plan was planned as another that is the same
pub as-planned : {p q : Plan} {img before content : List ℕ} {r : Result Planned Rule} → p ≡ q → Plans q img before content r → Plans p img before content r
as-planned {img = img} {before} {content} {r} e h = subst (λ (x : Plan). Plans x img before content r) (sym e) h
