-- The stores of a start-up, by the image that it begins on: the erases of spare and work block leave the region, and that of the spare the work block, so what comes
-- later looks at what stood there at the start.
-- Assumes nothing.
use Prim.Native.Nat.{ℕ, ◌+◌, ◌*◌}
use native.Mathlib.Omega.{arith}
use mathlib.Core.Path.{◌≡◌, refl, sym, ap, ◌∙◌}
use mathlib.Core.Bool.{Bool, true, false, cond}
use mathlib.Core.List.{List, [], ◌∷◌, ◌++◌, append_assoc, append-nil}
use lib.ListN.{length, replicate, length-append, length-replicate}
use Rattle.model.specs.Lists.{all_ff, part}
use Rattle.model.specs.Image.{block}
use Rattle.model.specs.Region.{entries, values, tail, values_in}
use Rattle.model.specs.Work.{records, used_records, idle, pending}
use Rattle.model.specs.Stores.{Write, clear, erases, stores, left_by_def, left_by_one, blank, apply, apply_all}
use Rattle.model.specs.Compact.{next_record_def, fill_spare, finish, encode, compact_to, compact_on}
use Rattle.model.specs.StartUp.{resume, tidy_spare, tidy_work, tidy_tail, start_up_stores}
use Rattle.plan.specs.declared.Step.{Step}
use Rattle.plan.specs.Plan.{stores_of_step, expand}
use Rattle.planner.specs.Fronts.{begun_plan}
use Rattle.planner.specs.Compactions.{tidied, compact_plan, spare_step_def, work_step_def}
use Rattle.planner.proofs.CompactionPlans.{compact-is}
use Rattle.model.proofs.Parts.{Parts, parts-blocks, parts-size, parts-region, parts-work, parts-spare}
use Rattle.model.proofs.Stores.{left-today}
use Rattle.model.proofs.Segments.{erases-segment, erase-segment, length-blank}

-- ---- one stage, on an image of these parts

module _ {b : ℕ} {r w s : List ℕ} (p : Parts b r w s) where
  spare-stage : tidy_spare (r ++ (w ++ s)) ≡ cond (all_ff s) [] (erases (b + 1) b)
  unfolding tidy_spare
  spare-stage = rw (parts-spare p, parts-blocks p)

  work-stage : tidy_work (r ++ (w ++ s)) ≡ cond (idle w) [] (clear b ∷ [])
  unfolding tidy_work
  work-stage = rw (parts-work p, parts-blocks p)

  tail-stage : tidy_tail (r ++ (w ++ s))
      ≡ cond (all_ff (tail r)) [] (fill_spare b w (encode (block * b) (values (entries r))) ++ finish b (next_record_def w) (encode (block * b) (values (entries r))))
  unfolding tidy_tail compact_to compact_on values_in
  tail-stage = rw (parts-region p, parts-blocks p, parts-work p, parts-size p)

  -- what the first two leave
  spare-left : (t : Bool) → left_by_def (cond t [] (erases (b + 1) b)) (r ++ (w ++ s)) ≡ r ++ (w ++ cond t s (replicate (block * b) 0xFF))
  unfolding left_by_def
  spare-left true = refl
  spare-left false =
      let l : length (r ++ w) ≡ block * (b + 1) = length-append r w ∙ omega (arith, p.region-long, p.work-long) in
      sym (left-today (erases (b + 1) b) (r ++ (w ++ s)))
      ∙ ap (λ (x : List ℕ). apply_all (stores 1 (erases (b + 1) b)) x) (sym (append_assoc r w s) ∙ ap (λ (x : List ℕ). (r ++ w) ++ x) (sym (append-nil s)))
      ∙ erases-segment 1 (b + 1) b (r ++ w) s [] l p.spare-long
      ∙ ap (λ (x : List ℕ). (r ++ w) ++ x) (append-nil (replicate (block * b) 0xFF))
      ∙ append_assoc r w (replicate (block * b) 0xFF)

  work-left : (t : Bool) → left_by_def (cond t [] (clear b ∷ [])) (r ++ (w ++ s)) ≡ r ++ (cond t w blank ++ s)
  unfolding left_by_def left_by_one apply
  work-left true = refl
  work-left false = erase-segment b r w s p.region-long p.work-long

  spare-parts : (t : Bool) → Parts b r w (cond t s (replicate (block * b) 0xFF))
  spare-parts true = p
  spare-parts false = record {
    low = p.low;
    high = p.high;
    region-long = p.region-long;
    work-long = p.work-long;
    spare-long = length-replicate (block * b) 0xFF;
  }

  work-parts : (t : Bool) → Parts b r (cond t w blank) s
  work-parts true = p
  work-parts false = record {
    low = p.low;
    high = p.high;
    region-long = p.region-long;
    work-long = length-blank;
    spare-long = p.spare-long;
  }

-- ---- all of them

-- *the stores of a start-up with nothing pending, by what stood in the three parts*
pub tidy-is : {b : ℕ} {r w s : List ℕ} → Parts b r w s → pending (r ++ (w ++ s)) ≡ false
    → start_up_stores (r ++ (w ++ s))
    ≡ cond (all_ff s) [] (erases (b + 1) b)
    ++ (cond (idle w) [] (clear b ∷ [])
    ++ cond (all_ff (tail r)) []
    (fill_spare b (tidied w) (encode (block * b) (values (entries r))) ++ finish b (next_record_def (tidied w)) (encode (block * b) (values (entries r)))))
unfolding start_up_stores resume left_by_def
tidy-is {b} {r} {w} {s} p h =
    let s₁ : List ℕ = cond (all_ff s) s (replicate (block * b) 0xFF) in
    let q = spare-parts p (all_ff s) in
    let a = work-stage q in
    rw (h, spare-stage p, spare-left p (all_ff s), a, work-left q (idle w), tail-stage (work-parts q (idle w)))

-- ---- the plan

spare-step : (c : List ℕ) (b : ℕ) (t : Bool) → stores_of_step c (spare_step_def b t) ≡ cond t [] (erases (b + 1) b)
unfolding stores_of_step spare_step_def
spare-step c b true = refl
spare-step c b false = refl

work_step : (c : List ℕ) (b : ℕ) (t : Bool) → stores_of_step c (work_step_def b t) ≡ cond t [] (clear b ∷ [])
unfolding stores_of_step work_step_def erases
work_step c b true = refl
work_step c b false = refl

-- *a start-up with nothing pending and something in the tail*: its plan, made from the image that it begins on, is its list of stores
pub start_up-is : {b : ℕ} {r w s : List ℕ} → Parts b r w s → pending (r ++ (w ++ s)) ≡ false → all_ff (tail r) ≡ false
    → (c : List ℕ) → part 0 (block * b) c ≡ encode (block * b) (values (entries r))
    → expand c (compact_plan (spare_step_def b (all_ff s)) (work_step_def b (idle w)) b (used_records (tidied w))) ≡ start_up_stores (r ++ (w ++ s))
start_up-is {b} {r} {w} {s} p h dirty c e =
    compact-is c (spare_step_def b (all_ff s)) (work_step_def b (idle w)) b (tidied w) (encode (block * b) (values (entries r))) e
    ∙ rw (spare-step c b (all_ff s), work_step c b (idle w))
    (sym (tidy-is p h ∙ ap (λ (t : Bool). cond (all_ff s) [] (erases (b + 1) b) ++ (cond (idle w) [] (clear b ∷ []) ++ cond t [] (fill_spare b (tidied w) (encode (block * b) (values (entries r))) ++ finish b (next_record_def (tidied w)) (encode (block * b) (values (entries r)))))) dirty))

rest-stores : (c : List ℕ) (x y : Step) → expand c (begun_plan x y) ≡ stores_of_step c x ++ stores_of_step c y
unfolding expand stores_of_step begun_plan
rest-stores c x y = rw append-nil

-- the work block as it is then
blank-used : used_records blank ≡ 0
unfolding used_records records blank block
blank-used = refl

pub tidied-used : (w : List ℕ) (t : Bool) → idle w ≡ t → cond t (used_records w) 0 ≡ used_records (tidied w)
tidied-used w t h = ap (λ (u : Bool). cond u (used_records w) 0) (sym h) ∙ go (idle w)
  where
    go : (u : Bool) → cond u (used_records w) 0 ≡ used_records (cond u w blank)
    go true = refl
    go false = sym blank-used

-- and with a blank tail: the erases alone
pub rest-is : {b : ℕ} {r w s : List ℕ} → Parts b r w s → pending (r ++ (w ++ s)) ≡ false → all_ff (tail r) ≡ true → (c : List ℕ)
    → expand c (begun_plan (spare_step_def b (all_ff s)) (work_step_def b (idle w))) ≡ start_up_stores (r ++ (w ++ s))
rest-is {b} {r} {w} {s} p h blank c =
    rest-stores c (spare_step_def b (all_ff s)) (work_step_def b (idle w)) ∙ rw (spare-step c b (all_ff s), work_step c b (idle w))
    (sym (tidy-is p h
    ∙ ap (λ (t : Bool). cond (all_ff s) [] (erases (b + 1) b) ++ (cond (idle w) [] (clear b ∷ []) ++ cond t [] (fill_spare b (tidied w) (encode (block * b) (values (entries r))) ++ finish b (next_record_def (tidied w)) (encode (block * b) (values (entries r)))))) blank
    ∙ ap (λ (l : List Write). cond (all_ff s) [] (erases (b + 1) b) ++ l) (append-nil (cond (idle w) [] (clear b ∷ [])))))
