-- The plans write what the definitions have written.
-- Assumes nothing.
use Prim.Native.Nat.{ℕ, ◌*◌}
use mathlib.Core.Path.{◌≡◌, refl}
use mathlib.Core.Bool.{Bool, true, false, cond}
use mathlib.Core.List.{List, [], ◌∷◌, ◌++◌, append_assoc, append-nil}
use lib.ListN.{take, drop}
use lib.Dec.{leb}
use Rattle.model.specs.Lists.{part}
use Rattle.model.specs.Image.{block}
use Rattle.model.specs.Work.{used_records}
use Rattle.model.specs.Stores.{clear, erases}
use Rattle.model.specs.Compact.{next_record_def, fill_spare, finish}
use Rattle.plan.specs.declared.Step.{Step}
use Rattle.plan.specs.declared.Step.TheVariants.{Nothing, Erase}
use Rattle.plan.specs.Plan.{stores_of_step, expand}
use Rattle.planner.specs.Compactions.{clear_step, compact_plan, resume_plan}

clear-is : (c : List ℕ) (b used : ℕ) → stores_of_step c (clear_step b used) ≡ cond (leb 64 used) (clear b ∷ []) []
unfolding stores_of_step clear_step erases
clear-is c b used = go (leb 64 used)
  where
    go : (t : Bool) → stores_of_step c (cond t (Erase b 1) Nothing) ≡ cond t (clear b ∷ []) []
    go true = refl
    go false = refl

-- *a compaction's plan is its list of stores*, behind what a start-up erases first
pub compact-is : (c : List ℕ) (spare work : Step) (b : ℕ) (w content : List ℕ) → part 0 (block * b) c ≡ content
    → expand c (compact_plan spare work b (used_records w))
    ≡ stores_of_step c spare ++ (stores_of_step c work ++ (fill_spare b w content ++ finish b (next_record_def w) content))
unfolding expand stores_of_step compact_plan fill_spare finish next_record_def
compact-is c spare work b w content e = rw (clear-is c b (used_records w), e, append-nil) (simp append_assoc)

-- up to the deciding store and on from there
pub compact-to : (c : List ℕ) (b : ℕ) (w content : List ℕ) → part 0 (block * b) c ≡ content
    → expand c (take 6 (compact_plan Nothing Nothing b (used_records w))) ≡ fill_spare b w content
unfolding expand stores_of_step compact_plan fill_spare next_record_def
compact-to c b w content e = rw (clear-is c b (used_records w), e, append-nil) (simp append_assoc)

pub compact-on : (c : List ℕ) (b : ℕ) (w content : List ℕ) → part 0 (block * b) c ≡ content
    → expand c (drop 6 (compact_plan Nothing Nothing b (used_records w))) ≡ finish b (next_record_def w) content
unfolding expand stores_of_step compact_plan finish next_record_def
compact-on c b w content e = rw (e, append-nil) (simp append_assoc)

-- *a resumed compaction's plan is its list of stores*
pub resume-is : (c : List ℕ) (b place : ℕ) (content : List ℕ) → part 0 (block * b) c ≡ content → expand c (resume_plan b place) ≡ finish b place content
unfolding expand stores_of_step resume_plan finish
resume-is c b place content e = rw (e, append-nil) (simp append_assoc)
