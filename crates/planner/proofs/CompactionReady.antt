-- A compaction's plan lies within content and image, has no header, and its marks are at places of records: what the executor asks follows from what is shown of the
-- list of stores, for every w.
-- Assumes nothing.
use Prim.Native.Nat.{ℕ, ◌+◌, ◌*◌, ◌≤◌, ◌<◌}
use native.Mathlib.Omega.{arith}
use mathlib.Core.Path.{◌≡◌, refl, sym, subst}
use mathlib.Core.Bool.{Bool, true, false, cond}
use mathlib.Core.List.{List, ◌++◌}
use lib.ListN.{length}
use lib.Dec.{leb}
use borrow.Author.Tests.{le-leb, lt-ltb, leb-false}
use Rattle.model.specs.Lists.{part}
use Rattle.model.specs.Image.{block, region_size}
use Rattle.model.specs.Work.{record_space, used_records}
use Rattle.model.specs.Stores.{Write, stores, apply_all}
use Rattle.model.specs.Compact.{next_record_def, fill_spare, finish}
use Rattle.model.specs.Book.{ClearsOne, is_record}
use Rattle.model.proofs.Tests.{true-and}
use Rattle.plan.specs.declared.Step.{Step}
use Rattle.plan.specs.declared.Step.TheVariants.{Nothing, Erase}
use Rattle.plan.specs.Plan.{stores_of_step, Fits, Blank, OneBit, Ready, MarkAt}
use Rattle.plan.proofs.Bits.{bits-clear}
use Rattle.planner.specs.Fronts.{begun_plan}
use Rattle.planner.specs.Compactions.{clear_step, record_at, compact_plan, resume_plan, spare_step_def, work_step_def}
use Rattle.planner.proofs.CompactionPlans.{compact-is, resume-is}

next_low : (used : ℕ) → cond (leb 64 used) 0 used < 64
next_low used = go (leb 64 used) refl
  where
    go : (t : Bool) → leb 64 used ≡ t → cond t 0 used < 64
    go true h = omega arith
    go false h = leb-false 64 used h

record-place : (img : List ℕ) (b used : ℕ) → region_size img ≡ block * b → is_record img (record_at b used) ≡ true
unfolding is_record
record-place img b used e =
    let low = next_low used in
    rw e (true-and (le-leb (block * b) (record_at b used) (omega arith)) (lt-ltb (record_at b used) (block * b + record_space) (omega arith)))

place_is : (img : List ℕ) (b place : ℕ) → region_size img ≡ block * b → place < 64 → is_record img (block * b + place) ≡ true
unfolding is_record
place_is img b place e low =
    rw e (true-and (le-leb (block * b) (block * b + place) (omega arith)) (lt-ltb (block * b + place) (block * b + record_space) (omega arith)))

-- an operation that lies within, is no header, and is at a place of a record if it is a mark
abbrev pub Good : List ℕ → ℕ → (ℕ → Bool) → Step → Type 0
Good c long marks s = Fits (length c) long s × MarkAt marks s × Blank c s

clear-good : (c : List ℕ) (long b used : ℕ) (marks : ℕ → Bool) → block * b + block ≤ long → Good c long marks (clear_step b used)
unfolding clear_step
clear-good c long b used marks h = go (leb 64 used)
  where
    go : (t : Bool) → Good c long marks (cond t (Erase b 1) Nothing)
    go true = (omega arith, tt, tt)
    go false = (tt, tt, tt)

-- *a compaction is ready*, behind what a start-up erases first
pub compact-ready : (c img : List ℕ) (spare work : Step) (b : ℕ) (w content : List ℕ) → part 0 (block * b) c ≡ content → region_size img ≡ block * b
    → length img ≡ block * b + block + block * b → block * b ≤ length c
    → Good c (length img) (is_record img) spare → Good c (length img) (is_record img) work
    → ((n : ℕ) → ClearsOne (is_record img) (stores n (stores_of_step c spare ++ (stores_of_step c work ++ (fill_spare b w content ++ finish b (next_record_def w) content)))) img)
    → Ready c (compact_plan spare work b (used_records w)) img
unfolding compact_plan block
compact-ready c img spare work b w content e size long held gs gw one =
    let u = used_records w in
    let low = next_low u in
    let k = clear-good c (length img) b u (is_record img) (omega arith) in
    let m = record-place img b u size in
    record {
      fit = (gs.0, (gw.0, (k.0, (omega arith, ((omega arith, omega arith), (omega arith, (omega arith, ((omega arith, omega arith), (omega arith, (omega arith, (tt, (tt, tt))))))))))));
      blank = (gs.2, (gw.2, (k.2, (tt, (tt, (tt, (tt, (tt, (tt, (tt, (tt, (tt, tt))))))))))));
      bits = λ n.
          bits-clear (is_record img) n c (compact_plan spare work b u) img (gs.1, (gw.1, (k.1, (m, (tt, (m, (tt, (tt, (m, (tt, (tt, (tt, tt))))))))))))
          (subst (λ (xs : List Write). ClearsOne (is_record img) (stores n xs) img) (sym (compact-is c spare work b w content e)) (one n));
    }

-- *a resumed compaction is ready*
pub resume-ready : (c img : List ℕ) (b place : ℕ) (content : List ℕ) → part 0 (block * b) c ≡ content → region_size img ≡ block * b
    → length img ≡ block * b + block + block * b → block * b ≤ length c → place < 64
    → ((n : ℕ) → ClearsOne (is_record img) (stores n (finish b place content)) img) → Ready c (resume_plan b place) img
unfolding resume_plan block
resume-ready c img b place content e size long held low one =
    let m = place_is img b place size low in
    record {
      fit = (omega arith, ((omega arith, omega arith), (omega arith, (omega arith, (tt, (tt, (tt, (tt, (tt, (tt, (tt, (tt, tt))))))))))));
      blank = (tt, (tt, (tt, (tt, (tt, (tt, (tt, (tt, (tt, (tt, (tt, (tt, tt))))))))))));
      bits = λ n.
          bits-clear (is_record img) n c (resume_plan b place) img (tt, (tt, (m, (tt, (tt, (tt, (tt, (tt, (tt, (tt, (tt, (tt, tt))))))))))))
          (subst (λ (xs : List Write). ClearsOne (is_record img) (stores n xs) img) (sym (resume-is c b place content e)) (one n));
    }

-- the erases of a start-up lie within, and are no marks
pub spare-good : (c : List ℕ) (long b : ℕ) (marks : ℕ → Bool) (t : Bool) → block * b + block + block * b ≤ long → Good c long marks (spare_step_def b t)
unfolding spare_step_def block
spare-good c long b marks true h = (tt, tt, tt)
spare-good c long b marks false h = (omega arith, tt, tt)

pub work-good : (c : List ℕ) (long b : ℕ) (marks : ℕ → Bool) (t : Bool) → block * b + block ≤ long → Good c long marks (work_step_def b t)
unfolding work_step_def block
work-good c long b marks true h = (tt, tt, tt)
work-good c long b marks false h = (omega arith, tt, tt)

spare-one : (b : ℕ) (t : Bool) (img : List ℕ) → OneBit (spare_step_def b t) img
unfolding spare_step_def
spare-one b true img = tt
spare-one b false img = tt

work-one : (b : ℕ) (t : Bool) (img : List ℕ) → OneBit (work_step_def b t) img
unfolding work_step_def
work-one b true img = tt
work-one b false img = tt

-- *a start-up that compacts nothing is ready*
pub rest-ready : (c img : List ℕ) (b : ℕ) (s t : Bool) → length img ≡ block * b + block + block * b → Ready c (begun_plan (spare_step_def b s) (work_step_def b t)) img
unfolding begun_plan
rest-ready c img b s t long =
    let x = spare-good c (length img) b (is_record img) s (omega arith) in
    let y = work-good c (length img) b (is_record img) t (omega arith) in
    record {
      fit = (x.0, (y.0, (tt, (tt, (tt, (tt, (tt, (tt, (tt, (tt, (tt, (tt, tt))))))))))));
      blank = (x.2, (y.2, (tt, (tt, (tt, (tt, (tt, (tt, (tt, (tt, (tt, (tt, tt))))))))))));
      bits = λ n. (spare-one b s img, (work-one b t (apply_all (stores n (stores_of_step c (spare_step_def b s))) img), (tt, (tt, (tt, (tt, (tt, (tt, (tt, (tt, (tt, (tt, tt))))))))))));
    }
