-- The stages of a start-up by the parts of the image that the code cuts: these are the image's region, work block and spare, so what the code tells of them decides
-- which list of stores a stage has. What is pending has FC in its last used record.
-- Assumes nothing.
use Prim.Native.Nat.{ℕ, ◌+◌, ◌*◌, ◌-◌, ◌≤◌, ◌<◌}
use native.Mathlib.Omega.{arith}
use mathlib.Core.Path.{◌≡◌, refl, sym, ap, ◌∙◌}
use mathlib.Core.Bool.{Bool, true, cond, ◌&&◌}
use mathlib.Core.List.{List}
use lib.ListN.{length, drop, length-drop}
use lib.Seq.{length-take-le}
use Rattle.model.specs.Lists.{part, all_ff}
use Rattle.model.specs.Image.{block, blocks, region_size, region, work, spare}
use Rattle.model.specs.Region.{clean}
use Rattle.model.specs.Work.{well_formed, used_records, ends_in_fc_def, idle, pending}
use Rattle.model.specs.Compact.{finish}
use Rattle.model.specs.StartUp.{resume}
use Rattle.model.proofs.Tests.{and_split}
use Rattle.model.proofs.WorkBlock.{Last, work-last}
use Rattle.records.specs.Look.{look_at_def, idle_at}
use Rattle.records.specs.declared.Look.{Look}
use Rattle.image.proofs.Cut.{Parted, blocks-right, parted}
use Rattle.image.proofs.Look.{told-idle, told-used}
use Rattle.plan.specs.declared.Step.{Step}
use Rattle.planner.specs.Compactions.{work_step_def, tidied}
use Rattle.planner.proofs.StartUps.{tidied-used}

module _ (img : List ℕ) (b : ℕ) (low : 1 ≤ b) (high : b ≤ 7) (long : length img ≡ block * (2 * b + 1)) where
  -- the parts that the code cuts
  whole : Parted img b
  unfolding block
  whole =
      let n : length img ≡ 8192 * b + 4096 = omega arith in
      parted img b (blocks-right img b low high n)

  pub its-blocks : blocks img ≡ b
  its-blocks = whole.same

  pub its-size : region_size img ≡ block * b
  unfolding region_size
  its-size = ap (λ (n : ℕ). block * n) its-blocks

  pub its-region : part 0 (block * b) img ≡ region img
  unfolding block
  its-region = whole.its-region

  pub its-work : part (block * b) block img ≡ work img
  unfolding block
  its-work = whole.its-work

  pub its-spare : part (block * b + block) (block * b) img ≡ spare img
  unfolding block
  its-spare = whole.its-spare

  pub region-long : length (region img) ≡ block * b
  unfolding block
  region-long = ap length (sym its-region) ∙ length-take-le (4096 * b) (drop 0 img) (rw (length-drop 0 img) (omega arith))

  work-long : length (work img) ≡ block
  unfolding block
  work-long = ap length (sym its-work) ∙ length-take-le 4096 (drop (4096 * b) img) (rw (length-drop (4096 * b) img) (omega arith))

  -- ---- what a look at the work block tells

  module _ {l : Look} (looked : l ≡ look_at_def (work img)) where
    idle-told : idle (work img) ≡ idle_at l
    idle-told = told-idle refl looked refl

    -- erased where it is not idle, and then no record is used
    pub left_step : {x : Step} → x ≡ work_step_def b (idle_at l) → x ≡ work_step_def b (idle (work img))
    left_step e = e ∙ ap (work_step_def b) (sym idle-told)

    pub left-used : {n : ℕ} → n ≡ cond (idle_at l) l.used 0 → n ≡ used_records (tidied (work img))
    left-used e = e ∙ ap (λ (k : ℕ). cond (idle_at l) k 0) (told-used refl looked) ∙ tidied-used (work img) (idle_at l) idle-told

    -- a compaction is pending: the last used record
    module _ (waits : pending img ≡ true) where
      last : Last (work img)
      unfolding pending
      last =
          let a = and_split (well_formed (work img) && ends_in_fc_def (work img)) (clean (spare img)) waits in
          let f = and_split (well_formed (work img)) (ends_in_fc_def (work img)) a.0 in
          work-last (work img) work-long f.0 f.1

      pub some-used : 1 ≤ l.used
      some-used = rw (told-used refl looked) last.some-used

      pub last_within : l.used - 1 < 64
      last_within = let h = some-used in omega (arith, (told-used refl looked), last.within)

      pub resume-list : finish b (l.used - 1) (part (block * b + block) (block * b) img) ≡ resume img
      unfolding resume
      resume-list = rw (waits, its-blocks, (told-used refl looked), its-spare)

  -- ---- which stores the other stages have

  module _ {s : List ℕ} (same : s ≡ part (block * b + block) (block * b) img) {t : Bool} (told : t ≡ all_ff s) where
    pub blank-told : all_ff (spare img) ≡ t
    blank-told = ap all_ff (sym (same ∙ its-spare)) ∙ sym told
