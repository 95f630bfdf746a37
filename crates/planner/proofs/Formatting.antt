-- A format meets rule 1 only. Where the length is right it erases the 2b + 1 blocks of the image and stores the header of a region of b blocks.
-- Assumes nothing.
use Prim.Native.Nat.{ℕ, ◌+◌, ◌*◌}
use native.Mathlib.Omega.{arith}
use mathlib.Core.Path.{◌≡◌, refl, sym, ap, ◌∙◌}
use mathlib.Core.Bool.{Bool, true, false, cond}
use mathlib.Core.List.{List, [], append-nil}
use lib.ListN.{length, take}
use Rattle.std.specs.Prelude.{Some, None, Ok}
use Rattle.model.specs.declared.Rule.TheVariants.{Length}
use Rattle.model.specs.Layout.{signature}
use Rattle.model.specs.Image.{block, blocks, right_length, region_size, region_header_def, region_header_in}
use Rattle.model.specs.Lists.{part}
use Rattle.model.specs.Rules.{first_broken, rule1, format_broken}
use Rattle.model.specs.Set.{refuse, make}
use Rattle.model.specs.StartUp.{format_stores, format_plan}
use Rattle.image.specs.Check.{blocks_of}
use Rattle.image.proofs.Cut.{Parted, parted}
use Rattle.output.specs.Text.{Wrote}
use Rattle.output.proofs.Writing.{wrote-front, wrote-length}
use Rattle.plan.specs.declared.Step.{Step}
use Rattle.plan.specs.Plan.{stores_of_step, expand}
use Rattle.plan.specs.Planned.{accepted, Plans}
use Rattle.plan.proofs.Parts.{undecided-plans}
use Rattle.planner.specs.Format.{wipe_plan}
use Rattle.planner.proofs.Ready.{image-long, region-size}

-- rule 1 is broken
pub format-refused : (img : List ℕ) → blocks_of img ≡ None → format_plan img ≡ refuse Length
unfolding format_plan format_broken first_broken rule1 blocks_of
format-refused img e = go (right_length img) refl e
  where
    go : (t : Bool) → right_length img ≡ t → cond t (Some (blocks img)) None ≡ None → format_plan img ≡ refuse Length
    go true h k = let z : ◌≡◌ {A = ℕ} 0 1 = cc in absurd (omega arith)
    go false h k = rw h

header-long : (n : ℕ) → length (region_header_def n) ≡ 28
unfolding region_header_in signature
header-long n = refl

module _ (img : List ℕ) (b : ℕ) (e : blocks_of img ≡ Some b) where
  its : Parted img b
  its = parted img b e

  -- the blocks of the image
  pub format-long : length img ≡ block * (2 * b + 1)
  format-long = (image-long img b its.right-length its.same).1

  accepted-as-make : format_plan img ≡ make [] (format_stores img)
  unfolding format_plan format_broken first_broken rule1
  accepted-as-make = rw its.right-length

  stores : (c : List ℕ) → part 0 28 c ≡ region_header_def (region_size img) → expand c (wipe_plan b) ≡ format_stores img
  unfolding expand stores_of_step wipe_plan format_stores
  stores c front = rw (front, its.same, append-nil)

  -- *what was planned*
  pub format-plans : {header before c : List ℕ} {n : ℕ} → header ≡ region_header_def (4096 * b) → Wrote header 0 before c n → length before ≡ 28672
      → {ops : List Step} → ops ≡ wipe_plan b → Plans (format_plan img) img before c (Ok (accepted ops None))
  unfolding block wipe_plan
  format-plans {header} {before} {c} {n} h w room o =
      let m : length header ≡ 28 = ap length h ∙ header-long (4096 * b) in
      let q : n ≡ 28 = omega (arith, w.place) in
      let front : part 0 28 c ≡ region_header_def (region_size img) =
      ap (λ (k : ℕ). take k c) (sym q) ∙ wrote-front w (omega arith) ∙ h ∙ ap region_header_def (sym (region-size img b its.same)) in
      let l : length img ≡ 4096 * (2 * b + 1) = format-long in
      let k = wrote-length w in
      undecided-plans before c img (format_plan img) (wipe_plan b) (format_stores img) o (stores c front) accepted-as-make
      (record {
        fit = (omega arith, ((omega arith, omega arith), (tt, (tt, (tt, (tt, (tt, (tt, (tt, (tt, (tt, (tt, tt))))))))))));
        blank = (tt, (tt, (tt, (tt, (tt, (tt, (tt, (tt, (tt, (tt, (tt, (tt, tt))))))))))));
        bits = λ w. (tt, (tt, (tt, (tt, (tt, (tt, (tt, (tt, (tt, (tt, (tt, (tt, tt))))))))))));
      })
