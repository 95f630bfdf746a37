-- A start-up, by what the image was found to be. Where a compaction is pending its stores are those of the resumption alone. Else they are those of the erases and of
-- the compaction, by the three parts of the image that was found.
-- Assumes nothing.
use Prim.Native.Nat.{ℕ, ◌+◌, ◌*◌, ◌-◌, ◌≤◌}
use native.Mathlib.Omega.{arith}
use mathlib.Core.Path.{◌≡◌, refl, sym, ap, ap₂, ◌∙◌, subst}
use mathlib.Core.Bool.{Bool, true, false, cond, ◌&&◌, ◌||◌}
use mathlib.Core.List.{List, [], ◌∷◌, ◌++◌}
use mathlib.Core.Option.{Option as Maybe, none, some}
use Rattle.std.specs.Prelude.{None, Result, Ok, Err}
use lib.ListN.{length, take, drop, length-drop}
use lib.Seq.{length-take-le}
use lib.Dec.{eqb, leb}
use borrow.Author.Tests.{leb-true, eqb-true, not-false}
use Rattle.model.specs.declared.Rule.{Rule}
use Rattle.model.specs.Lists.{part, all_ff, on_some}
use Rattle.model.specs.Image.{block, blocks, right_length, region, work, spare}
use Rattle.model.specs.Region.{sound, clean, clean_in, tail, entries, values}
use Rattle.model.specs.Work.{idle, pending, ready_for_start_up, used_records}
use Rattle.model.specs.declared.Rule.TheVariants.{Length, Unready}
use Rattle.model.specs.Rules.{first_broken, rule1, rule2_start_up}
use Rattle.model.specs.Stores.{Write, stores, Bytes}
use Rattle.model.specs.Set.{make}
use Rattle.model.specs.Compact.{encode, finish, fill_spare, next_record_def}
use Rattle.model.specs.StartUp.{start_up_stores}
use Rattle.model.specs.Book.{ClearsOne, is_record}
use Rattle.model.proofs.Tests.{and_split}
use Rattle.model.proofs.Parts.{Parts, Image, right-parts, parts-blocks, parts-region, parts-work, parts-spare}
use Rattle.model.proofs.Requests.{unbroken}
use Rattle.recovery.proofs.StartingUp.{resume-alone}
use Rattle.recovery.proofs.Bits.{start_up-marks}
use Rattle.image.specs.Check.{start_up_of}
use Rattle.image.specs.declared.Start.{Start}
use Rattle.image.specs.declared.Start.TheVariants.{Pending, Sound}
use Rattle.output.specs.Text.{Wrote}
use Rattle.output.proofs.Writing.{wrote-front, wrote-length}
use Rattle.records.specs.Look.{look_at_def}
use Rattle.records.specs.declared.Look.{Look}
use Rattle.plan.specs.declared.Step.{Step}
use Rattle.plan.specs.Plan.{stores_of_step, expand}
use Rattle.plan.specs.Planned.{accepted, Plans}
use Rattle.plan.proofs.Parts.{undecided-plans}
use Rattle.planner.specs.Fronts.{begun_plan}
use Rattle.planner.specs.Compactions.{spare_step_def, work_step_def, tidied, compact_plan, resume_plan}
use Rattle.planner.proofs.CompactionPlans.{compact-is, resume-is}
use Rattle.planner.proofs.StartUps.{start_up-is, rest-is}
use Rattle.planner.proofs.CompactionReady.{compact-ready, resume-ready, rest-ready, spare-good, work-good}
use Rattle.planner.proofs.Stages.{its-size, last_within, resume-list}

-- ---- what was found

abbrev start_of : Maybe Rule → Bool → ℕ → Look → Bool → Result Start Rule
start_of o t b l k = on_some o Err (Ok (cond t (Pending b l) (Sound b l k)))

-- rules 1 and 2
abbrev rules : List ℕ → List (Rule × Bool)
rules img = (Length, rule1 img) ∷ (Unready, rule2_start_up img) ∷ []

-- accepted by them, with or without a compaction pending
pub record Accepted (img : List ℕ) (b : ℕ) (t : Bool) : Type 0 where
  pub right : right_length img ≡ true
  pub ready : ready_for_start_up img ≡ true
  pub waits : pending img ≡ t
  pub same : blocks img ≡ b

module _ (img : List ℕ) (b : ℕ) (l : Look) (k t : Bool) (found : start_up_of img ≡ Ok (cond t (Pending b l) (Sound b l k))) where
  both : (first_broken (rules img) ≡ none) × (pending img ≡ t) × (blocks img ≡ b) × (l ≡ look_at_def (work img)) × (t ≡ false → k ≡ clean (region img))
  unfolding start_up_of
  both = go (first_broken (rules img)) (pending img) t found
    where
      go : (o : Maybe Rule) (u t : Bool) → start_of o u (blocks img) (look_at_def (work img)) (clean (region img)) ≡ Ok (cond t (Pending b l) (Sound b l k))
          → (o ≡ none) × (u ≡ t) × (blocks img ≡ b) × (l ≡ look_at_def (work img)) × (t ≡ false → k ≡ clean (region img))
      go (some rule) u true h = let z : ◌≡◌ {A = ℕ} 0 1 = cc in absurd (omega arith)
      go (some rule) u false h = let z : ◌≡◌ {A = ℕ} 0 1 = cc in absurd (omega arith)
      go none true true h = (refl, refl, cc, cc, λ e. let z : ◌≡◌ {A = ℕ} 0 1 = cc in absurd (omega arith))
      go none true false h = let z : ◌≡◌ {A = ℕ} 0 1 = cc in absurd (omega arith)
      go none false true h = let z : ◌≡◌ {A = ℕ} 0 1 = cc in absurd (omega arith)
      go none false false h = let same : k ≡ clean (region img) = cc in (refl, refl, cc, cc, λ e. same)

  pub accepts : Accepted img b t
  unfolding rule1 rule2_start_up
  accepts =
      let f = both in
      record { right = not-false (right_length img) (unbroken (rules img) 1 f.0); ready = not-false (ready_for_start_up img) (unbroken (rules img) 2 f.0); waits = f.1; same = f.2 }

  -- the look at the work block
  pub looks : l ≡ look_at_def (work img)
  looks = both.3

  -- whether the region is clean
  pub cleans : t ≡ false → k ≡ clean (region img)
  cleans = both.4

-- how long an image of a right length is
pub sized : (img : List ℕ) (b : ℕ) (t : Bool) → Accepted img b t → (1 ≤ b) × (b ≤ 7) × (length img ≡ block * (2 * b + 1))
unfolding right_length
sized img b t f =
    let n = blocks img in
    let h = f.right in
    let x = and_split (leb 1 n && leb n 7) (eqb (length img) (block * (2 * n + 1))) h in
    let y = and_split (leb 1 n) (leb n 7) x.0 in
    rw (← f.same) (leb-true 1 n y.0, leb-true n 7 y.1, eqb-true (length img) (block * (2 * n + 1)) x.1)

-- records of a start-up clear one bit each
records-clear : (img : List ℕ) (b : ℕ) (t : Bool) → Accepted img b t → Bytes img → (xs : List Write) → start_up_stores img ≡ xs
    → (n : ℕ) → ClearsOne (is_record img) (stores n xs) img
records-clear img b t f bytes xs e n = subst (λ (l : List Write). ClearsOne (is_record img) (stores n l) img) e (start_up-marks n img bytes f.right f.ready)

part-long : (at n : ℕ) (img : List ℕ) → at + n ≤ length img → length (part at n img) ≡ n
part-long at n img h = length-take-le n (drop at img) (rw (length-drop at img) (omega arith))

-- ---- a compaction is pending

module _ (img : List ℕ) (b : ℕ) (f : Accepted img b true) (bytes : Bytes img) where
  low : 1 ≤ b
  low = (sized img b true f).0

  high : b ≤ 7
  high = (sized img b true f).1

  long : length img ≡ block * (2 * b + 1)
  long = (sized img b true f).2

  module _ {l : Look} (looked : l ≡ look_at_def (work img)) where
    abbrev place : ℕ
    place = l.used - 1

    spare-finish : start_up_stores img ≡ finish b place (part (block * b + block) (block * b) img)
    spare-finish = resume-alone img f.right f.waits ∙ sym (resume-list img b low high long looked f.waits)

    module _ {s before c : List ℕ} {n : ℕ} (cut : s ≡ part (4096 * b + 4096) (4096 * b) img) (w : Wrote s 0 before c n) (room : length before ≡ 28672) where
      spare-long : length s ≡ 4096 * b
      unfolding block
      spare-long =
          let l : length img ≡ 4096 * (2 * b + 1) = long in
          ap length cut ∙ part-long (4096 * b + 4096) (4096 * b) img (omega arith)

      copied : part 0 (block * b) c ≡ part (block * b + block) (block * b) img
      unfolding block
      copied =
          let m = spare-long in
          let h = high in
          let p : n ≡ 4096 * b = omega (arith, w.place) in
          ap (λ (k : ℕ). take k c) (sym p) ∙ wrote-front w (omega arith) ∙ cut

      -- *what was planned*
      pub resume-plans : {ops : List Step} → ops ≡ resume_plan b place → Plans (make [] (start_up_stores img)) img before c (Ok (accepted ops None))
      unfolding block
      resume-plans o =
          let content : List ℕ = part (4096 * b + 4096) (4096 * b) img in
          let n : length img ≡ 4096 * (2 * b + 1) = long in
          let h = high in
          undecided-plans before c img (make [] (start_up_stores img)) (resume_plan b place) (start_up_stores img) o (resume-is c b place content copied ∙ sym spare-finish) refl
          (resume-ready c img b place content copied (its-size img b low high long) (omega arith) (omega (arith, wrote-length w)) (last_within img b low high long looked f.waits)
          (records-clear img b true f bytes (finish b place content) spare-finish))

-- ---- nothing is pending

module _ (img : List ℕ) (b : ℕ) (f : Accepted img b false) where
  pub sounds : sound (region img) ≡ true
  unfolding ready_for_start_up
  sounds =
      let h : (pending img || sound (region img)) ≡ true = f.ready in
      rw f.waits at h

  -- of a sound region, that it is clean says that its tail is blank
  pub tail-told : {k t : Bool} → k ≡ clean (region img) → k ≡ t → all_ff (tail (region img)) ≡ t
  unfolding clean_in
  tail-told e f = let h : clean (region img) ≡ all_ff (tail (region img)) = rw sounds in sym h ∙ sym e ∙ f

  its : Image img
  its = right-parts img f.right

  same-b : its.b ≡ b
  same-b = sym (ap blocks its.whole ∙ parts-blocks its.parts) ∙ f.same

  same-r : its.r ≡ region img
  same-r = sym (ap region its.whole ∙ parts-region its.parts)

  same_w : its.w ≡ work img
  same_w = sym (ap work its.whole ∙ parts-work its.parts)

  same_s : its.s ≡ spare img
  same_s = sym (ap spare its.whole ∙ parts-spare its.parts)

  own : Parts b (region img) (work img) (spare img)
  own =
      let p = its.parts in
      subst (λ (n : ℕ). Parts n (region img) (work img) (spare img)) same-b
      (subst (λ (r : List ℕ). Parts its.b r (work img) (spare img)) same-r
      (subst (λ (w : List ℕ). Parts its.b its.r w (spare img)) same_w
      (subst (λ (s : List ℕ). Parts its.b its.r its.w s) same_s p)))

  whole : img ≡ region img ++ (work img ++ spare img)
  whole =
      its.whole ∙ ap (λ (r : List ℕ). r ++ (its.w ++ its.s)) same-r ∙ ap (λ (w : List ℕ). region img ++ (w ++ its.s)) same_w
      ∙ ap (λ (s : List ℕ). region img ++ (work img ++ s)) same_s

  waits : pending (region img ++ (work img ++ spare img)) ≡ false
  waits = ap pending (sym whole) ∙ f.waits

  image-long : length img ≡ block * b + block + block * b
  unfolding block
  image-long = let l = (sized img b false f).2 in omega arith

  -- *the tail is blank*
  pub rest-plans : (before c : List ℕ) {ops : List Step} → all_ff (tail (region img)) ≡ true
      → ops ≡ begun_plan (spare_step_def b (all_ff (spare img))) (work_step_def b (idle (work img))) → Plans (make [] (start_up_stores img)) img before c (Ok (accepted ops None))
  rest-plans before c t o =
      undecided-plans before c img (make [] (start_up_stores img)) (begun_plan (spare_step_def b (all_ff (spare img))) (work_step_def b (idle (work img)))) (start_up_stores img) o
      (rest-is own waits t c ∙ ap start_up_stores (sym whole)) refl (rest-ready c img b (all_ff (spare img)) (idle (work img)) image-long)

  -- *it is not*
  pub tidy-plans : Bytes img → (before c : List ℕ) {ops : List Step} → all_ff (tail (region img)) ≡ false → length c ≡ 28672
      → part 0 (block * b) c ≡ encode (block * b) (values (entries (region img)))
      → ops ≡ compact_plan (spare_step_def b (all_ff (spare img))) (work_step_def b (idle (work img))) b (used_records (tidied (work img)))
      → Plans (make [] (start_up_stores img)) img before c (Ok (accepted ops None))
  tidy-plans bytes before c t room e o =
      let content : List ℕ = encode (block * b) (values (entries (region img))) in
      let w : List ℕ = tidied (work img) in
      let x = spare_step_def b (all_ff (spare img)) in
      let y = work_step_def b (idle (work img)) in
      let is : expand c (compact_plan x y b (used_records w)) ≡ start_up_stores img = start_up-is own waits t c e ∙ ap start_up_stores (sym whole) in
      let l = image-long in
      let z = sized img b false f in
      let gx = spare-good c (length img) b (is_record img) (all_ff (spare img)) (omega arith) in
      let gy = work-good c (length img) b (is_record img) (idle (work img)) (omega arith) in
      let few : block * b ≤ length c = unfold block in omega (arith, z.1, room) in
      undecided-plans before c img (make [] (start_up_stores img)) (compact_plan x y b (used_records w)) (start_up_stores img) o is refl
      (compact-ready c img x y b w content e (its-size img b z.0 z.1 z.2) l few gx gy
      (records-clear img b false f bytes (stores_of_step c x ++ (stores_of_step c y ++ (fill_spare b w content ++ finish b (next_record_def w) content)))
      (sym is ∙ compact-is c x y b w content e)))

-- the plans as the code makes them
pub rest-as : {ops : List Step} {x y x' y' : Step} → ops ≡ begun_plan x y → x ≡ x' → y ≡ y' → ops ≡ begun_plan x' y'
rest-as o p q = o ∙ ap₂ begun_plan p q

pub compact-as : (b : ℕ) {ops : List Step} {x y x' y' : Step} {u u' : ℕ} → ops ≡ compact_plan x y b u → x ≡ x' → y ≡ y' → u ≡ u' → ops ≡ compact_plan x' y' b u'
compact-as b o p q e = o ∙ rw (p, q, e)
