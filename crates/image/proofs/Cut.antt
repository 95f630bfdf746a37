-- An image of a right length, cut at its blocks: region, work block and spare are the parts that the code cuts, since the length gives b back.
-- Assumes nothing.
use Prim.Native.Nat.{ℕ, ◌+◌, ◌*◌, ◌-◌, ◌/◌, ◌≤◌}
use native.Mathlib.Omega.{arith}
use mathlib.Core.Path.{◌≡◌, refl, sym, ap}
use mathlib.Core.Bool.{Bool, true, false, cond, ◌&&◌}
use mathlib.Core.List.{List}
use Rattle.std.specs.Prelude.{Some, None, Ok, Err}
use Rattle.std.proofs.lemmas.Option.{cond_some}
use lib.ListN.{length}
use lib.Dec.{eqb, leb}
use borrow.Author.Tests.{leb-true, le-leb, eqb-true, eq-eqb}
use Rattle.model.specs.declared.Layout.{Layout}
use Rattle.model.specs.Lists.{part, all_ff}
use Rattle.model.specs.Image.{block, blocks, right_length, region_size, region, work, spare}
use Rattle.model.specs.Region.{sound, clean, clean_in}
use Rattle.model.specs.Work.{well_formed, ends_in_fc_def, idle, pending, ready_in, ready_for_start_up}
use Rattle.model.specs.Rules.{first_broken, rule1, rule2_start_up, image_rules_in, rule2_in}
use Rattle.model.specs.declared.Rule.TheVariants.{Length, Unready}
use Rattle.model.proofs.Tests.{and_split, true-and}
use Rattle.records.specs.Look.{look_at_def}
use Rattle.image.specs.Check.{blocks_of, ready_of, call_in, start_up_of}
use Rattle.image.specs.declared.Start.TheVariants as start

-- the length with b blocks
right : (img : List ℕ) (b : ℕ) → 1 ≤ b → b ≤ 7 → length img ≡ 8192 * b + 4096 → (blocks img ≡ b) × (right_length img ≡ true)
unfolding right_length blocks block
right img b l h n =
    let e : (length img / 4096 - 1) / 2 ≡ b = omega arith in
    (e, rw e (true-and (true-and (le-leb 1 b l) (le-leb b 7 h)) (eq-eqb (length img) (4096 * (2 * b + 1)) (omega arith))))

pub blocks-right : (img : List ℕ) (b : ℕ) → 1 ≤ b → b ≤ 7 → length img ≡ 8192 * b + 4096 → blocks_of img ≡ Some b
unfolding blocks_of
blocks-right img b l h n = let r = right img b l h n in rw (r.1, r.0)

-- what a right length says
record Long (img : List ℕ) : Type 0 where
  low : 1 ≤ blocks img
  high : blocks img ≤ 7
  long : length img ≡ 8192 * blocks img + 4096

long_of : (img : List ℕ) → right_length img ≡ true → Long img
unfolding right_length block
long_of img h =
    let n = blocks img in
    let t = and_split (leb 1 n && leb n 7) (eqb (length img) (4096 * (2 * n + 1))) h in
    let u = and_split (leb 1 n) (leb n 7) t.0 in
    let e = eqb-true (length img) (4096 * (2 * n + 1)) t.1 in
    record { low = leb-true 1 n u.0; high = leb-true n 7 u.1; long = omega arith }

pub blocks-wrong : (img : List ℕ) → ((b : ℕ) → 1 ≤ b → b ≤ 7 → length img ≡ 8192 * b + 4096 → ⊥) → blocks_of img ≡ None
unfolding blocks_of
blocks-wrong img wrong = go (right_length img) refl
  where
    go : (t : Bool) → right_length img ≡ t → cond t (Some (blocks img)) None ≡ None
    go true e = let l = long_of img e in absurd (wrong (blocks img) l.low l.high l.long)
    go false e = refl

-- no blocks: rule 1 is broken
pub none-refused : (y : Layout) (img : List ℕ) → blocks_of img ≡ None → (call_in y img ≡ Err Length) × (start_up_of img ≡ Err Length)
unfolding blocks_of call_in start_up_of image_rules_in first_broken rule1
none-refused y img h = go (right_length img) refl h
  where
    go : (t : Bool) → right_length img ≡ t → cond t (Some (blocks img)) None ≡ None → (call_in y img ≡ Err Length) × (start_up_of img ≡ Err Length)
    go true e f = let z : ◌≡◌ {A = ℕ} 0 1 = cc in absurd (omega arith)
    go false e f = rw e (refl, refl)

-- some blocks: the three parts as they are cut
pub record Parted (img : List ℕ) (b : ℕ) : Type 0 where
  pub right-length : right_length img ≡ true
  pub same : blocks img ≡ b
  pub its-region : part 0 (4096 * b) img ≡ region img
  pub its-work : part (4096 * b) 4096 img ≡ work img
  pub its-spare : part (4096 * b + 4096) (4096 * b) img ≡ spare img

pub parted : (img : List ℕ) (b : ℕ) → blocks_of img ≡ Some b → Parted img b
unfolding blocks_of region work spare region_size block
parted img b h =
    let t = cond_some (right_length img) (blocks img) b h in
    record {
      right-length = t.0;
      same = t.1;
      its-region = ap (λ (k : ℕ). part 0 (4096 * k) img) (sym t.1);
      its-work = ap (λ (k : ℕ). part (4096 * k) 4096 img) (sym t.1);
      its-spare = ap (λ (k : ℕ). part (4096 * k + 4096) (4096 * k) img) (sym t.1);
    }

-- ---- what the rules make of it

module _ (y : Layout) (img : List ℕ) (b : ℕ) (p : Parted img b) where
  pub call-ready : idle (work img) ≡ true → all_ff (spare img) ≡ true → clean_in y (region img) ≡ true → call_in y img ≡ Ok (ready_of y img)
  unfolding call_in image_rules_in first_broken rule1 rule2_in ready_in
  call-ready i s c = rw (p.right-length, c, s, i)

  unready : ready_in y img ≡ false → call_in y img ≡ Err Unready
  unfolding call_in image_rules_in first_broken rule1 rule2_in
  unready h = rw (p.right-length, h)

  pub call-not-idle : idle (work img) ≡ false → call_in y img ≡ Err Unready
  unfolding ready_in
  call-not-idle i = unready (go (clean_in y (region img) && all_ff (spare img)) (idle (work img)) i)
    where
      go : (t u : Bool) → u ≡ false → (t && u) ≡ false
      go true u e = e
      go false u e = refl

  pub call-not-blank : all_ff (spare img) ≡ false → call_in y img ≡ Err Unready
  unfolding ready_in
  call-not-blank s = unready (go (clean_in y (region img)) (all_ff (spare img)) (idle (work img)) s)
    where
      go : (t u v : Bool) → u ≡ false → (t && u && v) ≡ false
      go true u v e = rw e
      go false u v e = refl

  pub call-not-clean : clean_in y (region img) ≡ false → call_in y img ≡ Err Unready
  unfolding ready_in
  call-not-clean c = unready (rw c)

module _ (img : List ℕ) (b : ℕ) (p : Parted img b) where
  pub pending-of : (well_formed (work img) && ends_in_fc_def (work img)) ≡ true → pending img ≡ clean (spare img)
  unfolding pending
  pending-of w = rw w

  pub not-pending : (well_formed (work img) && ends_in_fc_def (work img)) ≡ false → pending img ≡ false
  unfolding pending
  not-pending w = rw w

  pub start-pending : pending img ≡ true → start_up_of img ≡ Ok (start.Pending b (look_at_def (work img)))
  unfolding start_up_of first_broken rule1 rule2_start_up ready_for_start_up
  start-pending q = rw (p.right-length, q, p.same)

  pub start-sound : pending img ≡ false → sound (region img) ≡ true → start_up_of img ≡ Ok (start.Sound b (look_at_def (work img)) (clean (region img)))
  unfolding start_up_of first_broken rule1 rule2_start_up ready_for_start_up
  start-sound q s = rw (p.right-length, q, s, p.same)

  pub start-refused : pending img ≡ false → sound (region img) ≡ false → start_up_of img ≡ Err Unready
  unfolding start_up_of first_broken rule1 rule2_start_up ready_for_start_up
  start-refused q s = rw (p.right-length, q, s)
