-- The values in three classes: the error records, and of the others those of the side that asks and those of the other side. All values are the values of the three,
-- and lie before the tail. What is said of one class is said of each.
-- Assumes nothing.
use Prim.Native.Nat.{ℕ, ◌+◌, ◌≤◌}
use native.Mathlib.Omega.{arith}
use mathlib.Core.Path.{◌≡◌, refl, ap, ◌∙◌, fun_ext}
use mathlib.Core.Bool.{Bool, true, false, not, cond, ◌&&◌}
use mathlib.Core.List.{List}
use lib.ListN.{length}
use Rattle.model.specs.Layout.{authenticated}
use Rattle.model.specs.Image.{region_header_size}
use Rattle.model.specs.Entry.{Value, key_of}
use Rattle.model.specs.Region.{entries, values, tail_at}
use Rattle.model.specs.Change.{space_of, space_in, is_error_record_def, record_sizes, other_sizes}
use Rattle.model.specs.Sides.{owns, side_sizes}
use Rattle.model.proofs.Space.{sizes, all-sizes, side-sizes}
use Rattle.values.proofs.Counting.{owns_not, sides-split}
use Rattle.values.proofs.Sizes.{sizes-within, sizes-before-tail}
use Rattle.decision.specs.declared.Sums.{Sums}
use Rattle.decision.specs.Parts.{classed_by}

-- ---- the three together

module _ (guid : List ℕ) (m : Bool) where
  both-sides : (vs : List Value) → side_sizes guid m vs + side_sizes guid (not m) vs ≡ other_sizes vs
  unfolding side_sizes other_sizes
  both-sides vs = sides-split authenticated guid m vs

  pub all-classes : (vs : List Value) → space_of vs ≡ region_header_size + record_sizes vs + side_sizes guid m vs + side_sizes guid (not m) vs
  all-classes vs = omega (arith, all-sizes vs, both-sides vs)

  pub classes-before-tail : (r : List ℕ)
      → 28 + record_sizes (values (entries r)) + side_sizes guid m (values (entries r)) + side_sizes guid (not m) (values (entries r)) ≤ tail_at r
  classes-before-tail r = omega (arith, sizes-before-tail r, both-sides (values (entries r)))

  -- the side's own take little more than the region
  pub own-within : (r : List ℕ) → side_sizes guid m (values (entries r)) ≤ length r + 3
  unfolding space_in
  own-within r = omega (arith, all-classes (values (entries r)), sizes-within authenticated r)

-- a value counts in one of them
pub classed-once : (error own : Bool) (size : ℕ) → (classed_by error own size).records + (classed_by error own size).own + (classed_by error own size).others ≡ size
unfolding classed_by
classed-once true true size = omega arith
classed-once true false size = omega arith
classed-once false true size = omega arith
classed-once false false size = omega arith

pub classed-parts : (error own : Bool) (size : ℕ)
    → ((classed_by error own size).records ≡ cond error size 0)
    × ((classed_by error own size).own ≡ cond (own && not error) size 0)
    × ((classed_by error own size).others ≡ cond (not own && not error) size 0)
unfolding classed_by
classed-parts error own size = (refl, refl, refl)

-- ---- each

-- a class: its part of the sums; its values, by whether the name is the side's own and whether the value is an error record; and their sizes
pub record Class (guid : List ℕ) (m : Bool) : Type 0 where
  pub part : Sums → ℕ
  pub holds : Bool → Bool → Bool
  pub total : List Value → ℕ
  pub classed : (error own : Bool) (size : ℕ) → part (classed_by error own size) ≡ cond (holds own error) size 0
  pub none : part (record { records = 0; own = 0; others = 0 }) ≡ 0
  pub totals : (vs : List Value) → total vs ≡ sizes (λ v. holds (owns guid m (key_of v)) (is_error_record_def v)) vs

module _ (guid : List ℕ) (m : Bool) where
  pub records-total : (vs : List Value) → record_sizes vs ≡ sizes is_error_record_def vs
  unfolding record_sizes
  records-total vs = refl

  pub others-total : (vs : List Value) → side_sizes guid (not m) vs ≡ sizes (λ v. not (owns guid m (key_of v)) && not (is_error_record_def v)) vs
  others-total vs =
      side-sizes guid (not m) vs
      ∙ ap (λ (p : Value → Bool). sizes p vs) (fun_ext (λ v. ap (λ (b : Bool). b && not (is_error_record_def v)) (owns_not guid m (key_of v))))

  abbrev pub records_class : Class guid m
  records_class = record {
    part = λ s. s.records;
    holds = λ own error. error;
    total = record_sizes;
    classed = λ error own size. (classed-parts error own size).0;
    none = refl;
    totals = records-total;
  }

  abbrev pub own_class : Class guid m
  own_class = record {
    part = λ s. s.own;
    holds = λ own error. own && not error;
    total = side_sizes guid m;
    classed = λ error own size. (classed-parts error own size).1;
    none = refl;
    totals = side-sizes guid m;
  }

  abbrev pub others_class : Class guid m
  others_class = record {
    part = λ s. s.others;
    holds = λ own error. not own && not error;
    total = side_sizes guid (not m);
    classed = λ error own size. (classed-parts error own size).2;
    none = refl;
    totals = others-total;
  }
