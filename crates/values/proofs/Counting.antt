-- A pass over the values: what is counted and the values still to come make up all values, value by value. No sum is more than the region has.
-- Assumes nothing.
use Prim.Native.Nat.{ℕ, ◌+◌, ◌-◌, ◌^◌, ◌≤◌, ◌<◌}
use native.Mathlib.Omega.{arith}
use mathlib.Core.Path.{◌≡◌, refl, sym, ap, ◌∙◌}
use mathlib.Core.Bool.{Bool, true, false, not, cond, ◌&&◌, ◌||◌}
use mathlib.Core.List.{List, [], ◌∷◌}
use lib.ListN.{length}
use Rattle.model.specs.declared.Layout.{Layout}
use Rattle.model.specs.Layout.{authenticated}
use Rattle.model.specs.Lists.{any, keep}
use Rattle.model.specs.Entry.{Value, key_of, entry_size_in}
use Rattle.model.specs.Name.{Key}
use Rattle.model.specs.Sides.{modem_name, owns, view, side_sizes}
use Rattle.model.specs.Walk as walk
use Rattle.model.specs.Region.{entries, entries_in, values}
use Rattle.model.specs.Change.{entry_sizes_in, is_error_record_def, record_sizes, other_sizes}
use Rattle.values.specs.declared.Tally.{Tally}
use Rattle.values.specs.Sums.{sizes_in, is_other, is_stamped_def, side_sizes_in, Tallied, counted}
use Rattle.model.proofs.Space.{sizes-cons, sizes-split}
use Rattle.values.proofs.Sizes.{sizes-within}
use Rattle.values.proofs.Next.{few-values}

-- ---- by side

-- a value in front counts where it is the side's
side-cons : (y : Layout) (guid : List ℕ) (m : Bool) (v : Value) (vs : List Value)
    → side_sizes_in y guid m (v ∷ vs) ≡ cond (owns guid m (key_of v) && is_other v) (entry_size_in y v) 0 + side_sizes_in y guid m vs
unfolding view
side-cons y guid m v vs = go (owns guid m (key_of v))
  where
    mine : List Value
    mine = keep (λ z. owns guid m (key_of z)) vs

    go : (t : Bool) → sizes_in y is_other (cond t (v ∷ mine) mine) ≡ cond (t && is_other v) (entry_size_in y v) 0 + sizes_in y is_other mine
    go true = sizes-cons y is_other v mine
    go false = omega arith

-- a name is one side's
pub owns_not : (guid : List ℕ) (m : Bool) (k : Key) → owns guid (not m) k ≡ not (owns guid m k)
unfolding owns
owns_not guid true k = refl
owns_not guid false k = sym (twice (modem_name guid k))
  where
    twice : (b : Bool) → not (not b) ≡ b
    twice true = refl
    twice false = refl

no-sizes : (y : Layout) (guid : List ℕ) (m : Bool) → side_sizes_in y guid m [] + side_sizes_in y guid (not m) [] ≡ sizes_in y is_other []
unfolding view entry_sizes_in
no-sizes y guid m = refl

-- so the other values are those of the two sides
pub sides-split : (y : Layout) (guid : List ℕ) (m : Bool) (vs : List Value)
    → side_sizes_in y guid m vs + side_sizes_in y guid (not m) vs ≡ sizes_in y is_other vs
sides-split y guid m [] = no-sizes y guid m
sides-split y guid m (v ∷ vs) =
    let theirs = rw (owns_not guid m (key_of v)) at (side-cons y guid (not m) v vs) in
    let both = halves (owns guid m (key_of v)) (is_other v) (entry_size_in y v) in
    omega (arith, sizes-cons y is_other v vs, side-cons y guid m v vs, theirs, both, sides-split y guid m vs)
  where
    halves : (t o : Bool) (n : ℕ) → cond (t && o) n 0 + cond (not t && o) n 0 ≡ cond o n 0
    halves true true n = omega arith
    halves true false n = refl
    halves false true n = omega arith
    halves false false n = refl

-- in the form in which calls store
pub both-sides : (guid : List ℕ) (m : Bool) (vs : List Value) → side_sizes guid m vs + side_sizes guid (not m) vs ≡ other_sizes vs
unfolding side_sizes other_sizes
both-sides guid m vs = sides-split authenticated guid m vs

-- ---- value by value

pub record Counted (y : Layout) (guid : List ℕ) (m : Bool) (t : Tally) (all rest : List Value) : Type 0 where
  pub number : length all ≡ t.number + length rest
  pub records : sizes_in y is_error_record_def all ≡ t.records + sizes_in y is_error_record_def rest
  pub own : side_sizes_in y guid m all ≡ t.own + side_sizes_in y guid m rest
  pub others : side_sizes_in y guid (not m) all ≡ t.others + side_sizes_in y guid (not m) rest
  pub stamped : any is_stamped_def all ≡ (t.stamped || any is_stamped_def rest)

pub counted_none : (y : Layout) (guid : List ℕ) (m : Bool) (vs : List Value) {t : Tally}
    → (t.number ≡ 0) × (t.records ≡ 0) × (t.own ≡ 0) × (t.others ≡ 0) × (t.stamped ≡ false) → Counted y guid m t vs vs
counted_none y guid m vs h = record { number = omega arith; records = omega arith; own = omega arith; others = omega arith; stamped = rw h.4 }

pub counted_next : {y : Layout} {guid : List ℕ} {m : Bool} {t : Tally} {all rest : List Value} (v : Value) → Counted y guid m t all (v ∷ rest)
    → Counted y guid m (counted t v.attributes (owns guid m (key_of v)) (entry_size_in y v)) all rest
unfolding counted
counted_next {y} {guid} {m} {t} {all} {rest} v c =
    record {
      number = omega (arith, c.number);
      records = omega (arith, c.records, sizes-cons y is_error_record_def v rest);
      own = omega (arith, c.own, side-cons y guid m v rest);
      others = omega (arith, c.others, rw (owns_not guid m (key_of v)) at (side-cons y guid (not m) v rest));
      stamped = c.stamped ∙ either t.stamped (is_stamped_def v) (any is_stamped_def rest);
    }
  where
    either : (a b d : Bool) → (a || (b || d)) ≡ ((a || b) || d)
    either true b d = refl
    either false b d = refl

pub counted-all : {y : Layout} {guid : List ℕ} {m : Bool} {t : Tally} {all rest : List Value} → Counted y guid m t all rest → rest ≡ [] → Tallied y guid m all t
unfolding entry_sizes_in view
counted-all {y} {guid} {m} {t} {all} {rest} c e =
    let n = ap length e in
    let r = ap (sizes_in y is_error_record_def) e in
    let s = ap (side_sizes_in y guid m) e in
    let o = ap (side_sizes_in y guid (not m)) e in
    record {
      number = omega (arith, c.number);
      records = omega (arith, c.records);
      own = omega (arith, c.own);
      others = omega (arith, c.others);
      stamped = sym (c.stamped ∙ ap (λ (vs : List Value). t.stamped || any is_stamped_def vs) e ∙ or-false t.stamped);
    }
  where
    or-false : (a : Bool) → (a || false) ≡ a
    or-false true = refl
    or-false false = refl

-- the sums of the two classes are no more than the region has
pub sums-within : (y : Layout) (r : List ℕ)
    → sizes_in y is_error_record_def (values (entries_in y r)) + sizes_in y is_other (values (entries_in y r)) ≤ length r + 3 - 28
sums-within y r = omega (arith, sizes-split y is_error_record_def (values (entries_in y r)), sizes-within y r)

-- at the next value
module _ {y : Layout} {guid : List ℕ} {m : Bool} (r : List ℕ) {t : Tally} {size : ℕ} (x : walk.Entry) {rest : List Value}
    (c : Counted y guid m t (values (entries_in y r)) (walk.entry_value_def x ∷ rest)) (s : size ≡ entry_size_in y (walk.entry_value_def x)) where
  pub counted-asks : length r < 2 ^ 64 → (t.number + 1 < 2 ^ 64) × (t.records + size < 2 ^ 64) × (t.own + size < 2 ^ 64) × (t.others + size < 2 ^ 64)
  unfolding entry_sizes_in
  counted-asks h =
      let n = few-values y r in
      let within = sums-within y r in
      let sides = sides-split y guid m (values (entries_in y r)) in
      let both = sizes-split y is_error_record_def (walk.entry_value_def x ∷ rest) in
      let split = sides-split y guid m (walk.entry_value_def x ∷ rest) in
      let all : t.records + t.own + t.others + size ≤ length r + 3 = omega (arith, within, sides, both, split, c.records, c.own, c.others) in
      (omega (arith, c.number), omega arith, omega arith, omega arith)

  pub counted-turn : {t' : Tally} {own : Bool} → own ≡ owns guid m (key_of (walk.entry_value_def x)) → t' ≡ counted t x.header.attributes own size
      → Counted y guid m t' (values (entries_in y r)) rest
  counted-turn o p = rw (p, o, s) (counted_next (walk.entry_value_def x) c)

-- in the form in which calls store: the sums of the definitions
pub record Sums (guid : List ℕ) (m : Bool) (vs : List Value) (t : Tally) : Type 0 where
  pub records : t.records ≡ record_sizes vs
  pub own : t.own ≡ side_sizes guid m vs
  pub others : t.others ≡ side_sizes guid (not m) vs

pub told-sums : (guid : List ℕ) (m : Bool) (r : List ℕ) {t : Tally} → Tallied authenticated guid m (values (entries r)) t → Sums guid m (values (entries r)) t
unfolding record_sizes other_sizes side_sizes
told-sums guid m r n = record { records = n.records; own = n.own; others = n.others }
