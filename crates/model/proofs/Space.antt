-- No name stands twice among the values of a sound region: so what is dropped with the old value is its size alone, and the sizes of a class after a change are
-- those before it without the old value's and with the new one's, as far as these are of the class. All values are the error records and the others; a side's sum is
-- that of a class.
-- Assumes nothing.
use Prim.Native.Nat.{ℕ, ◌+◌, ◌-◌, ◌≤◌}
use native.Mathlib.Omega.{arith}
use mathlib.Core.Path.{◌≡◌, refl, sym, ap, ◌∙◌}
use mathlib.Core.Bool.{Bool, true, false, not, cond, ◌&&◌, ◌||◌}
use mathlib.Core.List.{List, [], ◌∷◌, ◌++◌}
use mathlib.Core.Option.{Option, none, some}
use Rattle.model.specs.declared.Layout.{Layout}
use Rattle.model.specs.Layout.{authenticated}
use Rattle.model.specs.Lists.{any, keep, first, on_some}
use Rattle.model.specs.Name.{Key, same_key_def}
use Rattle.model.specs.Entry.{Value, key_of, entry_size_def, entry_size_in}
use Rattle.model.specs.Region.{find}
use Rattle.model.specs.Image.{region_header_size}
use Rattle.model.specs.Change.{put, without, step, entry_sizes, space_of, entry_sizes_in, space_in, is_error_record_def, record_sizes, other_sizes}
use Rattle.model.specs.Sides.{owns, view, side_sizes}
use Rattle.model.proofs.Tests.{or_split, key-eq}
use Rattle.model.proofs.Values.{keep-keep}
use Rattle.model.proofs.Encode.{Distinct}

-- the size of a value of a class
abbrev pub size_if : (Value → Bool) → Value → ℕ
size_if p v = cond (p v) (entry_size_def v) 0

-- the same of a value, if there is one
abbrev pub size_of : (Value → Bool) → Option Value → ℕ
size_of p o = on_some o (size_if p) 0

-- the sizes of the values of a class
abbrev pub sizes : (Value → Bool) → List Value → ℕ
sizes p vs = entry_sizes (keep p vs)

module _ (y : Layout) (p : Value → Bool) where
  pub sizes-cons : (v : Value) (vs : List Value) → entry_sizes_in y (keep p (v ∷ vs)) ≡ cond (p v) (entry_size_in y v) 0 + entry_sizes_in y (keep p vs)
  unfolding entry_sizes_in
  sizes-cons v vs = go (p v)
    where
      go : (t : Bool) → entry_sizes_in y (cond t (v ∷ keep p vs) (keep p vs)) ≡ cond t (entry_size_in y v) 0 + entry_sizes_in y (keep p vs)
      go true = refl
      go false = omega arith

-- all values are those of a class and the others
pub sizes-split : (y : Layout) (p : Value → Bool) (vs : List Value) → entry_sizes_in y vs ≡ entry_sizes_in y (keep p vs) + entry_sizes_in y (keep (λ v. not (p v)) vs)
unfolding entry_sizes_in
sizes-split y p [] = refl
sizes-split y p (v ∷ vs) =
    omega (arith, sizes-split y p vs, one (p v) (entry_size_in y v), sizes-cons y p v vs, sizes-cons y (λ w. not (p w)) v vs)
  where
    one : (t : Bool) (n : ℕ) → n ≡ cond t n 0 + cond (not t) n 0
    one true n = omega arith
    one false n = omega arith

module _ (p : Value → Bool) where
  sizes-last : (ws : List Value) (v : Value) → sizes p (ws ++ (v ∷ [])) ≡ sizes p ws + size_if p v
  unfolding entry_sizes_in
  sizes-last [] v = omega (arith, sizes-cons authenticated p v [])
  sizes-last (w ∷ ws) v = omega (arith, sizes-last ws v, sizes-cons authenticated p w ws, sizes-cons authenticated p w (ws ++ (v ∷ [])))

  keep-whole : (f : Value → Bool) (vs : List Value) → any f vs ≡ false → keep (λ v. not (f v)) vs ≡ vs
  keep-whole f [] h = refl
  keep-whole f (v ∷ vs) h =
      let o = or_split (f v) (any f vs) h in
      rw o.0 (ap (λ (l : List Value). v ∷ l) (keep-whole f vs o.1))

  pub without-sizes : (k : Key) (vs : List Value) → Distinct vs → sizes p (without k vs) + size_of p (find k vs) ≡ sizes p vs
  unfolding without find entry_sizes_in
  without-sizes k [] d = refl
  without-sizes k (v ∷ vs) d = go (same_key_def (key_of v) k) refl (without-sizes k vs d.1)
    where
      go : (t : Bool) → same_key_def (key_of v) k ≡ t
          → sizes p (keep (λ w. not (same_key_def (key_of w) k)) vs) + size_of p (first (λ w. same_key_def (key_of w) k) vs) ≡ sizes p vs
          → sizes p (cond (not t) (v ∷ keep (λ w. not (same_key_def (key_of w) k)) vs) (keep (λ w. not (same_key_def (key_of w) k)) vs))
          + size_of p (cond t (some v) (first (λ w. same_key_def (key_of w) k) vs)) ≡ sizes p (v ∷ vs)
      go true h i =
          let alone : any (λ w. same_key_def (key_of w) k) vs ≡ false = ap (λ (j : Key). any (λ w. same_key_def (key_of w) j) vs) (sym (key-eq (key_of v) k h)) ∙ d.0 in
          rw (keep-whole (λ w. same_key_def (key_of w) k) vs alone) (omega (arith, sizes-cons authenticated p v vs))
      go false h i = omega (arith, sizes-cons authenticated p v vs, sizes-cons authenticated p v (keep (λ w. not (same_key_def (key_of w) k)) vs))

  -- of a name that has no value nothing is dropped
  pub new-sizes : (v : Value) (vs : List Value) → find (key_of v) vs ≡ none → sizes p (step (put v) vs) ≡ sizes p vs + size_if p v
  unfolding step without find
  new-sizes v vs h = rw (keep-whole (λ w. same_key_def (key_of w) (key_of v)) vs (absent (λ w. same_key_def (key_of w) (key_of v)) vs h)) (sizes-last vs v)
    where
      absent : (f : Value → Bool) (vs : List Value) → first f vs ≡ none → any f vs ≡ false
      absent f [] h = refl
      absent f (w ∷ vs) h = go (f w) h (absent f vs)
        where
          go : (t : Bool) → cond t (some w) (first f vs) ≡ none → (first f vs ≡ none → any f vs ≡ false) → (t || any f vs) ≡ false
          go true e i = absurd (let z : ◌≡◌ {A = ℕ} 0 1 = cc in omega (arith, z))
          go false e i = i e

  -- the old value counts
  pub old-counts : (k : Key) (vs : List Value) → Distinct vs → size_of p (find k vs) ≤ sizes p vs
  old-counts k vs d = omega (arith, without-sizes k vs d)

  pub put-sizes : (v : Value) (vs : List Value) → Distinct vs → sizes p (step (put v) vs) ≡ sizes p vs - size_of p (find (key_of v) vs) + size_if p v
  unfolding step
  put-sizes v vs d = omega (arith, sizes-last (without (key_of v) vs) v, without-sizes (key_of v) vs d)

-- all values are the records and the others
pub all-sizes : (vs : List Value) → space_of vs ≡ region_header_size + record_sizes vs + other_sizes vs
unfolding space_in record_sizes other_sizes
all-sizes vs = omega (arith, sizes-split authenticated is_error_record_def vs)

-- the values that count for a side: its own that are no error records
abbrev pub of_side_def : List ℕ → Bool → Value → Bool
of_side_def guid modem v = owns guid modem (key_of v) && not (is_error_record_def v)

pub side-sizes : (guid : List ℕ) (modem : Bool) (vs : List Value) → side_sizes guid modem vs ≡ sizes (of_side_def guid modem) vs
unfolding side_sizes other_sizes view
side-sizes guid modem vs = ap entry_sizes (keep-keep (λ v. owns guid modem (key_of v)) (λ v. not (is_error_record_def v)) vs)
