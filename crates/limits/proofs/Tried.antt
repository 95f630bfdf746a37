-- Rule 21 by whether data would stand, and which: whatever a set that does not delete asks for, what it leaves under its name, if anything, has the data that it would
-- store; of an equal set they are those that stand, and an empty append adds none. And the rules for a name and the numbers of a rule, by their places.
-- Assumes nothing.
use Prim.Native.Nat.{ℕ, min, ◌+◌, ◌*◌}
use native.Mathlib.Omega.{arith}
use mathlib.Core.Path.{◌≡◌, refl, ap, fun_ext, ◌∙◌}
use mathlib.Core.Bool.{Bool, true, false, cond, not, ◌&&◌, ◌||◌}
use mathlib.Core.List.{List, [], ◌∷◌, map, append-nil}
use mathlib.Core.Option.{Option, none, some}
use lib.ListN.{length}
use lib.Dec.{eqb}
use borrow.Author.Tests.{eqb-true, not-true}
use Rattle.model.specs.Lists.{same, any, range, keep, is_some, on_some, u32_at, numbers_at}
use Rattle.model.specs.Name.{Key}
use Rattle.model.specs.Entry.{Value}
use Rattle.model.specs.Session.{is_yes}
use Rattle.model.specs.Request.{Request, request_key, appends, time_based_def, data_proper}
use Rattle.model.specs.Limits.{Limit, limit_at, is_for_def, limit_space, limits_in, listed, meets}
use Rattle.model.specs.Change.{nothing, remove, put, deletes, empty_append_def, equal_to, new_data, new_value, change_of, leaves}
use Rattle.model.specs.Rules.{rule21}
use Rattle.model.proofs.Tests.{and_split, same-eq}
use Rattle.model.proofs.Tables.{any_from, from_start, any-map, take_range}
use Rattle.limits.specs.Broken.{breaks_it, broken_by, breaks_for, leaves_some}

-- ---- what a set leaves

no_bytes : (s : List ℕ) → length s ≡ 0 → s ≡ []
no_bytes [] h = refl
no_bytes (b ∷ s) h = absurd (omega arith)

-- an empty append adds nothing to what stands
append-none : (r : Request) (v : Value) → empty_append_def r.attributes (length (data_proper r)) ≡ true → new_data r (some v) ≡ v.bytes
unfolding empty_append_def new_data
append-none r v h =
    let p = and_split (eqb (length (data_proper r)) 0) (appends r.attributes) h in
    rw (p.1, no_bytes (data_proper r) (eqb-true _ 0 p.0)) (append-nil v.bytes)

-- an equal set would store what stands
equal-data : (r : Request) (v : Value) → equal_to r.attributes (data_proper r) v.attributes v.bytes ≡ true → new_data r (some v) ≡ v.bytes
unfolding equal_to new_data
equal-data r v h =
    let p = and_split _ (not (appends r.attributes)) h in
    let q = and_split _ (not (time_based_def r.attributes)) p.0 in
    let d = and_split (same (data_proper r) v.bytes) _ q.0 in
    rw (not-true (appends r.attributes) p.1) (same-eq (data_proper r) v.bytes d.0)

module _ (f : List ℕ → Bool) (r : Request) where
  -- a test of the data that would stand, if any
  tried-data : (old : Option Value)
      → on_some (leaves (change_of r old) old) (λ v. f v.bytes) false ≡ (leaves_some r old && f (new_data r old))
  unfolding change_of leaves leaves_some new_value
  tried-data old = go (deletes r.attributes (length (data_proper r))) (empty_append_def r.attributes (length (data_proper r))) refl old
    where
      equal : (v : Value) (q : Bool) → equal_to r.attributes (data_proper r) v.attributes v.bytes ≡ q
          → on_some (leaves (cond q nothing (put (new_value r (some v)))) (some v)) (λ w. f w.bytes) false ≡ f (new_data r (some v))
      equal v true h = rw (equal-data r v h)
      equal v false h = refl

      go : (d e : Bool) → empty_append_def r.attributes (length (data_proper r)) ≡ e → (o : Option Value)
          → on_some
          (leaves
          (cond d (remove (request_key r))
          (cond (e || on_some o (λ v. equal_to r.attributes (data_proper r) v.attributes v.bytes) false) nothing (put (new_value r o)))) o)
          (λ v. f v.bytes) false
          ≡ ((not d && (not e || is_some o)) && f (new_data r o))
      go true e h o = refl
      go false true h none = refl
      go false true h (some v) = rw (append-none r v h)
      go false false h none = refl
      go false false h (some v) = equal v (equal_to r.attributes (data_proper r) v.attributes v.bytes) refl

-- rule 21, of any rules: by whether a value would stand, and the data that a set would store
pub tried-as : (ls : List Limit) (r : Request) (old : Option Value) → rule21 ls (change_of r old) old ≡ broken_by ls (leaves_some r old) (new_data r old)
unfolding rule21 broken_by
tried-as ls r old =
    ap (λ (f : Limit → Bool). any f ls) (fun_ext (λ t. ap (λ (b : Bool). is_yes t.fixed || b) (tried-data (λ (bytes : List ℕ). not (meets t bytes)) r old)))

-- ---- tables

any-keep : {A : Type 0} (p f : A → Bool) (l : List A) → any f (keep p l) ≡ any (λ a. p a && f a) l
any-keep p f [] = refl
any-keep p f (a ∷ l) = go (p a) (any-keep p f l)
  where
    go : (t : Bool) → any f (keep p l) ≡ any (λ a. p a && f a) l
        → any f (cond t (a ∷ keep p l) (keep p l)) ≡ ((t && f a) || any (λ a. p a && f a) l)
    go true i = ap (λ (b : Bool). f a || b) i
    go false i = i

-- the rules in use of a table that are for a name: one is broken just if that at one of the places in use is for it and broken
pub by-places : (table : List ℕ) (rules : ℕ) (k : Key) (stands : Bool) (bytes : List ℕ)
    → broken_by (limits_in table rules k) stands bytes ≡ any_from (λ i. breaks_for k stands bytes (limit_at table i)) (min rules 32) 0
unfolding broken_by limits_in breaks_for
by-places table rules k stands bytes =
    any-keep (λ t. is_for_def t k) (breaks_it stands bytes) (map (limit_at table) (range 0 (min rules limit_space)))
    ∙ any-map (λ t. is_for_def t k && breaks_it stands bytes t) (limit_at table) (range 0 (min rules limit_space))
    ∙ from_start (λ i. is_for_def (limit_at table i) k && breaks_it stands bytes (limit_at table i)) (min rules limit_space)

-- without rules none is broken
pub none-used : (table : List ℕ) (rules : ℕ) (k : Key) (stands : Bool) (bytes : List ℕ) → rules ≡ 0 → broken_by (limits_in table rules k) stands bytes ≡ false
unfolding broken_by limits_in
none-used table rules k stands bytes h = rw h

-- a number is listed just if it is at one of the places in use
pub by-list : (t : List ℕ) (count n : ℕ) → listed (numbers_at t 40 8) count n ≡ any_from (λ i. eqb n (u32_at t (40 + 4 * i))) (min count 8) 0
unfolding listed numbers_at
by-list t count n =
    ap (λ (l : List ℕ). any (eqb n) l) (take_range (λ i. u32_at t (40 + 4 * i)) 0 8 (min count 8) (omega arith))
    ∙ any-map (eqb n) (λ i. u32_at t (40 + 4 * i)) (range 0 (min count 8))
    ∙ from_start (λ i. eqb n (u32_at t (40 + 4 * i))) (min count 8)
