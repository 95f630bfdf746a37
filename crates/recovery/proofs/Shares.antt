-- Shares kept to: what both sides and the error records take is what all values take, so where shares fit and are kept to, all values fit. Changes of one side's
-- names keep to them where 18 and 13 let them pass.
-- Assumes nothing.
use Prim.Native.Nat.{ℕ, ◌+◌, ◌≤◌}
use native.Mathlib.Omega.{arith}
use mathlib.Core.Path.{◌≡◌, refl, sym, ap, ◌∙◌, subst}
use mathlib.Core.Bool.{Bool, true, false, not, cond, ◌&&◌}
use mathlib.Core.List.{List, [], ◌∷◌, ◌++◌, append-nil}
use lib.Dec.{leb}
use borrow.Author.Tests.{leb-true, le-leb, not-false}
use Rattle.model.specs.declared.Setup.{Setup}
use Rattle.model.specs.Lists.{keep, any}
use Rattle.model.specs.Image.{region_header_size}
use Rattle.model.specs.Name.{Key, same_key_def}
use Rattle.model.specs.Entry.{Value, key_of}
use Rattle.model.specs.Session.{share_of}
use Rattle.model.specs.Change.{Change, nothing, remove, put, without, step, steps, entry_sizes, entry_sizes_in, space_of, space_in, is_error_record_def, record_sizes, other_sizes}
use Rattle.model.specs.Rules.{puts}
use Rattle.model.specs.Sides.{modem_name, owns, view, side_sizes, shares_fit, allotted}
use Rattle.model.proofs.Tests.{and_split, or_split, true-and}
use Rattle.model.proofs.Values.{keep_append, keep-twice}
use Rattle.recovery.proofs.Views.{AllAbout, view-steps-other, all-other}

-- ---- sums of what is kept

sizes-append : (xs ys : List Value) → entry_sizes (xs ++ ys) ≡ entry_sizes xs + entry_sizes ys
unfolding entry_sizes_in
sizes-append [] ys = omega arith
sizes-append (x ∷ xs) ys = omega (arith, sizes-append xs ys)

-- taking out more leaves no more
keep-less : (f g : Value → Bool) (vs : List Value) → entry_sizes (keep f (keep g vs)) ≤ entry_sizes (keep f vs)
unfolding entry_sizes_in
keep-less f g [] = omega arith
keep-less f g (v ∷ vs) = go (f v) refl (g v) (keep-less f g vs)
  where
    go : (x : Bool) → f v ≡ x → (y : Bool) → entry_sizes (keep f (keep g vs)) ≤ entry_sizes (keep f vs)
        → entry_sizes (keep f (cond y (v ∷ keep g vs) (keep g vs))) ≤ entry_sizes (cond (f v) (v ∷ keep f vs) (keep f vs))
    go true e true i = rw e (omega arith)
    go true e false i = rw e (omega arith)
    go false e true i = rw e i
    go false e false i = rw e i

-- a value that is none of those that are summed adds nothing
last_none : (f : Value → Bool) (xs : List Value) (v : Value) → f v ≡ false → entry_sizes (keep f (xs ++ (v ∷ []))) ≡ entry_sizes (keep f xs)
unfolding entry_sizes_in
last_none f xs v e = rw (keep_append f xs (v ∷ [])) (sizes-append (keep f xs) (keep f (v ∷ [])) ∙ rw e (omega arith))

-- ---- the sums of the sides and of the records

-- a value is an error record, or a side's
pub split : (guid : List ℕ) (vs : List Value) → entry_sizes vs ≡ side_sizes guid false vs + side_sizes guid true vs + record_sizes vs
unfolding entry_sizes_in side_sizes other_sizes record_sizes view owns
split guid [] = refl
split guid (v ∷ vs) = go (is_error_record_def v) refl (modem_name guid (key_of v)) refl (split guid vs)
  where
    go : (x : Bool) → is_error_record_def v ≡ x → (y : Bool) → modem_name guid (key_of v) ≡ y
        → entry_sizes vs ≡ side_sizes guid false vs + side_sizes guid true vs + record_sizes vs
        → entry_sizes (v ∷ vs) ≡ side_sizes guid false (v ∷ vs) + side_sizes guid true (v ∷ vs) + record_sizes (v ∷ vs)
    go true e true h i = simp (e, h) (omega arith)
    go true e false h i = simp (e, h) (omega arith)
    go false e true h i = simp (e, h) (omega arith)
    go false e false h i = simp (e, h) (omega arith)

-- a name taken out takes nothing more of any
side-less : (guid : List ℕ) (m : Bool) (k : Key) (vs : List Value) → side_sizes guid m (without k vs) ≤ side_sizes guid m vs
unfolding side_sizes other_sizes view without
side-less guid m k vs =
    let other : Value → Bool = λ v. not (is_error_record_def v) in
    let mine : Value → Bool = λ v. owns guid m (key_of v) in
    let rest : Value → Bool = λ v. not (same_key_def (key_of v) k) in
    subst (λ (l : List Value). entry_sizes (keep other l) ≤ entry_sizes (keep other (keep mine vs))) (keep-twice rest mine vs) (keep-less other rest (keep mine vs))

records-less : (k : Key) (vs : List Value) → record_sizes (without k vs) ≤ record_sizes vs
unfolding record_sizes without
records-less k vs = keep-less is_error_record_def (λ v. not (same_key_def (key_of v) k)) vs

last-record : (xs : List Value) (v : Value) → is_error_record_def v ≡ false → record_sizes (xs ++ (v ∷ [])) ≡ record_sizes xs
unfolding record_sizes
last-record xs v e = last_none is_error_record_def xs v e

-- an error record is in no side's sum
last-side : (guid : List ℕ) (m : Bool) (xs : List Value) (v : Value) → is_error_record_def v ≡ true → side_sizes guid m (xs ++ (v ∷ [])) ≡ side_sizes guid m xs
unfolding side_sizes other_sizes view
last-side guid m xs v e =
    let mine : Value → Bool = λ w. owns guid m (key_of w) in
    rw (keep_append mine xs (v ∷ [])) (go (owns guid m (key_of v)))
  where
    go : (y : Bool) → entry_sizes (keep (λ w. not (is_error_record_def w)) (keep (λ w. owns guid m (key_of w)) xs ++ cond y (v ∷ []) []))
        ≡ entry_sizes (keep (λ w. not (is_error_record_def w)) (keep (λ w. owns guid m (key_of w)) xs))
    go true = last_none (λ w. not (is_error_record_def w)) (keep (λ w. owns guid m (key_of w)) xs) v (ap not e)
    go false = rw (append-nil (keep (λ w. owns guid m (key_of w)) xs))

-- ---- within the shares

pub record Within (u : Setup) (size : ℕ) (vs : List Value) : Type 0 where
  pub fit : region_header_size + u.share + u.modem.share + u.records ≤ size
  pub side : (m : Bool) → side_sizes u.modem.vendor m vs ≤ share_of m u
  pub records : record_sizes vs ≤ u.records

pub within_of : (u : Setup) (size : ℕ) (vs : List Value) → allotted u size vs ≡ true → Within u size vs
unfolding allotted shares_fit
within_of u size vs h =
    let g = u.modem.vendor in
    let fits = leb (region_header_size + u.share + u.modem.share + u.records) size in
    let ours = leb (side_sizes g false vs) u.share in
    let modems = leb (side_sizes g true vs) u.modem.share in
    let a = and_split (fits && ours && modems) (leb (record_sizes vs) u.records) h in
    let b = and_split (fits && ours) modems a.0 in
    let c = and_split fits ours b.0 in
    record {
      fit = leb-true (region_header_size + u.share + u.modem.share + u.records) size c.0;
      side = sides c.1 b.1;
      records = leb-true (record_sizes vs) u.records a.1;
    }
  where
    sides : leb (side_sizes u.modem.vendor false vs) u.share ≡ true → leb (side_sizes u.modem.vendor true vs) u.modem.share ≡ true
        → (m : Bool) → side_sizes u.modem.vendor m vs ≤ share_of m u
    sides o p true = leb-true (side_sizes u.modem.vendor true vs) u.modem.share p
    sides o p false = leb-true (side_sizes u.modem.vendor false vs) u.share o

pub within-is : (u : Setup) (size : ℕ) (vs : List Value) → Within u size vs → allotted u size vs ≡ true
unfolding allotted shares_fit
within-is u size vs w =
    let g = u.modem.vendor in
    true-and
    (true-and
    (true-and
    (le-leb (region_header_size + u.share + u.modem.share + u.records) size w.fit)
    (le-leb (side_sizes g false vs) u.share (w.side false)))
    (le-leb (side_sizes g true vs) u.modem.share (w.side true)))
    (le-leb (record_sizes vs) u.records w.records)

-- shares kept to leave room for all
pub within-fits : (u : Setup) (size : ℕ) (vs : List Value) → Within u size vs → space_of vs ≤ size
unfolding space_in
within-fits u size vs w =
    let s = split u.modem.vendor vs in
    let f = w.fit in
    let o = w.side false in
    let m = w.side true in
    let r = w.records in
    omega arith

side-step : (guid : List ℕ) (m : Bool) (c : Change) (vs : List Value) → puts (λ v. not (is_error_record_def v)) c ≡ false → side_sizes guid m (step c vs) ≤ side_sizes guid m vs
unfolding step
side-step guid m nothing vs h = omega arith
side-step guid m (remove k) vs h = side-less guid m k vs
side-step guid m (put v) vs h = rw (last-side guid m (without (key_of v) vs) v (not-false (is_error_record_def v) h)) (side-less guid m (key_of v) vs)

record-step : (c : Change) (vs : List Value) → puts is_error_record_def c ≡ false → record_sizes (step c vs) ≤ record_sizes vs
unfolding step
record-step nothing vs h = omega arith
record-step (remove k) vs h = records-less k vs
record-step (put v) vs h = rw (last-record (without (key_of v) vs) v h) (records-less (key_of v) vs)

-- changes that put no other value take no more of a side's share,
side-steps : (guid : List ℕ) (m : Bool) (cs : List Change) (vs : List Value) → any (puts (λ v. not (is_error_record_def v))) cs ≡ false
    → side_sizes guid m (steps cs vs) ≤ side_sizes guid m vs
unfolding steps
side-steps guid m [] vs h = omega arith
side-steps guid m (c ∷ cs) vs h =
    let p = or_split (puts (λ v. not (is_error_record_def v)) c) (any (puts (λ v. not (is_error_record_def v))) cs) h in
    let rest = side-steps guid m cs (step c vs) p.1 in
    let one = side-step guid m c vs p.0 in
    omega arith

-- and those that put no error record no more of H
record-steps : (cs : List Change) (vs : List Value) → any (puts is_error_record_def) cs ≡ false → record_sizes (steps cs vs) ≤ record_sizes vs
unfolding steps
record-steps [] vs h = omega arith
record-steps (c ∷ cs) vs h =
    let p = or_split (puts is_error_record_def c) (any (puts is_error_record_def) cs) h in
    let rest = record-steps cs (step c vs) p.1 in
    let one = record-step c vs p.0 in
    omega arith

-- what a side's changes have where 22, 18 and 13 let them pass
pub record KeepsTo (u : Setup) (m : Bool) (cs : List Change) (vs : List Value) : Type 0 where
  pub own : AllAbout u.modem.vendor m cs true
  pub few : any (puts is_error_record_def) cs ≡ true → record_sizes (steps cs vs) ≤ u.records
  pub room : any (puts (λ v. not (is_error_record_def v))) cs ≡ true → side_sizes u.modem.vendor m (steps cs vs) ≤ share_of m u

-- they keep to the shares
module _ (u : Setup) (size : ℕ) (m : Bool) (cs : List Change) (vs : List Value) (k : KeepsTo u m cs vs) (w : Within u size vs) where
  abbrev g : List ℕ
  g = u.modem.vendor

  -- the other side sees nothing of them
  other-sum : side_sizes g (not m) (steps cs vs) ≤ share_of (not m) u
  unfolding side_sizes
  other-sum = subst (λ (n : ℕ). n ≤ share_of (not m) u) (sym (ap other_sizes (view-steps-other g (not m) cs vs (all-other g m cs k.own)))) (w.side (not m))

  own-sum : (x : Bool) → any (puts (λ v. not (is_error_record_def v))) cs ≡ x → side_sizes g m (steps cs vs) ≤ share_of m u
  own-sum true e = k.room e
  own-sum false e = let l = side-steps g m cs vs e in let o = w.side m in omega arith

  by_side : (n : Bool) → side_sizes g n (steps cs vs) ≤ share_of n u
  by_side n = go m n refl
    where
      other : (n : Bool) → n ≡ not m → side_sizes g n (steps cs vs) ≤ share_of n u
      other n e = subst (λ (x : Bool). side_sizes g x (steps cs vs) ≤ share_of x u) (sym e) other-sum

      own_of : (n : Bool) → n ≡ m → side_sizes g n (steps cs vs) ≤ share_of n u
      own_of n e = subst (λ (x : Bool). side_sizes g x (steps cs vs) ≤ share_of x u) (sym e) (own-sum (any (puts (λ v. not (is_error_record_def v))) cs) refl)

      go : (x n : Bool) → m ≡ x → side_sizes g n (steps cs vs) ≤ share_of n u
      go true true e = own_of true (sym e)
      go true false e = other false (ap not (sym e))
      go false true e = other true (ap not (sym e))
      go false false e = own_of false (sym e)

  records-sum : (x : Bool) → any (puts is_error_record_def) cs ≡ x → record_sizes (steps cs vs) ≤ u.records
  records-sum true e = k.few e
  records-sum false e = let l = record-steps cs vs e in let r = w.records in omega arith

  pub steps-within : Within u size (steps cs vs)
  steps-within = record { fit = w.fit; side = by_side; records = records-sum (any (puts is_error_record_def) cs) refl }
