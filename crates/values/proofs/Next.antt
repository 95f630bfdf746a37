-- The list of values from an offset on: its first one is an entry's, and the others are those from the entry after it on. Each value takes 60 bytes of the region at least, so there are no more values than bytes.
-- Assumes nothing.
use Prim.Native.Nat.{ℕ, zero, suc, ◌+◌, ◌≤◌}
use native.Mathlib.Omega.{arith}
use mathlib.Core.Path.{◌≡◌, refl, sym, ap, ◌∙◌}
use mathlib.Core.Bool.{Bool, true, false, cond}
use mathlib.Core.List.{List, [], ◌∷◌, map}
use mathlib.Core.Option.{some}
use Rattle.std.specs.Prelude.{Option, Some, None}
use lib.ListN.{length}
use Rattle.model.specs.declared.Layout.{Layout}
use Rattle.model.specs.Layout.{header_length}
use Rattle.model.specs.Lists.{keep, first}
use Rattle.model.specs.Entry.{entry_size_in}
use Rattle.model.specs.Walk as walk
use Rattle.model.specs.Region.{entries_in, is_value, values}
use Rattle.model.specs.Beside.{from_in}
use Rattle.layout.specs.Head.{numbers_of}
use Rattle.layout.specs.declared.Entry as numbers
use Rattle.region.specs.Walk.{entry_as, turn_in}
use Rattle.region.proofs.Turns.{Turned, at_entry, at-end, at-past}
use Rattle.values.specs.Found.{found_of}
use Rattle.values.proofs.Listed.{value_entries, listed_in, listed-all, listed-none, listed-value, listed_next}
use Rattle.values.proofs.Stands.{found-kept}
use Rattle.values.proofs.Sizes.{size-next}

-- the first of the values from an offset on, as a list tells it: it is the entry of its numbers at its offset, and the others are those from the entry after it on
pub record Next (y : Layout) (r : List ℕ) (at : ℕ) (x : walk.Entry) (es : List walk.Entry) : Type 0 where
  pub is : x ≡ entry_as y r x.at (numbers_of x.header)
  pub rest : es ≡ value_entries y r x.next
  pub entries : value_entries y r at ≡ x ∷ value_entries y r x.next
  pub list : listed_in y r at ≡ walk.entry_value_def x ∷ listed_in y r x.next
  pub from-here : at ≤ x.at
  pub fits : x.at + header_length y ≤ length r
  pub size : x.at + entry_size_in y (walk.entry_value_def x) ≤ x.next

first-kept : (f : walk.Entry → Bool) (es : List walk.Entry) {x : walk.Entry} {xs : List walk.Entry} → keep f es ≡ x ∷ xs → first f es ≡ some x
first-kept f [] h = let z = ap length h in absurd (omega arith)
first-kept f (e ∷ es) {x} {xs} h = go (f e) h (first-kept f es)
  where
    go : (t : Bool) → cond t (e ∷ keep f es) (keep f es) ≡ x ∷ xs → (keep f es ≡ x ∷ xs → first f es ≡ some x) → cond t (some e) (first f es) ≡ some x
    go true h more = let p : e ≡ x = cc in ap some p
    go false h more = more h

pub next-value : {y : Layout} {r : List ℕ} {at : ℕ} {x : walk.Entry} {es : List walk.Entry} → value_entries y r at ≡ x ∷ es → Next y r at x es
unfolding listed_in
next-value {y} {r} {at} {x} {es} h =
    let f = is_value (entries_in y r) in
    let e = numbers_of x.header in
    let m = found-kept y r f x.at e at (ap found_of (first-kept f (from_in y r at) h)) in
    let w = at_entry refl m.turn in
    let both : entry_as y r x.at e ∷ value_entries y r m.next ≡ x ∷ es = sym m.rest ∙ h in
    let own : entry_as y r x.at e ≡ x = cc in
    let others : value_entries y r m.next ≡ es = cc in
    let i : m.next ≡ x.next = sym w.next ∙ ap (λ (i : walk.Entry). i.next) own in
    let rest : es ≡ value_entries y r x.next = sym others ∙ ap (value_entries y r) i in
    let all : value_entries y r at ≡ x ∷ value_entries y r x.next = h ∙ ap (λ (l : List walk.Entry). x ∷ l) rest in
    record {
      is = sym own;
      rest = rest;
      entries = all;
      list = ap (map walk.entry_value_def) all;
      from-here = m.from-here;
      fits = w.fits;
      size = omega (arith, size-next w, ap (λ (i : walk.Entry). entry_size_in y (walk.entry_value_def i)) own);
    }

module _ (y : Layout) (r : List ℕ) where
  few : (fuel at : ℕ) → length r ≤ at + fuel → length (listed_in y r at) ≤ fuel
  few zero at h = rw (listed-none (at-past y r at (omega arith))) (omega arith)
  few (suc fuel) at h = go (turn_in y r at) refl (few fuel)
    where
      test : {n : numbers.Entry} {k : ℕ} → Turned y r at n k → (t : Bool) → is_value (entries_in y r) (entry_as y r at n) ≡ t
          → length (listed_in y r k) ≤ fuel → length (listed_in y r at) ≤ suc fuel
      test w true q more = let e = ap length (listed-value w q) in omega arith
      test w false q more = let e = ap length (listed_next w q) in omega arith

      go : (t : Option (numbers.Entry × ℕ)) → turn_in y r at ≡ t → ((k : ℕ) → length r ≤ k + fuel → length (listed_in y r k) ≤ fuel) → length (listed_in y r at) ≤ suc fuel
      go None q more = let e = ap length (listed-none (at-end refl q)) in omega arith
      go (Some (n, k)) q more =
          let w = at_entry refl q in
          test w (is_value (entries_in y r) (entry_as y r at n)) refl (more k (omega (arith, w.more)))

  pub few-values : length (values (entries_in y r)) ≤ length r
  few-values = let e = ap length (listed-all y r) in let m = few (length r) 28 (omega arith) in omega arith
