-- The data of an entry is a part of the region, since dropping twice is dropping once. Name and data follow
-- each other, so together they hold no more than the rest of the region, and each no more than its size says. Hence the sizes of the values add up to no
-- more than the way to the tail, and to no more than the region has.
-- Assumes nothing.
use Prim.Native.Nat.{ℕ, zero, suc, ◌+◌, ◌-◌, ◌≤◌, ◌<◌}
use native.Mathlib.Nat.{min-le_left, min-le_right}
use native.Mathlib.Omega.{arith}
use mathlib.Core.Path.{◌≡◌, refl, ap, ◌∙◌}
use mathlib.Core.Logic.{◌≢◌}
use mathlib.Core.Bool.{Bool, true, false}
use mathlib.Core.List.{List, []}
use Rattle.std.specs.Prelude.{Option, Some, None}
use lib.ListN.{length, take, drop, length-take, length-drop}
use lib.Seq.{drop-drop}
use lib.Dec.{eqb}
use borrow.Author.Tests.{eq-eqb, ne_eqb, eqb-true, eqb-false}
use Rattle.model.specs.declared.Layout.{Layout}
use Rattle.model.specs.Layout.{authenticated, header_length, vendor_at}
use Rattle.model.specs.Lists.{part}
use Rattle.model.specs.Change.{entry_sizes_in, is_error_record_def, record_sizes, other_sizes}
use Rattle.model.specs.Entry.{entry_size_in}
use Rattle.model.specs.Walk as walk
use Rattle.model.specs.Region.{entries_in, entries, tail_at_in, tail_at, is_value, values}
use Rattle.model.specs.Beside.{from_in}
use Rattle.model.proofs.Walking.{entries_from}
use Rattle.model.proofs.Space.{sizes-split}
use Rattle.layout.specs.declared.Entry as numbers
use Rattle.region.specs.Walk.{entry_as, vendor_as, stride_in, turn_in}
use Rattle.region.proofs.Turns.{Turned, Ended, at_entry, at-end}
use Rattle.region.proofs.Entries.{unnamed, named, vendor as vendor-part}
use Rattle.values.proofs.Listed.{listed_in, listed-all, listed-none, listed-value, listed_next}

pub part-fits : (r : List ℕ) (i n : ℕ) → (length (part i n r) ≤ n) × (length (part i n r) ≤ length r - i)
part-fits r i n =
    rw (length-take n (drop i r), length-drop i r) (min-le_left n (length r - i), min-le_right n (length r - i))

module _ (y : Layout) where
  module _ (r : List ℕ) (at : ℕ) (e : numbers.Entry) where
    pub no-data : e.state ≡ 0xFF → (entry_as y r at e).bytes ≡ []
    unfolding entry_as walk.placed
    no-data h = rw (eq-eqb e.state 0xFF h)

    pub data-part : e.state ≢ 0xFF → (entry_as y r at e).bytes ≡ part (at + header_length y + e.name) e.size r
    unfolding entry_as walk.placed
    data-part h =
        let place : at + (header_length y + e.name) ≡ at + header_length y + e.name = omega arith in
        rw (ne_eqb e.state 0xFF h) (ap (take e.size) (drop-drop (header_length y + e.name) at r ∙ ap (λ (i : ℕ). drop i r) place))

    -- the two lengths, by what the region has left, and the size of the value's entry by the entry's
    pub record Lengths : Type 0 where
      pub whole : length (entry_as y r at e).name + length (entry_as y r at e).bytes ≤ length r - (at + header_length y)
      pub stride : entry_size_in y (walk.entry_value_def (entry_as y r at e)) ≤ stride_in y e

    pub lengths : Lengths
    lengths = go (eqb e.state 0xFF) refl
      where
        go : (t : Bool) → eqb e.state 0xFF ≡ t → Lengths
        go true h =
            let s = eqb-true e.state 0xFF h in
            let n = ap length (unnamed y r at e s) in
            let d = ap length (no-data s) in
            record { whole = omega arith; stride = rw h (omega arith) }
        go false h =
            let s = eqb-false e.state 0xFF h in
            let n = ap length (named y r at e s) in
            let d = ap length (data-part s) in
            let a = part-fits r (at + header_length y) e.name in
            let b = part-fits r (at + header_length y + e.name) e.size in
            record { whole = omega arith; stride = rw h (omega arith) }

    -- what is read of an entry, and how long it can be
    module _ {name vendor bytes : List ℕ} (n : name ≡ (entry_as y r at e).name) (v : vendor ≡ vendor_as y r at) (b : bytes ≡ (entry_as y r at e).bytes) where
      pub record Short : Type 0 where
        pub vendor-short : length vendor ≤ 16
        pub name-short : length name ≤ length r
        pub name-same : length name ≡ length (entry_as y r at e).name
        pub bytes-short : length bytes ≤ length r

      pub short : Short
      short =
          let k = ap length n in
          let d = ap length b in
          record {
            vendor-short = rw (v, vendor-part y r at) (part-fits r (at + vendor_at y) 16).0;
            name-short = omega (arith, lengths.whole);
            name-same = k;
            bytes-short = omega (arith, lengths.whole);
          }

module _ {y : Layout} {r : List ℕ} {at : ℕ} {e : numbers.Entry} {k : ℕ} (w : Turned y r at e k) where
  behind : at + stride_in y e ≡ k
  unfolding entry_as walk.placed
  behind = w.next

  pub size-next : at + entry_size_in y (walk.entry_value_def (entry_as y r at e)) ≤ k
  size-next = let l = lengths y r at e in omega (arith, behind)

  pub size-within : at + entry_size_in y (walk.entry_value_def (entry_as y r at e)) ≤ length r + 3
  size-within = let l = lengths y r at e in omega arith

  pub sizes-value : is_value (entries_in y r) (entry_as y r at e) ≡ true
      → entry_sizes_in y (listed_in y r at) ≡ entry_size_in y (walk.entry_value_def (entry_as y r at e)) + entry_sizes_in y (listed_in y r k)
  unfolding entry_sizes_in
  sizes-value h = ap (entry_sizes_in y) (listed-value w h)

-- ---- the way to the tail

-- the values from an offset on take no more than the way from there to the tail, nor more than the region has left
pub record Takes (y : Layout) (r : List ℕ) (at : ℕ) : Type 0 where
  pub way : at + entry_sizes_in y (listed_in y r at) ≤ walk.walk_end_def at (from_in y r at)
  pub left : entry_sizes_in y (listed_in y r at) ≤ length r + 3 - at

takes_none : {y : Layout} {r : List ℕ} {at : ℕ} → Ended y r at → Takes y r at
unfolding entry_sizes_in walk.walk_end_def
takes_none {y} {r} {at} z = record { way = rw (listed-none z, z.walk) (omega arith); left = rw (listed-none z) (omega arith) }

takes-more : {y : Layout} {r : List ℕ} {at : ℕ} {e : numbers.Entry} {k : ℕ} → Turned y r at e k → Takes y r k → Takes y r at
unfolding walk.walk_end_def
takes-more {y} {r} {at} {e} {k} w h = go (is_value (entries_in y r) (entry_as y r at e)) refl
  where
    go : (v : Bool) → is_value (entries_in y r) (entry_as y r at e) ≡ v → Takes y r at
    go true v =
        let s = sizes-value w v in
        record { way = rw (w.walk, w.next) (omega (arith, size-next w, h.way)); left = omega (arith, size-next w, size-within w, h.left) }
    go false v =
        record { way = rw (w.walk, w.next, listed_next w v) (omega (arith, size-next w, h.way)); left = rw (listed_next w v) (omega (arith, size-next w, h.left)) }

takes-by : (y : Layout) (r : List ℕ) (at : ℕ) → ((k : ℕ) → length r - k < length r - at → Takes y r k) → (t : Option (numbers.Entry × ℕ)) → turn_in y r at ≡ t → Takes y r at
takes-by y r at on (Some (e, k)) p = let w = at_entry refl p in takes-more w (on k w.less)
takes-by y r at on None p = takes_none (at-end refl p)

pub takes : (y : Layout) (left : ℕ) (r : List ℕ) (at : ℕ) → length r - at ≤ left → Takes y r at
takes y zero r at h = takes-by y r at (λ k l. absurd (omega arith)) (turn_in y r at) refl
takes y (suc n) r at h = takes-by y r at (λ k l. takes y n r k (omega arith)) (turn_in y r at) refl

pub sizes-within : (y : Layout) (r : List ℕ) → entry_sizes_in y (values (entries_in y r)) ≤ length r + 3 - 28
sizes-within y r = rw (listed-all y r) (omega (arith, (takes y (length r) r 28 (omega arith)).left))

pub sizes-before-tail : (r : List ℕ) → 28 + record_sizes (values (entries r)) + other_sizes (values (entries r)) ≤ tail_at r
unfolding tail_at_in record_sizes other_sizes
sizes-before-tail r =
    let t = (takes authenticated (length r) r 28 (omega arith)).way in
    let s = sizes-split authenticated is_error_record_def (values (entries r)) in
    let e = ap (entry_sizes_in authenticated) (listed-all authenticated r) in
    omega (arith, ap (walk.walk_end_def 28) (entries_from authenticated r))
