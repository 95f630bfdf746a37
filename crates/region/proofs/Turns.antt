-- What a turn of the walk says of the entries from its offset on. The numbers found are those of the header that is read there, whose stamp and GUID
-- stand in the bytes, so the entry that they make up is the one that the walk places.
-- Assumes nothing.
use Rattle.std.proofs.Common.{◌≡◌, ℕ, ◌+◌, ◌-◌, ◌<◌, ◌≤◌, List, [], ◌∷◌, length, take, drop, sym, refl, ap, ◌∙◌, ap₂, le_of_eq, arith, length-drop, drop_of_length-le, take_all}
use Rattle.std.proofs.lemmas.Option.{some_pair_parts}
use mathlib.Core.Option as maybe
use mathlib.Core.Option.{none, some}
use Rattle.model.specs.declared.Layout.{Layout}
use Rattle.model.specs.Layout.{header_length}
use Rattle.model.specs.Entry.{read_header_in, Header}
use Rattle.model.proofs.Walking.{read-nil, from_end, from_past, from-entry, from-fits, read-fields, stride-least}
use Rattle.layout.specs.Head.{head_in, header_as, numbers_of}
use Rattle.region.specs.Walk.{stride_in, entry_as, turn_in}
use Rattle.model.specs.Lists.{on_some}
use Rattle.model.specs.Walk as walk
use Rattle.model.specs.Beside.{from_in}
use Rattle.layout.specs.declared.Entry as numbers
use Rattle.std.specs.Prelude.{Option, Some, None, option_map}

-- the part that `&r[at..]` lends is the rest of the list
pub rest : (r : List ℕ) (at : ℕ) → take (length r - at) (drop at r) ≡ drop at r
rest r at = take_all (length r - at) (drop at r) (le_of_eq (length-drop at r))

module _ (y : Layout) where
  -- past the end nothing stands
  pub past : (r : List ℕ) (at : ℕ) → length r ≤ at → (head_in y) (drop at r) ≡ None
  unfolding head_in read_header_in
  past r at h = ap (λ (o : maybe.Option Header). on_some o (λ h. Some (numbers_of h)) None) (ap (read_header_in y) (drop_of_length-le r h) ∙ read-nil y)

  -- ---- what the numbers found say of the header that was read

  record Read (s : List ℕ) (e : numbers.Entry) : Type 0 where
    header : Header
    read : (read_header_in y) s ≡ some header
    numbers : numbers_of header ≡ e

  present : (s : List ℕ) (e : numbers.Entry) → (head_in y) s ≡ Some e → Read s e
  unfolding head_in
  present s e p = go ((read_header_in y) s) refl p
    where
      go : (o : maybe.Option Header) → (read_header_in y) s ≡ o → on_some o (λ h. Some (numbers_of h)) None ≡ Some e → Read s e
      go (some h) q p = record { header = h; read = q; numbers = cc }
      go none q p = let z : ◌≡◌ {A = ℕ} 0 1 = cc in absurd (omega arith)

  ended : (s : List ℕ) → (head_in y) s ≡ None → (read_header_in y) s ≡ none
  unfolding head_in
  ended s p = go ((read_header_in y) s) refl p
    where
      go : (o : maybe.Option Header) → (read_header_in y) s ≡ o → on_some o (λ h. Some (numbers_of h)) None ≡ None → (read_header_in y) s ≡ none
      go (some h) q p = let z : ◌≡◌ {A = ℕ} 0 1 = cc in absurd (omega arith)
      go none q p = q

  -- that header is the one of the numbers
  same-header : (s : List ℕ) (e : numbers.Entry) (q : Read s e) → q.header ≡ (header_as y) e s
  same-header s e q =
      let f = read-fields y s q.header q.read in
      ap₂ (λ (n : numbers.Entry) (h : Header). record {
        state = n.state;
        attributes = n.attributes;
        stamp = h.stamp;
        name_size_def = n.name;
        data_size_def = n.size;
        vendor = h.vendor;
      }) q.numbers (sym f)

-- ---- the law of a turn, as a loop cites it: by what the call answers and what the match tells of the answer. Layout, region, offset and numbers are read
-- off the two.

-- at an entry the walk is that entry and the walk from the next offset on; the header found lies within the region, so offsets do not overflow, and what
-- is left of the region falls
pub record Turned (y : Layout) (r : List ℕ) (at : ℕ) (e : numbers.Entry) (k : ℕ) : Type 0 where
  pub walk : from_in y r at ≡ entry_as y r at e ∷ from_in y r k
  pub fits : at + header_length y ≤ length r
  pub more : at + header_length y ≤ k
  pub next : (entry_as y r at e).next ≡ k
  pub inside : at ≤ length r
  pub less : length r - k < length r - at

-- at the end the walk is empty
pub record Ended (y : Layout) (r : List ℕ) (at : ℕ) : Type 0 where
  pub walk : from_in y r at ≡ []

module _ {y : Layout} {r : List ℕ} {at : ℕ} {t : Option (numbers.Entry × ℕ)} (answer : t ≡ turn_in y r at) where
  pub at_entry : {e : numbers.Entry} {k : ℕ} → t ≡ Some (e, k) → Turned y r at e k
  unfolding turn_in entry_as walk.placed
  at_entry {e} {k} told = go (head_in y (drop at r)) refl (sym answer ∙ told)
    where
      go : (x : Option numbers.Entry) → head_in y (drop at r) ≡ x → option_map {U = numbers.Entry × ℕ} (λ (n : numbers.Entry). (n, at + stride_in y n)) x ≡ Some (e, k) → Turned y r at e k
      go None h p = let z : ◌≡◌ {A = ℕ} 0 1 = cc in absurd (omega arith)
      go (Some n) h p =
          let both = some_pair_parts n e (at + stride_in y n) k p in
          let same : n ≡ e = both.0 in
          let last : at + stride_in y e ≡ k = ap (λ (m : numbers.Entry). at + stride_in y m) (sym same) ∙ both.1 in
          let q = present y (drop at r) e (h ∙ ap Some same) in
          let room = from-fits y r at q.header q.read in
          let least = stride-least y (header_as y e (drop at r)) in
          record {
            walk = from-entry y r at (header_as y e (drop at r)) (q.read ∙ ap some (same-header y (drop at r) e q))
                ∙ ap (λ (j : ℕ). entry_as y r at e ∷ from_in y r j) last;
            fits = room;
            more = omega arith;
            next = last;
            inside = omega arith;
            less = omega arith;
          }

  pub at-end : t ≡ None → Ended y r at
  unfolding turn_in
  at-end told = go (head_in y (drop at r)) refl (sym answer ∙ told)
    where
      go : (x : Option numbers.Entry) → head_in y (drop at r) ≡ x → option_map {U = numbers.Entry × ℕ} (λ (n : numbers.Entry). (n, at + stride_in y n)) x ≡ None → Ended y r at
      go None h p = record { walk = from_end y r at (ended y (drop at r) h) }
      go (Some n) h p = let z : ◌≡◌ {A = ℕ} 0 1 = cc in absurd (omega arith)

-- past the end of the region nothing stands
pub at-past : (y : Layout) (r : List ℕ) (at : ℕ) → length r ≤ at → Ended y r at
at-past y r at h = record { walk = from_past y r at h }
