-- The entry of some numbers at an offset: its name and GUID are parts of the region, since dropping twice is dropping once. Being in a state under a name and GUID is judged by the state first, then by the lengths, the GUID and the name, which is a
-- conjunction in another order.
-- Assumes nothing.
use Rattle.std.proofs.Common.{◌≡◌, ℕ, ◌+◌, false, ◌&&◌, eqb, ◌≢◌, List, [], length, take, drop, ap, drop-drop, eq-eqb, ne_eqb}
use mathlib.Core.Bool.{and-false}
use Rattle.model.specs.Lists.{part, same}
use Rattle.model.specs.declared.Layout.{Layout}
use Rattle.model.specs.Layout as layout
use Rattle.model.specs.Entry.{header_fields_in}
use Rattle.model.specs.Name.{keyed}
use Rattle.model.specs.Walk as walk
use Rattle.model.specs.Region.{is_entry_def}
use Rattle.slices.proofs.Same.{same-lengths}
use Rattle.layout.specs.declared.Entry as numbers
use Rattle.region.specs.Walk.{entry_as, stamp_at, vendor_as}

part_of : (r : List ℕ) (at i n : ℕ) → part i n (drop at r) ≡ part (at + i) n r
part_of r at i n = ap (take n) (drop-drop i at r)

pub stamp : (r : List ℕ) (at : ℕ) → stamp_at r at ≡ part (at + layout.stamp_at) 16 r
unfolding stamp_at header_fields_in
stamp r at = part_of r at layout.stamp_at 16

module _ (y : Layout) where
  pub unnamed : (r : List ℕ) (at : ℕ) (e : numbers.Entry) → e.state ≡ 0xFF → (entry_as y r at e).name ≡ []
  unfolding entry_as walk.placed
  unnamed r at e h = rw (eq-eqb e.state 0xFF h)

  pub named : (r : List ℕ) (at : ℕ) (e : numbers.Entry) → e.state ≢ 0xFF → (entry_as y r at e).name ≡ part (at + layout.header_length y) e.name r
  unfolding entry_as walk.placed
  named r at e h = rw (ne_eqb e.state 0xFF h) (part_of r at (layout.header_length y) e.name)

  pub vendor : (r : List ℕ) (at : ℕ) → vendor_as y r at ≡ part (at + layout.vendor_at y) 16 r
  unfolding vendor_as header_fields_in
  vendor r at = part_of r at (layout.vendor_at y) 16

  module _ (r : List ℕ) (at : ℕ) (e : numbers.Entry) (state : ℕ) (name guid : List ℕ) where
    pub other_length : length (entry_as y r at e).name ≢ length name → is_entry_def state (keyed name guid) (entry_as y r at e) ≡ false
    other_length h =
        rw (same-lengths (entry_as y r at e).name name h) (and-false (eqb (entry_as y r at e).header.state state))

    pub by_key : e.state ≡ state → is_entry_def state (keyed name guid) (entry_as y r at e) ≡ (same (entry_as y r at e).name name && same (vendor_as y r at) guid)
    unfolding entry_as walk.placed vendor_as
    by_key h = rw (eq-eqb e.state state h)
