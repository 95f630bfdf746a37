-- What the tests of a usual entry ask is what a turn of the walk finds and what *sound* asks of an entry: they read the same fields. Its mark is made of the part
-- of the region from its GUID to the end of its name, since these follow each other.
-- Assumes nothing.
use Rattle.std.proofs.Common.{◌≡◌, ℕ, ◌+◌, ◌-◌, ◌/◌, ◌%◌, ◌≤◌, true, ◌≢◌, List, length, get_or, take, drop, sym, refl, ap, ◌∙◌, arith, length-drop, drop-drop, eq-eqb, ne_eqb, le-leb}
use Rattle.model.specs.declared.Layout.{Layout}
use Rattle.model.specs.Layout.{header_length, vendor_at}
use Rattle.model.specs.Lists.{among, part, u16_at_def, u32_at}
use Rattle.model.specs.Name.{well_named}
use Rattle.model.specs.Entry.{states, start_id, rounded, header_fields_in, read_header_in}
use Rattle.model.specs.Walk as walk
use Rattle.slices.specs.Agree.{u64_at}
use Rattle.layout.specs.Head.{head_in, numbers_of}
use Rattle.layout.specs.declared.Entry as numbers
use Rattle.std.specs.Prelude.{Some}
use Rattle.layout.proofs.Named.{named-key}
use Rattle.region.specs.Walk.{entry_as, turn_in}
use Rattle.region.specs.Judge.{plain_attributes_def, live_state_def, entry_sound_def, UsualFront, UsualOf}
use Rattle.region.specs.Marks.{key_mark, mark_at, mark_in}
use Rattle.region.proofs.Turns.{rest, Turned, at_entry}
use Rattle.region.proofs.Judging.{right-plain, sound-within}
use Rattle.region.proofs.Marked.{live-mark, here-mark}

-- the first eight bytes as one number, taken apart
pub front-fields : (s : List ℕ) → ((i : ℕ) → get_or s i 0 ≤ 0xFF) → (w : ℕ) → w ≡ u64_at s 0 → w % 0x100000000 ≡ 0x003F55AA
    → among plain_attributes_def (w / 0x100000000) ≡ true → UsualFront s
unfolding u64_at
front-fields s b w e low plain =
    let b0 = b 0 in
    let b1 = b 1 in
    let b2 = b 2 in
    let b3 = b 3 in
    let b4 = b 4 in
    let b5 = b 5 in
    let b6 = b 6 in
    let b7 = b 7 in
    let high : w / 0x100000000 ≡ u32_at s 4 = omega arith in
    let first : u32_at s 0 ≡ 0x003F55AA = omega arith in
    record { start = omega arith; state = omega arith; plain = rw high at plain }

-- the numbers that stand in a header
abbrev pub numbers_at : Layout → List ℕ → numbers.Entry
numbers_at y s = numbers_of (header_fields_in y s)

-- an entry that was found to be usual
module _ {y : Layout} (r : List ℕ) (at : ℕ) {name end : ℕ} (found : (at ≤ length r) × UsualOf y (drop at r) name end) where
  inside : at ≤ length r
  inside = found.0

  u : UsualOf y (drop at r) name end
  u = found.1

  added : (numbers_at y (drop at r)).state ≡ 0x3F
  unfolding header_fields_in
  added = u.front.state

  finished : (numbers_at y (drop at r)).state ≢ 0xFF
  finished h = let a = added in absurd (omega arith)

  name-is : (numbers_at y (drop at r)).name ≡ name
  unfolding header_fields_in
  name-is = u.name-size

  plain-is : among plain_attributes_def (numbers_at y (drop at r)).attributes ≡ true
  unfolding header_fields_in
  plain-is = u.front.plain

  size_is : (1 ≤ (numbers_at y (drop at r)).size) × ((numbers_at y (drop at r)).size ≤ 2048)
  unfolding header_fields_in
  size_is = (u.sizes.some-data, u.sizes.few-data)

  end_is : header_length y + (numbers_at y (drop at r)).name + (numbers_at y (drop at r)).size ≡ end
  unfolding header_fields_in
  end_is = ap (λ (n : ℕ). header_length y + n + (numbers_at y (drop at r)).size) u.name-size ∙ u.ends

  head : head_in y (drop at r) ≡ Some (numbers_at y (drop at r))
  unfolding head_in read_header_in
  head = rw (le-leb (header_length y) (length (drop at r)) u.header, eq-eqb (u16_at_def (drop at r) 0) start_id u.front.start)

  turn : turn_in y r at ≡ Some (numbers_at y (drop at r), at + rounded end)
  unfolding turn_in
  turn = rw (head, ne_eqb (numbers_at y (drop at r)).state 0xFF finished, end_is)

  pub turned-usual : Turned y r at (numbers_at y (drop at r)) (at + rounded end)
  turned-usual = at_entry refl turn

  named_here : well_named (entry_as y r at (numbers_at y (drop at r))).name ≡ true
  unfolding entry_as walk.placed
  named_here = rw (ne_eqb (numbers_at y (drop at r)).state 0xFF finished, name-is) u.named

  pub sound-usual : entry_sound_def (length r) (entry_as y r at (numbers_at y (drop at r))) ≡ true
  sound-usual =
      let h = inside in
      let z = added in
      let w = u.within in
      let l = length-drop at r in
      let n = end_is in
      let known : among states (numbers_at y (drop at r)).state ≡ true = rw z in
      let live : live_state_def (numbers_at y (drop at r)).state ≡ true = rw z in
      sound-within y r at (numbers_at y (drop at r)) (length r) known finished (omega arith)
      ∙ right-plain y r at (numbers_at y (drop at r)) live size_is.0 size_is.1 plain-is
      ∙ named_here

  -- it ends within the region
  pub room-usual : (at + header_length y + name ≤ length r) × (at + end ≤ length r)
  room-usual =
      let h = inside in
      let w = u.within in
      let l = length-drop at r in
      let n = u.ends in
      (omega arith, omega arith)

  pub mark-usual : (v : ℕ) → v ≡ at + vendor_at y → key_mark (take (v + (16 + name) - v) (drop v r)) ≡ mark_at (entry_as y r at (numbers_at y (drop at r)))
  mark-usual v h =
      let e : numbers.Entry = numbers_at y (drop at r) in
      let m : v + (16 + name) - v ≡ 16 + name = omega arith in
      let z = added in
      let live : live_state_def e.state ≡ true = rw z in
      ap key_mark
      (rw (m, h) (ap (take (16 + name)) (sym (drop-drop (vendor_at y) at r))
      ∙ ap (λ (n : ℕ). part (vendor_at y) (16 + n) (drop at r)) (sym name-is)
      ∙ named-key y (drop at r) e finished))
      ∙ sym (live-mark y (drop at r) e live)
      ∙ ap (λ (s : List ℕ). mark_in y s e) (sym (rest r at))
      ∙ here-mark y r at e
