-- One turn of each loop over the entries: where the first entry is known, a judgement of all of them is that entry's and the judgement of the rest.
-- Judging the entries one by one is the same as asking each thing of all of them, since a conjunction may be taken in any order.
-- Assumes nothing.
use Rattle.std.proofs.Common.{◌≡◌, ℕ, Bool, true, false, cond, ◌&&◌, List, [], ◌∷◌, length, sym, refl, ap, ◌∙◌}
use mathlib.Core.Bool.{and-true, and-false}
use Rattle.std.proofs.lemmas.Option.{none-some}
use Rattle.model.specs.declared.Layout.{Layout}
use Rattle.model.specs.Lists.{all, any}
use Rattle.model.specs.Name.{keyed}
use Rattle.model.specs.Image.{region_header_size}
use Rattle.model.specs.Walk as walk
use Rattle.model.specs.Region.{entries_in, tail_at_in, known_state_def, within, right_live_def, is_entry_def, undoubled}
use Rattle.model.proofs.Walking.{entries_from}
use Rattle.model.specs.Beside.{from_in}
use Rattle.layout.specs.declared.Entry as numbers
use Rattle.region.specs.Walk.{entry_as, vendor_as}
use Rattle.region.specs.Judge.{live_state_def, entry_sound_def, entries_sound, doubled_in, all_sound, scan_of}
use Rattle.std.specs.Prelude.{Option, Some, None}

-- ---- the scan

-- what the entries from an offset on tell
abbrev pub scanned : ℕ → ℕ → List walk.Entry → Option ℕ
scanned size at es = cond (all (entry_sound_def size) es) (Some (walk.walk_end_def at es)) None

-- three tests of every entry are one test of every entry
each : (size : ℕ) (es : List walk.Entry) → (all known_state_def es && all (within size) es && all right_live_def es) ≡ all (entry_sound_def size) es
unfolding entry_sound_def
each size [] = refl
each size (e ∷ es) =
    regroup (known_state_def e) (within size e) (right_live_def e) (all known_state_def es) (all (within size) es) (all right_live_def es)
    ∙ ap (λ (b : Bool). known_state_def e && within size e && right_live_def e && b) (each size es)
  where
    regroup : (a b c x y z : Bool) → ((a && x) && (b && y) && (c && z)) ≡ (a && b && c && (x && y && z))
    regroup true true true x y z = refl
    regroup true true false true true z = refl
    regroup true true false true false z = refl
    regroup true true false false y z = refl
    regroup true false c true y z = refl
    regroup true false c false y z = refl
    regroup false b c x y z = refl

-- what the entries tell, doubled names apart
pub singly : Layout → List ℕ → Option ℕ
singly y r = cond (entries_sound y r) (Some (tail_at_in y r)) None

pub scan-begin : (y : Layout) (r : List ℕ) → singly y r ≡ scanned (length r) region_header_size (from_in y r region_header_size)
unfolding singly entries_sound tail_at_in
scan-begin y r =
    ap (λ (es : List walk.Entry). cond (all known_state_def es && all (within (length r)) es && all right_live_def es) (Some (walk.walk_end_def region_header_size es)) None)
    (entries_from y r)
    ∙ ap (λ (b : Bool). cond b (Some (walk.walk_end_def region_header_size (from_in y r region_header_size))) None)
    (each (length r) (from_in y r region_header_size))

module _ {l es : List walk.Entry} {x : walk.Entry} (first : l ≡ x ∷ es) where
  pub scan-next : (size at k : ℕ) → entry_sound_def size x ≡ true → x.next ≡ k → scanned size at l ≡ scanned size k es
  unfolding walk.walk_end_def
  scan-next size at k s n = ap (scanned size at) first ∙ rw (s, n)

  pub scan-stop : (size at : ℕ) → entry_sound_def size x ≡ false → scanned size at l ≡ None
  scan-stop size at s = ap (scanned size at) first ∙ rw s

-- ---- both

module _ (y : Layout) (r : List ℕ) where
  pub scan-right : (at : ℕ) → singly y r ≡ Some at → undoubled (entries_in y r) ≡ true → scan_of y r ≡ Some at
  unfolding scan_of all_sound singly
  scan-right at h u = rw (u, and-true (entries_sound y r)) h

  pub scan-wrong : singly y r ≡ None → scan_of y r ≡ None
  unfolding scan_of all_sound singly
  scan-wrong h = go (entries_sound y r) refl h
    where
      go : (t : Bool) → entries_sound y r ≡ t → cond t (Some (tail_at_in y r)) None ≡ None → cond (t && undoubled (entries_in y r)) (Some (tail_at_in y r)) None ≡ None
      go true s h = absurd (none-some (tail_at_in y r) (sym h))
      go false s h = refl

  pub scan-doubled : undoubled (entries_in y r) ≡ false → scan_of y r ≡ None
  unfolding scan_of all_sound
  scan-doubled u = rw (u, and-false (entries_sound y r))

-- ---- doubled names

module _ (y : Layout) (r : List ℕ) (at : ℕ) (e : numbers.Entry) (es : List walk.Entry) where
  pub doubled_live : live_state_def e.state ≡ true
      → doubled_in (entry_as y r at e) es ≡ any (is_entry_def e.state (keyed (entry_as y r at e).name (vendor_as y r at))) es
  unfolding doubled_in entry_as walk.placed vendor_as
  doubled_live l = rw l

  pub doubled_dead : live_state_def e.state ≡ false → doubled_in (entry_as y r at e) es ≡ false
  unfolding doubled_in entry_as walk.placed
  doubled_dead l = rw l
