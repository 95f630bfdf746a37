-- The entries that are seen from an offset on: at an entry they are that entry, if it is seen, and those from the next offset on. So the entry to get,
-- and the one to name, is found there or among the rest.
-- Assumes nothing.
use Prim.Native.Nat.{ℕ}
use mathlib.Core.Path.{◌≡◌, refl, ap, ◌∙◌}
use mathlib.Core.Bool.{Bool, true, false, ◌&&◌, and-true, and-false, true≢false}
use mathlib.Core.List.{List, [], ◌∷◌}
use mathlib.Core.Option.{none, some}
use Rattle.model.specs.Layout.{authenticated}
use Rattle.model.specs.Lists.{same, keep, first, head}
use Rattle.model.specs.Name.{Key, same_key_def, empty_name}
use Rattle.model.specs.Sides.{owns}
use Rattle.model.specs.Walk as walk
use Rattle.model.specs.Region.{entries}
use Rattle.model.specs.Beside.{from}
use Rattle.model.proofs.Tests.{and_split}
use Rattle.model.proofs.Walking.{entries_from}
use Rattle.layout.specs.declared.Entry as numbers
use Rattle.region.specs.Walk.{entry_at}
use Rattle.region.proofs.Turns.{Turned, Ended}
use Rattle.query.specs.Query.{is_seen_def, is_sought_def, is_shown_def, is_passed_def, entry_following, going_on, entry_to_name}

-- the entries that are seen from an offset on
unfoldable pub seen_from : Bool → List ℕ → ℕ → List walk.Entry
seen_from runtime r at = keep (is_seen_def runtime (entries r)) (from r at)

-- ---- of the walk from an offset on

-- the entries that are shown a side from an offset on
unfoldable pub shown_from : List ℕ → Bool → Bool → List ℕ → ℕ → List walk.Entry
shown_from guid modem runtime r at = keep (is_shown_def guid modem runtime (entries r)) (from r at)

pub name-from : (guid : List ℕ) (modem runtime : Bool) (k : Key) (r : List ℕ)
    → entry_to_name guid modem runtime k (entries r) ≡ going_on (same k.name empty_name) k (shown_from guid modem runtime r 28)
unfolding entry_to_name shown_from
name-from guid modem runtime k r = ap (λ (es : List walk.Entry). going_on (same k.name empty_name) k (keep (is_shown_def guid modem runtime (entries r)) es))
    (entries_from authenticated r)

pub shown-none : (guid : List ℕ) (modem runtime : Bool) {r : List ℕ} {at : ℕ} → Ended authenticated r at → shown_from guid modem runtime r at ≡ []
unfolding shown_from
shown-none guid modem runtime {r} z = ap (keep (is_shown_def guid modem runtime (entries r))) z.walk

pub seen_none : (runtime : Bool) {r : List ℕ} {at : ℕ} → Ended authenticated r at → seen_from runtime r at ≡ []
unfolding seen_from
seen_none runtime {r} z = ap (keep (is_seen_def runtime (entries r))) z.walk

pub going-none : (passed : Bool) (k : Key) {es : List walk.Entry} → es ≡ [] → going_on passed k es ≡ none
unfolding entry_following
going-none true k p = rw p
going-none false k p = rw p

module _ {r : List ℕ} {at : ℕ} {e : numbers.Entry} {n : ℕ} (w : Turned authenticated r at e n) (runtime : Bool) where
  seen_here : is_seen_def runtime (entries r) (entry_at r at e) ≡ true → seen_from runtime r at ≡ entry_at r at e ∷ seen_from runtime r n
  unfolding seen_from
  seen_here h = ap (keep (is_seen_def runtime (entries r))) w.walk ∙ rw h

  seen_next : is_seen_def runtime (entries r) (entry_at r at e) ≡ false → seen_from runtime r at ≡ seen_from runtime r n
  unfolding seen_from
  seen_next h = ap (keep (is_seen_def runtime (entries r))) w.walk ∙ rw h

  -- the entry to get
  pub get-here : (k : Key) → is_sought_def runtime k (entries r) (entry_at r at e) ≡ true
      → first (λ y. same_key_def (walk.entry_key y) k) (seen_from runtime r at) ≡ some (entry_at r at e)
  unfolding is_sought_def
  get-here k h =
      let p = and_split (same_key_def (walk.entry_key (entry_at r at e)) k) (is_seen_def runtime (entries r) (entry_at r at e)) h in
      ap (first (λ y. same_key_def (walk.entry_key y) k)) (seen_here p.1) ∙ rw p.0

  pub get-next : (k : Key) → is_sought_def runtime k (entries r) (entry_at r at e) ≡ false
      → first (λ y. same_key_def (walk.entry_key y) k) (seen_from runtime r at) ≡ first (λ y. same_key_def (walk.entry_key y) k) (seen_from runtime r n)
  unfolding is_sought_def
  get-next k h = go (is_seen_def runtime (entries r) (entry_at r at e)) refl
    where
      go : (t : Bool) → is_seen_def runtime (entries r) (entry_at r at e) ≡ t
          → first (λ y. same_key_def (walk.entry_key y) k) (seen_from runtime r at) ≡ first (λ y. same_key_def (walk.entry_key y) k) (seen_from runtime r n)
      go true s =
          let other : same_key_def (walk.entry_key (entry_at r at e)) k ≡ false = rw (s, and-true) at h in
          ap (first (λ y. same_key_def (walk.entry_key y) k)) (seen_here s) ∙ rw other
      go false s = ap (first (λ y. same_key_def (walk.entry_key y) k)) (seen_next s)

-- what is not sought is not passed
pub passed-other : (guid : List ℕ) (modem runtime : Bool) (k : Key) (es : List walk.Entry) (x : walk.Entry) → is_sought_def runtime k es x ≡ false
    → is_passed_def guid modem runtime k es x ≡ false
unfolding is_sought_def is_passed_def is_shown_def
passed-other guid modem runtime k es x h = go (same_key_def (walk.entry_key x) k) (is_seen_def runtime es x) (owns guid modem (walk.entry_key x)) h
  where
    go : (s t u : Bool) → (s && t) ≡ false → (s && (t && u)) ≡ false
    go true true u h = absurd (true≢false h)
    go true false u h = refl
    go false t u h = refl

module _ {r : List ℕ} {at : ℕ} {e : numbers.Entry} {n : ℕ} (w : Turned authenticated r at e n) (guid : List ℕ) (modem runtime : Bool) where
  shown-here : is_shown_def guid modem runtime (entries r) (entry_at r at e) ≡ true → shown_from guid modem runtime r at ≡ entry_at r at e ∷ shown_from guid modem runtime r n
  unfolding shown_from
  shown-here h = ap (keep (is_shown_def guid modem runtime (entries r))) w.walk ∙ rw h

  shown-next : is_shown_def guid modem runtime (entries r) (entry_at r at e) ≡ false → shown_from guid modem runtime r at ≡ shown_from guid modem runtime r n
  unfolding shown_from
  shown-next h = ap (keep (is_shown_def guid modem runtime (entries r))) w.walk ∙ rw h

  -- the entry to name, behind the name
  pub name-here : (k : Key) {p : Bool} → p ≡ true → is_shown_def guid modem runtime (entries r) (entry_at r at e) ≡ true
      → going_on p k (shown_from guid modem runtime r at) ≡ some (entry_at r at e)
  name-here k p h = rw p (ap head (shown-here h))

  pub name-next : (k : Key) {p : Bool} → p ≡ true → is_shown_def guid modem runtime (entries r) (entry_at r at e) ≡ false
      → going_on p k (shown_from guid modem runtime r at) ≡ going_on p k (shown_from guid modem runtime r n)
  name-next k p h = rw p (ap head (shown-next h))

  -- and before it
  pub name-before : (k : Key) {p q : Bool} → p ≡ false → q ≡ is_passed_def guid modem runtime k (entries r) (entry_at r at e)
      → going_on p k (shown_from guid modem runtime r at) ≡ going_on q k (shown_from guid modem runtime r n)
  unfolding entry_following is_passed_def
  name-before k p q = rw (p, q) (go (is_shown_def guid modem runtime (entries r) (entry_at r at e)) refl)
    where
      go : (t : Bool) → is_shown_def guid modem runtime (entries r) (entry_at r at e) ≡ t
          → going_on false k (shown_from guid modem runtime r at) ≡ going_on (same_key_def (walk.entry_key (entry_at r at e)) k && t) k (shown_from guid modem runtime r n)
      go true s = ap (entry_following k) (shown-here s) ∙ rw (and-true (same_key_def (walk.entry_key (entry_at r at e)) k))
      go false s = ap (entry_following k) (shown-next s) ∙ rw (and-false (same_key_def (walk.entry_key (entry_at r at e)) k))
