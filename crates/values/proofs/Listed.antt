-- The list of values from an offset on: at an entry it is that entry's value, if it is one, and the list from the next
-- offset on.
-- Assumes nothing.
use Prim.Native.Nat.{ℕ}
use mathlib.Core.Path.{◌≡◌, refl, ap, ◌∙◌}
use mathlib.Core.Bool.{true, false}
use mathlib.Core.List.{List, [], ◌∷◌, map}
use Rattle.model.specs.declared.Layout.{Layout}
use Rattle.model.specs.Layout.{authenticated}
use Rattle.model.specs.Lists.{keep}
use Rattle.model.specs.Region.{entries_in, is_value, values}
use Rattle.model.specs.Entry.{Value}
use Rattle.model.specs.Walk as walk
use Rattle.model.proofs.Walking.{entries_from}
use Rattle.model.specs.Beside.{from_in}
use Rattle.layout.specs.declared.Entry as numbers
use Rattle.region.specs.Walk.{entry_as}
use Rattle.region.proofs.Turns.{Turned, Ended}

-- the entries from an offset on that are values, and these values
abbrev pub value_entries : Layout → List ℕ → ℕ → List walk.Entry
value_entries y r at = keep (is_value (entries_in y r)) (from_in y r at)

unfoldable pub listed_in : Layout → List ℕ → ℕ → List Value
listed_in y r at = map walk.entry_value_def (value_entries y r at)

abbrev pub listed : List ℕ → ℕ → List Value
listed = listed_in authenticated

module _ (y : Layout) where
  pub listed-all : (r : List ℕ) → values (entries_in y r) ≡ listed_in y r 28
  unfolding values listed_in entries_in from_in
  listed-all r = refl

-- all entries that hold values, and none
pub all-entries : (y : Layout) (r : List ℕ) → keep (is_value (entries_in y r)) (entries_in y r) ≡ value_entries y r 28
all-entries y r = ap (keep (is_value (entries_in y r))) (entries_from y r)

pub listed-left : (y : Layout) (r : List ℕ) (at : ℕ) → value_entries y r at ≡ [] → listed_in y r at ≡ []
unfolding listed_in
listed-left y r at h = ap (map walk.entry_value_def) h

pub listed-none : {y : Layout} {r : List ℕ} {at : ℕ} → Ended y r at → listed_in y r at ≡ []
unfolding listed_in
listed-none {y} {r} z = ap (λ (es : List walk.Entry). map walk.entry_value_def (keep (is_value (entries_in y r)) es)) z.walk

module _ {y : Layout} {r : List ℕ} {at : ℕ} {e : numbers.Entry} {k : ℕ} (w : Turned y r at e k) where
  pub listed-value : is_value (entries_in y r) (entry_as y r at e) ≡ true → listed_in y r at ≡ walk.entry_value_def (entry_as y r at e) ∷ listed_in y r k
  unfolding listed_in
  listed-value h = ap (λ (es : List walk.Entry). map walk.entry_value_def (keep (is_value (entries_in y r)) es)) w.walk ∙ rw h

  pub listed_next : is_value (entries_in y r) (entry_as y r at e) ≡ false → listed_in y r at ≡ listed_in y r k
  unfolding listed_in
  listed_next h = ap (λ (es : List walk.Entry). map walk.entry_value_def (keep (is_value (entries_in y r)) es)) w.walk ∙ rw h
