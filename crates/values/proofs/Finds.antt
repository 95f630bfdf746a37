-- The first entry that passes a test, from an offset on: it is the entry there, if that passes, and else the first from the next offset on.
-- Assumes nothing.
use Prim.Native.Nat.{ℕ, ◌-◌}
use mathlib.Core.Path.{◌≡◌, refl, sym, ap, ◌∙◌}
use mathlib.Core.Logic.{◌≢◌}
use mathlib.Core.Bool.{Bool, true, false, and-false}
use mathlib.Core.List.{List}
use mathlib.Core.Option.{Option as Maybe, none, some}
use Rattle.std.specs.Prelude.{Option, Some, None}
use lib.ListN.{length, take, drop}
use lib.Dec.{eqb}
use borrow.Author.Tests.{ne_eqb, eqb-true}
use Rattle.model.specs.declared.Layout.{Layout}
use Rattle.model.specs.Layout.{authenticated}
use Rattle.model.specs.Lists.{same, first, or_else}
use Rattle.model.specs.Name.{Key, keyed, same_key_def}
use Rattle.model.specs.Walk as walk
use Rattle.model.specs.Region.{is_entry_def}
use Rattle.model.proofs.Tests.{and_split}
use Rattle.model.specs.Beside.{from_in}
use Rattle.layout.specs.Head.{numbers_of, name_in, Unlike}
use Rattle.layout.specs.declared.Entry as numbers
use Rattle.region.specs.Walk.{entry_as, entry_at}
use Rattle.region.proofs.Turns.{rest, Turned, Ended}
use Rattle.values.specs.Found.{placed_at, found_of, else_found}
use Rattle.region.specs.declared.Placed.{Placed}

pub found-else : (a b : Maybe walk.Entry) → found_of (or_else a b) ≡ else_found (found_of a) (found_of b)
found-else (some e) b = refl
found-else none b = refl

-- an entry of some numbers at an offset is found as these
found_at : (y : Layout) (r : List ℕ) (at : ℕ) (e : numbers.Entry) → placed_at (entry_as y r at e).at (numbers_of (entry_as y r at e).header) ≡ placed_at at e
unfolding entry_as walk.placed
found_at y r at e = refl

-- the same from a later offset on
pub found-later : {x : Option Placed} {o o' : Maybe walk.Entry} (g : Option Placed) → x ≡ else_found g (found_of o) → o ≡ o' → x ≡ else_found g (found_of o')
found-later g p q = p ∙ ap (λ (o : Maybe walk.Entry). else_found g (found_of o)) q

module _ {y : Layout} {r : List ℕ} {at : ℕ} (z : Ended y r at) (f : walk.Entry → Bool) where
  pub first-none : first f (from_in y r at) ≡ none
  first-none = ap (first f) z.walk

  pub found_none : found_of (first f (from_in y r at)) ≡ None
  found_none = ap found_of first-none

  -- where nothing more is found, what was found before stays
  pub else-none : (g : Option Placed) → else_found g (found_of (first f (from_in y r at))) ≡ g
  else-none (Some p) = refl
  else-none None = found_none

module _ {y : Layout} {r : List ℕ} {at : ℕ} {e : numbers.Entry} {k : ℕ} (w : Turned y r at e k) where
  -- an entry is in one state
  pub one_state : (s t : ℕ) (key : Key) → s ≢ t → is_entry_def s key (entry_as y r at e) ≡ true → is_entry_def t key (entry_as y r at e) ≡ false
  one_state s t key n h =
      let x = entry_as y r at e in
      let p = and_split (eqb (walk.state_of x) s) (same_key_def (walk.entry_key x) key) h in
      rw (ne_eqb (walk.state_of x) t (λ q. n (sym (eqb-true (walk.state_of x) s p.0) ∙ q)))

-- an entry of which two words of a name are not there has another name
module _ {r : List ℕ} {at : ℕ} {e : numbers.Entry} {k : ℕ} (w : Turned authenticated r at e k) (name : List ℕ) (u : Unlike (take (length r - at) (drop at r)) name) where
  pub other_name : same (entry_at r at e).name name ≡ false
  unfolding entry_as name_in walk.placed
  other_name = ap (λ s. same (name_in authenticated s e) name) (sym (rest r at)) ∙ u e

  pub entry-unlike : (state : ℕ) (vendor : List ℕ) → is_entry_def state (keyed name vendor) (entry_at r at e) ≡ false
  entry-unlike state vendor = rw other_name (and-false (eqb (entry_at r at e).header.state state))

module _ {y : Layout} {r : List ℕ} {at : ℕ} {e : numbers.Entry} {k : ℕ} (w : Turned y r at e k) where
  module _ (f : walk.Entry → Bool) where
    pub first-here : f (entry_as y r at e) ≡ true → first f (from_in y r at) ≡ some (entry_as y r at e)
    first-here h = ap (first f) w.walk ∙ rw h

    pub first_next : f (entry_as y r at e) ≡ false → first f (from_in y r at) ≡ first f (from_in y r k)
    first_next h = ap (first f) w.walk ∙ rw h

    pub found_here : f (entry_as y r at e) ≡ true → found_of (first f (from_in y r at)) ≡ placed_at at e
    found_here h = ap found_of (first-here h) ∙ found_at y r at e

    pub found-next : f (entry_as y r at e) ≡ false → found_of (first f (from_in y r at)) ≡ found_of (first f (from_in y r k))
    found-next h = ap found_of (first_next h)

    -- with what was found before
    pub found-hit : (g : Option Placed) {new : Option Placed} → new ≡ else_found g (placed_at at e) → f (entry_as y r at e) ≡ true
        → else_found g (found_of (first f (from_in y r at))) ≡ else_found new (found_of (first f (from_in y r k)))
    found-hit (Some q) p h = rw p
    found-hit None p h = rw p (found_here h)

    pub found-miss : (g : Option Placed) → f (entry_as y r at e) ≡ false
        → else_found g (found_of (first f (from_in y r at))) ≡ else_found g (found_of (first f (from_in y r k)))
    found-miss g h = ap (else_found g) (found-next h)
