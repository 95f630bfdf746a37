-- Of two entries with one state, name and GUID only one can be at their place in a table, since the place is a function of these. So an entry that is at its place is
-- doubled by none passed if these are at theirs.
-- Assumes nothing.
use Rattle.std.proofs.Common.{◌≡◌, ℕ, Bool, true, false, not, ◌&&◌, eqb, List, [], ◌∷◌, ◌++◌, get_or, sym, refl, ap, ◌∙◌, ap₂, arith, eqb-true}
use Rattle.model.specs.declared.Layout.{Layout}
use Rattle.model.specs.Name.{Key, same_key_def}
use Rattle.model.specs.Walk as walk
use Rattle.model.specs.Walk.{state_of, entry_key}
use Rattle.model.specs.Region.{entries_in, live, is_entry_def}
use Rattle.model.proofs.Tests.{and_split, key-eq}
use Rattle.layout.specs.declared.Entry as numbers
use Rattle.region.specs.Walk.{entry_as}
use Rattle.region.specs.Judge.{live_state_def, doubled_in}
use Rattle.region.specs.Marks.{up_to}
use Rattle.region.specs.Sorted.{place_of_def, owns_place_def}
use Rattle.region.proofs.Turns.{Turned}
use Rattle.region.proofs.Passing.{Each, Before, Passing, at_place, doubles, doubled-first, doubled-none, onward}

module _ (form : Layout) (r table : List ℕ) where
  -- the offset at the place of a state, name and GUID
  there : ℕ → Key → ℕ
  there state k = get_or table (place_of_def form r table state (k.vendor ++ k.name)) 65535

  owner : (x : walk.Entry) → live x ≡ true → owns_place_def form r table x ≡ true → there (state_of x) (entry_key x) ≡ x.at
  unfolding owns_place_def there
  owner x l h = eqb-true (get_or table (place_of_def form r table (state_of x) ((entry_key x).vendor ++ (entry_key x).name)) 65535) x.at (rw l at h)

  one-owner : (x y : walk.Entry) → doubles x y ≡ true → owns_place_def form r table x ≡ true → owns_place_def form r table y ≡ true → x.at ≡ y.at
  unfolding doubles
  one-owner x y h own other =
      let p = and_split (live x) (is_entry_def (state_of x) (entry_key x) y) h in
      let q = and_split (eqb (state_of y) (state_of x)) (same_key_def (entry_key y) (entry_key x)) p.1 in
      let s : state_of y ≡ state_of x = eqb-true (state_of y) (state_of x) q.0 in
      let k : entry_key y ≡ entry_key x = key-eq (entry_key y) (entry_key x) q.1 in
      sym (owner x p.0 own) ∙ ap₂ there (sym s) (sym k) ∙ owner y (ap live_state_def s ∙ p.0) other

  alone : (at : ℕ) (x : walk.Entry) → x.at ≡ at → owns_place_def form r table x ≡ true → (p : List walk.Entry)
      → Each (Before (λ e. owns_place_def form r table e ≡ true) at) p → doubled_in x p ≡ false
  alone at x a own [] h = doubled-none x
  alone at x a own (y ∷ p) h = rw (doubled-first x y p, other (doubles x y) refl) (alone at x a own p h.1)
    where
      other : (t : Bool) → doubles x y ≡ t → doubles x y ≡ false
      other false e = e
      other true e = let same = one-owner x y e own h.0.1 in let less = h.0.0 in absurd (omega arith)

  -- while all have been at their places
  abbrev pub Settled : Bool → walk.Entry → Type 0
  Settled settled e = settled ≡ true → owns_place_def form r table e ≡ true

  each-settled : (settled : Bool) → settled ≡ true → (at : ℕ) (p : List walk.Entry) → Each (Before (Settled settled) at) p
      → Each (Before (λ e. owns_place_def form r table e ≡ true) at) p
  each-settled settled s at [] h = tt
  each-settled settled s at (x ∷ p) h = ((h.0.0, h.0.1 s), each-settled settled s at p h.1)

module _ {form : Layout} {r : List ℕ} (table : List ℕ) (settled : Bool) {at : ℕ} (c : Passing form r (Settled form r table settled) at)
    {e : numbers.Entry} {k : ℕ} (w : Turned form r at e k) where
  pub next : (still : Bool) → still ≡ (settled && owns_place_def form r table (entry_as form r at e))
      → (not still && doubled_in (entry_as form r at e) (up_to at (entries_in form r))) ≡ false → Passing form r (Settled form r table still) k
  next still q h =
      let x = entry_as form r at e in
      let parts : still ≡ true → (settled ≡ true) × (owns_place_def form r table x ≡ true) = λ s. and_split settled (owns_place_def form r table x) (sym q ∙ s) in
      onward c w (not still) (λ y n s. n (parts s).0) (λ s. (parts s).1)
      (λ z. let s = held still z in alone form r table at x (at_place form r at e) (parts s).1 c.passed (each-settled form r table settled (parts s).0 at c.passed c.each)) h
    where
      held : (b : Bool) → not b ≡ false → b ≡ true
      held true z = refl
      held false z = sym z
