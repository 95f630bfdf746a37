-- An entry where it stands is the one that the walk places there.
-- Assumes nothing.
use Rattle.std.proofs.Common.{◌≡◌, ℕ, suc, List, [], ◌∷◌, length, drop, refl, sym, ap, ap₂, subst, ◌∙◌, arith}
use Rattle.model.specs.declared.Layout.{Layout}
use Rattle.model.specs.Walk as walk
use Rattle.model.specs.Beside.{from_in}
use Rattle.layout.specs.Head.{numbers_of}
use Rattle.region.specs.Walk.{entry_as, turn_in}
use Rattle.std.specs.Prelude.{Option, Some, None}
use Rattle.region.specs.Stored.{entry_by}
use Rattle.layout.specs.declared.Entry as numbers
use Rattle.region.proofs.Turns.{Turned, at_entry, at-end}

pub first-standing : {y : Layout} {r : List ℕ} {at k : ℕ} {e : numbers.Entry} {s : List ℕ} → Turned y r at e k → s ≡ drop at r
    → from_in y r at ≡ entry_by y at k e s ∷ from_in y r k
unfolding entry_as walk.placed
first-standing {y} {r} {at} {k} {e} w b =
    w.walk ∙ ap (λ (x : walk.Entry). x ∷ from_in y r k) (ap₂ (λ (s : List ℕ) (next : ℕ). entry_by y at next e s) (sym b) w.next)

-- what the list of entries from an offset on tells of its first one: it is the one that stands there, the others stand behind it, and a turn of the walk finds it
pub record Stands (y : Layout) (r : List ℕ) (at : ℕ) (x : walk.Entry) (es : List walk.Entry) : Type 0 where
  pub is : x ≡ entry_as y r at (numbers_of x.header)
  pub rest : es ≡ from_in y r x.next
  pub turn : Turned y r at (numbers_of x.header) x.next

pub standing : {y : Layout} {r : List ℕ} {at : ℕ} {x : walk.Entry} {es : List walk.Entry} → from_in y r at ≡ x ∷ es → Stands y r at x es
unfolding entry_as walk.placed
standing {y} {r} {at} {x} {es} h = go (turn_in y r at) refl
  where
    go : (t : Option (numbers.Entry × ℕ)) → turn_in y r at ≡ t → Stands y r at x es
    go None p = let z : ◌≡◌ {A = List walk.Entry} [] (x ∷ es) = sym (at-end refl p).walk ∙ h in let o : 0 ≡ suc (length es) = ap length z in absurd (omega arith)
    go (Some (e, k)) p =
        let w = at_entry refl p in
        let both : entry_as y r at e ∷ from_in y r k ≡ x ∷ es = sym w.walk ∙ h in
        let own : entry_as y r at e ≡ x = cc in
        let others : from_in y r k ≡ es = cc in
        let n : k ≡ x.next = sym w.next ∙ ap (λ (i : walk.Entry). i.next) own in
        let m : e ≡ numbers_of x.header = ap (λ (i : walk.Entry). numbers_of i.header) own in
        record {
          is = sym own ∙ ap (entry_as y r at) m;
          rest = sym others ∙ ap (from_in y r) n;
          turn = subst (λ j. Turned y r at j x.next) m (subst (Turned y r at e) n w);
        }

-- the entries left are those from an offset on of which something is known
pub record LeftFrom (y : Layout) (r : List ℕ) (es : List walk.Entry) (P : ℕ → Type 0) : Type 0 where
  pub from : ℕ
  pub rest : es ≡ from_in y r from
  pub known : P from

-- the same by its own offset, with what is known of the offset
pub record Here (y : Layout) (r : List ℕ) (x : walk.Entry) (es : List walk.Entry) (P : ℕ → Type 0) : Type 0 where
  pub known : P x.at
  pub is : x ≡ entry_as y r x.at (numbers_of x.header)
  pub rest : es ≡ from_in y r x.next
  pub turn : Turned y r x.at (numbers_of x.header) x.next

pub here : {y : Layout} {r : List ℕ} {at : ℕ} {x : walk.Entry} {es : List walk.Entry} → from_in y r at ≡ x ∷ es → (P : ℕ → Type 0) → P at → Here y r x es P
unfolding entry_as walk.placed
here {y} {r} {at} {x} {es} h P p =
    let n = standing h in
    let b : at ≡ x.at = sym (ap (λ (i : walk.Entry). i.at) n.is) in
    record { known = subst P b p; is = n.is ∙ ap (λ a. entry_as y r a (numbers_of x.header)) b; rest = n.rest; turn = subst (λ a. Turned y r a (numbers_of x.header) x.next) b n.turn }

-- at a turn of a loop over the entries left
pub turned : {y : Layout} {r : List ℕ} {es xs : List walk.Entry} {x : walk.Entry} {P : ℕ → Type 0} → LeftFrom y r es P → es ≡ x ∷ xs → Here y r x xs P
turned {P = P} i h = here (sym i.rest ∙ h) P i.known
