-- The name of an entry is a part of the bytes, which stands behind the GUID. So GUID and name are one part, and a word of the name stands among the bytes.
-- Assumes nothing.
use Prim.Native.Nat.{ℕ, zero, suc, ◌+◌, ◌-◌, ◌≤◌, ◌<◌}
use native.Mathlib.Nat.{zero-add, suc-add}
use native.Mathlib.Omega.{arith}
use mathlib.Core.Path.{◌≡◌, refl, sym, ap, ◌∙◌}
use mathlib.Core.Logic.{◌≢◌}
use mathlib.Core.Bool.{Bool, true, false}
use mathlib.Core.List.{List, [], ◌∷◌, ◌++◌, append-nil}
use lib.ListN.{length, get_or, take, drop, length-take, length-drop}
use lib.Dec.{eqb}
use lib.Seq.{drop-drop, take-nil, get_or-take, get_or-drop}
use borrow.Author.Tests.{eq-eqb, ne_eqb, eqb-true, eqb-false, le-leb, lt-leb}
use Rattle.model.specs.declared.Layout.{Layout}
use Rattle.model.specs.Layout.{authenticated, header_length, vendor_at}
use Rattle.model.specs.Lists.{part, same}
use Rattle.model.specs.Entry.{header_fields_in}
use Rattle.model.specs.Walk.{placed}
use Rattle.model.proofs.Tests.{same-eq}
use Rattle.slices.specs.Agree.{four_at}
use Rattle.layout.specs.Head.{name_in, may_be_def, Unlike}
use Rattle.layout.specs.declared.Entry.{Entry}

module _ (y : Layout) (s : List ℕ) (e : Entry) where
  pub unnamed : e.state ≡ 0xFF → name_in y s e ≡ []
  unfolding name_in placed
  unnamed h = rw (eq-eqb e.state 0xFF h)

  pub named : e.state ≢ 0xFF → name_in y s e ≡ part (header_length y) e.name s
  unfolding name_in placed
  named h = rw (ne_eqb e.state 0xFF h)

-- ---- GUID and name

take-plus : (a b : ℕ) (l : List ℕ) → take (a + b) l ≡ take a l ++ take b (drop a l)
take-plus zero b l = ap (λ k. take k l) (zero-add b)
take-plus (suc a) b [] = take-nil (suc a + b) ∙ sym (take-nil b)
take-plus (suc a) b (x ∷ l) = ap (λ k. take k (x ∷ l)) (suc-add a b) ∙ ap (λ r. x ∷ r) (take-plus a b l)

module _ (y : Layout) (s : List ℕ) (e : Entry) where
  pub unnamed-key : e.state ≡ 0xFF → part (vendor_at y) 16 s ≡ (header_fields_in y s).vendor ++ name_in y s e
  unfolding header_fields_in
  unnamed-key h = rw (unnamed y s e h) (sym (append-nil (part (vendor_at y) 16 s)))

  pub named-key : e.state ≢ 0xFF → part (vendor_at y) (16 + e.name) s ≡ (header_fields_in y s).vendor ++ name_in y s e
  unfolding header_fields_in
  named-key h =
      take-plus 16 e.name (drop (vendor_at y) s)
      ∙ ap (λ (r : List ℕ). part (vendor_at y) 16 s ++ r)
      (ap (take e.name) (drop-drop 16 (vendor_at y) s ∙ ap (λ (k : ℕ). drop k s) (let k : vendor_at y + 16 ≡ header_length y = omega arith in k))
      ∙ sym (named y s e h))

-- ---- a word of the name

module _ (s : List ℕ) (a m : ℕ) where
  part-byte : (i k : ℕ) → i < length (part a m s) → k ≡ a + i → get_or (part a m s) i 0 ≡ get_or s k 0
  part-byte i k h e =
      let l = simp length-take at h in
      get_or-take m (drop a s) i 0 (omega arith) ∙ get_or-drop a s i 0 ∙ ap (λ x. get_or s x 0) (sym e)

  part-four : (i k : ℕ) → i + 4 ≤ length (part a m s) → k ≡ a + i → four_at (part a m s) i ≡ four_at s k
  unfolding four_at
  part-four i k h e =
      let l = simp (length-take, length-drop) at h in
      let long : k + 4 ≤ length s = omega arith in
      rw (
        le-leb (i + 4) (length (part a m s)) h,
        le-leb (k + 4) (length s) long,
        part-byte i k (omega arith) e,
        part-byte (i + 1) (k + 1) (omega arith) (omega arith),
        part-byte (i + 2) (k + 2) (omega arith) (omega arith),
        part-byte (i + 2 + 1) (k + 2 + 1) (omega arith) (omega arith),
      )

-- where a word of a name does not stand, the entry has another
pub unlike : (s name : List ℕ) (i k : ℕ) → k ≡ 60 + i → i + 4 ≤ length name → (four_at s k ≡ four_at name i → ⊥) → Unlike s name
unlike s name i k place h d e = go (same (name_in authenticated s e) name) refl (eqb e.state 0xFF) refl
  where
    go : (t : Bool) → same (name_in authenticated s e) name ≡ t → (u : Bool) → eqb e.state 0xFF ≡ u → same (name_in authenticated s e) name ≡ false
    go false q u f = q
    go true q true f =
        let own = sym (unnamed authenticated s e (eqb-true e.state 0xFF f)) ∙ same-eq (name_in authenticated s e) name q in
        let long = ap length own in
        absurd (omega arith)
    go true q false f =
        let own = sym (named authenticated s e (eqb-false e.state 0xFF f)) ∙ same-eq (name_in authenticated s e) name q in
        let long : i + 4 ≤ length (part 60 e.name s) = rw own h in
        absurd (d (sym (part-four s 60 e.name i k long place) ∙ ap (λ l. four_at l i) own))

-- ---- the words at the end and at the front of a name

module _ (s name : List ℕ) where
  pub may-short : length name < 4 → true ≡ may_be_def s name
  unfolding may_be_def
  may-short h = rw (lt-leb 4 (length name) h)

  module _ (h : 4 ≤ length name) where
    pub may-front : four_at s (60 + (length name - 4)) ≡ four_at name (length name - 4) → eqb (four_at s 60) (four_at name 0) ≡ may_be_def s name
    unfolding may_be_def
    may-front e = rw (le-leb 4 (length name) h, eq-eqb (four_at s (60 + (length name - 4))) (four_at name (length name - 4)) e)

    pub may-not : four_at s (60 + (length name - 4)) ≢ four_at name (length name - 4) → false ≡ may_be_def s name
    unfolding may_be_def
    may-not d = rw (le-leb 4 (length name) h, ne_eqb (four_at s (60 + (length name - 4))) (four_at name (length name - 4)) d)
