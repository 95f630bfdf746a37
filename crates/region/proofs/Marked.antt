-- An entry whose mark none passed has is doubled by none of them, since a mark is a function of state, name and GUID. If it is not the mark of a sought name either, the
-- entry is not of that name.
-- Assumes nothing.
use Rattle.std.proofs.Common.{◌≡◌, ℕ, ◌-◌, ◌<◌, Bool, true, false, ◌&&◌, eqb, ◌≢◌, List, [], ◌∷◌, ◌++◌, length, get_or, take, drop, set, sym, refl, ap, ◌∙◌, subst, ap₂, true≢false, arith, length-set, take-append-drop, get_or-set_other, get_or-set_same, eq-eqb, ne_eqb, eqb-true}
use mathlib.Core.Bool.{or-true}
use borrow.Author.Tests.{eqb-false}
use Rattle.model.specs.declared.Layout.{Layout}
use Rattle.model.specs.Name.{Key, same_key_def}
use Rattle.model.specs.Image.{region_header_size}
use Rattle.model.specs.Entry.{header_fields_in}
use Rattle.model.specs.Walk as walk
use Rattle.model.specs.Walk.{state_of, entry_key}
use Rattle.model.specs.Region.{entries_in, live, is_entry_def}
use Rattle.model.proofs.Tests.{and_split, key-eq}
use Rattle.layout.specs.Head.{name_in}
use Rattle.layout.specs.declared.Entry as numbers
use Rattle.region.specs.Walk.{entry_as}
use Rattle.region.specs.Judge.{live_state_def, doubled_in}
use Rattle.region.specs.Marks.{key_mark, dead_mark, mark_of, mark_at, mark_in, no_marks_def, is_noted_def, note, up_to}
use Rattle.region.specs.Met.{key_from, is_sought_def, nowhere, met_by, met_at_def}
use Rattle.std.specs.Option.{is_some}
use Rattle.region.specs.declared.Mark.{Mark}
use Rattle.region.specs.declared.Met.{Met}
use Rattle.region.proofs.Turns.{rest, Turned}
use Rattle.region.proofs.Passing.{Each, Before, Passing, doubles, doubled-first, doubled-none, start, onward}
use Rattle.region.proofs.Meetings.{Meets, meets-begin, meets-other, meets-own, met-doubled}

-- ---- the mark of an entry

module _ (form : Layout) (s : List ℕ) (e : numbers.Entry) where
  pub live-mark : live_state_def e.state ≡ true → mark_in form s e ≡ key_mark ((header_fields_in form s).vendor ++ name_in form s e)
  unfolding mark_in mark_of
  live-mark l = rw l

-- the mark made of the part that `&r[at..]` lends is that of the entry
pub here-mark : (form : Layout) (r : List ℕ) (at : ℕ) (e : numbers.Entry) → mark_in form (take (length r - at) (drop at r)) e ≡ mark_at (entry_as form r at e)
unfolding mark_in mark_at entry_as name_in walk.placed
here-mark form r at e = ap (λ s. mark_in form s e) (rest r at)

signed : (state : ℕ) (k : Key) → (mark_of state k).sign ≢ 0
unfolding mark_of key_mark dead_mark
signed state k = go (live_state_def state) refl
  where
    go : (t : Bool) → live_state_def state ≡ t → (mark_of state k).sign ≢ 0
    go true l = rw l (λ z. omega arith)
    go false l = rw l (λ z. omega arith)

key-signed : (key : List ℕ) → (key_mark key).sign ≢ 0
unfolding key_mark
key-signed key z = absurd (omega arith)

-- an entry of the name that bytes tell has the mark of these
pub sought-mark : (key : List ℕ) (x : walk.Entry) → is_sought_def (key_from key) x ≡ true → mark_at x ≡ key_mark key
unfolding mark_at mark_of
sought-mark key x h =
    let p = and_split (live x) (same_key_def (entry_key x) (key_from key)) h in
    ap (mark_of (state_of x)) (key-eq (entry_key x) (key_from key) p.1) ∙ rw p.0 (ap key_mark (take-append-drop 16 key))

-- ---- what is noted at a place

-- a sign that is noted stays noted
note-keeps : (v g h : ℕ) → is_noted_def v h ≡ true → is_noted_def (note v g) h ≡ true
unfolding is_noted_def note
note-keeps v g h n = go (eqb v 0) refl (eqb v g) refl
  where
    go : (t : Bool) → eqb v 0 ≡ t → (u : Bool) → eqb v g ≡ u → is_noted_def (note v g) h ≡ true
    go true z u e = absurd (true≢false (sym n ∙ rw z))
    go false z true e = rw (z, e) (rw (← eqb-true v g e) n)
    go false z false e = rw (z, e) (or-true (eqb 1 h))

noted-alone : (g : ℕ) → g ≢ 0 → is_noted_def g g ≡ true
unfolding is_noted_def
noted-alone g k = rw (ne_eqb g 0 k, eq-eqb g g refl)

-- a sign that is met is noted
note-own : (v g : ℕ) → g ≢ 0 → is_noted_def (note v g) g ≡ true
unfolding is_noted_def note
note-own v g k = go (eqb v 0) refl (eqb v g) refl
  where
    go : (t : Bool) → eqb v 0 ≡ t → (u : Bool) → eqb v g ≡ u → is_noted_def (note v g) g ≡ true
    go true z u e = rw (z, ne_eqb g 0 k, eq-eqb g g refl)
    go false z true e = rw (z, e, ne_eqb g 0 k, eq-eqb g g refl)
    go false z false e = rw (z, e) (or-true (eqb 1 g))

-- ---- what is known of every entry passed

-- by a table its mark is noted
abbrev pub Seen : List ℕ → Mark → Type 0
Seen noted m = is_noted_def (get_or noted m.place 0) m.sign ≡ true

abbrev pub Noted : List ℕ → walk.Entry → Type 0
Noted noted e = Seen noted (mark_at e)

-- of equal state, name and GUID, and so of equal mark
same-mark : (x y : walk.Entry) → doubles x y ≡ true → mark_at y ≡ mark_at x
unfolding doubles mark_at
same-mark x y h =
    let p = and_split (live x) (is_entry_def (state_of x) (entry_key x) y) h in
    let q = and_split (eqb (state_of y) (state_of x)) (same_key_def (entry_key y) (entry_key x)) p.1 in
    ap₂ mark_of (eqb-true (state_of y) (state_of x) q.0) (key-eq (entry_key y) (entry_key x) q.1)

unseen : (noted : List ℕ) (at : ℕ) (x : walk.Entry) → is_noted_def (get_or noted (mark_at x).place 0) (mark_at x).sign ≡ false
    → (p : List walk.Entry) → Each (Before (Noted noted) at) p → doubled_in x p ≡ false
unseen noted at x z [] h = doubled-none x
unseen noted at x z (y ∷ p) h = rw (doubled-first x y p, other (doubles x y) refl) (unseen noted at x z p h.1)
  where
    other : (t : Bool) → doubles x y ≡ t → doubles x y ≡ false
    other true e =
        absurd (true≢false (sym h.0.1 ∙ ap (λ (m : Mark). is_noted_def (get_or noted m.place 0) m.sign) (same-mark x y e) ∙ z))
    other false e = e

-- the table once a mark is met
abbrev pub noting : List ℕ → Mark → List ℕ
noting noted m = set noted m.place (note (get_or noted m.place 0) m.sign)

noting-keeps : (noted : List ℕ) (m y : Mark) → m.place < length noted → Seen noted y → Seen (noting noted m) y
noting-keeps noted m y h k = go (eqb y.place m.place) refl
  where
    go : (t : Bool) → eqb y.place m.place ≡ t → Seen (noting noted m) y
    go true e =
        let same : y.place ≡ m.place = eqb-true y.place m.place e in
        rw (same, get_or-set_same noted m.place (note (get_or noted m.place 0) m.sign) 0 h)
        (note-keeps (get_or noted m.place 0) m.sign y.sign (rw (← same) k))
    go false e = rw (get_or-set_other noted m.place y.place (note (get_or noted m.place 0) m.sign) 0 (eqb-false y.place m.place e)) k

noting-own : (noted : List ℕ) (m : Mark) → m.place < length noted → m.sign ≢ 0 → Seen (noting noted m) m
noting-own noted m h k =
    rw (get_or-set_same noted m.place (note (get_or noted m.place 0) m.sign) 0 h) (note-own (get_or noted m.place 0) m.sign k)

-- the mark of the sought name being noted, an entry whose mark is not has another name
unsought : (noted key : List ℕ) (x : walk.Entry) → Seen noted (key_mark key) → is_noted_def (get_or noted (mark_at x).place 0) (mark_at x).sign ≡ false
    → is_sought_def (key_from key) x ≡ false
unsought noted key x own z = go (is_sought_def (key_from key) x) refl
  where
    go : (t : Bool) → is_sought_def (key_from key) x ≡ t → is_sought_def (key_from key) x ≡ false
    go true e = absurd (true≢false (sym own ∙ ap (λ (m : Mark). is_noted_def (get_or noted m.place 0) m.sign) (sym (sought-mark key x e)) ∙ z))
    go false e = e

-- ---- the loop

-- the entries passed, of which each is noted, and where the sought name is met among them; its mark is noted as if it had come before all
pub record Passed (form : Layout) (r key noted : List ℕ) (met : Met) (at : ℕ) : Type 0 where
  pub passing : Passing form r (Noted noted) at
  pub size : length noted ≡ 1280
  pub own : Seen noted (key_mark key)
  pub meets : Meets form r (key_from key) met at

none-noted : length no_marks_def ≡ 1280
unfolding no_marks_def
none-noted = refl

pub begin : (form : Layout) (r key : List ℕ) (m : Mark) → m ≡ key_mark key → m.place < 1280
    → Passed form r key (set no_marks_def m.place m.sign) nowhere region_header_size
begin form r key m q b =
    let room : m.place < length no_marks_def = rw none-noted b in
    let sign : m.sign ≢ 0 = rw q (key-signed key) in
    let there = get_or-set_same no_marks_def m.place m.sign 0 room in
    record {
      passing = start form r (Noted (set no_marks_def m.place m.sign));
      size = length-set no_marks_def m.place m.sign ∙ none-noted;
      own = subst (λ (x : Mark). Seen (set no_marks_def m.place m.sign) x) q (ap (λ (v : ℕ). is_noted_def v m.sign) there ∙ noted-alone m.sign sign);
      meets = meets-begin form r (key_from key);
    }

module _ {form : Layout} {r key noted : List ℕ} {met : Met} {at : ℕ} (c : Passed form r key noted met at) {e : numbers.Entry} {k : ℕ} (w : Turned form r at e k) where
  -- an entry that is neither doubled nor of the sought name, be it that its mark says so
  pub next : (m : Mark) → m ≡ mark_at (entry_as form r at e) → m.place < 1280
      → (is_noted_def (get_or noted m.place 0) m.sign && doubled_in (entry_as form r at e) (up_to at (entries_in form r))) ≡ false
      → (is_noted_def (get_or noted m.place 0) m.sign && is_sought_def (key_from key) (entry_as form r at e)) ≡ false
      → Passed form r key (noting noted m) met k
  unfolding mark_at
  next m q b h s =
      let x = entry_as form r at e in
      let room : m.place < length noted = rw c.size b in
      let sign : m.sign ≢ 0 = rw q (signed (state_of x) (entry_key x)) in
      record {
        passing = onward c.passing w (is_noted_def (get_or noted m.place 0) m.sign) (λ y n. noting-keeps noted m (mark_at y) room n)
            (rw (← q) (noting-own noted m room sign))
            (λ z. unseen noted at x (rw (← q) z) c.passing.passed c.passing.each) h;
        size = length-set noted m.place (note (get_or noted m.place 0) m.sign) ∙ c.size;
        own = noting-keeps noted m (key_mark key) room c.own;
        meets = meets-other c.passing c.meets w (other (is_noted_def (get_or noted m.place 0) m.sign) refl s);
      }
    where
      other : (t : Bool) → is_noted_def (get_or noted m.place 0) m.sign ≡ t → (t && is_sought_def (key_from key) (entry_as form r at e)) ≡ false
          → is_sought_def (key_from key) (entry_as form r at e) ≡ false
      other true z s = s
      other false z s = unsought noted key (entry_as form r at e) c.own (rw (← q) z)

  -- the first name of its place
  pub next-first : (m : Mark) → m ≡ mark_at (entry_as form r at e) → m.place < 1280 → get_or noted m.place 0 ≡ 0
      → Passed form r key (set noted m.place m.sign) met k
  unfolding note is_noted_def
  next-first m q b z =
      let n : note (get_or noted m.place 0) m.sign ≡ m.sign = rw z in
      subst (λ (v : ℕ). Passed form r key (set noted m.place v) met k) n (next m q b (rw z) (rw z))

  -- an entry of the sought name, which was not met in its state
  pub next-sought : (m : Mark) → m ≡ mark_at (entry_as form r at e) → is_noted_def (get_or noted m.place 0) m.sign ≡ true
      → is_sought_def (key_from key) (entry_as form r at e) ≡ true → is_some (met_by e.state met) ≡ false
      → Passed form r key noted (met_at_def e.state at met) k
  next-sought m q n s z =
      record {
        passing = onward c.passing w true (λ y h. h) (rw (← q) n) (λ h. absurd (true≢false h)) (met-doubled c.meets e s ∙ z);
        size = c.size;
        own = c.own;
        meets = meets-own c.passing c.meets w s z;
      }
