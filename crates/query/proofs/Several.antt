-- Many names sought in one walk: the table leads to every name that an entry may have, since equal names with equal GUIDs have equal marks; and with one entry more a
-- name is met where it was, or there.
-- Assumes nothing.
use Prim.Native.Nat.{ℕ, ◌+◌, ◌≤◌, ◌<◌}
use native.Mathlib.Omega.{arith}
use mathlib.Core.Path.{◌≡◌, refl, sym, ap, ap₂, ◌∙◌}
use mathlib.Core.Bool.{Bool, true, false, cond, ◌&&◌, ◌||◌, or-true, and-true, and-false, true≢false}
use mathlib.Core.List.{List, ◌∷◌}
use Rattle.std.specs.Prelude.{Option, Some, None}
use Rattle.std.specs.Option.{option_or}
use lib.ListN.{length, get_or, set, get_or-replicate}
use lib.Seq.{get_or-set_same, get_or-set_other}
use lib.Dec.{eqb, leb, ltb}
use borrow.Author.Tests.{eqb-true, eqb-false, eq-eqb, ne_eqb, le-leb, lt-ltb, le-ltb, leb-true, ltb-true, ltb-false}
use Rattle.model.specs.Layout.{authenticated}
use Rattle.model.specs.Lists.{first}
use Rattle.model.specs.Name.{same_key_def}
use Rattle.model.specs.Image.{region_header_size}
use Rattle.model.specs.Walk.{Entry, state_of, entry_key, placed}
use Rattle.model.specs.Region.{entries, is_entry_def, added, replacing}
use Rattle.model.specs.Beside.{from_in}
use Rattle.model.proofs.Tests.{and_split, or_split, true-and}
use Rattle.model.proofs.Walking.{entries_from}
use Rattle.layout.specs.declared.Entry as numbers
use Rattle.region.specs.Walk.{entry_as, entry_at}
use Rattle.region.specs.Judge.{live_state_def}
use Rattle.region.specs.Marks.{key_mark, mark_at}
use Rattle.region.specs.Met.{key_from, is_sought_def, offset_of, met_of}
use Rattle.region.specs.declared.Mark.{Mark}
use Rattle.region.specs.declared.Met.{Met}
use Rattle.region.proofs.Turns.{Turned, Ended}
use Rattle.region.proofs.Passing.{at_place}
use Rattle.region.proofs.Marked.{sought-mark}
use Rattle.query.specs.Many.{key_bytes, is_asked_def, leads, Indexed, within, first_of, noted_at, unmet, none_met_def, NotedIn, Noted, met_as, AllMet}
use Rattle.query.specs.declared.many.Offsets.{Offsets}

-- ---- the table

-- what a place tells once a name is there
abbrev pub taking : ℕ → ℕ → ℕ
taking old k = cond (eqb old 0) (k + 1) 255

leads-own : (old k : ℕ) → leads (taking old k) k ≡ true
unfolding leads
leads-own old k = go (eqb old 0) refl
  where
    go : (t : Bool) → eqb old 0 ≡ t → leads (taking old k) k ≡ true
    go true z = rw (z, eq-eqb (k + 1) (k + 1) refl)
    go false z = rw z (or-true (eqb 255 (k + 1)))

leads-still : (old k j : ℕ) → leads old j ≡ true → leads (taking old k) j ≡ true
unfolding leads
leads-still old k j h = go (eqb old 0) refl
  where
    go : (t : Bool) → eqb old 0 ≡ t → leads (taking old k) j ≡ true
    go true z =
        let none : old ≡ 0 = eqb-true old 0 z in
        let no : leads old j ≡ false = rw (none, ne_eqb 0 (j + 1) (λ e. omega arith)) in
        absurd (true≢false (sym h ∙ no))
    go false z = rw z (or-true (eqb 255 (j + 1)))

pub indexed-next : {keys sizes table : List ℕ} {k : ℕ} → Indexed keys sizes table k → (p : ℕ) → p < length table → p ≡ (key_mark (key_bytes keys sizes k)).place
    → {new : ℕ} → new ≡ taking (get_or table p 0) k → Indexed keys sizes (set table p new) (k + 1)
indexed-next {keys} {sizes} {table} {k} i p l q {new} n = record { leading = λ j h. at j h (eqb j k) refl }
  where
    other : (j : ℕ) → leads (get_or table (key_mark (key_bytes keys sizes j)).place 0) j ≡ true → (t : Bool) → eqb (key_mark (key_bytes keys sizes j)).place p ≡ t
        → leads (get_or (set table p new) (key_mark (key_bytes keys sizes j)).place 0) j ≡ true
    other j h true e =
        let same : (key_mark (key_bytes keys sizes j)).place ≡ p = eqb-true _ p e in
        rw (same, get_or-set_same table p new 0 l, n) (leads-still (get_or table p 0) k j (rw (← same) h))
    other j h false e = rw (get_or-set_other table p (key_mark (key_bytes keys sizes j)).place new 0 (eqb-false _ p e)) h

    at : (j : ℕ) → j < k + 1 → (t : Bool) → eqb j k ≡ t → leads (get_or (set table p new) (key_mark (key_bytes keys sizes j)).place 0) j ≡ true
    at j h true e =
        let same : j ≡ k = eqb-true j k e in
        rw (same, ← q, get_or-set_same table p new 0 l, n) (leads-own (get_or table p 0) k)
    at j h false e = other j (i.leading j (let d = eqb-false j k e in omega (arith, d))) (eqb (key_mark (key_bytes keys sizes j)).place p) refl

-- ---- a range of names

-- to a name the table leads by its number and one more, if not by what leads to all
led-number : (told k : ℕ) → leads told k ≡ true → (told ≡ 255 → ⊥) → told ≡ k + 1
unfolding leads
led-number told k h n = go (eqb told (k + 1)) refl h
  where
    go : (t : Bool) → eqb told (k + 1) ≡ t → (t || eqb told 255) ≡ true → told ≡ k + 1
    go true z h = eqb-true told (k + 1) z
    go false z h = absurd (n (eqb-true told 255 h))

pub led-none : (told k : ℕ) → leads told k ≡ true → (told ≡ 255 → ⊥) → told ≡ 0 → within 0 0 k ≡ true
led-none told k h n z = let e = led-number told k h n in absurd (omega arith)

within_none : (start k : ℕ) → within start start k ≡ false
unfolding within
within_none start k = go (leb start k) refl
  where
    go : (t : Bool) → leb start k ≡ t → (t && ltb k start) ≡ false
    go true z = le-ltb k start (leb-true start k z)
    go false z = refl

within-last : (start end : ℕ) → start ≤ end → within start (end + 1) end ≡ true
unfolding within
within-last start end h = true-and (le-leb start end h) (lt-ltb end (end + 1) (omega arith))

within_end : (start end : ℕ) → within start end end ≡ false
unfolding within
within_end start end = go (leb start end) refl
  where
    go : (t : Bool) → leb start end ≡ t → (t && ltb end end) ≡ false
    go true z = le-ltb end end (omega arith)
    go false z = refl

within-other : (start end k : ℕ) → (k ≡ end → ⊥) → within start (end + 1) k ≡ within start end k
unfolding within
within-other start end k n = ap (λ (t : Bool). leb start k && t) (go (ltb k end) refl)
  where
    go : (t : Bool) → ltb k end ≡ t → ltb k (end + 1) ≡ ltb k end
    go true z = let l = ltb-true k end z in lt-ltb k (end + 1) (omega arith) ∙ sym z
    go false z = let l = ltb-false k end z in le-ltb k (end + 1) (omega (arith, n)) ∙ sym z

-- ---- an entry noted for names

module _ (keys sizes r : List ℕ) (at : ℕ) (e : numbers.Entry) where
  pub noted-none : (start : ℕ) (old : List Offsets) → NotedIn keys sizes r at e start start old old
  unfolding first_of
  noted-none start old = record { each = λ k. sym (rw (within_none start k)) }

  -- one name more, of which the entry is one
  pub noted-next : {start end : ℕ} {old new : List Offsets} → NotedIn keys sizes r at e start end old new → start ≤ end → end < length new
      → {v : Offsets} → v ≡ noted_at (is_asked_def 0x3F keys sizes end (entry_at r at e)) (is_asked_def 0x3E keys sizes end (entry_at r at e)) at (get_or new end unmet)
      → NotedIn keys sizes r at e start (end + 1) old (set new end v)
  unfolding first_of
  noted-next {start} {end} {old} {new} n s l {v} q = record { each = λ k. go k (eqb k end) refl }
    where
      go : (k : ℕ) (t : Bool) → eqb k end ≡ t → get_or (set new end v) k unmet
          ≡ noted_at (within start (end + 1) k && is_asked_def 0x3F keys sizes k (entry_at r at e)) (within start (end + 1) k && is_asked_def 0x3E keys sizes k (entry_at r at e)) at (get_or old k unmet)
      go k true z =
          let same : k ≡ end = eqb-true k end z in
          let before : get_or new end unmet ≡ get_or old end unmet = n.each end ∙ rw (within_end start end) in
          rw (same, get_or-set_same new end v unmet l, within-last start end s, ← before) q
      go k false z =
          let other = eqb-false k end z in
          rw (get_or-set_other new end k v unmet other, within-other start end k other) (n.each k)

  -- or is none
  pub noted-pass : {start end : ℕ} {old new : List Offsets} → NotedIn keys sizes r at e start end old new → start ≤ end
      → is_asked_def 0x3F keys sizes end (entry_at r at e) ≡ false → is_asked_def 0x3E keys sizes end (entry_at r at e) ≡ false
      → NotedIn keys sizes r at e start (end + 1) old new
  unfolding first_of
  noted-pass {start} {end} {old} {new} n s a b = record { each = λ k. go k (eqb k end) refl }
    where
      go : (k : ℕ) (t : Bool) → eqb k end ≡ t → get_or new k unmet
          ≡ noted_at (within start (end + 1) k && is_asked_def 0x3F keys sizes k (entry_at r at e)) (within start (end + 1) k && is_asked_def 0x3E keys sizes k (entry_at r at e)) at (get_or old k unmet)
      go k true z =
          let same : k ≡ end = eqb-true k end z in
          rw (same, within-last start end s, a, b) (n.each end ∙ rw (within_end start end))
      go k false z = rw (within-other start end k (eqb-false k end z)) (n.each k)

  -- by the name and GUID
  pub asked-named : (k : ℕ) → same_key_def (entry_key (entry_at r at e)) (key_from (key_bytes keys sizes k)) ≡ true → (state : ℕ)
      → is_asked_def state keys sizes k (entry_at r at e) ≡ eqb e.state state
  unfolding is_asked_def entry_as placed
  asked-named k h state = rw h (and-true (eqb e.state state))

  pub asked-other : (k : ℕ) → same_key_def (entry_key (entry_at r at e)) (key_from (key_bytes keys sizes k)) ≡ false → (state : ℕ)
      → is_asked_def state keys sizes k (entry_at r at e) ≡ false
  unfolding is_asked_def
  asked-other k h state = rw h (and-false (eqb (state_of (entry_at r at e)) state))

  -- an entry that is not live
  pub noted_other : live_state_def e.state ≡ false → (old : List Offsets) → Noted keys sizes r at e old old
  unfolding is_asked_def first_of entry_as placed
  noted_other h old = let s = or_split (eqb e.state 0x3F) (eqb e.state 0x3E) h in record { each = λ k l. sym (rw (s.0, s.1)) }

-- of a live entry the name and GUID decide
pub sought-entry : (r : List ℕ) (at : ℕ) (e : numbers.Entry) (key : List ℕ) → live_state_def e.state ≡ true
    → is_sought_def (key_from key) (entry_at r at e) ≡ same_key_def (entry_key (entry_at r at e)) (key_from key)
unfolding entry_as placed
sought-entry r at e key l = rw l

-- for all names that the table leads to, and so for all
module _ (keys sizes r : List ℕ) (at : ℕ) (e : numbers.Entry) (start end told : ℕ)
    (sought : (k : ℕ) → k < length sizes → is_sought_def (key_from (key_bytes keys sizes k)) (entry_at r at e) ≡ true → leads told k ≡ true)
    (led : (k : ℕ) → k < length sizes → leads told k ≡ true → within start end k ≡ true) where
  within-asked : (state : ℕ) → live_state_def state ≡ true → (k : ℕ) → k < length sizes
      → (within start end k && is_asked_def state keys sizes k (entry_at r at e)) ≡ is_asked_def state keys sizes k (entry_at r at e)
  unfolding is_asked_def
  within-asked state alive k h = go (is_entry_def state (key_from (key_bytes keys sizes k)) (entry_at r at e)) refl
    where
      go : (t : Bool) → is_entry_def state (key_from (key_bytes keys sizes k)) (entry_at r at e) ≡ t
          → (within start end k && is_asked_def state keys sizes k (entry_at r at e)) ≡ is_asked_def state keys sizes k (entry_at r at e)
      go true z =
          let x = entry_at r at e in
          let p = and_split (eqb (state_of x) state) (same_key_def (entry_key x) (key_from (key_bytes keys sizes k))) z in
          let live : live_state_def (state_of x) ≡ true = ap live_state_def (eqb-true (state_of x) state p.0) ∙ alive in
          rw (led k h (sought k h (true-and live p.1))) refl
      go false z = rw z (and-false (within start end k))

  pub noted-all : {old new : List Offsets} → NotedIn keys sizes r at e start end old new → Noted keys sizes r at e old new
  noted-all {old} n = record { each = λ k h. n.each k ∙ ap₂ (λ (t u : Bool). noted_at t u at (get_or old k unmet)) (within-asked 0x3F refl k h) (within-asked 0x3E refl k h) }

-- where the table leads to none
pub noted-nowhere : (keys sizes r : List ℕ) (at : ℕ) (e : numbers.Entry) (told : ℕ)
    → ((k : ℕ) → k < length sizes → is_sought_def (key_from (key_bytes keys sizes k)) (entry_at r at e) ≡ true → leads told k ≡ true)
    → told ≡ 0 → (old : List Offsets) → Noted keys sizes r at e old old
noted-nowhere keys sizes r at e told sought z old =
    noted-all keys sizes r at e 0 0 told sought (λ k h l. led-none told k l (λ q. absurd (omega arith)) z) (noted-none keys sizes r at e 0 old)

-- an entry leads to each name that it has
pub sought-leads : (keys sizes table r : List ℕ) (at : ℕ) (e : numbers.Entry) (m : Mark) → m ≡ mark_at (entry_at r at e) → Indexed keys sizes table (length sizes)
    → (k : ℕ) → k < length sizes → is_sought_def (key_from (key_bytes keys sizes k)) (entry_at r at e) ≡ true → leads (get_or table m.place 0) k ≡ true
sought-leads keys sizes table r at e m q i k h s =
    let same : m ≡ key_mark (key_bytes keys sizes k) = q ∙ sought-mark (key_bytes keys sizes k) (entry_at r at e) s in
    rw same (i.leading k h)

-- ---- the walk

-- the first of those met and those to come
abbrev later_met : Met → Met → Met
later_met m n = record { added = option_or m.added n.added; replacing = option_or m.replacing n.replacing }

-- where each name is met in the whole region is where it was met, or else where it is met from an offset on
pub record Ahead (keys sizes r : List ℕ) (found : List Offsets) (at : ℕ) : Type 0 where
  pub met : (k : ℕ) → k < length sizes
      → later_met (met_as (get_or found k unmet)) (met_of (key_from (key_bytes keys sizes k)) (from_in authenticated r at)) ≡ met_of (key_from (key_bytes keys sizes k)) (entries r)

none-there : (k : ℕ) → k < 64 → get_or none_met_def k unmet ≡ unmet
unfolding none_met_def
none-there k h = get_or-replicate 64 k unmet unmet h

pub none-long : length none_met_def ≡ 64
unfolding none_met_def
none-long = refl

pub ahead-begin : (keys sizes r : List ℕ) {found : List Offsets} → found ≡ none_met_def → length sizes ≤ 64 → Ahead keys sizes r found region_header_size
ahead-begin keys sizes r a l = record {
  met = λ k h.
      let z = none-there k (omega arith) in
      rw (a, z, entries_from authenticated r) refl;
}

module _ {keys sizes r : List ℕ} {found : List Offsets} {at : ℕ} (c : Ahead keys sizes r found at) where
  pub ahead-end : Ended authenticated r at → AllMet keys sizes r found
  unfolding met_of added replacing
  ahead-end z = record { met = λ k h. at_last k ∙ c.met k h }
    where
      last : (a : Option ℕ) → a ≡ option_or a None
      last (Some n) = refl
      last None = refl

      at_last : (k : ℕ) → met_as (get_or found k unmet) ≡ later_met (met_as (get_or found k unmet)) (met_of (key_from (key_bytes keys sizes k)) (from_in authenticated r at))
      at_last k = rw z.walk (ap₂ (λ (i j : Option ℕ). record { added = i; replacing = j }) (last (get_or found k unmet).added) (last (get_or found k unmet).replacing))

  module _ {e : numbers.Entry} {n : ℕ} (w : Turned authenticated r at e n) where
    one_more : (f : Entry → Bool) (a : Option ℕ)
        → option_or (first_of (f (entry_at r at e)) at a) (offset_of (first f (from_in authenticated r n))) ≡ option_or a (offset_of (first f (from_in authenticated r at)))
    unfolding first_of
    one_more f a = rw w.walk (go (f (entry_at r at e)) refl a)
      where
        go : (t : Bool) → f (entry_at r at e) ≡ t → (b : Option ℕ)
            → option_or (first_of (f (entry_at r at e)) at b) (offset_of (first f (from_in authenticated r n))) ≡ option_or b (offset_of (first f (entry_at r at e ∷ from_in authenticated r n)))
        go true p None = rw p (ap Some (sym (at_place authenticated r at e)))
        go true p (Some b) = rw p
        go false p b = rw p

    pub ahead-next : {new : List Offsets} → Noted keys sizes r at e found new → Ahead keys sizes r new n
    unfolding met_of added replacing is_asked_def
    ahead-next a = record {
      met = λ k h.
          let key = key_from (key_bytes keys sizes k) in
          rw (a.each k h)
          (ap₂ (λ (i j : Option ℕ). record { added = i; replacing = j }) (one_more (is_entry_def 0x3F key) (get_or found k unmet).added) (one_more (is_entry_def 0x3E key) (get_or found k unmet).replacing) ∙ c.met k h);
    }
