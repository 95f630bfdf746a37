-- Where a sought name is met among the entries passed: with one more it is met where it was, or there. By that it is known whether an entry of the sought name is doubled.
-- Assumes nothing.
use Rattle.std.proofs.Common.{◌≡◌, ℕ, ◌+◌, ◌≤◌, Bool, true, false, cond, ◌&&◌, ◌||◌, eqb, List, [], ◌∷◌, ◌++◌, length, take, drop, sym, refl, ap, ◌∙◌, ap₂, true≢false, arith, length-drop, take-append-drop, take_at, drop_at, eq-eqb, ne_eqb, eqb-true}
use mathlib.Core.Option.{some}
use Rattle.model.specs.declared.Layout.{Layout}
use Rattle.model.specs.Layout.{header_length, vendor_at}
use Rattle.model.specs.Lists.{any, first, part, same}
use Rattle.model.specs.Name.{Key, keyed, same_key_def}
use Rattle.model.specs.Image.{region_header_size}
use Rattle.model.specs.Entry.{header_fields_in}
use Rattle.model.specs.Walk as walk
use Rattle.model.specs.Walk.{state_of, entry_key}
use Rattle.model.specs.Region.{entries_in, live, is_entry_def, added, replacing}
use Rattle.model.proofs.Tests.{and_split, true-and, both_ways, same_refl, same-eq, key-eq}
use Rattle.model.proofs.Walking.{entries_from}
use Rattle.model.proofs.Encode.{length_part}
use Rattle.layout.specs.Head.{name_in}
use Rattle.layout.specs.declared.Entry as numbers
use Rattle.region.specs.Walk.{entry_as}
use Rattle.region.specs.Judge.{live_state_def, doubled_in, scan_of}
use Rattle.region.specs.Marks.{up_to}
use Rattle.region.specs.Met.{offset_of, first_at, key_from, is_sought_def, nowhere, met_of, met_by, met_at_def, surveyed}
use Rattle.region.specs.declared.Met.{Met}
use Rattle.std.specs.Prelude.{Option, Some, None}
use Rattle.std.specs.Option.{is_some}
use Rattle.region.specs.declared.Survey.{Survey}
use Rattle.region.proofs.Turns.{Turned, Ended}
use Rattle.region.proofs.Passing.{Passing, at_place, up-past, up_more, up-end, up-all}

-- ---- one entry more in a list

module _ (f : walk.Entry → Bool) where
  first-other : (p : List walk.Entry) (x : walk.Entry) → f x ≡ false → first f (p ++ (x ∷ [])) ≡ first f p
  first-other [] x h = rw h
  first-other (y ∷ p) x h = ap (cond (f y) (some y)) (first-other p x h)

  first-own : (p : List walk.Entry) (x : walk.Entry) → any f p ≡ false → f x ≡ true → first f (p ++ (x ∷ [])) ≡ some x
  first-own [] x n h = rw h
  first-own (y ∷ p) x n h = go (f y) n (λ z. first-own p x z h)
    where
      go : (t : Bool) → (t || any f p) ≡ false → (any f p ≡ false → first f (p ++ (x ∷ [])) ≡ some x) → cond t (some y) (first f (p ++ (x ∷ []))) ≡ some x
      go true n later = absurd (true≢false n)
      go false n later = later n

  -- one is met just if one passes the test
  pub any_met : (p : List walk.Entry) → any f p ≡ is_some (first_at f p)
  any_met [] = refl
  any_met (y ∷ p) = go (f y) (any_met p)
    where
      go : (t : Bool) → any f p ≡ is_some (first_at f p) → (t || any f p) ≡ is_some (offset_of (cond t (some y) (first f p)))
      go true h = refl
      go false h = h

  pub meeting-other : {o : Option ℕ} (p : List walk.Entry) (x : walk.Entry) → f x ≡ false → o ≡ first_at f p → o ≡ first_at f (p ++ (x ∷ []))
  meeting-other p x h m = m ∙ ap offset_of (sym (first-other p x h))

  pub meeting-own : {o : Option ℕ} (p : List walk.Entry) (x : walk.Entry) (at : ℕ) → x.at ≡ at → f x ≡ true → is_some o ≡ false → o ≡ first_at f p
      → Some at ≡ first_at f (p ++ (x ∷ []))
  meeting-own p x at a h z m = ap Some (sym a) ∙ sym (ap offset_of (first-own p x (any_met p ∙ ap is_some (sym m) ∙ z) h))

-- ---- an entry of a name

module _ (k : Key) (x : walk.Entry) where
  not_entry : (state : ℕ) → live_state_def state ≡ true → is_sought_def k x ≡ false → is_entry_def state k x ≡ false
  not_entry state l h = go (eqb (state_of x) state) refl
    where
      go : (t : Bool) → eqb (state_of x) state ≡ t → is_entry_def state k x ≡ false
      go true q =
          let alive : live x ≡ true = ap live_state_def (eqb-true (state_of x) state q) ∙ l in
          rw q (rw alive at h)
      go false q = rw q

  -- it is in one of the two live states
  pub record Sought : Type 0 where
    pub same : same_key_def (entry_key x) k ≡ true
    pub state : (eqb (state_of x) 0x3F ≡ false) → state_of x ≡ 0x3E

  sought-parts : is_sought_def k x ≡ true → Sought
  sought-parts h =
      let p = and_split (live x) (same_key_def (entry_key x) k) h in
      record { same = p.1; state = λ q. eqb-true (state_of x) 0x3E (rw q at p.0) }

-- ---- the entries passed

-- where a name is met among those before an offset
pub record Meets (form : Layout) (r : List ℕ) (k : Key) (m : Met) (at : ℕ) : Type 0 where
  pub added : m.added ≡ first_at (is_entry_def 0x3F k) (up_to at (entries_in form r))
  pub replacing : m.replacing ≡ first_at (is_entry_def 0x3E k) (up_to at (entries_in form r))

pub meets-begin : (form : Layout) (r : List ℕ) (k : Key) → Meets form r k nowhere region_header_size
meets-begin form r k =
    let none : up_to region_header_size (entries_in form r) ≡ [] = ap (up_to region_header_size) (entries_from form r) ∙ up-past form r region_header_size region_header_size (omega arith) in
    record { added = rw none; replacing = rw none }

module _ {form : Layout} {r : List ℕ} {q : walk.Entry → Type 0} {at : ℕ} (c : Passing form r q at) {k : Key} {m : Met} (h : Meets form r k m at) where
  -- at the end
  pub meets-end : Ended form r at → m ≡ met_of k (entries_in form r)
  unfolding met_of added replacing
  meets-end z =
      ap₂ (λ (i j : Option ℕ). record { added = i; replacing = j })
      (h.added ∙ ap (first_at (is_entry_def 0x3F k)) (up-end c z))
      (h.replacing ∙ ap (first_at (is_entry_def 0x3E k)) (up-end c z))

  module _ {e : numbers.Entry} {n : ℕ} (w : Turned form r at e n) where
    -- an entry of another name, or that is not live
    pub meets-other : is_sought_def k (entry_as form r at e) ≡ false → Meets form r k m n
    meets-other s =
        let x = entry_as form r at e in
        let p = up_to at (entries_in form r) in
        record {
          added = rw (up_more c w) (meeting-other (is_entry_def 0x3F k) p x (not_entry k x 0x3F refl s) h.added);
          replacing = rw (up_more c w) (meeting-other (is_entry_def 0x3E k) p x (not_entry k x 0x3E refl s) h.replacing);
        }

    -- an entry of the name, in a state in which it was not met
    pub meets-own : is_sought_def k (entry_as form r at e) ≡ true → is_some (met_by e.state m) ≡ false → Meets form r k (met_at_def e.state at m) n
    unfolding entry_as walk.placed
    meets-own s z = go (eqb e.state 0x3F) refl
      where
        go : (t : Bool) → eqb e.state 0x3F ≡ t → Meets form r k (met_at_def e.state at m) n
        go true q =
            let x = entry_as form r at e in
            let p = up_to at (entries_in form r) in
            let state : e.state ≡ 0x3F = eqb-true e.state 0x3F q in
            let own : is_entry_def 0x3F k x ≡ true = true-and q (sought-parts k x s).same in
            let other : is_entry_def 0x3E k x ≡ false = rw (ne_eqb e.state 0x3E (λ z. omega arith)) in
            let unmet : is_some m.added ≡ false = rw q at z in
            rw q (record {
              added = rw (up_more c w) (meeting-own (is_entry_def 0x3F k) p x at (at_place form r at e) own unmet h.added);
              replacing = rw (up_more c w) (meeting-other (is_entry_def 0x3E k) p x other h.replacing);
            })
        go false q =
            let x = entry_as form r at e in
            let p = up_to at (entries_in form r) in
            let state : e.state ≡ 0x3E = (sought-parts k x s).state q in
            let own : is_entry_def 0x3E k x ≡ true = true-and (eq-eqb e.state 0x3E state) (sought-parts k x s).same in
            let other : is_entry_def 0x3F k x ≡ false = rw q in
            let unmet : is_some m.replacing ≡ false = rw q at z in
            rw q (record {
              added = rw (up_more c w) (meeting-other (is_entry_def 0x3F k) p x other h.added);
              replacing = rw (up_more c w) (meeting-own (is_entry_def 0x3E k) p x at (at_place form r at e) own unmet h.replacing);
            })

-- an entry of the name is doubled just if it was met in its state
pub met-doubled : {form : Layout} {r : List ℕ} {at : ℕ} {k : Key} {m : Met} → Meets form r k m at → (e : numbers.Entry) → is_sought_def k (entry_as form r at e) ≡ true
    → doubled_in (entry_as form r at e) (up_to at (entries_in form r)) ≡ is_some (met_by e.state m)
unfolding doubled_in entry_as walk.placed
met-doubled {form} {r} {at} {k} {m} h e s =
    let x = entry_as form r at e in
    let l = up_to at (entries_in form r) in
    let p = and_split (live x) (same_key_def (entry_key x) k) s in
    rw p.0 (ap (λ (j : Key). any (is_entry_def e.state j) l) (key-eq (entry_key x) k p.1) ∙ go (eqb e.state 0x3F) refl)
  where
    go : (t : Bool) → eqb e.state 0x3F ≡ t → any (is_entry_def e.state k) (up_to at (entries_in form r)) ≡ is_some (met_by e.state m)
    go true q = rw (eqb-true e.state 0x3F q) (any_met (is_entry_def 0x3F k) (up_to at (entries_in form r)) ∙ ap is_some (sym h.added))
    go false q =
        rw ((sought-parts k (entry_as form r at e) s).state q) (any_met (is_entry_def 0x3E k) (up_to at (entries_in form r)) ∙ ap is_some (sym h.replacing))

-- ---- what a pass answers

-- all is sound, and where the name is met
pub surveys-right : (y : Layout) (r key : List ℕ) {tail : ℕ} {m : Met} → Some tail ≡ scan_of y r → m ≡ met_of (key_from key) (entries_in y r)
    → ◌≡◌ {A = Option Survey} (Some (record { tail = tail; met = m })) (surveyed y r key)
unfolding surveyed
surveys-right y r key {tail} p m = rw (← p) (ap (λ (m : Met). Some (record { tail = tail; met = m })) m)

pub surveys-wrong : (y : Layout) (r key : List ℕ) → None ≡ scan_of y r → None ≡ surveyed y r key
unfolding surveyed
surveys-wrong y r key p = rw (← p)

-- by a walk over all entries
pub met-walked : (y : Layout) (r key : List ℕ) {name vendor : List ℕ} → name ≡ drop 16 key → vendor ≡ part 0 16 key → {i j : Option ℕ}
    → i ≡ first_at (is_entry_def 0x3F (keyed name vendor)) (up_to (length r) (entries_in y r))
    → j ≡ first_at (is_entry_def 0x3E (keyed name vendor)) (up_to (length r) (entries_in y r))
    → ◌≡◌ {A = Met} (record { added = i; replacing = j }) (met_of (key_from key) (entries_in y r))
unfolding met_of added replacing
met-walked y r key {name} {vendor} n v a b =
    let k : keyed name vendor ≡ key_from key = ap₂ keyed n v in
    ap₂ (λ (i j : Option ℕ). record { added = i; replacing = j })
    (a ∙ ap₂ (λ (k : Key) (l : List walk.Entry). first_at (is_entry_def 0x3F k) l) k (up-all y r))
    (b ∙ ap₂ (λ (k : Key) (l : List walk.Entry). first_at (is_entry_def 0x3E k) l) k (up-all y r))

-- ---- GUID and name one behind the other

joined : (v n key : List ℕ) → length v ≡ 16 → same (v ++ n) key ≡ (same n (drop 16 key) && same v (part 0 16 key))
joined v n key l = both_ways (same (v ++ n) key) (same n (drop 16 key) && same v (part 0 16 key)) apart together
  where
    apart : same (v ++ n) key ≡ true → (same n (drop 16 key) && same v (part 0 16 key)) ≡ true
    apart h =
        let e = same-eq (v ++ n) key h in
        let name : drop 16 key ≡ n = ap (drop 16) (sym e) ∙ drop_at v n 16 l in
        let guid : part 0 16 key ≡ v = ap (take 16) (sym e) ∙ take_at v n 16 l in
        rw (name, guid) (true-and (same_refl n) (same_refl v))

    together : (same n (drop 16 key) && same v (part 0 16 key)) ≡ true → same (v ++ n) key ≡ true
    together h =
        let p = and_split (same n (drop 16 key)) (same v (part 0 16 key)) h in
        let e : v ++ n ≡ key = ap₂ ◌++◌ (same-eq v (part 0 16 key) p.1) (same-eq n (drop 16 key) p.0) ∙ take-append-drop 16 key in
        rw e (same_refl key)

-- of a live entry the bytes of GUID and name decide
pub sought-named : (y : Layout) (r : List ℕ) (at : ℕ) (e : numbers.Entry) (key : List ℕ) → at + header_length y ≤ length r → live_state_def e.state ≡ true
    → same ((header_fields_in y (drop at r)).vendor ++ name_in y (drop at r) e) key ≡ is_sought_def (key_from key) (entry_as y r at e)
unfolding entry_as walk.placed name_in header_fields_in
sought-named y r at e key f l =
    let n = length-drop at r in
    let long : length (header_fields_in y (drop at r)).vendor ≡ 16 = length_part (vendor_at y) 16 (drop at r) (omega arith) in
    rw l (joined (header_fields_in y (drop at r)).vendor (name_in y (drop at r) e) key long)

pub sought-dead : (y : Layout) (r : List ℕ) (at : ℕ) (e : numbers.Entry) (k : Key) → live_state_def e.state ≡ false → is_sought_def k (entry_as y r at e) ≡ false
unfolding entry_as walk.placed
sought-dead y r at e k l = rw l
