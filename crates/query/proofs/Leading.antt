-- Before the entry that holds a name's value no entry is a value of that name. So the entry to get, and the one to name, is found from there on; and where the name is not
-- met there is none.
-- Assumes nothing.
use Prim.Native.Nat.{ℕ, zero, suc, ◌-◌, ◌≤◌, ◌<◌}
use native.Mathlib.Omega.{arith}
use mathlib.Core.Path.{◌≡◌, refl, sym, ap, ◌∙◌}
use mathlib.Core.Bool.{Bool, true, false, not, cond, ◌&&◌, ◌||◌, and-true, and-false, or-true, true≢false}
use mathlib.Core.List.{List, [], ◌∷◌, ◌++◌, append-nil}
use mathlib.Core.Option.{Option as Maybe, none, some}
use Rattle.std.specs.Prelude.{Option, Some, None}
use Rattle.std.proofs.lemmas.Option.{none-some, same_Some}
use lib.ListN.{length}
use lib.Dec.{eqb}
use Rattle.model.specs.Layout.{authenticated}
use Rattle.model.specs.Lists.{any, keep, first, same}
use Rattle.model.specs.Name.{Key, same_key_def, empty_name}
use Rattle.model.specs.Image.{region_header_size}
use Rattle.model.specs.Walk.{Entry, state_of, entry_key, placed}
use Rattle.model.specs.Region.{entries, is_entry_def, is_value, added, replacing}
use Rattle.model.specs.Beside.{from}
use Rattle.model.proofs.Tests.{and_split, true-and, or_split, key-eq}
use Rattle.model.proofs.Walking.{entries_from}
use Rattle.layout.specs.declared.Entry as numbers
use Rattle.region.specs.Walk.{entry_as, entry_at, turn_in}
use Rattle.region.specs.Met.{met_of}
use Rattle.region.specs.declared.Met.{Met}
use Rattle.region.proofs.Turns.{Turned, at_entry, at-end}
use Rattle.region.proofs.Passing.{at_place}
use Rattle.query.specs.Query.{visible, is_seen_def, is_sought_def, is_shown_def, is_passed_def, entry_to_get, entry_following, going_on, entry_to_name, standing_at}
use Rattle.query.proofs.Seen.{seen_from, shown_from, name-from, going-none, passed-other}

-- ---- the first entry that passes a test, and those before it

pub record Reached (f : Entry → Bool) (r : List ℕ) (at : ℕ) (x : Entry) : Type 0 where
  pub before : List Entry
  pub whole : from r at ≡ before ++ from r x.at
  pub unlike : any f before ≡ false
  pub later : at ≤ x.at
  pub behind : List Entry
  pub here : from r x.at ≡ x ∷ behind
  pub own : f x ≡ true

module _ (f : Entry → Bool) (r : List ℕ) (x : Entry) where
  reach-turn : (at : ℕ) (t : Option (numbers.Entry × ℕ)) → turn_in authenticated r at ≡ t → ((k : ℕ) → length r - k < length r - at → first f (from r k) ≡ some x → Reached f r k x)
      → first f (from r at) ≡ some x → Reached f r at x
  reach-turn at None p on h =
      let z = at-end refl p in
      let nothing : ◌≡◌ {A = Maybe Entry} none (some x) = ap (first f) (sym z.walk) ∙ h in
      let q : ◌≡◌ {A = ℕ} 0 1 = cc in
      absurd (omega arith)
  reach-turn at (Some (e, k)) p on h = go (f (entry_at r at e)) refl
    where
      go : (t : Bool) → f (entry_at r at e) ≡ t → Reached f r at x
      go true q =
          let w = at_entry refl p in
          let step : first f (from r at) ≡ some (entry_at r at e) = ap (first f) w.walk ∙ ap (λ (t : Bool). cond t (some (entry_at r at e)) (first f (from r k))) q in
          let found : ◌≡◌ {A = Maybe Entry} (some (entry_at r at e)) (some x) = sym step ∙ h in
          let same : entry_at r at e ≡ x = cc in
          let place : at ≡ x.at = sym (at_place authenticated r at e) ∙ ap (λ (y : Entry). y.at) same in
          record {
            before = [];
            whole = ap (from r) place;
            unlike = refl;
            later = omega arith;
            behind = from r k;
            here = ap (from r) (sym place) ∙ w.walk ∙ ap (λ (y : Entry). y ∷ from r k) same;
            own = ap f (sym same) ∙ q;
          }
      go false q =
          let w = at_entry refl p in
          let step : first f (from r at) ≡ first f (from r k) = ap (first f) w.walk ∙ ap (λ (t : Bool). cond t (some (entry_at r at e)) (first f (from r k))) q in
          let more = on k w.less (sym step ∙ h) in
          record {
            before = entry_at r at e ∷ more.before;
            whole = w.walk ∙ ap (λ l. entry_at r at e ∷ l) more.whole;
            unlike = ap (λ (t : Bool). t || any f more.before) q ∙ more.unlike;
            later = omega (arith, w.more, more.later);
            behind = more.behind;
            here = more.here;
            own = more.own;
          }

  reach-from : (n at : ℕ) → length r - at ≤ n → first f (from r at) ≡ some x → Reached f r at x
  reach-from zero at l h = reach-turn at (turn_in authenticated r at) refl (λ k m. absurd (omega arith)) h
  reach-from (suc n) at l h = reach-turn at (turn_in authenticated r at) refl (λ k m. reach-from n k (omega arith)) h

  reach : first f (from r region_header_size) ≡ some x → Reached f r region_header_size x
  reach = reach-from (length r) region_header_size (omega arith)

module _ (f : Entry → Bool) where
  first-none : (l : List Entry) → first f l ≡ none → any f l ≡ false
  first-none [] h = refl
  first-none (y ∷ l) h = go (f y) h (first-none l)
    where
      go : (t : Bool) → cond t (some y) (first f l) ≡ none → (first f l ≡ none → any f l ≡ false) → (t || any f l) ≡ false
      go true h later = let q : ◌≡◌ {A = ℕ} 0 1 = cc in absurd (omega arith)
      go false h later = later h

  first_some : (l : List Entry) (x : Entry) → first f l ≡ some x → any f l ≡ true
  first_some [] x h = let q : ◌≡◌ {A = ℕ} 0 1 = cc in absurd (omega arith)
  first_some (y ∷ l) x h = go (f y) h (first_some l x)
    where
      go : (t : Bool) → cond t (some y) (first f l) ≡ some x → (first f l ≡ some x → any f l ≡ true) → (t || any f l) ≡ true
      go true h later = refl
      go false h later = later h

  any-front : (p l : List Entry) → any f (p ++ l) ≡ false → any f p ≡ false
  any-front [] l h = refl
  any-front (y ∷ p) l h = let s = or_split (f y) (any f (p ++ l)) h in rw s.0 (any-front p l s.1)

-- ---- values of a name

module _ (runtime : Bool) (k : Key) (es : List Entry) where
  -- beside those that are there: in state 3F, or in 3E and beside none in 3F
  value_of : (y : Entry) → (same_key_def (entry_key y) k && is_value es y) ≡ (is_entry_def 0x3F k y || (is_entry_def 0x3E k y && not (any (is_entry_def 0x3F k) es)))
  unfolding is_value
  value_of y = go (same_key_def (entry_key y) k) refl
    where
      go : (t : Bool) → same_key_def (entry_key y) k ≡ t
          → (t && (eqb (state_of y) 0x3F || (eqb (state_of y) 0x3E && not (any (is_entry_def 0x3F (entry_key y)) es))))
          ≡ ((eqb (state_of y) 0x3F && t) || ((eqb (state_of y) 0x3E && t) && not (any (is_entry_def 0x3F k) es)))
      go true q =
          ap (λ (j : Key). eqb (state_of y) 0x3F || (eqb (state_of y) 0x3E && not (any (is_entry_def 0x3F j) es))) (key-eq (entry_key y) k q)
          ∙ rw (and-true (eqb (state_of y) 0x3F), and-true (eqb (state_of y) 0x3E))
      go false q = rw (and-false (eqb (state_of y) 0x3F), and-false (eqb (state_of y) 0x3E))

  not-sought : (y : Entry) → is_entry_def 0x3F k y ≡ false → (is_entry_def 0x3E k y && not (any (is_entry_def 0x3F k) es)) ≡ false → is_sought_def runtime k es y ≡ false
  unfolding is_sought_def is_seen_def
  not-sought y a b = more (same_key_def (entry_key y) k) (is_value es y) (visible runtime y.header.attributes) (value_of y ∙ rw (a, b))
    where
      more : (s t v : Bool) → (s && t) ≡ false → (s && (t && v)) ≡ false
      more true t v h = rw h
      more false t v h = refl

  none-sought : (p : List Entry) → any (is_entry_def 0x3F k) p ≡ false → (any (is_entry_def 0x3E k) p && not (any (is_entry_def 0x3F k) es)) ≡ false
      → any (is_sought_def runtime k es) p ≡ false
  none-sought [] a b = refl
  none-sought (y ∷ p) a b =
      let u = or_split (is_entry_def 0x3F k y) (any (is_entry_def 0x3F k) p) a in
      let v = apart (is_entry_def 0x3E k y) (any (is_entry_def 0x3E k) p) (not (any (is_entry_def 0x3F k) es)) b in
      rw (not-sought y u.0 v.0) (none-sought p u.1 v.1)
    where
      apart : (s t c : Bool) → ((s || t) && c) ≡ false → ((s && c) ≡ false) × ((t && c) ≡ false)
      apart true t true h = absurd (true≢false h)
      apart true t false h = (refl, and-false t)
      apart false t c h = (refl, h)

  -- those that are not sought may be left out
  skip-get : (p l : List Entry) → any (is_sought_def runtime k es) p ≡ false
      → first (λ e. same_key_def (entry_key e) k) (keep (is_seen_def runtime es) (p ++ l)) ≡ first (λ e. same_key_def (entry_key e) k) (keep (is_seen_def runtime es) l)
  unfolding is_sought_def
  skip-get [] l h = refl
  skip-get (y ∷ p) l h =
      let s = or_split (is_sought_def runtime k es y) (any (is_sought_def runtime k es) p) h in
      go (is_seen_def runtime es y) (same_key_def (entry_key y) k) refl s.0 (skip-get p l s.1)
    where
      go : (t u : Bool) → same_key_def (entry_key y) k ≡ u → (u && t) ≡ false
          → first (λ e. same_key_def (entry_key e) k) (keep (is_seen_def runtime es) (p ++ l)) ≡ first (λ e. same_key_def (entry_key e) k) (keep (is_seen_def runtime es) l)
          → first (λ e. same_key_def (entry_key e) k) (cond t (y ∷ keep (is_seen_def runtime es) (p ++ l)) (keep (is_seen_def runtime es) (p ++ l)))
          ≡ first (λ e. same_key_def (entry_key e) k) (keep (is_seen_def runtime es) l)
      go true true q z i = absurd (true≢false z)
      go true false q z i = rw q i
      go false u q z i = i

  skip-name : (guid : List ℕ) (modem : Bool) (p l : List Entry) → any (is_sought_def runtime k es) p ≡ false
      → entry_following k (keep (is_shown_def guid modem runtime es) (p ++ l)) ≡ entry_following k (keep (is_shown_def guid modem runtime es) l)
  unfolding is_passed_def entry_following
  skip-name guid modem [] l h = refl
  skip-name guid modem (y ∷ p) l h =
      let s = or_split (is_sought_def runtime k es y) (any (is_sought_def runtime k es) p) h in
      go (is_shown_def guid modem runtime es y) (same_key_def (entry_key y) k) refl (passed-other guid modem runtime k es y s.0) (skip-name guid modem p l s.1)
    where
      go : (t u : Bool) → same_key_def (entry_key y) k ≡ u → (u && t) ≡ false
          → entry_following k (keep (is_shown_def guid modem runtime es) (p ++ l)) ≡ entry_following k (keep (is_shown_def guid modem runtime es) l)
          → entry_following k (cond t (y ∷ keep (is_shown_def guid modem runtime es) (p ++ l)) (keep (is_shown_def guid modem runtime es) (p ++ l)))
          ≡ entry_following k (keep (is_shown_def guid modem runtime es) l)
      go true true q z i = absurd (true≢false z)
      go true false q z i = rw q i
      go false u q z i = i

-- ---- where the name is met

-- the entries from an offset on, if there is one
abbrev rest : List ℕ → Option ℕ → List Entry
rest r (Some n) = from r n
rest r None = []

record Led (runtime : Bool) (k : Key) (r : List ℕ) (n : Option ℕ) : Type 0 where
  before : List Entry
  whole : entries r ≡ before ++ rest r n
  none-there : any (is_sought_def runtime k (entries r)) before ≡ false

led-to : (runtime : Bool) (k : Key) (r : List ℕ) (x : Entry) {f : Entry → Bool} (c : Reached f r region_header_size x) → any (is_sought_def runtime k (entries r)) c.before ≡ false
    → Led runtime k r (Some x.at)
led-to runtime k r x c h = record { before = c.before; whole = entries_from authenticated r ∙ c.whole; none-there = h }

led : (runtime : Bool) (k : Key) (r : List ℕ) (m : Met) → m ≡ met_of k (entries r) → Led runtime k r (standing_at m)
unfolding met_of added replacing
led runtime k r m e = go (first (is_entry_def 0x3F k) (entries r)) refl (first (is_entry_def 0x3E k) (entries r)) refl
  where
    go : (o : Maybe Entry) → first (is_entry_def 0x3F k) (entries r) ≡ o → (u : Maybe Entry) → first (is_entry_def 0x3E k) (entries r) ≡ u → Led runtime k r (standing_at m)
    go (some x) p u q =
        let c = reach (is_entry_def 0x3F k) r x (ap (first (is_entry_def 0x3F k)) (sym (entries_from authenticated r)) ∙ p) in
        let one = first_some (is_entry_def 0x3F k) (entries r) x p in
        let other : (any (is_entry_def 0x3E k) c.before && not (any (is_entry_def 0x3F k) (entries r))) ≡ false = rw one (and-false (any (is_entry_def 0x3E k) c.before)) in
        rw (ap standing_at e, p) (led-to runtime k r x c (none-sought runtime k (entries r) c.before c.unlike other))
    go none p (some x) q =
        let c = reach (is_entry_def 0x3E k) r x (ap (first (is_entry_def 0x3E k)) (sym (entries_from authenticated r)) ∙ q) in
        let whole : entries r ≡ c.before ++ from r x.at = entries_from authenticated r ∙ c.whole in
        let Added-none = any-front (is_entry_def 0x3F k) c.before (from r x.at) (ap (any (is_entry_def 0x3F k)) (sym whole) ∙ first-none (is_entry_def 0x3F k) (entries r) p) in
        let other : (any (is_entry_def 0x3E k) c.before && not (any (is_entry_def 0x3F k) (entries r))) ≡ false = rw c.unlike in
        rw (ap standing_at e, p, q) (led-to runtime k r x c (none-sought runtime k (entries r) c.before Added-none other))
    go none p none q =
        let other : (any (is_entry_def 0x3E k) (entries r) && not (any (is_entry_def 0x3F k) (entries r))) ≡ false = rw (first-none (is_entry_def 0x3E k) (entries r) q) in
        rw (ap standing_at e, p, q) (record {
          before = entries r;
          whole = sym (append-nil (entries r));
          none-there = none-sought runtime k (entries r) (entries r) (first-none (is_entry_def 0x3F k) (entries r) p) other;
        })

-- the entry that begins there is the value of the name
same-entry : (r : List ℕ) (x : Entry) {behind : List Entry} → from r x.at ≡ x ∷ behind → {n : ℕ} → n ≡ x.at → {e : numbers.Entry} {next : ℕ} → Turned authenticated r n e next
    → entry_at r n e ≡ x
same-entry r x {behind} h {n} p {e} {next} w =
    let two : entry_at r n e ∷ from r next ≡ x ∷ behind = sym w.walk ∙ ap (from r) p ∙ h in
    cc

value_there : (k : Key) (r : List ℕ) (m : Met) → m ≡ met_of k (entries r) → {n : ℕ} → standing_at m ≡ Some n → {e : numbers.Entry} {next : ℕ} → Turned authenticated r n e next
    → (is_entry_def 0x3F k (entry_at r n e) || (is_entry_def 0x3E k (entry_at r n e) && not (any (is_entry_def 0x3F k) (entries r)))) ≡ true
unfolding met_of added replacing
value_there k r m met {n} s {e} {next} w = go (first (is_entry_def 0x3F k) (entries r)) refl (first (is_entry_def 0x3E k) (entries r)) refl
  where
    go : (o : Maybe Entry) → first (is_entry_def 0x3F k) (entries r) ≡ o → (u : Maybe Entry) → first (is_entry_def 0x3E k) (entries r) ≡ u
        → (is_entry_def 0x3F k (entry_at r n e) || (is_entry_def 0x3E k (entry_at r n e) && not (any (is_entry_def 0x3F k) (entries r)))) ≡ true
    go (some x) p u q =
        let c = reach (is_entry_def 0x3F k) r x (ap (first (is_entry_def 0x3F k)) (sym (entries_from authenticated r)) ∙ p) in
        let there : standing_at m ≡ Some x.at = ap standing_at met ∙ rw p in
        let place : n ≡ x.at = same_Some _ _ (sym s ∙ there) in
        rw (same-entry r x c.here place w) (rw c.own)
    go none p (some x) q =
        let c = reach (is_entry_def 0x3E k) r x (ap (first (is_entry_def 0x3E k)) (sym (entries_from authenticated r)) ∙ q) in
        let there : standing_at m ≡ Some x.at = ap standing_at met ∙ rw (p, q) in
        let place : n ≡ x.at = same_Some _ _ (sym s ∙ there) in
        let other : any (is_entry_def 0x3F k) (entries r) ≡ false = first-none (is_entry_def 0x3F k) (entries r) p in
        rw (same-entry r x c.here place w) (rw (true-and c.own (ap not other)) (or-true (is_entry_def 0x3F k x)))
    go none p none q =
        let there : standing_at m ≡ None = ap standing_at met ∙ rw (p, q) in
        absurd (none-some n (sym there ∙ s))

-- so it is sought, if it is visible
pub sought-there : (runtime : Bool) (k : Key) (r : List ℕ) (m : Met) → m ≡ met_of k (entries r) → {n : ℕ} → standing_at m ≡ Some n
    → {e : numbers.Entry} {next : ℕ} → Turned authenticated r n e next → visible runtime e.attributes ≡ true → is_sought_def runtime k (entries r) (entry_at r n e) ≡ true
unfolding is_sought_def is_seen_def entry_as placed
sought-there runtime k r m q {n} s {e} {next} w v =
    let y = entry_at r n e in
    let p = and_split (same_key_def (entry_key y) k) (is_value (entries r) y) (value_of runtime k (entries r) y ∙ value_there k r m q s w) in
    true-and p.0 (true-and p.1 v)

-- ---- where the walks begin

module _ (runtime : Bool) (k : Key) (r : List ℕ) (m : Met) (e : m ≡ met_of k (entries r)) where
  get-rest : {n : Option ℕ} → standing_at m ≡ n
      → entry_to_get runtime k (entries r) ≡ first (λ e. same_key_def (entry_key e) k) (keep (is_seen_def runtime (entries r)) (rest r n))
  unfolding entry_to_get
  get-rest p =
      let l = led runtime k r m e in
      rw (← p) (ap (λ es. first (λ e. same_key_def (entry_key e) k) (keep (is_seen_def runtime (entries r)) es)) l.whole
      ∙ skip-get runtime k (entries r) l.before (rest r (standing_at m)) l.none-there)

  pub get_none : standing_at m ≡ None → entry_to_get runtime k (entries r) ≡ none
  get_none p = get-rest p

  pub get-begin : {n : ℕ} → standing_at m ≡ Some n → entry_to_get runtime k (entries r) ≡ first (λ e. same_key_def (entry_key e) k) (seen_from runtime r n)
  unfolding seen_from
  get-begin p = get-rest p

module _ (guid : List ℕ) (modem runtime : Bool) (k : Key) (r : List ℕ) (m : Met) (e : m ≡ met_of k (entries r)) where
  name-rest : {n : Option ℕ} → standing_at m ≡ n
      → entry_following k (keep (is_shown_def guid modem runtime (entries r)) (entries r)) ≡ entry_following k (keep (is_shown_def guid modem runtime (entries r)) (rest r n))
  name-rest p =
      let l = led runtime k r m e in
      rw (← p) (ap (λ es. entry_following k (keep (is_shown_def guid modem runtime (entries r)) es)) l.whole
      ∙ skip-name runtime k (entries r) guid modem l.before (rest r (standing_at m)) l.none-there)

  pub name-none : (empty : Bool) → empty ≡ same k.name empty_name → cond empty (Some region_header_size) (standing_at m) ≡ None
      → entry_to_name guid modem runtime k (entries r) ≡ none
  unfolding entry_to_name
  name-none true q p = absurd (none-some region_header_size (sym p))
  name-none false q p = rw (← q) (name-rest p ∙ going-none false k refl)

  pub name-begin : {n : ℕ} (empty : Bool) → empty ≡ same k.name empty_name → cond empty (Some region_header_size) (standing_at m) ≡ Some n
      → entry_to_name guid modem runtime k (entries r) ≡ going_on empty k (shown_from guid modem runtime r n)
  unfolding entry_to_name shown_from
  name-begin true q p = rw (← same_Some _ _ p) (name-from guid modem runtime k r ∙ rw (← q))
  name-begin false q p = rw (← q) (name-rest p)
