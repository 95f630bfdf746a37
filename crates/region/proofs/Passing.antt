-- Whether a name is doubled may be judged by looking at each entry against those before it, since being doubled by goes both ways. A pass over the entries keeps
-- the list of those passed, and something that is known of each of them.
-- Assumes nothing.
use Rattle.std.proofs.Common.{◌≡◌, ℕ, zero, suc, ◌-◌, ◌<◌, ◌≤◌, Bool, true, false, not, ◌&&◌, ◌||◌, eqb, List, [], ◌∷◌, ◌++◌, length, sym, refl, ap, ◌∙◌, append_assoc, append-nil, arith, eq-eqb, eqb-true, le-leb}
use mathlib.Core.Bool.{and-true, and-false}
use borrow.Author.Tests.{lt-leb}
use Rattle.model.specs.declared.Layout.{Layout}
use Rattle.model.specs.Lists.{any}
use Rattle.model.specs.Name.{same_key_def}
use Rattle.model.specs.Image.{region_header_size}
use Rattle.model.specs.Walk as walk
use Rattle.model.specs.Walk.{state_of, entry_key}
use Rattle.model.specs.Region.{entries_in, live, is_entry_def, undoubled}
use Rattle.model.specs.Beside.{from_in}
use Rattle.model.proofs.Tests.{and_split, true-and, both_ways, key-refl, key-eq}
use Rattle.model.proofs.Walking.{entries_from}
use Rattle.layout.specs.declared.Entry as numbers
use Rattle.region.specs.Walk.{entry_as, turn_in}
use Rattle.region.specs.Judge.{live_state_def, doubled_in}
use Rattle.region.specs.Marks.{up_to}
use Rattle.std.specs.Prelude.{Option, Some, None}
use Rattle.region.proofs.Turns.{Turned, Ended, at_entry, at-end}

-- ---- the entries before an offset

pub at_place : (form : Layout) (r : List ℕ) (at : ℕ) (e : numbers.Entry) → (entry_as form r at e).at ≡ at
unfolding entry_as walk.placed
at_place form r at e = refl

module _ {form : Layout} {r : List ℕ} {at : ℕ} {e : numbers.Entry} {k : ℕ} (w : Turned form r at e k) {end : ℕ} where
  pub up_next : at < end → up_to end (from_in form r at) ≡ entry_as form r at e ∷ up_to end (from_in form r k)
  unfolding up_to
  up_next h = ap (up_to end) w.walk ∙ rw (at_place form r at e, lt-leb end at h)

  up-stop : end ≤ at → up_to end (from_in form r at) ≡ []
  unfolding up_to
  up-stop h = ap (up_to end) w.walk ∙ rw (at_place form r at e, le-leb end at h)

pub up_none : {form : Layout} {r : List ℕ} {at : ℕ} → Ended form r at → (end : ℕ) → up_to end (from_in form r at) ≡ []
unfolding up_to
up_none z end = ap (up_to end) z.walk

-- from an offset on none begins before it
pub up-past : (form : Layout) (r : List ℕ) (at end : ℕ) → end ≤ at → up_to end (from_in form r at) ≡ []
up-past form r at end h = go (turn_in form r at) refl
  where
    go : (t : Option (numbers.Entry × ℕ)) → turn_in form r at ≡ t → up_to end (from_in form r at) ≡ []
    go (Some (e, k)) p = up-stop (at_entry refl p) h
    go None p = up_none (at-end refl p) end

-- before the end of the region all begin
all-turn : (form : Layout) (r : List ℕ) (at : ℕ) (t : Option (numbers.Entry × ℕ)) → turn_in form r at ≡ t
    → ((k : ℕ) → length r - k < length r - at → up_to (length r) (from_in form r k) ≡ from_in form r k)
    → up_to (length r) (from_in form r at) ≡ from_in form r at
all-turn form r at (Some (e, k)) p later =
    let w = at_entry refl p in
    up_next w (omega (arith, w.fits)) ∙ ap (λ l. entry_as form r at e ∷ l) (later k w.less) ∙ sym w.walk
all-turn form r at None p later = let z = at-end refl p in up_none z (length r) ∙ sym z.walk

all_from : (form : Layout) (r : List ℕ) (n at : ℕ) → length r - at ≤ n → up_to (length r) (from_in form r at) ≡ from_in form r at
all_from form r zero at h = all-turn form r at (turn_in form r at) refl (λ k l. absurd (omega arith))
all_from form r (suc n) at h = all-turn form r at (turn_in form r at) refl (λ k l. all_from form r n k (omega arith))

pub up-all : (form : Layout) (r : List ℕ) → up_to (length r) (entries_in form r) ≡ entries_in form r
up-all form r = ap (up_to (length r)) (entries_from form r) ∙ all_from form r (length r) region_header_size (omega arith) ∙ sym (entries_from form r)

-- ---- being doubled by goes both ways

unfoldable pub doubles : walk.Entry → walk.Entry → Bool
doubles x y = live x && is_entry_def (state_of x) (entry_key x) y

both : (x y : walk.Entry) → doubles x y ≡ true → doubles y x ≡ true
unfolding doubles
both x y h =
    let p = and_split (live x) (is_entry_def (state_of x) (entry_key x) y) h in
    let q = and_split (eqb (state_of y) (state_of x)) (same_key_def (entry_key y) (entry_key x)) p.1 in
    let s : state_of y ≡ state_of x = eqb-true (state_of y) (state_of x) q.0 in
    let k : entry_key y ≡ entry_key x = key-eq (entry_key y) (entry_key x) q.1 in
    true-and (ap live_state_def s ∙ p.0)
    (true-and (eq-eqb (state_of x) (state_of y) (sym s)) (ap (same_key_def (entry_key x)) k ∙ key-refl (entry_key x)))

swapped : (x y : walk.Entry) → doubles x y ≡ doubles y x
swapped x y = both_ways (doubles x y) (doubles y x) (both x y) (both y x)

-- ---- judged against the entries passed

-- some entry of a list is doubled by one of those passed
abbrev pub clash : List walk.Entry → List walk.Entry → Bool
clash p l = any (λ x. doubled_in x p) l

pub any_last : (f : walk.Entry → Bool) (p : List walk.Entry) (x : walk.Entry) → any f (p ++ (x ∷ [])) ≡ (f x || any f p)
any_last f [] x = refl
any_last f (y ∷ p) x = rw (any_last f p x) (swap (f y) (f x) (any f p))
  where
    swap : (a b c : Bool) → (a || (b || c)) ≡ (b || (a || c))
    swap true true c = refl
    swap true false c = refl
    swap false b c = refl

doubled-last : (y x : walk.Entry) (p : List walk.Entry) → doubled_in y (p ++ (x ∷ [])) ≡ (doubles y x || doubled_in y p)
unfolding doubled_in doubles
doubled-last y x p =
    rw (any_last (is_entry_def (state_of y) (entry_key y)) p x)
    (share (live y) (is_entry_def (state_of y) (entry_key y) x) (any (is_entry_def (state_of y) (entry_key y)) p))
  where
    share : (a b c : Bool) → (a && (b || c)) ≡ ((a && b) || (a && c))
    share true b c = refl
    share false b c = refl

pub doubled-first : (x y : walk.Entry) (l : List walk.Entry) → doubled_in x (y ∷ l) ≡ (doubles x y || doubled_in x l)
unfolding doubled_in doubles
doubled-first x y l = share (live x) (is_entry_def (state_of x) (entry_key x) y) (any (is_entry_def (state_of x) (entry_key x)) l)
  where
    share : (a b c : Bool) → (a && (b || c)) ≡ ((a && b) || (a && c))
    share true b c = refl
    share false b c = refl

pub doubled-none : (x : walk.Entry) → doubled_in x [] ≡ false
unfolding doubled_in
doubled-none x = and-false (live x)

clash-last : (p : List walk.Entry) (x : walk.Entry) (l : List walk.Entry) → clash (p ++ (x ∷ [])) l ≡ (doubled_in x l || clash p l)
clash-last p x [] = rw (doubled-none x)
clash-last p x (y ∷ l) =
    rw (doubled-last y x p, clash-last p x l, doubled-first x y l, swapped y x) (mix (doubles x y) (doubled_in y p) (doubled_in x l) (clash p l))
  where
    mix : (a b c d : Bool) → ((a || b) || (c || d)) ≡ ((a || c) || (b || d))
    mix true b c d = refl
    mix false true true d = refl
    mix false true false d = refl
    mix false false c d = refl

clash-none : (l : List walk.Entry) → clash [] l ≡ false
clash-none [] = refl
clash-none (x ∷ l) = rw (doubled-none x) (clash-none l)

-- none is doubled in a list, and none of the list by one passed
abbrev pub judged : List walk.Entry → List walk.Entry → Bool
judged p l = undoubled l && not (clash p l)

pub judged-begin : (l : List walk.Entry) → undoubled l ≡ judged [] l
judged-begin l = rw (clash-none l) (sym (and-true (undoubled l)))

pub judged-next : (p : List walk.Entry) (x : walk.Entry) (l : List walk.Entry) → doubled_in x p ≡ false → judged p (x ∷ l) ≡ judged (p ++ (x ∷ [])) l
unfolding undoubled doubled_in
judged-next p x l h = rw (h, clash-last p x l) (mix (doubled_in x l) (undoubled l) (clash p l))
  where
    mix : (a u c : Bool) → ((not a && u) && not c) ≡ (u && not (a || c))
    mix true true c = refl
    mix true false c = refl
    mix false u c = refl

pub judged-stop : (p : List walk.Entry) (x : walk.Entry) (l : List walk.Entry) → doubled_in x p ≡ true → judged p (x ∷ l) ≡ false
judged-stop p x l h = rw h (and-false (undoubled (x ∷ l)))

-- ---- what is known of every entry passed

abbrev pub Each : (walk.Entry → Type 0) → List walk.Entry → Type 0
Each q [] = Unit {0}
Each q (e ∷ es) = q e × Each q es

pub each_last : (q q' : walk.Entry → Type 0) → ((e : walk.Entry) → q e → q' e) → (p : List walk.Entry) (x : walk.Entry) → Each q p → q' x → Each q' (p ++ (x ∷ []))
each_last q q' f [] x h k = (k, tt)
each_last q q' f (y ∷ p) x h k = (f y h.0, each_last q q' f p x h.1 k)

-- it begins before an offset, and something holds of it
abbrev pub Before : (walk.Entry → Type 0) → ℕ → walk.Entry → Type 0
Before q at e = (e.at < at) × q e

-- the entries passed are those that begin before the offset
up-passed : (q : walk.Entry → Type 0) (at : ℕ) (p l : List walk.Entry) → Each (Before q at) p → up_to at l ≡ [] → up_to at (p ++ l) ≡ p
unfolding up_to
up-passed q at [] l h k = k
up-passed q at (x ∷ p) l h k = rw (lt-leb at x.at h.0.0) (ap (λ t. x ∷ t) (up-passed q at p l h.1 k))

-- ---- the loop

-- the entries passed, which make up the walk with those to come; something holds of each; no name is doubled just if none to come is
pub record Passing (form : Layout) (r : List ℕ) (q : walk.Entry → Type 0) (at : ℕ) : Type 0 where
  pub passed : List walk.Entry
  pub whole : entries_in form r ≡ passed ++ from_in form r at
  pub each : Each (Before q at) passed
  pub judge : undoubled (entries_in form r) ≡ judged passed (from_in form r at)

pub start : (form : Layout) (r : List ℕ) (q : walk.Entry → Type 0) → Passing form r q region_header_size
start form r q = record {
  passed = [];
  whole = entries_from form r;
  each = tt;
  judge = ap undoubled (entries_from form r) ∙ judged-begin (from_in form r region_header_size);
}

module _ {form : Layout} {r : List ℕ} {q : walk.Entry → Type 0} {at : ℕ} (c : Passing form r q at) where
  before : up_to at (entries_in form r) ≡ c.passed
  before = ap (up_to at) c.whole ∙ up-passed q at c.passed (from_in form r at) c.each (up-past form r at at (omega arith))

  -- at the end they are all
  pub up-end : Ended form r at → up_to at (entries_in form r) ≡ entries_in form r
  up-end z = before ∙ sym (c.whole ∙ ap (λ l. c.passed ++ l) z.walk ∙ append-nil c.passed)

  pub ended : Ended form r at → undoubled (entries_in form r) ≡ true
  unfolding undoubled
  ended z = c.judge ∙ ap (judged c.passed) z.walk

  -- before the next offset there is one more
  pub up_more : {e : numbers.Entry} {k : ℕ} → Turned form r at e k → up_to k (entries_in form r) ≡ up_to at (entries_in form r) ++ (entry_as form r at e ∷ [])
  up_more {e} {k} w =
      let x = entry_as form r at e in
      let more : at < k = omega (arith, w.more) in
      let each = each_last (Before q at) (Before (λ y. Unit {0}) k) (λ y n. (omega arith, tt)) c.passed x c.each (rw (at_place form r at e) more, tt) in
      ap (up_to k) (c.whole ∙ ap (λ l. c.passed ++ l) w.walk ∙ sym (append_assoc c.passed (x ∷ []) (from_in form r k)))
      ∙ up-passed (λ y. Unit {0}) k (c.passed ++ (x ∷ [])) (from_in form r k) each (up-past form r k k (omega arith))
      ∙ ap (λ l. l ++ (x ∷ [])) (sym before)

  module _ {e : numbers.Entry} {k : ℕ} (w : Turned form r at e k) (suspect : Bool) where
    pub doubled : (suspect && doubled_in (entry_as form r at e) (up_to at (entries_in form r))) ≡ true → undoubled (entries_in form r) ≡ false
    doubled h =
        let d = and_split suspect (doubled_in (entry_as form r at e) (up_to at (entries_in form r))) h in
        c.judge ∙ ap (judged c.passed) w.walk
        ∙ judged-stop c.passed (entry_as form r at e) (from_in form r k) (ap (doubled_in (entry_as form r at e)) (sym before) ∙ d.1)

    fresh : (s : Bool) → suspect ≡ s → (suspect ≡ false → doubled_in (entry_as form r at e) c.passed ≡ false)
        → (suspect && doubled_in (entry_as form r at e) (up_to at (entries_in form r))) ≡ false → doubled_in (entry_as form r at e) c.passed ≡ false
    fresh false z f h = f z
    fresh true z f h = ap (doubled_in (entry_as form r at e)) (sym before) ∙ (rw z at h)

    -- an entry that is not doubled, be it that none passed can be its double, or that none is found
    pub onward : {q' : walk.Entry → Type 0} → ((y : walk.Entry) → q y → q' y) → q' (entry_as form r at e)
        → (suspect ≡ false → doubled_in (entry_as form r at e) c.passed ≡ false)
        → (suspect && doubled_in (entry_as form r at e) (up_to at (entries_in form r))) ≡ false → Passing form r q' k
    onward {q'} keeps own unsuspected h =
        let x = entry_as form r at e in
        let more : at < k = omega arith in
        record {
          passed = c.passed ++ (x ∷ []);
          whole = c.whole ∙ ap (λ l. c.passed ++ l) w.walk ∙ sym (append_assoc c.passed (x ∷ []) (from_in form r k));
          each = each_last (Before q at) (Before q' k) (λ y n. (omega arith, keeps y n.1)) c.passed x c.each (rw (at_place form r at e) more, own);
          judge = c.judge ∙ ap (judged c.passed) w.walk ∙ judged-next c.passed x (from_in form r k) (fresh suspect refl unsuspected h);
        }
