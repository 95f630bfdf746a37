-- What the tests of one entry decide of it. Each test that fails makes its conjunction false, whatever the others say, and where all but one hold the
-- conjunction is that one.
-- Assumes nothing.
use Rattle.std.proofs.Common.{◌≡◌, ℕ, ◌+◌, ◌-◌, ◌<◌, ◌≤◌, Bool, true, false, cond, not, ◌&&◌, ◌||◌, eqb, leb, ◌≢◌, List, length, take, drop, sym, refl, ap, ◌∙◌, ap₂, true≢false, arith, length-drop, ne_eqb, eqb-true, le-leb, leb-false, leb-true}
use mathlib.Core.Bool.{and-true, and-false, and_assoc, false≢true}
use borrow.Author.Tests.{lt-leb}
use Rattle.model.specs.declared.Layout.{Layout}
use Rattle.model.specs.Layout.{header_length}
use Rattle.model.specs.Lists.{among}
use Rattle.model.specs.Name.{Key, well_named, record_name}
use Rattle.model.specs.Entry.{states}
use Rattle.model.specs.Walk as walk
use Rattle.model.specs.Region.{stored_attributes, record_bit, right_live_def}
use Rattle.layout.specs.Head.{name_in}
use Rattle.layout.specs.declared.Entry as numbers
use Rattle.region.specs.Walk.{entry_as}
use Rattle.region.specs.Judge.{plain_attributes_def, live_state_def, right_record_def, entry_sound_def}
use Rattle.region.proofs.Turns.{rest, Turned}

-- what is asked of attributes: that they are stored, and with 0x08 that the name is a record's
abbrev right_attributes : ℕ → Key → Bool
right_attributes a k = among stored_attributes a && (not (record_bit a) || record_name k)

-- attributes that are stored are those without 0x08, or 0x0F
plain-right : (a : ℕ) (k : Key) → among plain_attributes_def a ≡ true → right_attributes a k ≡ true
plain-right a k h = go (eqb a 0x03) refl (eqb a 0x07) refl (eqb a 0x23) refl (eqb a 0x27) refl h
  where
    go : (p : Bool) → eqb a 0x03 ≡ p → (q : Bool) → eqb a 0x07 ≡ q → (s : Bool) → eqb a 0x23 ≡ s → (t : Bool) → eqb a 0x27 ≡ t
        → (p || (q || (s || (t || false)))) ≡ true → right_attributes a k ≡ true
    go true e q f s g t i h = rw (eqb-true a 0x03 e)
    go false e true f s g t i h = rw (eqb-true a 0x07 f)
    go false e false f true g t i h = rw (eqb-true a 0x23 g)
    go false e false f false g true i h = rw (eqb-true a 0x27 i)
    go false e false f false g false i h = absurd (false≢true h)

other-right : (a : ℕ) (k : Key) → among plain_attributes_def a ≡ false → right_attributes a k ≡ (eqb a 0x0F && record_name k)
other-right a k h = go (eqb a 0x03) (eqb a 0x07) (eqb a 0x23) (eqb a 0x27) (eqb a 0x0F) refl h
  where
    go : (p q s t u : Bool) → eqb a 0x0F ≡ u → (p || (q || (s || (t || false)))) ≡ false
        → ((p || (q || (s || (t || (u || false))))) && (not (record_bit a) || record_name k)) ≡ (u && record_name k)
    go true q s t u e h = absurd (true≢false h)
    go false true s t u e h = absurd (true≢false h)
    go false false true t u e h = absurd (true≢false h)
    go false false false true u e h = absurd (true≢false h)
    go false false false false true e h = rw (eqb-true a 0x0F e)
    go false false false false false e h = refl

module _ (y : Layout) (r : List ℕ) (at : ℕ) (e : numbers.Entry) where
  -- ---- right if it is live

  pub right-dead : live_state_def e.state ≡ false → right_live_def (entry_as y r at e) ≡ true
  unfolding right_live_def entry_as walk.placed
  right-dead d = rw d

  right-parts : live_state_def e.state ≡ true
      → right_live_def (entry_as y r at e)
      ≡ (well_named (entry_as y r at e).name && (leb 1 e.size && leb e.size 2048) && right_attributes e.attributes (walk.entry_key (entry_as y r at e)))
  unfolding right_live_def entry_as walk.placed
  right-parts l = simp (l, and_assoc)

  pub right-empty : live_state_def e.state ≡ true → e.size < 1 → right_live_def (entry_as y r at e) ≡ false
  right-empty l h = rw (right-parts l, lt-leb 1 e.size h, and-false (well_named (entry_as y r at e).name))

  pub right-large : live_state_def e.state ≡ true → 2048 < e.size → right_live_def (entry_as y r at e) ≡ false
  right-large l h =
      rw (right-parts l, lt-leb e.size 2048 h, and-false (leb 1 e.size), and-false (well_named (entry_as y r at e).name))

  -- without 0x08 the name has to be well formed
  pub right-plain : live_state_def e.state ≡ true → 1 ≤ e.size → e.size ≤ 2048 → among plain_attributes_def e.attributes ≡ true
      → right_live_def (entry_as y r at e) ≡ well_named (entry_as y r at e).name
  right-plain l h k q =
      rw (right-parts l, le-leb 1 e.size h, le-leb e.size 2048 k, plain-right e.attributes (walk.entry_key (entry_as y r at e)) q)
      (and-true (well_named (entry_as y r at e).name && true) ∙ and-true (well_named (entry_as y r at e).name))

  -- with other attributes it is an error record or nothing
  pub right-other : live_state_def e.state ≡ true → 1 ≤ e.size → e.size ≤ 2048 → among plain_attributes_def e.attributes ≡ false
      → right_live_def (entry_as y r at e) ≡ right_record_def e.attributes (walk.entry_key (entry_as y r at e))
  right-other l h k q =
      rw (right-parts l, le-leb 1 e.size h, le-leb e.size 2048 k, and-true (well_named (entry_as y r at e).name))
      (ap (λ b. well_named (entry_as y r at e).name && b) (other-right e.attributes (walk.entry_key (entry_as y r at e)) q))

  -- ---- sound by itself

  module _ (size : ℕ) where
    pub sound-unfinished : e.state ≡ 0xFF → entry_sound_def size (entry_as y r at e) ≡ true
    unfolding entry_sound_def right_live_def entry_as walk.placed
    sound-unfinished h = rw h

    pub sound-within : among states e.state ≡ true → e.state ≢ 0xFF → at + (header_length y + e.name + e.size) ≤ size
        → entry_sound_def size (entry_as y r at e) ≡ right_live_def (entry_as y r at e)
    unfolding entry_sound_def entry_as walk.placed
    sound-within k h l = rw (k, ne_eqb e.state 0xFF h, le-leb (at + (header_length y + e.name + e.size)) size l)

-- ---- an entry at the front of the part that `&r[at..]` lends

pub front-name : (y : Layout) (s : List ℕ) (e : numbers.Entry) → name_in y s e ≡ (entry_as y s 0 e).name
unfolding name_in entry_as walk.placed
front-name y s e = refl

-- what the tests of a live entry decide, at the front of a part
pub ruleset rights = (right-dead, right-empty, right-large, right-plain, right-other, front-name)

shifted : (at k n : ℕ) → at ≤ n → leb (0 + k) (n - at) ≡ leb (at + k) n
shifted at k n h = go (leb (at + k) n) refl
  where
    go : (t : Bool) → leb (at + k) n ≡ t → leb (0 + k) (n - at) ≡ leb (at + k) n
    go true q = let l = leb-true (at + k) n q in le-leb (0 + k) (n - at) (omega arith) ∙ sym q
    go false q = let l = leb-false (at + k) n q in lt-leb (0 + k) (n - at) (omega arith) ∙ sym q

-- the bytes of an entry that are stored
abbrev filled : Layout → numbers.Entry → ℕ
filled y e = cond (eqb e.state 0xFF) (header_length y) (header_length y + e.name + e.size)

sound-parts : (y : Layout) (r : List ℕ) (at : ℕ) (e : numbers.Entry) (size : ℕ)
    → entry_sound_def size (entry_as y r at e)
    ≡ (among states e.state && (eqb e.state 0xFF || leb (at + filled y e) size) && right_live_def (entry_as y r at e))
unfolding entry_sound_def entry_as walk.placed
sound-parts y r at e size = refl

front-right : (y : Layout) (r : List ℕ) (at : ℕ) (e : numbers.Entry) → right_live_def (entry_as y (drop at r) 0 e) ≡ right_live_def (entry_as y r at e)
unfolding right_live_def entry_as walk.placed
front-right y r at e = refl

-- it is sound by itself just if it is so in the region
pub front-sound : {y : Layout} {r : List ℕ} {at : ℕ} {e : numbers.Entry} {k : ℕ} → Turned y r at e k
    → entry_sound_def (length (take (length r - at) (drop at r))) (entry_as y (take (length r - at) (drop at r)) 0 e) ≡ entry_sound_def (length r) (entry_as y r at e)
front-sound {y} {r} {at} {e} w =
    ap (λ s. entry_sound_def (length s) (entry_as y s 0 e)) (rest r at)
    ∙ sound-parts y (drop at r) 0 e (length (drop at r))
    ∙ ap₂ (λ (b c : Bool). among states e.state && (eqb e.state 0xFF || b) && c)
    (ap (leb (0 + filled y e)) (length-drop at r) ∙ shifted at (filled y e) (length r) w.inside)
    (front-right y r at e)
    ∙ sym (sound-parts y r at e (length r))
