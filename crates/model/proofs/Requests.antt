-- What the rules leave of a set that breaks none: the image is ready, the value to put is one that a sound region can hold, and it fits; the value
-- to delete is there. A list of rules of which none is broken has every test false, and each fact is read off the tests that deny it; that a change
-- puts a value says besides that the set neither deletes nor appends nothing.
-- Assumes nothing.
use Prim.Native.Nat.{ℕ, ◌-◌, ◌/◌, ◌%◌, ◌≤◌}
use native.Mathlib.Omega.{arith}
use mathlib.Core.Path.{◌≡◌, refl, sym, ap, ◌∙◌}
use mathlib.Core.Bool.{Bool, true, false, cond, not, ◌&&◌, ◌||◌, and-false, true≢false, false≢true}
use mathlib.Core.List.{List, [], ◌∷◌, ◌++◌}
use mathlib.Core.Option.{Option, none, some}
use lib.ListN.{length, take, replicate, length-append, length-take}
use lib.Dec.{eqb, leb}
use borrow.Author.Tests.{ltb-false, leb-true, eqb-true, eqb-false, ne_eqb, not-false}
use Rattle.model.specs.declared.Setup.{Setup}
use Rattle.model.specs.declared.Session.{Session}
use Rattle.model.specs.declared.Terms.{Terms}
use Rattle.model.specs.declared.Rule.{Rule}
use Rattle.model.specs.declared.Rule.TheVariants.{Side}
use Rattle.model.specs.Layout.{authenticated}
use Rattle.model.specs.Lists.{all_ff, among, is_some, on_some, or_else}
use Rattle.model.specs.Name.{Key, same_key_def, well_named, record_name}
use Rattle.model.specs.Image.{right_length, region_size, region, work, spare}
use Rattle.model.specs.Entry.{Value, key_of}
use Rattle.model.specs.Region.{max_data, stored_attributes, record_bit, tail, sound, clean, clean_in, values_of, values_in, find}
use Rattle.model.specs.Work.{idle, ready_for_call, ready_in, ready_for_start_up}
use Rattle.model.specs.Request.{Request, request_key, stamp_size, time_based_def, appends, without_append_def, data_proper, stamp_to_store, later, proper_at, right_descriptor, key_mode, audit_mode, deployed_mode}
use Rattle.model.specs.Session.{at_runtime_def}
use Rattle.model.specs.Limits.{Limit, limits_for}
use Rattle.model.specs.Change.{Change, nothing, remove, put, deletes, empty_append_def, equal_to, new_data, later_of_def, new_stamp, new_value, change_of, change_in, changes_of, mode_changes, step, steps, space_of}
use Rattle.model.specs.Sides.{allotted}
use Rattle.model.specs.Rules.{first_broken, rule1, rule2_in, rule2_start_up, rule3, rule4, rule8, rule11, rule12, rule13, rule17, rule22_start_up, rule24_set, values_found, terms_for_def, terms_of, image_rules, image_rules_in, request_rules, standing_rules, result_rules, item_rules, setting_rules, room_rules, set_broken, mode_rules, mode_broken, get_rules, get_broken, gets_broken, next_broken, start_up_broken}
use Rattle.model.specs.Answers.{rule_number}
use Rattle.model.specs.Beside.{Valid}
use Rattle.model.proofs.Encode.{AllValid, sound-valid, sound-fits}
use Rattle.model.proofs.Changes.{Fitting, room_after}
use Rattle.model.proofs.Joint.{mode-valid, beside-puts, mode-puts, mode-removes}
use Rattle.model.proofs.Chunks.{Chunked, region-chunked}
use Rattle.model.proofs.Parts.{right-parts, parts-region, parts-size}
use Rattle.model.proofs.Values.{find-holds}
use Rattle.model.proofs.Tests.{or_split, and_split}

-- ---- rules of which none is broken

none-cons : (x : Rule × Bool) (xs : List (Rule × Bool)) → first_broken (x ∷ xs) ≡ none → (x.1 ≡ false) × (first_broken xs ≡ none)
unfolding first_broken
none-cons x xs h = go x.1 h
  where
    go : (t : Bool) → cond t (some x.0) (first_broken xs) ≡ none → (t ≡ false) × (first_broken xs ≡ none)
    go true h = let z : ◌≡◌ {A = ℕ} 0 1 = cc in absurd (omega arith)
    go false h = (refl, h)

-- no rule of a list is broken where none of either part is
pub none-append : (xs ys : List (Rule × Bool)) → first_broken (xs ++ ys) ≡ none → (first_broken xs ≡ none) × (first_broken ys ≡ none)
unfolding first_broken
none-append [] ys h = (refl, h)
none-append (x ∷ xs) ys h =
    let p = none-cons x (xs ++ ys) h in
    let q = none-append xs ys p.1 in
    (rw p.0 q.0, q.1)

-- the first broken rule of two lists is that of the first, else that of the second
pub broken-append : (xs ys : List (Rule × Bool)) → first_broken (xs ++ ys) ≡ or_else (first_broken xs) (first_broken ys)
unfolding first_broken
broken-append [] ys = refl
broken-append (x ∷ xs) ys = go x.1 (broken-append xs ys)
  where
    go : (t : Bool) → first_broken (xs ++ ys) ≡ or_else (first_broken xs) (first_broken ys)
        → cond t (some x.0) (first_broken (xs ++ ys)) ≡ or_else (cond t (some x.0) (first_broken xs)) (first_broken ys)
    go true i = refl
    go false i = i

-- the test of a rule, by its number
abbrev pub test : List (Rule × Bool) → ℕ → Bool
test [] n = false
test (x ∷ xs) n = cond (eqb (rule_number x.0) n) x.1 (test xs n)

pub unbroken : (xs : List (Rule × Bool)) (n : ℕ) → first_broken xs ≡ none → test xs n ≡ false
unbroken [] n h = refl
unbroken (x ∷ xs) n h = go (eqb (rule_number x.0) n) (none-cons x xs h).0 (unbroken xs n (none-cons x xs h).1)
  where
    go : (t : Bool) → x.1 ≡ false → test xs n ≡ false → cond t x.1 (test xs n) ≡ false
    go true here rest = here
    go false here rest = rest

-- ---- what a change that puts says of the set

record Puts (r : Request) (old : Option Value) (v : Value) : Type 0 where
  kept : deletes r.attributes (length (data_proper r)) ≡ false
  adds : empty_append_def r.attributes (length (data_proper r)) ≡ false
  made : v ≡ new_value r old

puts : (r : Request) (old : Option Value) (v : Value) → change_of r old ≡ put v → Puts r old v
unfolding change_of
puts r old v h =
    go (deletes r.attributes (length (data_proper r))) refl (empty_append_def r.attributes (length (data_proper r))) refl
    (on_some old (λ w. equal_to r.attributes (data_proper r) w.attributes w.bytes) false) h
  where
    go : (d : Bool) → deletes r.attributes (length (data_proper r)) ≡ d → (e : Bool) → empty_append_def r.attributes (length (data_proper r)) ≡ e → (q : Bool)
        → cond d (remove (request_key r)) (cond (e || q) nothing (put (new_value r old))) ≡ put v → Puts r old v
    go true d e e' q h = let z : ◌≡◌ {A = ℕ} 0 1 = cc in absurd (omega arith)
    go false d true e q h = let z : ◌≡◌ {A = ℕ} 0 1 = cc in absurd (omega arith)
    go false d false e true h = let z : ◌≡◌ {A = ℕ} 0 1 = cc in absurd (omega arith)
    go false d false e false h = record { kept = d; adds = e; made = cc }

-- a change that puts is of the set's own name
pub put-named : (r : Request) (old : Option Value) (v : Value) → change_of r old ≡ put v → key_of v ≡ request_key r
unfolding new_value
put-named r old v h = ap key_of (puts r old v h).made

-- a change that removes is of the set's own name
removes : (r : Request) (old : Option Value) (k : Key) → change_of r old ≡ remove k → k ≡ request_key r
unfolding change_of
removes r old k h =
    go (deletes r.attributes (length (data_proper r)))
    (empty_append_def r.attributes (length (data_proper r)) || on_some old (λ w. equal_to r.attributes (data_proper r) w.attributes w.bytes) false) h
  where
    go : (d e : Bool) → cond d (remove (request_key r)) (cond e nothing (put (new_value r old))) ≡ remove k → k ≡ request_key r
    go true e h = cc
    go false true h = let z : ◌≡◌ {A = ℕ} 0 1 = cc in absurd (omega arith)
    go false false h = let z : ◌≡◌ {A = ℕ} 0 1 = cc in absurd (omega arith)

-- there are data proper, and they are the data to put or the end of them
some-proper : (a size : ℕ) → deletes a size ≡ false → empty_append_def a size ≡ false → 1 ≤ size
unfolding deletes empty_append_def
some-proper a size d e = go (eqb size 0) refl (appends a) (or_split (eqb a 0) _ d).1 e
  where
    go : (z : Bool) → eqb size 0 ≡ z → (t : Bool) → (z && not t) ≡ false → (z && t) ≡ false → 1 ≤ size
    go true z true d e = absurd (true≢false e)
    go true z false d e = absurd (true≢false d)
    go false z t d e = let n = eqb-false size 0 z in omega arith

some-new : (r : Request) (old : Option Value) → 1 ≤ length (data_proper r) → 1 ≤ length (new_data r old)
unfolding new_data
some-new r old h = go (appends r.attributes)
  where
    go : (t : Bool) → 1 ≤ length (cond t (on_some old (λ v. v.bytes) [] ++ data_proper r) (data_proper r))
    go true = rw length-append (omega arith)
    go false = h

-- attributes without 0x40 are 0 for 0 and 0x40 alone
new-attributes : (a : ℕ) → among (0 ∷ stored_attributes) (without_append_def a) ≡ true → eqb a 0x40 ≡ false → eqb a 0 ≡ false
    → among stored_attributes (without_append_def a) ≡ true
new-attributes a h n z = go (appends a) refl h
  where
    go : (t : Bool) → appends a ≡ t → among (0 ∷ stored_attributes) (cond t (a - 0x40) a) ≡ true
        → among stored_attributes (cond t (a - 0x40) a) ≡ true
    go true e h =
        let x : a / 0x40 % 2 ≡ 1 = eqb-true (a / 0x40 % 2) 1 e in
        let q : eqb (a - 0x40) 0 ≡ false = ne_eqb (a - 0x40) 0 (λ y. eqb-false a 0x40 n (omega arith)) in
        rw q at h
    go false e h = rw z at h

put-attributes : (runtime : Bool) (a size : ℕ) → rule4 runtime a ≡ false → deletes a size ≡ false → among stored_attributes (without_append_def a) ≡ true
unfolding rule4 deletes
put-attributes runtime a size h d =
    let p = or_split _ _ (or_split _ _ h).0 in
    new-attributes a (not-false _ p.0) p.1 (or_split _ _ d).0

-- 0x40 says nothing of error records, and an attribute 0x08 that rule 17 lets pass stands under a record's name
pub record-append : (a : ℕ) → record_bit (without_append_def a) ≡ record_bit a
record-append a = go (appends a) refl
  where
    go : (t : Bool) → appends a ≡ t → record_bit (cond t (a - 0x40) a) ≡ record_bit a
    go true e =
        let x : a / 0x40 % 2 ≡ 1 = eqb-true (a / 0x40 % 2) 1 e in
        let y : (a - 0x40) / 0x08 % 2 ≡ a / 0x08 % 2 = omega arith in
        rw y
    go false e = refl

pub recorded-put : (k : Key) (a size : ℕ) → rule17 k a ≡ false → deletes a size ≡ false → (not (record_bit (without_append_def a)) || record_name k) ≡ true
unfolding rule17 deletes
recorded-put k a size h d = rw (record-append a) (go (eqb a 0) (or_split _ _ d).0 (record_bit a) (record_name k) h)
  where
    go : (z : Bool) → z ≡ false → (b n : Bool) → (not z && cond b (not n) n) ≡ false → (not b || n) ≡ true
    go true e b n h = absurd (true≢false e)
    go false e true true h = refl
    go false e true false h = absurd (true≢false h)
    go false e false n h = refl

-- a stamp is 16 bytes
descriptor-length : (bytes : List ℕ) → right_descriptor bytes ≡ true → stamp_size ≤ length bytes
unfolding right_descriptor
descriptor-length bytes h = go (leb (proper_at bytes) (length bytes)) refl
  where
    go : (t : Bool) → leb (proper_at bytes) (length bytes) ≡ t → stamp_size ≤ length bytes
    go true e = omega (arith, leb-true)
    go false e = absurd (false≢true (simp (e, and-false) at h))

-- the stamp of a new value is the one given or the old value's: what holds of both holds of it
pub new-stamp : (P : List ℕ → Type 0) (r : Request) (old : Option Value) → P (stamp_to_store r) → ((v : Value) → old ≡ some v → P v.stamp) → P (new_stamp r old)
unfolding new_stamp later_of_def
new-stamp P r old p f = go (appends r.attributes && time_based_def r.attributes) old f
  where
    pick : (t : Bool) {a b : List ℕ} → P a → P b → P (cond t a b)
    pick true p q = p
    pick false p q = q

    go : (t : Bool) (o : Option Value) → ((v : Value) → o ≡ some v → P v.stamp)
        → P (cond t (on_some o (λ v. cond (later (stamp_to_store r) v.stamp) (stamp_to_store r) v.stamp) (stamp_to_store r)) (stamp_to_store r))
    go false o f = p
    go true none f = p
    go true (some v) f = pick (later (stamp_to_store r) v.stamp) p (f v refl)

-- the values of an image that is ready are valid and fit
module _ (img : List ℕ) (l : right_length img ≡ true) (h : ready_for_call img ≡ true) where
  image-long : length (region img) ≡ region_size img
  image-long = let i = right-parts img l in ap length (ap region i.whole ∙ parts-region i.parts) ∙ i.parts.region-long ∙ sym (ap region_size i.whole ∙ parts-size i.parts)

  image-chunked : Chunked authenticated (region img)
  unfolding ready_in clean_in
  image-chunked =
      let i = right-parts img l in
      let a = (and_split (clean (region img) && all_ff (spare img)) (idle (work img)) h).0 in
      let c = (and_split (clean (region img)) (all_ff (spare img)) a).0 in
      let s = (and_split (sound (region img)) (all_ff (tail (region img))) c).0 in
      region-chunked authenticated i.b (ap length (ap region i.whole ∙ parts-region i.parts) ∙ i.parts.region-long) s

  pub image-valid : AllValid authenticated (values_of img)
  unfolding values_in
  image-valid = sound-valid authenticated (region img) image-chunked

  pub image-fits : space_of (values_of img) ≤ region_size img
  unfolding values_in
  image-fits = rw (← image-long) (sound-fits authenticated (region img) image-chunked)

stamp-length : (r : Request) → rule8 r.attributes r.bytes ≡ false → length (stamp_to_store r) ≡ 16
unfolding rule8 stamp_to_store
stamp-length r h = go (time_based_def r.attributes) (right_descriptor r.bytes) refl h
  where
    go : (t d : Bool) → right_descriptor r.bytes ≡ d → (t && not d) ≡ false
        → length (cond t (take stamp_size r.bytes) (replicate stamp_size 0)) ≡ 16
    go true true e h = let l = descriptor-length r.bytes e in rw length-take (omega arith)
    go true false e h = absurd (true≢false h)
    go false d e h = refl

-- ---- a set over values, room and the image aside

module _ (t : Terms) (r : Request) (vs : List Value) (kept : first_broken (item_rules t r vs) ≡ none) where
  -- the value to put is one that a sound region can hold, where those that stand are: an old stamp is 16 bytes
  pub item-valid : AllValid authenticated vs → (v : Value) → change_in r vs ≡ put v → length r.vendor ≡ 16 → Valid v
  unfolding item_rules request_rules standing_rules result_rules rule3 rule12 change_in new_value
  item-valid valid v c g =
      let old = find (request_key r) vs in
      let p = puts r old v c in
      let n : rule3 (request_key r) ≡ false = unbroken _ 3 kept in
      let q : rule4 t.runtime r.attributes ≡ false = unbroken _ 4 kept in
      let d : rule8 r.attributes r.bytes ≡ false = unbroken _ 8 kept in
      let e : rule17 (request_key r) r.attributes ≡ false = unbroken _ 17 kept in
      let h : rule12 (change_in r vs) ≡ false = unbroken _ 12 kept in
      let few : length v.bytes ≤ max_data = ltb-false max_data (length v.bytes) (rw c at h) in
      let stamped : (w : Value) → old ≡ some w → length w.stamp ≡ 16 = λ w f.
      (find-holds Valid (AllValid authenticated) (λ x xs y. y) (request_key r) vs valid w f).stamp in
      rw p.made
      (record {
        named = not-false (well_named r.name) n;
        vendor = g;
        stamp = new-stamp (λ (x : List ℕ). length x ≡ 16) r old (stamp-length r d) stamped;
        stampless = λ e. absurd (true≢false e);
        attributes = put-attributes t.runtime r.attributes (length (data_proper r)) q p.kept;
        recorded = recorded-put (request_key r) r.attributes (length (data_proper r)) e p.kept;
        some-data = some-new r old (some-proper r.attributes (length (data_proper r)) p.kept p.adds);
        few-data = rw p.made at few;
      })

  -- the value to remove is there
  pub item-present : (k : Key) → change_in r vs ≡ remove k → is_some (find k vs) ≡ true
  unfolding item_rules request_rules standing_rules result_rules rule11 change_in
  item-present k c =
      let h : rule11 (change_in r vs) (find (request_key r) vs) ≡ false = unbroken _ 11 kept in
      rw (removes r (find (request_key r) vs) k c) (not-false (is_some (find (request_key r) vs)) (rw c at h))

-- ---- a set that breaks no rule

-- its rules, under terms and with the rules for its name
abbrev pub set_rules : Terms → List Limit → Request → List ℕ → List (Rule × Bool)
set_rules t ls r img =
    image_rules img
    ++ item_rules t r (values_of img)
    ++ setting_rules ls r (find (request_key r) (values_of img))
    ++ room_rules t (region_size img) (changes_of r (values_of img)) (values_of img)

module _ (t : Terms) (ls : List Limit) (r : Request) (img : List ℕ) (accepted : first_broken (set_rules t ls r img) ≡ none) where
  kept-length : right_length img ≡ true
  unfolding image_rules_in rule1
  kept-length = not-false (right_length img) (unbroken _ 1 accepted)

  kept-ready : ready_for_call img ≡ true
  unfolding image_rules_in rule2_in
  kept-ready = not-false (ready_for_call img) (unbroken _ 2 accepted)

  kept-item : first_broken (item_rules t r (values_of img)) ≡ none
  kept-item =
      let a : List (Rule × Bool) = image_rules img in
      let b : List (Rule × Bool) = item_rules t r (values_of img) in
      let c : List (Rule × Bool) = setting_rules ls r (find (request_key r) (values_of img)) in
      let d : List (Rule × Bool) = room_rules t (region_size img) (changes_of r (values_of img)) (values_of img) in
      (none-append a b (none-append (a ++ b) c (none-append (a ++ b ++ c) d accepted).0).0).1

  pub kept-valid : (v : Value) → change_in r (values_of img) ≡ put v → length r.vendor ≡ 16 → Valid v
  kept-valid = item-valid t r (values_of img) kept-item (image-valid img kept-length kept-ready)

  kept-present : (k : Key) → change_in r (values_of img) ≡ remove k → is_some (find k (values_of img)) ≡ true
  kept-present = item-present t r (values_of img) kept-item

  -- all values fit after it
  pub kept-room : space_of (steps (changes_of r (values_of img)) (values_of img)) ≤ region_size img
  unfolding image_rules_in item_rules request_rules standing_rules result_rules setting_rules room_rules
  kept-room =
      let h : rule13 t (region_size img) (changes_of r (values_of img)) (values_of img) ≡ false = unbroken _ 13 accepted in
      room_after t (region_size img) (changes_of r (values_of img)) (values_of img) h (image-fits img kept-length kept-ready)

  pub kept-fits : (v : Value) → changes_of r (values_of img) ≡ put v ∷ [] → space_of (step (put v) (values_of img)) ≤ region_size img
  unfolding steps
  kept-fits v c = rw c at kept-room

-- in a session
module _ (m : Bool) (s : Session) (r : Request) (img : List ℕ) (accepted : set_broken m s r img ≡ none) where
  abbrev its : Terms
  its = terms_of m s (request_key r)

  abbrev rules : List Limit
  rules = limits_for s.setup (request_key r)

  pub set-length : right_length img ≡ true
  unfolding set_broken
  set-length = kept-length its rules r img accepted

  pub set-ready : ready_for_call img ≡ true
  unfolding set_broken
  set-ready = kept-ready its rules r img accepted

  pub put-key : (v : Value) → change_in r (values_of img) ≡ put v → key_of v ≡ request_key r
  unfolding change_in
  put-key v c = put-named r (find (request_key r) (values_of img)) v c

  pub set_own : first_broken (item_rules its r (values_of img)) ≡ none
  unfolding set_broken
  set_own = kept-item its rules r img accepted

  pub put-is-valid : (v : Value) → change_in r (values_of img) ≡ put v → length r.vendor ≡ 16 → Valid v
  unfolding set_broken
  put-is-valid = kept-valid its rules r img accepted

  pub remove-present : (k : Key) → change_in r (values_of img) ≡ remove k → is_some (find k (values_of img)) ≡ true
  unfolding set_broken
  remove-present = kept-present its rules r img accepted

  set_room : space_of (steps (changes_of r (values_of img)) (values_of img)) ≤ region_size img
  unfolding set_broken
  set_room = kept-room its rules r img accepted

  pub put-fits : (v : Value) → changes_of r (values_of img) ≡ put v ∷ [] → space_of (step (put v) (values_of img)) ≤ region_size img
  unfolding set_broken
  put-fits = kept-fits its rules r img accepted

  -- PlatMode is not set so
  pub set_apart : same_key_def (request_key r) key_mode ≡ false
  unfolding item_rules request_rules standing_rules rule24_set
  set_apart = unbroken _ 24 set_own

  pub set-fitting : length r.vendor ≡ 16 → Fitting (changes_of r (values_of img)) (values_of img) (region_size img)
  unfolding changes_of
  set-fitting g = record {
    valid = (λ v c. put-is-valid v c g, beside-puts Valid (mode-valid deployed_mode) (change_in r (values_of img)) (values_of img));
    room = set_room;
    there = λ k e. remove-present k (only e);
  }
    where
      only : {k : Key} {cs : List Change} → change_in r (values_of img) ∷ cs ≡ remove k ∷ [] → change_in r (values_of img) ≡ remove k
      only e = cc

-- ---- a mode request that breaks no rule

module _ (side : Bool) (s : Session) (m : ℕ) (img : List ℕ) (accepted : mode_broken side s m img ≡ none) where
  pub mode-length : right_length img ≡ true
  unfolding mode_broken mode_rules image_rules_in rule1
  mode-length = not-false (right_length img) (unbroken _ 1 accepted)

  pub mode-ready : ready_for_call img ≡ true
  unfolding mode_broken mode_rules image_rules_in rule2_in
  mode-ready = not-false (ready_for_call img) (unbroken _ 2 accepted)

  pub mode-fitting : Fitting (mode_changes m (values_of img)) (values_of img) (region_size img)
  unfolding mode_broken mode_rules image_rules_in
  mode-fitting = record {
    valid = mode-puts Valid (mode-valid audit_mode) (mode-valid deployed_mode) m (values_of img);
    room =
        room_after (terms_for_def side s) (region_size img) (mode_changes m (values_of img)) (values_of img) (unbroken _ 13 accepted) (image-fits img mode-length mode-ready);
    there = mode-removes m (values_of img);
  }

-- ---- the other calls

-- a start-up that breaks no rule
pub start_up-length : (u : Setup) (img : List ℕ) → start_up_broken u img ≡ none → right_length img ≡ true
unfolding start_up_broken rule1
start_up-length u img h = not-false (right_length img) (unbroken _ 1 h)

pub start_up-ready : (u : Setup) (img : List ℕ) → start_up_broken u img ≡ none → ready_for_start_up img ≡ true
unfolding start_up_broken rule2_start_up
start_up-ready u img h = not-false (ready_for_start_up img) (unbroken _ 2 h)

pub start_up-allotted : (u : Setup) (img : List ℕ) → start_up_broken u img ≡ none → allotted u (region_size img) (values_found img) ≡ true
unfolding start_up_broken rule22_start_up
start_up-allotted u img h = not-false (allotted u (region_size img) (values_found img)) (unbroken _ 22 h)

-- and the other way round: on an image that is ready for it a start-up is refused where what it finds does not keep to the shares, and there only
pub start_up-judged : (u : Setup) (img : List ℕ) → right_length img ≡ true → ready_for_start_up img ≡ true
    → start_up_broken u img ≡ cond (allotted u (region_size img) (values_found img)) none (some Side)
unfolding start_up_broken first_broken rule1 rule2_start_up rule22_start_up
start_up-judged u img l h = rw (l, h) (go (allotted u (region_size img) (values_found img)))
  where
    go : (t : Bool) → cond (not t) (some Side) none ≡ cond t none (some Side)
    go true = refl
    go false = refl

-- a get and a next-name that are accepted find the image ready
pub get-ready : (m : Bool) (s : Session) (k : Key) (buffer img : List ℕ) → get_broken m s k buffer img ≡ none → (right_length img ≡ true) × (ready_for_call img ≡ true)
unfolding get_broken image_rules_in rule1 rule2_in
get-ready m s k buffer img h = (not-false (right_length img) (unbroken _ 1 h), not-false (ready_for_call img) (unbroken _ 2 h))

pub next-ready : (m : Bool) (s : Session) (k : Key) (buffer img : List ℕ) → next_broken m s k buffer img ≡ none → (right_length img ≡ true) × (ready_for_call img ≡ true)
unfolding next_broken image_rules_in rule1 rule2_in
next-ready m s k buffer img h = (not-false (right_length img) (unbroken _ 1 h), not-false (ready_for_call img) (unbroken _ 2 h))

-- and so does a many-get
pub gets-ready : (ks : List Key) (img : List ℕ) → gets_broken ks img ≡ none → (right_length img ≡ true) × (ready_for_call img ≡ true)
unfolding gets_broken image_rules_in rule1 rule2_in
gets-ready ks img h = (not-false (right_length img) (unbroken _ 1 h), not-false (ready_for_call img) (unbroken _ 2 h))

-- a get of a name in it breaks first what it breaks over the values alone
pub get-over : (m : Bool) (s : Session) (ks : List Key) (img : List ℕ) → gets_broken ks img ≡ none → (k : Key) (buffer : List ℕ)
    → get_broken m s k buffer img ≡ first_broken (get_rules s.setup.modem.vendor m (at_runtime_def s) k buffer (values_of img))
unfolding gets_broken get_broken
get-over m s ks img h k buffer =
    broken-append (image_rules img) (get_rules s.setup.modem.vendor m (at_runtime_def s) k buffer (values_of img))
    ∙ ap
    (λ (o : Option Rule). or_else o (first_broken (get_rules s.setup.modem.vendor m (at_runtime_def s) k buffer (values_of img))))
    (none-append (image_rules img) _ h).0
