-- What a decision says to the caller. It names a rule just where one of rules 3 to 13, 17, 18, 21, 22 and 24 is broken; over an image that breaks neither 1 nor 2 that is
-- the answer of the set. Where it names none, it is the kind of the change, and every test is false: so a value to delete stands, and a value to put is small
-- enough and fits. The same of a profile.
-- Assumes nothing.
use Prim.Native.Nat.{ℕ, ◌≤◌}
use native.Mathlib.Omega.{arith}
use mathlib.Core.Path.{◌≡◌, refl, sym, ap, ◌∙◌}
use mathlib.Core.Bool.{Bool, true, false, cond, ◌&&◌}
use mathlib.Core.List.{List, [], ◌∷◌, ◌++◌, append_assoc}
use mathlib.Core.Option.{Option, none, some}
use lib.ListN.{length}
use lib.Dec.{leb}
use borrow.Author.Tests.{ltb-false, leb-true, not-false}
use Rattle.model.specs.declared.Terms.{Terms}
use Rattle.model.specs.declared.Rule.{Rule}
use Rattle.model.specs.declared.Rule.TheVariants.{Room}
use Rattle.model.specs.Lists.{all, or_else}
use Rattle.model.specs.Image.{region_size}
use Rattle.model.specs.Name.{Key, well_named, zero_ended}
use Rattle.model.specs.Entry.{Value}
use Rattle.model.specs.Region.{max_data, values_of, find}
use Rattle.model.specs.Request.{Request, request_key}
use Rattle.model.specs.Limits.{Limit}
use Rattle.model.specs.Change.{Change, nothing, remove, put, is_nothing, new_value, change_of, change_in, changes_of}
use Rattle.model.specs.Rules.{first_broken, rule3, rule8, rule12, rule13, image_rules, request_rules, standing_rules, result_rules, item_rules, setting_rules, room_rules}
use Rattle.model.specs.Beside.{items_alone, changes_alone}
use Rattle.model.proofs.Looking.{change-cases}
use Rattle.model.proofs.Tests.{and_split}
use Rattle.model.proofs.Requests.{broken-append, unbroken, set_rules}
use Rattle.std.specs.Prelude.{Ok}
use Rattle.decision.specs.declared.Change.TheVariants.{Nothing, Remove, Put}
use Rattle.decision.specs.Decision.{Decision, kind_of, decided, item_of, tried_of, decision_of, broken_of}
use Rattle.decision.specs.Profile.{weighed_of}

-- ---- the rule named

named_rule : (o : Option Rule) (c : Change) → broken_of (decided o (kind_of c)) ≡ o
named_rule (some rule) c = refl
named_rule none nothing = refl
named_rule none (remove k) = refl
named_rule none (put v) = refl

-- the first broken rule of a set over an image that breaks neither 1 nor 2: with it the model's laws on a set that breaks none apply
pub rules-broken : (t : Terms) (ls : List Limit) (q : Request) (img : List ℕ) → first_broken (image_rules img) ≡ none
    → first_broken (set_rules t ls q img) ≡ broken_of (decision_of ls t q (region_size img) (values_of img))
unfolding decision_of
rules-broken t ls q img h =
    let vs : List Value = values_of img in
    let i : List (Rule × Bool) = image_rules img in
    let a : List (Rule × Bool) = item_rules t q vs in
    let b : List (Rule × Bool) = setting_rules ls q (find (request_key q) vs) in
    let d : List (Rule × Bool) = room_rules t (region_size img) (changes_of q vs) vs in
    ap first_broken (ap (λ (xs : List (Rule × Bool)). xs ++ d) (append_assoc i a b) ∙ append_assoc i (a ++ b) d)
    ∙ broken-append i (a ++ b ++ d)
    ∙ ap (λ (o : Option Rule). or_else o (first_broken (a ++ b ++ d))) h
    ∙ sym (named_rule (first_broken (a ++ b ++ d)) (change_in q vs))

-- ---- the change

pub decided-none : (o : Option Rule) (d k : Decision) → decided o d ≡ k → broken_of k ≡ none → (o ≡ none) × (d ≡ k)
decided-none none d k h b = (refl, h)
decided-none (some rule) d k h b =
    let e : some rule ≡ none = ap broken_of h ∙ b in
    let z : ◌≡◌ {A = ℕ} 0 1 = cc in
    absurd (omega arith)

module _ (q : Request) (old : Option Value) where
  kind-put : kind_of (change_of q old) ≡ Ok Put → change_of q old ≡ put (new_value q old)
  kind-put =
      change-cases (λ (c : Change). kind_of c ≡ Ok Put → c ≡ put (new_value q old)) q old
      (λ h. let z : ◌≡◌ {A = ℕ} 0 1 = cc in absurd (omega arith)) (λ h. let z : ◌≡◌ {A = ℕ} 0 1 = cc in absurd (omega arith)) (λ h. refl)

  kind-remove : kind_of (change_of q old) ≡ Ok Remove → change_of q old ≡ remove (request_key q)
  kind-remove =
      change-cases (λ (c : Change). kind_of c ≡ Ok Remove → c ≡ remove (request_key q)) q old
      (λ h. refl) (λ h. let z : ◌≡◌ {A = ℕ} 0 1 = cc in absurd (omega arith)) (λ h. let z : ◌≡◌ {A = ℕ} 0 1 = cc in absurd (omega arith))

kind-nothing : (c : Change) → kind_of c ≡ Ok Nothing → c ≡ nothing
kind-nothing nothing h = refl
kind-nothing (remove k) h = let z : ◌≡◌ {A = ℕ} 0 1 = cc in absurd (omega arith)
kind-nothing (put v) h = let z : ◌≡◌ {A = ℕ} 0 1 = cc in absurd (omega arith)

module _ (t : Terms) (q : Request) (vs : List Value) where
  -- the value to put
  abbrev pub new : Value
  new = new_value q (find (request_key q) vs)

  -- by rules 3 to 12, 17, 22 and 24
  pub item-small : item_of t q vs ≡ Ok Put → length new.bytes ≤ max_data
  unfolding item_of item_rules request_rules standing_rules result_rules rule12 change_in
  item-small h =
      let p = decided-none (first_broken (item_rules t q vs)) (kind_of (change_in q vs)) (Ok Put) h refl in
      let e : rule12 (change_in q vs) ≡ false = unbroken _ 12 p.0 in
      ltb-false max_data (length new.bytes) (rw (kind-put q (find (request_key q) vs) p.1) at e)

-- and with the rules for the name: what is put has a well-formed name
pub tried-named : (ls : List Limit) (t : Terms) (q : Request) (vs : List Value) → tried_of ls t q vs ≡ Ok Put → length q.name ≤ 128
unfolding tried_of item_rules request_rules rule3 well_named
tried-named ls t q vs h =
    let p = decided-none (first_broken (item_rules t q vs ++ setting_rules ls q (find (request_key q) vs))) (kind_of (change_in q vs)) (Ok Put) h refl in
    let e : well_named q.name ≡ true = not-false (well_named q.name) (unbroken _ 3 p.0) in
    let n = and_split (leb 4 (length q.name) && leb (length q.name) 128) (zero_ended q.name) e in
    leb-true (length q.name) 128 (and_split (leb 4 (length q.name)) (leb (length q.name) 128) n.0).1

module _ (ls : List Limit) (t : Terms) (q : Request) (size : ℕ) (vs : List Value) where
  kind-of : (k : Decision) → broken_of k ≡ none → decision_of ls t q size vs ≡ k → kind_of (change_in q vs) ≡ k
  unfolding decision_of
  kind-of k b h =
      (decided-none (first_broken (item_rules t q vs ++ setting_rules ls q (find (request_key q) vs) ++ room_rules t size (changes_of q vs) vs)) (kind_of (change_in q vs)) k h b).1

  -- a value is put where its descriptor is right
  pub put-formed : decision_of ls t q size vs ≡ Ok Put → rule8 q.attributes q.bytes ≡ false
  unfolding decision_of item_rules request_rules standing_rules
  put-formed h =
      unbroken _ 8
      (decided-none (first_broken (item_rules t q vs ++ setting_rules ls q (find (request_key q) vs) ++ room_rules t size (changes_of q vs) vs)) (kind_of (change_in q vs)) (Ok Put) h refl).0

  pub nothing-change : decision_of ls t q size vs ≡ Ok Nothing → change_in q vs ≡ nothing
  nothing-change h = kind-nothing (change_in q vs) (kind-of (Ok Nothing) refl h)

  pub remove-change : decision_of ls t q size vs ≡ Ok Remove → change_in q vs ≡ remove (request_key q)
  unfolding change_in
  remove-change h = kind-remove q (find (request_key q) vs) (kind-of (Ok Remove) refl h)

  pub put-change : decision_of ls t q size vs ≡ Ok Put → change_in q vs ≡ put (new t q vs)
  unfolding change_in
  put-change h = kind-put q (find (request_key q) vs) (kind-of (Ok Put) refl h)

-- ---- a profile

module _ (t : Terms) (told : Key → Terms) (limits : Key → List Limit) (rs : List Request) (size : ℕ) (vs : List Value) where
  -- the rules of its items, and room after the last
  abbrev pub items_and_room : List (Rule × Bool)
  items_and_room = items_alone told limits rs vs ++ ((Room, rule13 t size (changes_alone rs vs) vs) ∷ [])

  abbrev unchanged : Bool
  unchanged = all is_nothing (changes_alone rs vs)

  either : (b : Bool) → broken_of (cond {A = Decision} b (Ok Nothing) (Ok Put)) ≡ none
  either true = refl
  either false = refl

  -- it names the first of these that is broken, if any
  pub weighed-rule : broken_of (weighed_of t told limits rs size vs) ≡ first_broken items_and_room
  unfolding weighed_of
  weighed-rule = go (first_broken items_and_room)
    where
      go : (o : Option Rule) → broken_of (decided o (cond unchanged (Ok Nothing) (Ok Put))) ≡ o
      go (some rule) = refl
      go none = either unchanged

  pub weighed-nothing : weighed_of t told limits rs size vs ≡ Ok Nothing → (first_broken items_and_room ≡ none) × (unchanged ≡ true)
  unfolding weighed_of
  weighed-nothing h =
      let p = decided-none (first_broken items_and_room) (cond unchanged (Ok Nothing) (Ok Put)) (Ok Nothing) h refl in
      (p.0, go unchanged p.1)
    where
      go : (b : Bool) → cond {A = Decision} b (Ok Nothing) (Ok Put) ≡ Ok Nothing → b ≡ true
      go true e = refl
      go false e = let z : ◌≡◌ {A = ℕ} 0 1 = cc in absurd (omega arith)

  pub weighed-put : weighed_of t told limits rs size vs ≡ Ok Put → (first_broken items_and_room ≡ none) × (unchanged ≡ false)
  unfolding weighed_of
  weighed-put h =
      let p = decided-none (first_broken items_and_room) (cond unchanged (Ok Nothing) (Ok Put)) (Ok Put) h refl in
      (p.0, go unchanged p.1)
    where
      go : (b : Bool) → cond {A = Decision} b (Ok Nothing) (Ok Put) ≡ Ok Put → b ≡ false
      go true e = let z : ◌≡◌ {A = ℕ} 0 1 = cc in absurd (omega arith)
      go false e = refl

  -- deletes alone are a compaction too
  pub weighed-remove : weighed_of t told limits rs size vs ≡ Ok Remove → ⊥
  unfolding weighed_of
  weighed-remove h =
      go unchanged (decided-none (first_broken items_and_room) (cond unchanged (Ok Nothing) (Ok Put)) (Ok Remove) h refl).1
    where
      go : (b : Bool) → cond {A = Decision} b (Ok Nothing) (Ok Put) ≡ Ok Remove → ⊥
      go true e = let z : ◌≡◌ {A = ℕ} 0 1 = cc in absurd (omega arith)
      go false e = let z : ◌≡◌ {A = ℕ} 0 1 = cc in absurd (omega arith)
