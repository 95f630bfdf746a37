-- What a side's call changes is of its own names, where 22 lets it pass: a set's name, and PlatMode beside PK, which are both ours; each item's name; and what
-- a mode request changes. An error record that it puts has a record's name, where 17 lets it pass; no item of a profile and no mode is one.
-- Assumes nothing.
use Prim.Native.Nat.{ℕ}
use native.Mathlib.Omega.{arith}
use mathlib.Core.Path.{◌≡◌, refl, sym, ap, ◌∙◌}
use mathlib.Core.Bool.{Bool, true, false, not, cond, ◌&&◌, false≢true}
use mathlib.Core.List.{List, [], ◌∷◌}
use mathlib.Core.Option.{none}
use lib.Dec.{eqb}
use borrow.Author.Tests.{eqb-true, not-false}
use Rattle.model.specs.declared.Session.{Session}
use Rattle.model.specs.declared.Terms.{Terms}
use Rattle.model.specs.declared.PlatMode.{PlatMode}
use Rattle.model.specs.declared.PlatMode.TheVariants as mode
use Rattle.model.specs.Lists.{any, is_some}
use Rattle.model.specs.Name.{same_key_def, record_name}
use Rattle.model.specs.Entry.{Value, key_of}
use Rattle.model.specs.Region.{record_bit, find}
use Rattle.model.specs.Request.{Request, request_key, key_pk, user_mode_def, key_mode, audit_mode, deployed_mode, mode_value, stores_mode, mode_of}
use Rattle.model.specs.Change.{Change, nothing, remove, put, new_value, change_in, without_mode, beside_pk, changes_of, transition, mode_changes, changes_in, step, is_error_record_def}
use Rattle.model.specs.Sides.{owns}
use Rattle.model.specs.Rules.{first_broken, puts, rule17, rule22, terms_of, request_rules, item_rules, items_rules}
use Rattle.model.specs.Beside.{EachItem}
use Rattle.model.proofs.Tests.{key-eq}
use Rattle.model.proofs.Alone.{InForm, form-plain}
use Rattle.model.proofs.Changes.{EachPut}
use Rattle.model.proofs.Looking.{change-cases}
use Rattle.model.proofs.Joint.{mode-puts}
use Rattle.model.proofs.Requests.{unbroken, record-append}
use Rattle.model.proofs.Profiles.{first-own, others-kept}
use Rattle.recovery.proofs.Views.{About, AllAbout, with_mode, with-pk}

-- a set's change is about the name that it names
pub change-about : (g : List ℕ) (m x : Bool) (r : Request) (vs : List Value) → owns g m (request_key r) ≡ x → About g m (change_in r vs) x
unfolding change_in new_value
change-about g m x r vs o = change-cases (λ (c : Change). About g m c x) r (find (request_key r) vs) o tt o

-- 22 is kept by own names only
pub item-own : (m : Bool) (s : Session) (r : Request) (vs : List Value) → first_broken (item_rules (terms_of m s (request_key r)) r vs) ≡ none
    → owns s.setup.modem.vendor m (request_key r) ≡ true
unfolding item_rules request_rules terms_of rule22
item-own m s r vs kept = not-false (owns s.setup.modem.vendor m (request_key r)) (unbroken _ 22 kept)

-- 17 is kept by error records only under names of theirs
pub item-recorded : (t : Terms) (r : Request) (vs : List Value) → first_broken (item_rules t r vs) ≡ none
    → (v : Value) → change_in r vs ≡ put v → is_error_record_def v ≡ true → record_name (request_key r) ≡ true
unfolding item_rules request_rules rule17 change_in new_value
item-recorded t r vs kept =
    change-cases (λ (c : Change). (v : Value) → c ≡ put v → is_error_record_def v ≡ true → record_name (request_key r) ≡ true) r (find (request_key r) vs)
    (λ v c e. absurd (let z : ◌≡◌ {A = ℕ} 0 1 = cc in omega (arith, z)))
    (λ v c e. absurd (let z : ◌≡◌ {A = ℕ} 0 1 = cc in omega (arith, z)))
    (λ v c e.
    let put_is : new_value r (find (request_key r) vs) ≡ v = cc in
    go (eqb r.attributes 0) refl (record_bit r.attributes) (sym (record-append r.attributes) ∙ ap is_error_record_def put_is ∙ e) refl (unbroken _ 17 kept))
  where
    go : (z : Bool) → eqb r.attributes 0 ≡ z → (b : Bool) → b ≡ true → record_bit r.attributes ≡ b
        → (not z && cond b (not (record_name (request_key r))) (record_name (request_key r))) ≡ false → record_name (request_key r) ≡ true
    go z e false h f k = absurd (false≢true h)
    go true e true h f k = absurd (false≢true (ap record_bit (sym (eqb-true r.attributes 0 e)) ∙ f))
    go false e true h f k = not-false (record_name (request_key r)) k

-- ---- PlatMode

module _ (g : List ℕ) (m : Bool) (vs : List Value) where
  gone-about : owns g m key_mode ≡ true → (t : Bool) → AllAbout g m (cond t (remove key_mode ∷ []) []) true
  gone-about o true = (o, tt)
  gone-about o false = tt

  put-about : (n : ℕ) → owns g m key_mode ≡ true → AllAbout g m (put (mode_value n) ∷ []) true
  unfolding mode_value
  put-about n o = (o, tt)

  -- beside PK
  beside-about : (c : Change) → About g m c true → AllAbout g m (beside_pk c vs) true
  unfolding beside_pk
  beside-about nothing o = tt
  beside-about (remove k) o = go (same_key_def k key_pk) refl
    where
      go : (t : Bool) → same_key_def k key_pk ≡ t → AllAbout g m (cond t (without_mode vs) []) true
      go true e = gone-about (with_mode g m (ap (owns g m) (sym (key-eq k key_pk e)) ∙ o)) (is_some (find key_mode vs))
      go false e = tt
  beside-about (put v) o = go (same_key_def (key_of v) key_pk) refl (not (user_mode_def vs)) (stores_mode audit_mode vs)
    where
      own : same_key_def (key_of v) key_pk ≡ true → owns g m key_mode ≡ true
      own e = with_mode g m (ap (owns g m) (sym (key-eq (key_of v) key_pk e)) ∙ o)

      go : (t : Bool) → same_key_def (key_of v) key_pk ≡ t → (u a : Bool)
          → AllAbout g m (cond (t && u) (cond a (put (mode_value deployed_mode) ∷ []) (without_mode vs)) []) true
      go true e true true = put-about deployed_mode (own e)
      go true e true false = gone-about (own e) (is_some (find key_mode vs))
      go true e false a = tt
      go false e u a = tt

  -- so of a set
  pub changes-about : (r : Request) → owns g m (request_key r) ≡ true → AllAbout g m (changes_of r vs) true
  unfolding changes_of
  changes-about r o = let c = change-about g m true r vs o in (c, beside-about (change_in r vs) c)

  -- of a mode request
  pub mode-about : (to : ℕ) → owns g m key_mode ≡ true → AllAbout g m (mode_changes to vs) true
  unfolding mode_changes
  mode-about to o = by_mode (mode_of vs)
    where
      from-setup : (t : Bool) → AllAbout g m (cond t (put (mode_value audit_mode) ∷ []) []) true
      from-setup true = put-about audit_mode o
      from-setup false = tt

      from-user : (t u : Bool) → AllAbout g m (cond t (remove key_pk ∷ put (mode_value audit_mode) ∷ []) (cond u (put (mode_value deployed_mode) ∷ []) [])) true
      from-user true u = (with-pk g m o, put-about audit_mode o)
      from-user false true = put-about deployed_mode o
      from-user false false = tt

      by_mode : (n : PlatMode) → AllAbout g m (transition n to) true
      by_mode mode.Setup = from-setup (eqb to audit_mode)
      by_mode mode.Audit = tt
      by_mode mode.User = from-user (eqb to audit_mode) (eqb to deployed_mode)
      by_mode mode.Deployed = tt

-- ---- the items of a profile

pub items-about : (m : Bool) (s : Session) (rs : List Request) (vs : List Value) → first_broken (items_rules m s rs vs) ≡ none
    → AllAbout s.setup.modem.vendor m (changes_in rs vs) true
unfolding changes_in
items-about m s [] vs h = tt
items-about m s (r ∷ rs) vs h = (
  change-about s.setup.modem.vendor m true r vs (item-own m s r vs (first-own m s r rs vs h)),
  items-about m s rs (step (change_in r vs) vs) (others-kept m s r rs vs h),
)

-- their attributes are no record's
item-plain : (r : Request) (vs : List Value) → InForm r → (v : Value) → change_in r vs ≡ put v → is_error_record_def v ≡ false
unfolding change_in new_value
item-plain r vs h =
    change-cases (λ (c : Change). (v : Value) → c ≡ put v → is_error_record_def v ≡ false) r (find (request_key r) vs)
    (λ v c. absurd (let z : ◌≡◌ {A = ℕ} 0 1 = cc in omega (arith, z)))
    (λ v c. absurd (let z : ◌≡◌ {A = ℕ} 0 1 = cc in omega (arith, z)))
    (λ v c.
    let put_is : new_value r (find (request_key r) vs) ≡ v = cc in
    ap is_error_record_def (sym put_is) ∙ record-append r.attributes ∙ form-plain r.attributes h)

items-plain : (rs : List Request) (vs : List Value) → EachItem InForm rs → EachPut (λ v. is_error_record_def v ≡ false) (changes_in rs vs)
unfolding changes_in
items-plain [] vs h = tt
items-plain (r ∷ rs) vs h = (item-plain r vs h.0, items-plain rs (step (change_in r vs) vs) h.1)

none-recorded : (cs : List Change) → EachPut (λ v. is_error_record_def v ≡ false) cs → any (puts is_error_record_def) cs ≡ false
none-recorded [] h = refl
none-recorded (nothing ∷ cs) h = none-recorded cs h.1
none-recorded (remove k ∷ cs) h = none-recorded cs h.1
none-recorded (put v ∷ cs) h = rw (h.0 v refl) (none-recorded cs h.1)

pub items-unrecorded : (rs : List Request) (vs : List Value) → EachItem InForm rs → any (puts is_error_record_def) (changes_in rs vs) ≡ false
items-unrecorded rs vs h = none-recorded (changes_in rs vs) (items-plain rs vs h)

-- nor does a mode request put one
mode-plain : (n : ℕ) → is_error_record_def (mode_value n) ≡ false
unfolding mode_value
mode-plain n = refl

pub mode-unrecorded : (to : ℕ) (vs : List Value) → any (puts is_error_record_def) (mode_changes to vs) ≡ false
mode-unrecorded to vs =
    none-recorded (mode_changes to vs) (mode-puts (λ v. is_error_record_def v ≡ false) (mode-plain audit_mode) (mode-plain deployed_mode) to vs)
