-- How modes follow one another: by what stands under PK and PlatMode before and after the changes of a set, of a mode request and of a profile.
-- Assumes nothing.
use Prim.Native.Nat.{ℕ}
use native.Mathlib.Omega.{arith}
use mathlib.Core.Path.{◌≡◌, refl, sym, ap, ◌∙◌, subst}
use mathlib.Core.Bool.{Bool, true, false, not, cond, ◌&&◌, ◌||◌, and-true, true≢false, false≢true}
use mathlib.Core.Logic.{◌⊎◌, inl, inr}
use mathlib.Core.List.{List, [], ◌∷◌}
use mathlib.Core.Option.{Option, none, some}
use lib.Dec.{eqb}
use borrow.Author.Tests.{eq-eqb}
use Rattle.model.specs.declared.Session.{Session}
use Rattle.model.specs.declared.PlatMode.{PlatMode}
use Rattle.model.specs.declared.PlatMode.TheVariants as mode
use Rattle.model.specs.Lists.{same, among, is_some, is_empty, on_some}
use Rattle.model.specs.Name.{Key, same_key_def}
use Rattle.model.specs.Entry.{Value, key_of}
use Rattle.model.specs.Region.{find}
use Rattle.model.specs.Request.{Request, request_key, key_pk, key_kek, key_mode, audit_mode, deployed_mode, mode_value, is_database_def, is_key_name_def, user_mode_def, stores_mode, mode_of, as_user}
use Rattle.model.specs.Change.{Change, nothing, remove, put, change_in, without_mode, beside_pk, changes_of, transition, mode_changes, changes_in, step, steps, leaves}
use Rattle.model.specs.Rules.{first_broken, rule5, rule24_set, terms_of, request_rules, standing_rules, item_rules, items_rules}
use Rattle.model.specs.Beside.{EachItem, mode_named, Moves, stays, setup-audit, user-audit, user-deployed, audit-deployed, deployed-setup, setup-user, user-setup}
use Rattle.model.proofs.Tests.{or_split, key-refl, key-eq}
use Rattle.model.proofs.Looking.{Others, Own, change-own, other-change, find-own, find-step, find-steps, mode-alike, beside_none, without_other}
use Rattle.model.proofs.Requests.{unbroken}
use Rattle.model.proofs.Alone.{InForm, not-keyed}
use Rattle.model.proofs.Profiles.{first-own, others-kept}

-- ---- the mode, by what stands under the two names

abbrev byte_is : ℕ → Option Value → Bool
byte_is m o = on_some o (λ v. eqb v.attributes 0x07 && same v.bytes (m ∷ [])) false

abbrev mode_by_def : Option Value → Option Value → PlatMode
mode_by_def p q = cond (is_some p) (cond (byte_is deployed_mode q) mode.Deployed mode.User) (cond (byte_is audit_mode q) mode.Audit mode.Setup)

mode-by : (vs : List Value) (p q : Option Value) → find key_pk vs ≡ p → find key_mode vs ≡ q → mode_of vs ≡ mode_by_def p q
unfolding mode_of user_mode_def stores_mode
mode-by vs p q e f = rw (e, f)

pub apart : same_key_def key_mode key_pk ≡ false
unfolding key_mode key_pk same
apart = refl

apart-too : same_key_def key_pk key_mode ≡ false
unfolding key_mode key_pk same
apart-too = refl

stored : (m : ℕ) → byte_is m (some (mode_value m)) ≡ true
unfolding mode_value same
stored m = rw (eq-eqb m m refl)

mode-key : (m : ℕ) → key_of (mode_value m) ≡ key_mode
unfolding mode_value
mode-key m = refl

-- PK is there in user mode and in deployed
pub mode-pk : (vs : List Value) → is_some (find key_pk vs) ≡ as_user (mode_of vs)
unfolding mode_of user_mode_def
mode-pk vs = go (is_some (find key_pk vs)) (stores_mode deployed_mode vs) (stores_mode audit_mode vs)
  where
    go : (p d a : Bool) → p ≡ as_user (cond p (cond d mode.Deployed mode.User) (cond a mode.Audit mode.Setup))
    go true true a = refl
    go true false a = refl
    go false d true = refl
    go false d false = refl

-- so with none the mode is not user, and with one not setup
not-user : (vs : List Value) → find key_pk vs ≡ none → mode_of vs ≡ mode.User → ⊥
not-user vs p e = false≢true (ap is_some (sym p) ∙ mode-pk vs ∙ ap as_user e)

not-setup : (vs : List Value) (w : Value) → find key_pk vs ≡ some w → mode_of vs ≡ mode.Setup → ⊥
not-setup vs w p e = true≢false (ap is_some (sym p) ∙ mode-pk vs ∙ ap as_user e)

-- PlatMode is removed, if it stands
gone : (vs ws : List Value) → find key_mode ws ≡ find key_mode vs → find key_mode (steps (without_mode vs) ws) ≡ none
unfolding steps leaves
gone vs ws looked = go (find key_mode vs) refl
  where
    go : (o : Option Value) → find key_mode vs ≡ o → find key_mode (steps (without_mode vs) ws) ≡ none
    go none e = rw e (looked ∙ e)
    go (some v) e = rw e (find-own key_mode (remove key_mode) ws refl)

-- ---- changes of neither name

unmoved : (cs : List Change) (vs : List Value) → Others key_pk cs → Others key_mode cs → Moves (mode_of vs) (mode_of (steps cs vs))
unmoved cs vs p m =
    subst (Moves (mode_of vs)) (sym (mode-alike (steps cs vs) vs (find-steps key_pk cs vs p) (find-steps key_mode cs vs m))) (stays (mode_of vs))

-- ---- a set

-- with a PK that stands, the mode before is user or deployed; without one, setup or audit
with-pk_def : (vs : List Value) → is_some (find key_pk vs) ≡ true → Moves (mode_of vs) mode.Setup
unfolding mode_of user_mode_def
with-pk_def vs h = rw h (go (stores_mode deployed_mode vs))
  where
    go : (t : Bool) → Moves (cond t mode.Deployed mode.User) mode.Setup
    go true = deployed-setup
    go false = user-setup

-- PK goes, and PlatMode with it
pk-goes : (vs : List Value) → is_some (find key_pk vs) ≡ true → Moves (mode_of vs) (mode_of (steps (remove key_pk ∷ without_mode vs) vs))
unfolding steps leaves
pk-goes vs present =
    let ws = step (remove key_pk) vs in
    let p : find key_pk (steps (without_mode vs) ws) ≡ none = find-steps key_pk (without_mode vs) ws (without_other key_pk vs apart) ∙ find-own key_pk (remove key_pk) vs refl in
    let q : find key_mode (steps (without_mode vs) ws) ≡ none = gone vs ws (find-step key_mode (remove key_pk) vs apart-too) in
    subst (Moves (mode_of vs)) (sym (mode-by (steps (without_mode vs) ws) none none p q)) (with-pk_def vs present)

-- PK comes or is replaced
module _ (v : Value) (vs : List Value) (named : key_of v ≡ key_pk) where
  here : find key_pk (step (put v) vs) ≡ some v
  unfolding leaves
  here = find-own key_pk (put v) vs named

  there : find key_mode (step (put v) vs) ≡ find key_mode vs
  there = find-step key_mode (put v) vs (ap (λ (k : Key). same_key_def k key_mode) named ∙ apart-too)

  from-audit : find key_pk vs ≡ none → stores_mode audit_mode vs ≡ true → Moves (mode_of vs) (mode_of (steps (put (mode_value deployed_mode) ∷ []) (step (put v) vs)))
  unfolding steps mode_of user_mode_def leaves
  from-audit e f =
      let ws = step (put v) vs in
      let after = step (put (mode_value deployed_mode)) ws in
      let p : find key_pk after ≡ some v = find-step key_pk (put (mode_value deployed_mode)) ws (ap (λ (k : Key). same_key_def k key_pk) (mode-key deployed_mode) ∙ apart) ∙ here in
      let q : find key_mode after ≡ some (mode_value deployed_mode) = find-own key_mode (put (mode_value deployed_mode)) ws (mode-key deployed_mode) in
      let before : mode_of vs ≡ mode.Audit = rw (e, f) in
      let now : mode_of after ≡ mode.Deployed = mode-by after (some v) (some (mode_value deployed_mode)) p q ∙ rw (stored deployed_mode) in
      subst (λ (m : PlatMode). Moves m (mode_of after)) (sym before) (subst (Moves mode.Audit) (sym now) audit-deployed)

  from-setup : find key_pk vs ≡ none → stores_mode audit_mode vs ≡ false → Moves (mode_of vs) (mode_of (steps (without_mode vs) (step (put v) vs)))
  unfolding mode_of user_mode_def
  from-setup e f =
      let ws = step (put v) vs in
      let after = steps (without_mode vs) ws in
      let p : find key_pk after ≡ some v = find-steps key_pk (without_mode vs) ws (without_other key_pk vs apart) ∙ here in
      let q : find key_mode after ≡ none = gone vs ws there in
      let before : mode_of vs ≡ mode.Setup = rw (e, f) in
      subst (λ (m : PlatMode). Moves m (mode_of after)) (sym before) (subst (Moves mode.Setup) (sym (mode-by after (some v) none p q)) setup-user)

  replaced : (w : Value) → find key_pk vs ≡ some w → Moves (mode_of vs) (mode_of (step (put v) vs))
  replaced w e =
      subst (Moves (mode_of vs)) (mode-by vs (some w) (find key_mode vs) e refl ∙ sym (mode-by (step (put v) vs) (some v) (find key_mode vs) here there)) (stays (mode_of vs))

  pk-put : Moves (mode_of vs) (mode_of (steps (beside_pk (put v) vs) (step (put v) vs)))
  unfolding beside_pk user_mode_def steps
  pk-put = go (find key_pk vs) refl (stores_mode audit_mode vs) refl
    where
      is-pk_def : same_key_def (key_of v) key_pk ≡ true
      is-pk_def = ap (λ (k : Key). same_key_def k key_pk) named ∙ key-refl key_pk

      go : (o : Option Value) → find key_pk vs ≡ o → (t : Bool) → stores_mode audit_mode vs ≡ t → Moves (mode_of vs) (mode_of (steps (beside_pk (put v) vs) (step (put v) vs)))
      go none e true f = rw (is-pk_def, e, f) (from-audit e f)
      go none e false f = rw (is-pk_def, e, f) (from-setup e f)
      go (some w) e t f = rw (is-pk_def, e) (replaced w e)

-- by its change
module _ (r : Request) (vs : List Value) (no_mode : same_key_def (request_key r) key_mode ≡ false)
    (present : (k : Key) → change_in r vs ≡ remove k → is_some (find k vs) ≡ true) where
  own-pk_def : request_key r ≡ key_pk → (c : Change) → change_in r vs ≡ c → Own (request_key r) c → Moves (mode_of vs) (mode_of (steps (c ∷ beside_pk c vs) vs))
  unfolding steps step beside_pk
  own-pk_def named nothing e o = stays (mode_of vs)
  own-pk_def named (remove k) e o =
      let j : k ≡ key_pk = o ∙ named in
      rw (j, key-refl key_pk) (pk-goes vs (subst (λ (x : Key). is_some (find x vs) ≡ true) j (present k e)))
  own-pk_def named (put v) e o = pk-put v vs (o ∙ named)

  pub changes-move : Moves (mode_of vs) (mode_of (steps (changes_of r vs) vs))
  unfolding changes_of change_in
  changes-move = go (same_key_def (request_key r) key_pk) refl
    where
      go : (t : Bool) → same_key_def (request_key r) key_pk ≡ t → Moves (mode_of vs) (mode_of (steps (change_in r vs ∷ beside_pk (change_in r vs) vs) vs))
      go true e = own-pk_def (key-eq (request_key r) key_pk e) (change_in r vs) refl (change-own r (find (request_key r) vs))
      go false e =
          rw (beside_none (change_in r vs) vs (other-change key_pk r vs e))
          (unmoved (change_in r vs ∷ []) vs (other-change key_pk r vs e, tt) (other-change key_mode r vs no_mode, tt))

-- ---- the steps from audit and from deployed

pub left-deployed : {a b : PlatMode} → Moves a b → a ≡ mode.Deployed → (b ≡ mode.Deployed) ⊎ (b ≡ mode.Setup)
left-deployed (stays m) e = inl e
left-deployed setup-audit e = let z : ◌≡◌ {A = ℕ} 0 1 = cc in absurd (omega arith)
left-deployed user-audit e = let z : ◌≡◌ {A = ℕ} 0 1 = cc in absurd (omega arith)
left-deployed user-deployed e = inl refl
left-deployed audit-deployed e = inl refl
left-deployed deployed-setup e = inr refl
left-deployed setup-user e = let z : ◌≡◌ {A = ℕ} 0 1 = cc in absurd (omega arith)
left-deployed user-setup e = inr refl

pub left-audit : {a b : PlatMode} → Moves a b → a ≡ mode.Audit → (b ≡ mode.Audit) ⊎ (b ≡ mode.Deployed)
left-audit (stays m) e = inl e
left-audit setup-audit e = inl refl
left-audit user-audit e = inl refl
left-audit user-deployed e = inr refl
left-audit audit-deployed e = inr refl
left-audit deployed-setup e = let z : ◌≡◌ {A = ℕ} 0 1 = cc in absurd (omega arith)
left-audit setup-user e = let z : ◌≡◌ {A = ℕ} 0 1 = cc in absurd (omega arith)
left-audit user-setup e = let z : ◌≡◌ {A = ℕ} 0 1 = cc in absurd (omega arith)

-- ---- a mode request

module _ (vs : List Value) where
  to-audit : find key_pk vs ≡ none → mode_of (step (put (mode_value audit_mode)) vs) ≡ mode.Audit
  unfolding leaves
  to-audit e =
      mode-by (step (put (mode_value audit_mode)) vs) none (some (mode_value audit_mode))
      (find-step key_pk (put (mode_value audit_mode)) vs (ap (λ (k : Key). same_key_def k key_pk) (mode-key audit_mode) ∙ apart) ∙ e)
      (find-own key_mode (put (mode_value audit_mode)) vs (mode-key audit_mode))
      ∙ rw (stored audit_mode)

  to-deployed : (w : Value) → find key_pk vs ≡ some w → mode_of (step (put (mode_value deployed_mode)) vs) ≡ mode.Deployed
  unfolding leaves
  to-deployed w e =
      mode-by (step (put (mode_value deployed_mode)) vs) (some w) (some (mode_value deployed_mode))
      (find-step key_pk (put (mode_value deployed_mode)) vs (ap (λ (k : Key). same_key_def k key_pk) (mode-key deployed_mode) ∙ apart) ∙ e)
      (find-own key_mode (put (mode_value deployed_mode)) vs (mode-key deployed_mode))
      ∙ rw (stored deployed_mode)

to-audit-losing : (vs : List Value) → mode_of (step (put (mode_value audit_mode)) (step (remove key_pk) vs)) ≡ mode.Audit
unfolding leaves
to-audit-losing vs = to-audit (step (remove key_pk) vs) (find-own key_pk (remove key_pk) vs refl)

-- in a mode it asks for another transition, or it comes to the mode that it names, by a step
abbrev Goes : ℕ → List Value → PlatMode → Type 0
Goes m vs o =
    (transition o m ≡ [])
    ⊎ ((mode_named m ≡ some (mode_of (steps (transition o m) vs))) × Moves o (mode_of (steps (transition o m) vs)))

mode-goes : (m : ℕ) (vs : List Value) → Goes m vs (mode_of vs)
unfolding steps
mode-goes m vs = by-pk (find key_pk vs) refl
  where
    setup : find key_pk vs ≡ none → (t : Bool) → eqb m audit_mode ≡ t → Goes m vs mode.Setup
    setup p true e = rw e (rw (to-audit vs p) (inr (refl, setup-audit)))
    setup p false e = rw e (inl refl)

    user : (w : Value) → find key_pk vs ≡ some w → (t u : Bool) → eqb m audit_mode ≡ t → eqb m deployed_mode ≡ u → Goes m vs mode.User
    user w p true u e f = rw e (rw (to-audit-losing vs) (inr (refl, user-audit)))
    user w p false true e f = rw (e, f) (rw (to-deployed vs w p) (inr (refl, user-deployed)))
    user w p false false e f = rw (e, f) (inl refl)

    none-pk : find key_pk vs ≡ none → (o : PlatMode) → mode_of vs ≡ o → Goes m vs o
    none-pk p mode.Setup e = setup p (eqb m audit_mode) refl
    none-pk p mode.Audit e = inl refl
    none-pk p mode.User e = absurd (not-user vs p e)
    none-pk p mode.Deployed e = inl refl

    some-pk : (w : Value) → find key_pk vs ≡ some w → (o : PlatMode) → mode_of vs ≡ o → Goes m vs o
    some-pk w p mode.Setup e = absurd (not-setup vs w p e)
    some-pk w p mode.Audit e = inl refl
    some-pk w p mode.User e = user w p (eqb m audit_mode) (eqb m deployed_mode) refl refl
    some-pk w p mode.Deployed e = inl refl

    by-pk : (o : Option Value) → find key_pk vs ≡ o → Goes m vs (mode_of vs)
    by-pk none e = none-pk e (mode_of vs) refl
    by-pk (some w) e = some-pk w e (mode_of vs) refl

pub mode-moves : (m : ℕ) (vs : List Value) → Moves (mode_of vs) (mode_of (steps (mode_changes m vs) vs))
unfolding mode_changes steps
mode-moves m vs = go (mode-goes m vs)
  where
    go : Goes m vs (mode_of vs) → Moves (mode_of vs) (mode_of (steps (transition (mode_of vs) m) vs))
    go (inl e) = rw e (stays (mode_of vs))
    go (inr p) = p.1

pub mode-reached : (m : ℕ) (vs : List Value) → is_empty (mode_changes m vs) ≡ false → mode_named m ≡ some (mode_of (steps (mode_changes m vs) vs))
unfolding mode_changes
mode-reached m vs h = go (mode-goes m vs)
  where
    go : Goes m vs (mode_of vs) → mode_named m ≡ some (mode_of (steps (transition (mode_of vs) m) vs))
    go (inl e) = absurd (true≢false (rw e at h))
    go (inr p) = p.0

-- ---- a profile

-- an accepted item names neither
item-names : (side : Bool) (s : Session) (r : Request) (vs : List Value) → InForm r → first_broken (item_rules (terms_of side s (request_key r)) r vs) ≡ none
    → (same_key_def (request_key r) key_pk ≡ false) × (same_key_def (request_key r) key_mode ≡ false)
unfolding item_rules request_rules standing_rules rule5 rule24_set is_key_name_def
item-names side s r vs ours h =
    let f : (is_key_name_def (request_key r) && not (among (0x27 ∷ 0x67 ∷ []) r.attributes)) ≡ false = unbroken _ 5 h in
    let n : is_key_name_def (request_key r) ≡ false = sym (and-true (is_key_name_def (request_key r))) ∙ (rw (not-keyed r.attributes ours) at f) in
    ((or_split (same_key_def (request_key r) key_pk) _ (or_split (same_key_def (request_key r) key_pk || same_key_def (request_key r) key_kek) (is_database_def (request_key r)) n).0).0, unbroken _ 24 h)

pub items-others : (side : Bool) (s : Session) (rs : List Request) (vs : List Value) → EachItem InForm rs → first_broken (items_rules side s rs vs) ≡ none
    → Others key_pk (changes_in rs vs) × Others key_mode (changes_in rs vs)
unfolding changes_in
items-others side s [] vs ours h = (tt, tt)
items-others side s (r ∷ rs) vs ours h =
    let n = item-names side s r vs ours.0 (first-own side s r rs vs h) in
    let more = items-others side s rs (step (change_in r vs) vs) ours.1 (others-kept side s r rs vs h) in
    ((other-change key_pk r vs n.0, more.0), (other-change key_mode r vs n.1, more.1))

pub items-move : (side : Bool) (s : Session) (rs : List Request) (vs : List Value) → EachItem InForm rs → first_broken (items_rules side s rs vs) ≡ none
    → Moves (mode_of vs) (mode_of (steps (changes_in rs vs) vs))
items-move side s rs vs ours h = let o = items-others side s rs vs ours h in unmoved (changes_in rs vs) vs o.0 o.1
