-- How audit and deployed are left. A mode request leaves neither, and a profile changes neither PK nor PlatMode; so it is a set. The mode says whether PK is
-- there, and another name's change leaves PK, so the set's own change is of PK: rule 9 was tried on its verdict in the mode before it.
-- Assumes nothing.
use Prim.Native.Nat.{ℕ}
use mathlib.Core.Path.{◌≡◌, refl, sym, ap, ap₂, ◌∙◌, subst}
use mathlib.Core.Logic.{◌⊎◌, inl, inr, ◌≢◌}
use mathlib.Core.Bool.{Bool, true, false, not, cond, ◌&&◌, ◌||◌, or-false, true≢false, false≢true}
use mathlib.Core.List.{List, [], ◌∷◌}
use mathlib.Core.Option.{none}
use lib.Dec.{eqb}
use borrow.Author.Tests.{eqb-true, not-false}
use Rattle.model.specs.declared.Setup.{Setup}
use Rattle.model.specs.declared.Session.{Session}
use Rattle.model.specs.declared.Context.{Context}
use Rattle.model.specs.declared.PlatMode.{PlatMode}
use Rattle.model.specs.declared.PlatMode.TheVariants as platform
use Rattle.model.specs.Lists.{same, is_some, is_empty}
use Rattle.model.specs.Name.{Key, same_key_def}
use Rattle.model.specs.Entry.{Value, key_of}
use Rattle.model.specs.Region.{values_of, find}
use Rattle.model.specs.Session.{custom_mode}
use Rattle.model.specs.Request.{Request, request_key, global_vendor_def, database_vendor_def, key_pk, keydb, keydbx, keydbt, is_database_def, is_key_name_def, key_mode, mode_of, as_user, by_pk, by_payload, in_person_def, key_verdicts_def, wanted_verdicts}
use Rattle.model.specs.Profile.{items_in}
use Rattle.model.specs.Change.{Change, nothing, remove, put, change_in, changes_of, transition, mode_changes, changes_in, steps, leaves}
use Rattle.model.specs.Rules.{rule9, terms_of, request_rules, standing_rules, item_rules, set_broken}
use Rattle.model.specs.Answers.{done, outcome, image_after}
use Rattle.model.specs.Book.{Call, set, get, next, start_up_def, several, profile, mode, call_broken, starts_up, kind_of, plan_of, Sized, entered}
use Rattle.model.proofs.Tests.{key-eq, key-refl}
use Rattle.model.proofs.Files.{file-form}
use Rattle.model.proofs.Looking.{Others, Own, change-own, other-change, find-steps, mode-alike, beside-other, find-changes}
use Rattle.model.proofs.Modes.{apart, mode-pk, changes-move, left-deployed, left-audit, items-others}
use Rattle.model.proofs.Profiles.{profile-items}
use Rattle.model.proofs.Requests.{unbroken, set_own, set_apart, remove-present}
use Rattle.recovery.specs.Claims.{DeployedLeft, AuditLeft}
use Rattle.recovery.proofs.Done.{call-accepted, call-done}
use Rattle.recovery.proofs.Modes.{changes-asked}

-- ---- a set after which PK is there and was not, or is not and was

module _ (m : Bool) (s : Session) (r : Request) (img : List ℕ) (accepted : set_broken m s r img ≡ none) where
  abbrev vs : List Value
  vs = values_of img

  abbrev after : List Value
  after = steps (changes_of r vs) vs

  of-pk : (t : Bool) → is_some (find key_pk vs) ≡ t → is_some (find key_pk after) ≡ not t
      → (request_key r ≡ key_pk) × (is_some (leaves (change_in r vs) (find key_pk vs)) ≡ not t)
  unfolding changes_of
  of-pk t before now = go (same_key_def (request_key r) key_pk) refl
    where
      differ : (b : Bool) → b ≡ not b → ⊥
      differ true h = true≢false h
      differ false h = false≢true h

      go : (b : Bool) → same_key_def (request_key r) key_pk ≡ b → (request_key r ≡ key_pk) × (is_some (leaves (change_in r vs) (find key_pk vs)) ≡ not t)
      go false e =
          let others : Others key_pk (changes_of r vs) = (other-change key_pk r vs e, beside-other key_pk (change_in r vs) vs apart) in
          absurd (differ t (sym before ∙ ap is_some (sym (find-steps key_pk (changes_of r vs) vs others)) ∙ now))
      go true e =
          let k = key-eq (request_key r) key_pk e in
          let left : find key_pk after ≡ leaves (change_in r vs) (find key_pk vs) =
          subst (λ (x : Key). find x after ≡ leaves (change_in r vs) (find x vs)) k (find-changes r vs (set_apart m s r img accepted)) in
          (k, ap is_some (sym left) ∙ now)

  its_own : (c : Change) → change_in r vs ≡ c → Own (request_key r) c
  unfolding change_in
  its_own c e = subst (Own (request_key r)) e (change-own r (find (request_key r) vs))

  -- it is not there any more: the change removes it
  removed : is_some (find key_pk vs) ≡ true → is_some (find key_pk after) ≡ false → (request_key r ≡ key_pk) × (change_in r vs ≡ remove key_pk)
  unfolding leaves
  removed before now = let p = of-pk true before now in (p.0, go (change_in r vs) refl p.0 p.1)
    where
      go : (c : Change) → change_in r vs ≡ c → request_key r ≡ key_pk → is_some (leaves c (find key_pk vs)) ≡ false → change_in r vs ≡ remove key_pk
      go nothing e k h = absurd (true≢false (sym before ∙ h))
      go (remove j) e k h = e ∙ ap remove (its_own (remove j) e ∙ k)
      go (put v) e k h = absurd (true≢false h)

  -- it has come: the change puts it
  come : is_some (find key_pk vs) ≡ false → is_some (find key_pk after) ≡ true → (request_key r ≡ key_pk) × ((v : Value) × (key_of v ≡ key_pk) × (change_in r vs ≡ put v))
  unfolding leaves
  come before now = let p = of-pk false before now in (p.0, go (change_in r vs) refl p.0 p.1)
    where
      go : (c : Change) → change_in r vs ≡ c → request_key r ≡ key_pk → is_some (leaves c (find key_pk vs)) ≡ true → (v : Value) × (key_of v ≡ key_pk) × (change_in r vs ≡ put v)
      go nothing e k h = absurd (false≢true (sym before ∙ h))
      go (remove j) e k h = absurd (false≢true h)
      go (put v) e k h = (v, its_own (put v) e ∙ k, e)

  -- 9 was tried, in the mode before
  wanted : PlatMode → Key → List ℕ
  wanted o k = wanted_verdicts (custom_mode s) r.presence o k r.attributes (is_some (find (request_key r) vs))

  tried : (o : PlatMode) (l : List ℕ) → mode_of vs ≡ o → request_key r ≡ key_pk
      → wanted_verdicts (custom_mode s) r.presence o key_pk r.attributes (is_some (find (request_key r) vs)) ≡ l → rule9 l r.verdict ≡ false
  unfolding item_rules request_rules standing_rules terms_of wanted
  tried o l was k e =
      ap (λ (x : List ℕ). rule9 x r.verdict) (sym (ap₂ wanted was k ∙ e)) ∙ unbroken _ 9 (set_own m s r img accepted)

-- of PK, in deployed and in audit
pk-named : is_key_name_def key_pk ≡ true
unfolding is_key_name_def
pk-named = rw (key-refl key_pk)

not-database : is_database_def key_pk ≡ false
unfolding is_database_def key_pk keydb keydbx keydbt global_vendor_def database_vendor_def same
not-database = refl

deployed-wants : (custom : Bool) (presence a : ℕ) (stands : Bool) → wanted_verdicts custom presence platform.Deployed key_pk a stands ≡ by_pk ∷ []
unfolding wanted_verdicts key_verdicts_def
deployed-wants custom presence a stands = rw (pk-named, not-database) (go (in_person_def custom presence))
  where
    go : (p : Bool) → cond (p && false) [] (by_pk ∷ []) ≡ by_pk ∷ []
    go true = refl
    go false = refl

audit-wants : (custom : Bool) (presence a : ℕ) (stands : Bool) → in_person_def custom presence ≡ false
    → wanted_verdicts custom presence platform.Audit key_pk a stands ≡ by_payload ∷ []
unfolding wanted_verdicts key_verdicts_def
audit-wants custom presence a stands e = rw (pk-named, e, key-refl key_pk)

one-verdict : (n verdict : ℕ) → rule9 (n ∷ []) verdict ≡ false → verdict ≡ n
unfolding rule9
one-verdict n verdict h = eqb-true verdict n (sym (or-false (eqb verdict n)) ∙ not-false (eqb verdict n || false) h)

-- ---- any other call leaves the mode

none-changed : (vs : List Value) (to : ℕ) (o : PlatMode) → mode_of vs ≡ o → transition o to ≡ [] → mode_changes to vs ≡ []
unfolding mode_changes
none-changed vs to o e h = ap (λ (x : PlatMode). transition x to) e ∙ h

-- so a claim about one after which a mode is left, which no request leaves, is one about sets
module _ (P : Call → List ℕ → Type 0) (before : PlatMode) (none-asked : (to : ℕ) → transition before to ≡ [])
    (by-set : (m : Bool) (s : Session) (r : Request) (img : List ℕ) → set_broken m s r img ≡ none → mode_of (values_of img) ≡ before
    → (mode_of (steps (changes_of r (values_of img)) (values_of img)) ≡ before) ⊎ P (set m s r) img) where
  by_call : (c : Call) (img : List ℕ) → call_broken c img ≡ none → mode_of (values_of img) ≡ before → (mode_of (entered c (values_of img)) ≡ before) ⊎ P c img
  unfolding entered steps
  by_call (set m s r) img e was = by-set m s r img e was
  by_call (get m s k buffer) img e was = inl was
  by_call (next m s k buffer) img e was = inl was
  by_call (start_up_def setup) img e was = inl was
  by_call (several m s ks buffer) img e was = inl was
  by_call (profile m s file) img e was =
      let o = items-others m s (items_in file) (values_of img) (file-form file) (profile-items m s file img e) in
      let cs = changes_in (items_in file) (values_of img) in
      inl (mode-alike (steps cs (values_of img)) (values_of img) (find-steps key_pk cs (values_of img) o.0) (find-steps key_mode cs (values_of img) o.1) ∙ was)
  by_call (mode m s to) img e was =
      absurd (true≢false (ap is_empty (sym (none-changed (values_of img) to before was (none-asked to))) ∙ changes-asked m s to img e))

  by-done : (c : Call) (img : List ℕ) (x : Context) (count : ℕ) → Sized c → ((u : Setup) → kind_of c ≢ starts_up u) → outcome x (plan_of c img) img ≡ done count
      → mode_of (values_of img) ≡ before → (mode_of (values_of (image_after x (plan_of c img) img)) ≡ before) ⊎ P c img
  by-done c img x count sized n h was =
      subst (λ (vs : List Value). (mode_of vs ≡ before) ⊎ P c img) (sym (call-done c img x count sized n h).3) (by_call c img (call-accepted c img x count h) was)

-- ---- deployed, and audit

abbrev Deletes : Call → List ℕ → Type 0
Deletes c img =
    (m : Bool) × (s : Session) × (r : Request) × (c ≡ set m s r) × (change_in r (values_of img) ≡ remove key_pk) × (r.verdict ≡ by_pk)

deployed-set : (m : Bool) (s : Session) (r : Request) (img : List ℕ) → set_broken m s r img ≡ none → mode_of (values_of img) ≡ platform.Deployed
    → (mode_of (steps (changes_of r (values_of img)) (values_of img)) ≡ platform.Deployed) ⊎ Deletes (set m s r) img
deployed-set m s r img accepted was = go (left-deployed (changes-move r vs (set_apart m s r img accepted) (remove-present m s r img accepted)) was)
  where
    vs : List Value
    vs = values_of img

    go : (mode_of (steps (changes_of r vs) vs) ≡ platform.Deployed) ⊎ (mode_of (steps (changes_of r vs) vs) ≡ platform.Setup)
        → (mode_of (steps (changes_of r vs) vs) ≡ platform.Deployed) ⊎ Deletes (set m s r) img
    go (inl e) = inl e
    go (inr e) =
        let p = removed m s r img accepted (mode-pk vs ∙ ap as_user was) (mode-pk (steps (changes_of r vs) vs) ∙ ap as_user e) in
        let wants = deployed-wants (custom_mode s) r.presence r.attributes (is_some (find (request_key r) vs)) in
        inr (m, s, r, refl, p.1, one-verdict by_pk r.verdict (tried m s r img accepted platform.Deployed (by_pk ∷ []) was p.0 wants))

pub deployed-left : DeployedLeft
deployed-left = by-done Deletes platform.Deployed (λ to. refl) deployed-set

abbrev Enrols : Call → List ℕ → Type 0
Enrols c img =
    (m : Bool)
    × (s : Session)
    × (r : Request)
    × (v : Value)
    × (c ≡ set m s r)
    × (key_of v ≡ key_pk)
    × (change_in r (values_of img) ≡ put v)
    × ((r.verdict ≡ by_payload) ⊎ (in_person_def (custom_mode s) r.presence ≡ true))

audit-set : (m : Bool) (s : Session) (r : Request) (img : List ℕ) → set_broken m s r img ≡ none → mode_of (values_of img) ≡ platform.Audit
    → (mode_of (steps (changes_of r (values_of img)) (values_of img)) ≡ platform.Audit) ⊎ Enrols (set m s r) img
audit-set m s r img accepted was = go (left-audit (changes-move r vs (set_apart m s r img accepted) (remove-present m s r img accepted)) was)
  where
    vs : List Value
    vs = values_of img

    verdict : request_key r ≡ key_pk → (t : Bool) → in_person_def (custom_mode s) r.presence ≡ t → (r.verdict ≡ by_payload) ⊎ (in_person_def (custom_mode s) r.presence ≡ true)
    verdict k true e = inr e
    verdict k false e =
        let wants = audit-wants (custom_mode s) r.presence r.attributes (is_some (find (request_key r) vs)) e in
        inl (one-verdict by_payload r.verdict (tried m s r img accepted platform.Audit (by_payload ∷ []) was k wants))

    go : (mode_of (steps (changes_of r vs) vs) ≡ platform.Audit) ⊎ (mode_of (steps (changes_of r vs) vs) ≡ platform.Deployed)
        → (mode_of (steps (changes_of r vs) vs) ≡ platform.Audit) ⊎ Enrols (set m s r) img
    go (inl e) = inl e
    go (inr e) =
        let p = come m s r img accepted (mode-pk vs ∙ ap as_user was) (mode-pk (steps (changes_of r vs) vs) ∙ ap as_user e) in
        inr (m, s, r, p.1.0, refl, p.1.1, p.1.2, verdict p.0 (in_person_def (custom_mode s) r.presence) refl)

pub audit-left : AuditLeft
audit-left = by-done Enrols platform.Audit (λ to. refl) audit-set
