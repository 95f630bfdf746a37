-- A call that is done broke no rule and made all its stores, so it leaves the image ready, with the values that it enters; a set does so whatever image it began on,
-- since no set is done on an image that is not ready, and so does a profile.
-- Assumes nothing.
use Prim.Native.Nat.{ℕ, ◌*◌}
use native.Mathlib.Omega.{arith}
use mathlib.Core.Path.{◌≡◌, refl, sym, ap, ◌∙◌, subst}
use mathlib.Core.Logic.{◌≢◌}
use mathlib.Core.Bool.{Bool, false, not, ◌||◌}
use mathlib.Core.List.{List, [], ◌∷◌, ◌++◌}
use mathlib.Core.Option.{Option, none}
use lib.ListN.{length}
use Rattle.model.specs.declared.Setup.{Setup}
use Rattle.model.specs.declared.Session.{Session}
use Rattle.model.specs.declared.Context.{Context}
use Rattle.model.specs.Image.{block, blocks, region_size}
use Rattle.model.specs.Entry.{Value}
use Rattle.model.specs.Lists.{on_some}
use Rattle.model.specs.Region.{values_of, find}
use Rattle.model.specs.Session.{is_yes}
use Rattle.model.specs.Request.{Request, request_key}
use Rattle.model.specs.Profile.{items_in, shares_name_def}
use Rattle.model.specs.Limits.{Limit, limits_for, meets}
use Rattle.model.specs.Change.{Change, change_in, changes_in, steps, leaves}
use Rattle.model.specs.Rules.{rule21, image_rules_in, request_rules, standing_rules, result_rules, item_rules, setting_rules, set_broken, profile_broken}
use Rattle.model.specs.Stores.{Store, stores, apply_all}
use Rattle.model.specs.Set.{Plan}
use Rattle.model.specs.Answers.{done, outcome, image_after, page_of, stores_of}
use Rattle.model.specs.Book.{Call, set, profile, call_broken, Kind, reads, writes, starts_up, kind_of, doing, plan_of, set_plan, profile_plan, Sized, entered}
use Rattle.model.specs.Beside.{EachItem, changed_keys, put_values_def, without_all}
use Rattle.model.proofs.Stores.{stores-append, apply_all-append}
use Rattle.model.proofs.Tests.{or_split}
use Rattle.model.proofs.Looking.{find-changes}
use Rattle.model.proofs.Requests.{set-length, set-ready, set_apart, unbroken}
use Rattle.model.proofs.Alone.{changes-alone}
use Rattle.model.proofs.Folding.{items-folded}
use Rattle.model.proofs.Profiles.{profile-length, profile-ready, profile-apart, profile-items, items-tried}
use Rattle.recovery.specs.Claims.{SetDone, CallDone, ChangedStandLast, forbidden, SetsKeepSettings, ProfilesKeepSettings}
use Rattle.recovery.proofs.EveryCall.{Accepted, accepted}
use Rattle.recovery.proofs.StartingUp.{Ready, ready_of, ready-is, ready-holds}
use Rattle.recovery.proofs.Theorem.{CallKept, call_kept, set-kept, profile-kept, done-accepted, all_made}

pub call-accepted : (c : Call) (img : List ℕ) (x : Context) (count : ℕ) → outcome x (plan_of c img) img ≡ done count → call_broken c img ≡ none
unfolding plan_of
call-accepted c img x count h = done-accepted x count (call_broken c img) (doing (kind_of c) img) img h

-- what is left of an image that held K, of b blocks
pub record LeftReady (b : ℕ) (c : Call) (K : List Value) (left : List ℕ) : Type 0 where
  pub ready : Ready left
  pub sized : blocks left ≡ b
  pub held : values_of left ≡ entered c K

-- by all stores of a call that breaks no rule, with every w
pub kept-left : (c : Call) (img : List ℕ) (K : List Value) → (k : CallKept c img K) → (w : ℕ) → apply_all (stores_of w (plan_of c img)) img ≡ k.kept.end
unfolding stores_of
kept-left c img K k w =
    ap (λ (p : Plan). apply_all (stores_of w p) img) k.plan
    ∙ ap (λ (ss : List Store). apply_all ss img) (stores-append w k.to k.on)
    ∙ apply_all-append (stores w k.to) (stores w k.on) img
    ∙ ap (apply_all (stores w k.on)) (k.kept.to-goes.left w)
    ∙ k.kept.on-goes.left w

kept-all : (c : Call) (img : List ℕ) (K : List Value) → CallKept c img K → (w : ℕ) → LeftReady (blocks img) c K (apply_all (stores_of w (plan_of c img)) img)
kept-all c img K k w =
    let left = kept-left c img K k w in
    record { ready = subst Ready (sym left) k.kept.ready; sized = ap blocks left ∙ k.kept.sized; held = ap values_of left ∙ k.kept.held }

-- a set, on every image
set-leaves : (m : Bool) (s : Session) (r : Request) (img : List ℕ) → length r.vendor ≡ 16 → set_broken m s r img ≡ none → (w : ℕ)
    → LeftReady (blocks img) (set m s r) (values_of img) (apply_all (stores_of w (plan_of (set m s r) img)) img)
set-leaves m s r img long e w =
    let holds = ready-holds img (ready_of img (set-length m s r img e) (set-ready m s r img e)) in
    kept-all (set m s r) img (values_of img) (set-kept m s r img (values_of img) e long holds) w

pub set-done : SetDone
unfolding entered region_size
set-done m s r img x count long h =
    let accepted = call-accepted (set m s r) img x count h in
    let left : LeftReady (blocks img) (set m s r) (values_of img) (image_after x (set_plan m s r img) img) =
    subst (LeftReady (blocks img) (set m s r) (values_of img)) (sym (all_made x count (set_plan m s r img) img h)) (set-leaves m s r img long accepted (page_of x)) in
    let ready = ready-is (image_after x (set_plan m s r img) img) left.ready in
    (ready.0, ready.1, ap (λ (n : ℕ). block * n) left.sized, left.held)

-- any call but a start-up
pub writes-not : (fold : Bool) (changes : List Value → List Change) (u : Setup) → writes fold changes ≢ starts_up u
writes-not fold changes u e = let z : ◌≡◌ {A = ℕ} 0 1 = cc in omega arith

pub reads-not : (u : Setup) → reads ≢ starts_up u
reads-not u e = let z : ◌≡◌ {A = ℕ} 0 1 = cc in omega arith

kind-ready : (k : Kind) (img : List ℕ) → ((u : Setup) → k ≢ starts_up u) → Accepted k img → Ready img
kind-ready reads img n a = ready_of img a.0 a.1
kind-ready (writes fold changes) img n a = ready_of img a.long a.ready
kind-ready (starts_up setup) img n a = absurd (n setup refl)

pub call-leaves : (c : Call) (img : List ℕ) → Sized c → ((u : Setup) → kind_of c ≢ starts_up u) → call_broken c img ≡ none → (w : ℕ)
    → LeftReady (blocks img) c (values_of img) (apply_all (stores_of w (plan_of c img)) img)
call-leaves c img sized n e w =
    let holds = ready-holds img (kind-ready (kind_of c) img n (accepted c img sized e)) in
    kept-all c img (values_of img) (call_kept c img (values_of img) sized e holds) w

pub call-done : CallDone
unfolding region_size
call-done c img x count sized n h =
    let left : LeftReady (blocks img) c (values_of img) (image_after x (plan_of c img) img) =
    subst (LeftReady (blocks img) c (values_of img)) (sym (all_made x count (plan_of c img) img h)) (call-leaves c img sized n (call-accepted c img x count h) (page_of x)) in
    let ready = ready-is (image_after x (plan_of c img) img) left.ready in
    (ready.0, ready.1, ap (λ (n : ℕ). block * n) left.sized, left.held)

-- ---- profiles

-- the values after one that breaks no rule, all its stores made, with every w
profile-left : (m : Bool) (s : Session) (file img : List ℕ) → profile_broken m s file img ≡ none → (w : ℕ)
    → values_of (apply_all (stores_of w (profile_plan m s file img)) img) ≡ steps (changes_in (items_in file) (values_of img)) (values_of img)
unfolding entered
profile-left m s file img e w =
    let holds = ready-holds img (ready_of img (profile-length m s file img e) (profile-ready m s file img e)) in
    (kept-all (profile m s file) img (values_of img) (profile-kept m s file img (values_of img) e holds) w).held

changed-last : (rs : List Request) (vs : List Value) → shares_name_def rs ≡ false
    → steps (changes_in rs vs) vs ≡ without_all (changed_keys (changes_in rs vs)) vs ++ put_values_def (changes_in rs vs)
changed-last rs vs h = rw (changes-alone rs vs h) (items-folded rs vs h)

pub changed-stand-last : ChangedStandLast
changed-stand-last m s file img x count h =
    let e = call-accepted (profile m s file) img x count h in
    ap values_of (all_made x count (profile_plan m s file img) img h)
    ∙ profile-left m s file img e (page_of x)
    ∙ changed-last (items_in file) (values_of img) (profile-apart m s file img e)

-- ---- rules for settings: 21 was tried on the very value that stands

none-forbids : (ls : List Limit) (c : Change) (old : Option Value) → rule21 ls c old ≡ false → forbidden ls (leaves c old) ≡ false
unfolding rule21
none-forbids [] c old h = refl
none-forbids (t ∷ ls) c old h =
    let it : Bool = on_some (leaves c old) (λ v. not (meets t v.bytes)) false in
    let p = or_split (is_yes t.fixed || it) _ h in
    rw (or_split (is_yes t.fixed) it p.0).1 (none-forbids ls c old p.1)

tried : (m : Bool) (s : Session) (r : Request) (img : List ℕ) → set_broken m s r img ≡ none
    → rule21 (limits_for s.setup (request_key r)) (change_in r (values_of img)) (find (request_key r) (values_of img)) ≡ false
unfolding set_broken image_rules_in item_rules request_rules standing_rules result_rules setting_rules change_in
tried m s r img accepted = unbroken _ 21 accepted

-- a set that breaks no rule, all its stores made, with every w
pub settings-kept : (m : Bool) (s : Session) (r : Request) (img : List ℕ) → length r.vendor ≡ 16 → set_broken m s r img ≡ none → (w : ℕ)
    → forbidden (limits_for s.setup (request_key r)) (find (request_key r) (values_of (apply_all (stores_of w (set_plan m s r img)) img))) ≡ false
unfolding entered
settings-kept m s r img long accepted w =
    let vs = values_of img in
    let left : find (request_key r) (values_of (apply_all (stores_of w (set_plan m s r img)) img)) ≡ leaves (change_in r vs) (find (request_key r) vs) =
    ap (find (request_key r)) (set-leaves m s r img long accepted w).held ∙ find-changes r vs (set_apart m s r img accepted) in
    rw left (none-forbids (limits_for s.setup (request_key r)) (change_in r vs) (find (request_key r) vs) (tried m s r img accepted))

pub sets-keep-settings : SetsKeepSettings
sets-keep-settings m s r img x count long h =
    ap
    (λ (left : List ℕ). forbidden (limits_for s.setup (request_key r)) (find (request_key r) (values_of left)))
    (all_made x count (set_plan m s r img) img h)
    ∙ settings-kept m s r img long (call-accepted (set m s r) img x count h) (page_of x)

-- a profile likewise, under the name of each of its items
pub profile-settings : (m : Bool) (s : Session) (file img : List ℕ) → profile_broken m s file img ≡ none → (w : ℕ)
    → EachItem
    (λ r. forbidden (limits_for s.setup (request_key r)) (find (request_key r) (values_of (apply_all (stores_of w (profile_plan m s file img)) img))) ≡ false)
    (items_in file)
profile-settings m s file img e w =
    rw (profile-left m s file img e w)
    (items-tried m s (λ r o. forbidden (limits_for s.setup (request_key r)) o ≡ false) (λ r c old h. none-forbids (limits_for s.setup (request_key r)) c old h)
    (items_in file) (values_of img) (profile-apart m s file img e) (profile-items m s file img e))

pub profiles-keep-settings : ProfilesKeepSettings
profiles-keep-settings m s file img x count h =
    rw (all_made x count (profile_plan m s file img) img h) (profile-settings m s file img (call-accepted (profile m s file) img x count h) (page_of x))
