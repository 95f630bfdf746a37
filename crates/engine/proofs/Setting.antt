-- A set over an image that is ready. Its decision over the region is that over the image's values: it names the rule that the set breaks, or the kind of its change,
-- whose plan is refused, empty, a delete, a put or, where PlatMode changes with PK, one compaction; and what was found of the name in the region is what the stores of a delete and of a put ask for.
-- Assumes nothing.
use Prim.Native.Nat.{ℕ, ◌*◌, ◌^◌, ◌≤◌}
use native.Mathlib.Omega.{arith}
use mathlib.Core.Path.{◌≡◌, refl, sym, ap, ap₂, ◌∙◌, subst}
use mathlib.Core.Bool.{Bool, true, false, not, cond, ◌&&◌, false≢true}
use mathlib.Core.List.{List, [], ◌∷◌, ◌++◌}
use mathlib.Core.Option.{Option as Maybe, none, some}
use Rattle.std.specs.Prelude.{Option, Some, None, Result, Ok, Err, IfOk}
use lib.ListN.{length}
use Rattle.model.specs.Layout.{authenticated}
use Rattle.model.specs.declared.Session.{Session}
use Rattle.model.specs.declared.Terms.{Terms}
use Rattle.model.specs.declared.Rule.{Rule}
use Rattle.model.specs.Lists.{part, is_some, on_some}
use Rattle.model.specs.Name.{Key, keyed, same_key_def}
use Rattle.model.specs.Image.{block, region_size, region}
use Rattle.model.specs.Entry.{Value, key_of}
use Rattle.model.specs.Walk as walk
use Rattle.model.specs.Region.{entries, sound, tail_at, values, values_of, added, replacing, standing, find, values_in}
use Rattle.model.specs.Request.{Request, request_key, key_pk, key_mode, audit_mode, deployed_mode, mode_value, user_mode_def, stores_mode}
use Rattle.model.specs.Limits.{Limit, limits_in, limits_for}
use Rattle.model.specs.Change.{Change, remove, put, change_in, without_mode, beside_pk, changes_of, steps, space_of, new_value}
use Rattle.model.specs.Rules.{first_broken, terms_of, image_rules, item_rules, setting_rules, room_rules, rule22, set_broken}
use Rattle.model.specs.Stores.{Store, Bytes}
use Rattle.model.specs.Set.{Plan, refuse, make, fits_tail, delete_to, put_plan, change_plan, changes_plan, folded_plan, compact_plan}
use Rattle.model.specs.Answers.{stores_of}
use Rattle.model.specs.Beside.{Says}
use Rattle.model.proofs.Chunks.{sound-parts}
use Rattle.model.proofs.Values.{find-standing}
use Rattle.model.proofs.Tests.{key-eq}
use Rattle.model.proofs.Requests.{broken-append, set_rules, kept-valid, kept-room, kept-fits, remove-present}
use Rattle.values.specs.Found.{found_of, else_found}
use Rattle.values.specs.declared.Places.{Places}
use Rattle.image.proofs.Readiness.{refused-rule}
use Rattle.image.specs.Check.{call_of, IsReady}
use Rattle.model.specs.Book.{set, plan_of, set_plan, Sized, ClearsOne, is_state_def, is_record, in_place_def}
use Rattle.recovery.proofs.Bits.{marks-clear-one-bit}
use Rattle.plan.specs.declared.Step.{Step}
use Rattle.plan.specs.declared.Planned.{Planned}
use Rattle.plan.specs.Planned.{accepted, decides_right, Kept, Plans}
use Rattle.plan.proofs.Parts.{mark-decides, accepted-plans, either-kept, made_kept}
use Rattle.planner.specs.Entries.{Below, delete_plan}
use Rattle.planner.proofs.EntryPlans.{delete-to, delete-on, remove-marks, standing-is}
use Rattle.planner.proofs.EntryReady.{delete-ready}
use Rattle.planner.proofs.Found.{places-below}
use Rattle.planner.specs.Asked.{Asked, PutPlanned, Joinable, FoldPlanned, joint_changes, change_mode, stands_at}
use Rattle.planner.proofs.Ready.{image-long, region-size, ready-clean}
use Rattle.decision.specs.declared.Change as deciding
use Rattle.decision.specs.declared.Change.TheVariants as decision
use Rattle.decision.specs.Decision.{request_of, decision_of, broken_of, beside_by}
use Rattle.decision.specs.Parts.{found_mode, offset_of}
use Rattle.decision.proofs.Accepted.{rules-broken, nothing-change, remove-change, put-change}
use Rattle.engine.specs.Write.{byte_by}
use Rattle.engine.proofs.Bits.{remove-clears}

-- rule 1 or 2 is broken
pub image-refused : (m : Bool) (s : Session) (q : Request) (img : List ℕ) (rule : Rule) → call_of img ≡ Err rule → set_plan m s q img ≡ refuse rule
unfolding plan_of set_broken
image-refused m s q img rule h =
    let vs : List Value = values_of img in
    let i : List (Rule × Bool) = image_rules img in
    let a : List (Rule × Bool) = item_rules (terms_of m s (request_key q)) q vs in
    let e : List (Rule × Bool) = setting_rules (limits_for s.setup (request_key q)) q (find (request_key q) vs) in
    let d : List (Rule × Bool) = room_rules (terms_of m s (request_key q)) (region_size img) (changes_of q vs) vs in
    let first : first_broken i ≡ some rule = refused-rule authenticated img rule h in
    let broken : first_broken (i ++ a ++ e ++ d) ≡ some rule = broken-append (i ++ a ++ e) d ∙ rw (broken-append (i ++ a) e, broken-append i a, first) in
    ap (λ (o : Maybe Rule). on_some o refuse (changes_plan false img (changes_of q vs))) broken

-- what is said of the name
pub said-foreign : (m : Bool) (s : Session) (k : Key) {t : Terms} {table : List ℕ} → Says m s k t table → t.foreign ≡ rule22 t.vendor t.modem k
unfolding terms_of
said-foreign m s k says = subst (λ (y : Terms). y.foreign ≡ rule22 y.vendor y.modem k) says.0 refl

-- a joint change by other names for the same numbers
pub joinable-as : {img : List ℕ} {b used byte byte' : ℕ} {pk pk' mode : Option ℕ} {comes : Bool} {v v' : Value} → pk ≡ pk' → v ≡ v' → byte ≡ byte'
    → Joinable img b used pk' mode comes v' byte' → Joinable img b used pk mode comes v byte
joinable-as p q r j = rw (p, q, r) j

pub folded-as : {img content : List ℕ} {byte byte' : ℕ} (comes : Bool) {v v' : Value} {p : Result Planned Rule} → v ≡ v' → byte ≡ byte'
    → FoldPlanned img (joint_changes comes v byte) content p → FoldPlanned img (joint_changes comes v' byte') content p
folded-as {img} {content} comes {p = p} q r f =
    subst (λ (cs : List Change). FoldPlanned img cs content p) (ap₂ (λ (x : Value) (y : ℕ). joint_changes comes x y) q r) f

-- what the decision asks of the region that was cut
pub region-asked : {img r : List ℕ} {b at used : ℕ} → IsReady img b at used → r ≡ part 0 (4096 * b) img → (sound r ≡ true) × ((length r ≤ 28672) × ((at ≡ tail_at r) × (at ≤ length r)))
region-asked ready cut =
    let is = cut ∙ ready.cut in
    let n = ap length is in
    (ap sound is ∙ ready.sounds, (omega (arith, ready.few, ready.long), (sym (ap tail_at is ∙ ready.tail-at), omega (arith, ready.tail_within))))

-- the region that was cut, with the decision over it and the places found in it
module _ (t : Terms) (table name vendor : List ℕ) (a : ℕ) (bytes : List ℕ) (presence verdict : ℕ) (places : Places) (deploys : Bool)
    {img r : List ℕ} {b at used : ℕ} {what : Result deciding.Change Rule} {v : Value} {beside : Option ℕ} (ready : IsReady img b at used) (cut : r ≡ part 0 (4096 * b) img)
    (d : (what ≡ decision_of (limits_in table t.rules (keyed name vendor)) t (request_of name vendor a bytes presence verdict) (length r) (values (entries r)))
    × (broken_of what ≡ none → beside_by beside deploys
    ≡ beside_pk (change_in (request_of name vendor a bytes presence verdict) (values (entries r))) (values (entries r)))
    × ((at : ℕ) → beside ≡ Some at → offset_of (found_mode r) ≡ Some at)
    × (places.added ≡ found_of (added (keyed name vendor) (entries r)))
    × (places.replacing ≡ found_of (replacing (keyed name vendor) (entries r)))
    × (what ≡ Ok decision.Put → v ≡ new_value (request_of name vendor a bytes presence verdict) (find (keyed name vendor) (values (entries r))))) where
  abbrev q : Request
  q = request_of name vendor a bytes presence verdict

  abbrev ls : List Limit
  ls = limits_in table t.rules (keyed name vendor)

  its-region : r ≡ region img
  its-region = cut ∙ ready.cut

  decided : decision_of ls t q (region_size img) (values_of img) ≡ what
  unfolding values_in
  decided =
      let long : length (region img) ≡ region_size img = ready.long ∙ sym (region-size img b ready.number) in
      sym (d.0 ∙ ap (λ (x : List ℕ). decision_of ls t q (length x) (values (entries x))) its-region
      ∙ ap (λ (n : ℕ). decision_of ls t q n (values (entries (region img)))) long)

  found-added : places.added ≡ found_of (added (keyed name vendor) (entries (region img)))
  found-added = d.3 ∙ ap (λ (x : List ℕ). found_of (added (keyed name vendor) (entries x))) its-region

  found-replacing : places.replacing ≡ found_of (replacing (keyed name vendor) (entries (region img)))
  found-replacing = d.4 ∙ ap (λ (x : List ℕ). found_of (replacing (keyed name vendor) (entries x))) its-region

  -- the first rule broken, under the terms
  kept : first_broken (set_rules t ls q img) ≡ broken_of what
  kept = rules-broken t ls q img ready.unbroken ∙ ap broken_of decided

  below : (end : ℕ) → length (region img) ≤ end → Below end places.added × Below end places.replacing
  below end l = places-below img ready.right (ready-clean img ready.ready) places.added places.replacing (keyed name vendor) found-added found-replacing end l

  pub remove-asked : Below (2 ^ 62) places.added × Below (2 ^ 62) places.replacing
  remove-asked = below (2 ^ 62) (omega (arith, ready.long, ready.few))

  asked-change : what ≡ Ok decision.Put → change_in q (values_of img) ≡ put v
  unfolding values_in
  asked-change h =
      put-change ls t q (region_size img) (values_of img) (decided ∙ h)
      ∙ ap put (sym (d.5 h ∙ ap (λ (x : List ℕ). new_value q (find (keyed name vendor) (values (entries x)))) its-region))

  -- ---- alone, or with a change of PlatMode

  its-beside : broken_of what ≡ none → beside_pk (change_in q (values_of img)) (values_of img) ≡ beside_by beside deploys
  unfolding values_in
  its-beside n = sym (d.1 n ∙ ap (λ (x : List ℕ). beside_pk (change_in q (values (entries x))) (values (entries x))) its-region)

  alone : broken_of what ≡ none → beside ≡ None → changes_of q (values_of img) ≡ change_in q (values_of img) ∷ []
  unfolding changes_of beside_by
  alone n z = ap (λ (cs : List Change). change_in q (values_of img) ∷ cs) (its-beside n ∙ rw z)

  joined : broken_of what ≡ none → {mode : ℕ} → beside ≡ Some mode → beside_pk (change_in q (values_of img)) (values_of img) ≡ change_mode (byte_by deploys) ∷ []
  unfolding beside_by byte_by
  joined n z = its-beside n ∙ rw z (go deploys)
    where
      go : (x : Bool) → cond x (put (mode_value deployed_mode) ∷ []) (remove key_mode ∷ []) ≡ change_mode (cond x deployed_mode 0) ∷ []
      go true = refl
      go false = refl

  -- then it is PK that changes
  of-pk : {cs : List Change} (c e : Change) → beside_pk c (values_of img) ≡ e ∷ cs → c ≡ remove (keyed name vendor) → keyed name vendor ≡ key_pk
  unfolding beside_pk
  of-pk c e h is = go (same_key_def (keyed name vendor) key_pk) refl (rw is at h)
    where
      go : {cs : List Change} (x : Bool) → same_key_def (keyed name vendor) key_pk ≡ x → cond x (without_mode (values_of img)) [] ≡ e ∷ cs → keyed name vendor ≡ key_pk
      go true f h = key-eq (keyed name vendor) key_pk f
      go false f h = let z : ◌≡◌ {A = ℕ} 0 1 = cc in absurd (omega arith)

  puts-pk : {cs : List Change} (c e : Change) → beside_pk c (values_of img) ≡ e ∷ cs → c ≡ put v → key_of v ≡ key_pk
  unfolding beside_pk
  puts-pk c e h is = go (same_key_def (key_of v) key_pk) (not (user_mode_def (values_of img))) refl (rw is at h)
    where
      go : {cs : List Change} (x y : Bool) → same_key_def (key_of v) key_pk ≡ x
          → cond (x && y) (cond (stores_mode audit_mode (values_of img)) (put (mode_value deployed_mode) ∷ []) (without_mode (values_of img))) [] ≡ e ∷ cs → key_of v ≡ key_pk
      go true y f h = key-eq (key_of v) key_pk f
      go false y f h = let z : ◌≡◌ {A = ℕ} 0 1 = cc in absurd (omega arith)

  pub put-asked : what ≡ Ok decision.Put → beside ≡ None → Asked img b at used places v
  unfolding new_value
  put-asked h z =
      let accepted : first_broken (set_rules t ls q img) ≡ none = kept ∙ ap broken_of h in
      let key : key_of v ≡ keyed name vendor = ap key_of (d.5 h) in
      record {
        ready = ready;
        added = found-added ∙ ap (λ (k : Key). found_of (added k (entries (region img)))) (sym key);
        replacing = found-replacing ∙ ap (λ (k : Key). found_of (replacing k (entries (region img)))) (sym key);
        valid = λ l. kept-valid t ls q img accepted v (asked-change h) (sym (ap (λ (x : Value). length x.vendor) (d.5 h)) ∙ l);
        room = kept-fits t ls q img accepted v (alone (ap broken_of h) z ∙ ap (λ (c : Change). c ∷ []) (asked-change h));
      }

  -- ---- both at once

  found_at : (k : Key) → offset_of (found_of (standing k (entries (region img)))) ≡ stands_at k (region img)
  found_at k = go (standing k (entries (region img)))
    where
      go : (o : Maybe walk.Entry) → offset_of (found_of o) ≡ on_some o (λ e. Some e.at) None
      go (some e) = refl
      go none = refl

  abbrev old : Option ℕ
  old = offset_of (else_found places.added places.replacing)

  module _ (comes : Bool) (c : Change) (n : broken_of what ≡ none) {mode : ℕ} (z : beside ≡ Some mode) (change : change_in q (values_of img) ≡ c) (key : keyed name vendor ≡ key_pk)
      (is : c ≡ cond comes (put v) (remove key_pk)) where
    joint-changes : changes_of q (values_of img) ≡ joint_changes comes v (byte_by deploys)
    unfolding changes_of
    joint-changes = rw (joined n z) (ap (λ (x : Change). x ∷ change_mode (byte_by deploys) ∷ []) (change ∙ is))

    joint-asked : (comes ≡ true → key_of v ≡ key_pk) → (comes ≡ true → length v.vendor ≡ 16) → Joinable img b used old (Some mode) comes v (byte_by deploys)
    joint-asked named long = record {
      tail = at;
      ready = ready;
      first =
          ap offset_of (standing-is [] places (keyed name vendor) (entries (region img)) found-added found-replacing) ∙ found_at (keyed name vendor)
          ∙ ap (λ (k : Key). stands_at k (region img)) key;
      second = sym (d.2 mode z) ∙ ap (λ (x : List ℕ). offset_of (found_mode x)) its-region ∙ found_at key_mode;
      named = named;
      valid = λ e.
          kept-valid t ls q img (kept ∙ n) v (change ∙ is ∙ ap (λ (x : Bool). cond x (put v) (remove key_pk)) e)
          (sym (ap (λ (k : Key). length k.vendor) (named e ∙ sym key)) ∙ long e);
      room = subst (λ (cs : List Change). space_of (steps cs (values_of img)) ≤ region_size img) joint-changes (kept-room t ls q img (kept ∙ n));
    }

  gone-change : what ≡ Ok decision.Remove → change_in q (values_of img) ≡ remove (keyed name vendor)
  gone-change h = remove-change ls t q (region_size img) (values_of img) (decided ∙ h)

  gone-key : what ≡ Ok decision.Remove → {mode : ℕ} → beside ≡ Some mode → keyed name vendor ≡ key_pk
  gone-key h z = of-pk (change_in q (values_of img)) (change_mode (byte_by deploys)) (joined (ap broken_of h) z) (gone-change h)

  put-key : what ≡ Ok decision.Put → {mode : ℕ} → beside ≡ Some mode → key_of v ≡ key_pk
  put-key h z = puts-pk (change_in q (values_of img)) (change_mode (byte_by deploys)) (joined (ap broken_of h) z) (asked-change h)

  its-name : what ≡ Ok decision.Put → key_of v ≡ keyed name vendor
  unfolding new_value
  its-name h = ap key_of (d.5 h)

  pub removed-asked : what ≡ Ok decision.Remove → {mode : ℕ} → beside ≡ Some mode → Joinable img b used old (Some mode) false v (byte_by deploys)
  removed-asked h z =
      joint-asked false (remove key_pk) (ap broken_of h) z (gone-change h ∙ ap remove (gone-key h z)) (gone-key h z) refl (λ e. absurd (false≢true e)) (λ e. absurd (false≢true e))

  pub enrolled-asked : what ≡ Ok decision.Put → {mode : ℕ} → beside ≡ Some mode → length v.vendor ≡ 16 → Joinable img b used old (Some mode) true v (byte_by deploys)
  enrolled-asked h z long =
      joint-asked true (put v) (ap broken_of h) z (asked-change h) (sym (its-name h) ∙ put-key h z) refl (λ e. put-key h z) (λ e. long)

  -- ---- in a session that says so

  module _ (m : Bool) (s : Session) (says : Says m s (keyed name vendor) t table) where
    broken : set_broken m s q img ≡ broken_of what
    unfolding set_broken terms_of
    broken =
        ap₂ (λ (y : Terms) (l : List Limit). first_broken (set_rules y l q img)) says.0
        (ap₂ (λ (x : List ℕ) (n : ℕ). limits_in x n (keyed name vendor)) says.1 (ap (λ (y : Terms). y.rules) says.0))
        ∙ kept

    plans : broken_of what ≡ none → set_plan m s q img ≡ changes_plan false img (changes_of q (values_of img))
    unfolding plan_of
    plans n = rw (broken ∙ n)

    plan : (c : Change) → broken_of what ≡ none → beside ≡ None → change_in q (values_of img) ≡ c → set_plan m s q img ≡ change_plan img c
    plan c n z e = plans n ∙ rw (alone n z, e)

    -- refused, or no stores

    pub set-refused : {rule : Rule} → what ≡ Err rule → set_plan m s q img ≡ refuse rule
    unfolding plan_of
    set-refused h = rw (broken ∙ ap broken_of h)

    pub set-nothing : what ≡ Ok decision.Nothing → set_plan m s q img ≡ make [] []
    unfolding change_plan changes_of beside_pk
    set-nothing h = plans (ap broken_of h) ∙ rw (nothing-change ls t q (region_size img) (values_of img) (decided ∙ h))

    -- a delete

    pub remove-plan : what ≡ Ok decision.Remove → beside ≡ None → set_plan m s q img ≡ make (delete_to (keyed name vendor) (entries (region img))) []
    unfolding change_plan
    remove-plan h z = plan (remove (request_key q)) (ap broken_of h) z (remove-change ls t q (region_size img) (values_of img) (decided ∙ h))

    -- rule 11: an entry of the name stands
    stands : what ≡ Ok decision.Remove → is_some (standing (keyed name vendor) (entries (region img))) ≡ true
    unfolding values_in
    stands h =
        let k = keyed name vendor in
        let es = entries (region img) in
        let present : is_some (find k (values_of img)) ≡ true =
        remove-present m s q img (broken ∙ ap broken_of h) k (remove-change ls t q (region_size img) (values_of img) (decided ∙ h)) in
        let looked : find k (values es) ≡ on_some (standing k es) (λ e. some (walk.entry_value_def e)) none =
        find-standing (length (region img)) es k (sound-parts authenticated (region img) ready.sounds).1 in
        go (standing k es) (ap is_some (sym looked) ∙ present)
      where
        go : (o : Maybe walk.Entry) → is_some (on_some o (λ e. some (walk.entry_value_def e)) none) ≡ true → is_some o ≡ true
        go (some e) p = refl
        go none p = p

    -- its mark decides
    remove-decides : what ≡ Ok decision.Remove → (c : List ℕ) {ops : List Step} → ops ≡ delete_plan places
        → decides_right (make (delete_to (keyed name vendor) (entries (region img))) []) (accepted ops (Some 1)) ≡ true
    unfolding delete_plan
    remove-decides h c o =
        let k = keyed name vendor in
        let es = entries (region img) in
        mark-decides c (delete_plan places) 1 (delete_to k es) [] o (remove-marks c places k es found-added found-replacing (stands h))
        (delete-to c places k es found-added found-replacing)

    -- *what was planned*
    pub remove-plans : what ≡ Ok decision.Remove → beside ≡ None → Bytes img → Sized (set m s q) → (before c : List ℕ) {ops : List Step} → ops ≡ delete_plan places
        → Plans (set_plan m s q img) img before c (Ok (accepted ops (Some 1)))
    unfolding block
    remove-plans h z bytes-img args before c o =
        let k = keyed name vendor in
        let es = entries (region img) in
        let l = image-long img b ready.right ready.number in
        let x = below (length img) (omega (arith, ready.long, l.1)) in
        let clears = remove-clears m s q img k bytes-img args (alone (ap broken_of h) z ∙ ap (λ (c : Change). c ∷ []) (gone-change h)) (remove-plan h z) in
        accepted-plans before c img (set_plan m s q img) (delete_plan places) (Some 1) (delete_to k es) [] o (delete-to c places k es found-added found-replacing)
        (delete-on c places k es found-added found-replacing) (remove-plan h z) (remove-decides h c o) (delete-ready c img places k found-added found-replacing x.0 x.1 clears)

    -- a put

    pub put-plan : what ≡ Ok decision.Put → beside ≡ None → set_plan m s q img ≡ put_plan img v
    unfolding change_plan
    put-plan h z = plan (put v) (ap broken_of h) z (asked-change h)

    put-kept : (before c : List ℕ) → what ≡ Ok decision.Put → beside ≡ None → Kept (set_plan m s q img) before c
    unfolding put_plan
    put-kept before c h z =
        subst (λ (p : Plan). Kept p before c) (sym (put-plan h z)) (either-kept (fits_tail (region img) v) _ _ _ _ before c)

    -- *what was planned*
    pub put-plans : what ≡ Ok decision.Put → beside ≡ None → Bytes img → Sized (set m s q) → (before : List ℕ) {c : List ℕ} {p : Result Planned Rule} → PutPlanned img v c p
        → Plans (set_plan m s q img) img before c p
    unfolding in_place_def
    put-plans h z bytes-img args before {c} {p} d =
        record {
          same = d.same ∙ sym (put-plan h z);
          decides = subst (λ (x : Plan). IfOk p (λ y. decides_right x y ≡ true)) (sym (put-plan h z)) d.decides;
          kept = put-kept before c h z;
          ready =
              d.ready
              (λ fits w. subst (λ (ss : List Store). ClearsOne (is_state_def img) ss img) (ap (stores_of w) (put-plan h z))
              ((marks-clear-one-bit w img bytes-img (set m s q) args).1 (change_in q (values_of img)) refl (alone (ap broken_of h) z) (ap (in_place_def img) (asked-change h) ∙ fits)))
              (λ w. subst (λ (ss : List Store). ClearsOne (is_record img) ss img) (ap (stores_of w) (put-plan h z)) (marks-clear-one-bit w img bytes-img (set m s q) args).0);
        }

    -- both at once

    module _ (comes : Bool) (c : Change) (n : broken_of what ≡ none) {mode : ℕ} (z : beside ≡ Some mode) (change : change_in q (values_of img) ≡ c) (key : keyed name vendor ≡ key_pk)
        (is : c ≡ cond comes (put v) (remove key_pk)) where
      joint-plan : set_plan m s q img ≡ compact_plan img (steps (joint_changes comes v (byte_by deploys)) (values_of img))
      unfolding folded_plan
      joint-plan = plans n ∙ rw (joint-changes comes c n z change key is) (go comes)
        where
          go : (x : Bool) → folded_plan img (joint_changes x v (byte_by deploys)) ≡ compact_plan img (steps (joint_changes x v (byte_by deploys)) (values_of img))
          go true = refl
          go false = refl

      joint-plans : Bytes img → Sized (set m s q) → (before : List ℕ) {content : List ℕ} {p : Result Planned Rule} → FoldPlanned img (joint_changes comes v (byte_by deploys)) content p
          → Plans (set_plan m s q img) img before content p
      joint-plans bytes-img args before {content} {p} f =
          record {
            same = f.same ∙ sym joint-plan;
            decides = subst (λ (x : Plan). IfOk p (λ y. decides_right x y ≡ true)) (sym joint-plan) f.decides;
            kept = made_kept before content joint-plan;
            ready =
                f.ready
                (λ w. subst (λ (ss : List Store). ClearsOne (is_record img) ss img) (ap (stores_of w) joint-plan) (marks-clear-one-bit w img bytes-img (set m s q) args).0);
          }

    pub removed-plans : what ≡ Ok decision.Remove → {mode : ℕ} → beside ≡ Some mode → Bytes img → Sized (set m s q) → (before : List ℕ) {c : List ℕ} {p : Result Planned Rule}
        → FoldPlanned img (joint_changes false v (byte_by deploys)) c p → Plans (set_plan m s q img) img before c p
    removed-plans h z = joint-plans false (remove key_pk) (ap broken_of h) z (gone-change h ∙ ap remove (gone-key h z)) (gone-key h z) refl

    pub enrolled-plans : what ≡ Ok decision.Put → {mode : ℕ} → beside ≡ Some mode → Bytes img → Sized (set m s q) → (before : List ℕ) {c : List ℕ} {p : Result Planned Rule}
        → FoldPlanned img (joint_changes true v (byte_by deploys)) c p → Plans (set_plan m s q img) img before c p
    enrolled-plans h z = joint-plans true (put v) (ap broken_of h) z (asked-change h) (sym (its-name h) ∙ put-key h z) refl
