-- A mode request over an image that is ready. What is decided over the region is what the request comes to over the image's values: it names the rule that the request breaks, or
-- the mode alone is put, as a set puts a value, or PK goes first and both are one compaction.
-- Assumes nothing.
use Prim.Native.Nat.{ℕ, ◌*◌, ◌≤◌}
use native.Mathlib.Omega.{arith}
use mathlib.Core.Path.{◌≡◌, refl, sym, ap, ap₂, ◌∙◌, subst}
use mathlib.Core.Bool.{Bool, true, false, cond, false≢true}
use mathlib.Core.List.{List, [], ◌∷◌, ◌++◌, append_assoc}
use mathlib.Core.Option.{Option as Maybe, none, some}
use Rattle.std.specs.Prelude.{Option, Some, None, Result, Ok, Err, IfOk}
use lib.ListN.{length}
use lib.Dec.{eqb}
use Rattle.model.specs.Layout.{authenticated}
use Rattle.model.specs.declared.Session.{Session}
use Rattle.model.specs.declared.Terms.{Terms}
use Rattle.model.specs.declared.Rule.{Rule}
use Rattle.model.specs.declared.Rule.TheVariants.{Side, Locked, Mode, Room}
use Rattle.model.specs.Lists.{part, on_some, or_else}
use Rattle.model.specs.Name.{Key}
use Rattle.model.specs.Image.{region_size, region}
use Rattle.model.specs.Entry.{key_of, no_stamp_def}
use Rattle.model.specs.Walk as walk
use Rattle.model.specs.Region.{sound, entries, values, values_of, values_in, added, replacing, standing}
use Rattle.model.specs.Request.{global_vendor_def, key_pk, key_mode, audit_mode, deployed_mode, mode_value}
use Rattle.model.specs.Change.{Change, remove, put, mode_changes, steps, space_of}
use Rattle.model.specs.Rules.{first_broken, terms_for_def, image_rules, mode_rules, mode_broken, rule6_mode, rule13, rule22, rule24}
use Rattle.model.specs.Stores.{Store, Bytes}
use Rattle.model.specs.Set.{Plan, refuse, fits_tail, folded_plan, compact_plan, change_plan, put_plan, changes_plan}
use Rattle.model.specs.Answers.{stores_of}
use Rattle.model.specs.Book.{mode_plan, plan_of, mode, ClearsOne, is_state_def, is_record, in_place_def}
use Rattle.model.proofs.Requests.{broken-append, mode-fitting}
use Rattle.model.proofs.Joint.{mode-valid}
use Rattle.recovery.proofs.Bits.{marks-clear-one-bit}
use Rattle.values.specs.Found.{found_of, else_found}
use Rattle.region.specs.declared.Placed.{Placed}
use Rattle.values.specs.declared.Places.{Places}
use Rattle.values.proofs.Finds.{found-else}
use Rattle.image.proofs.Readiness.{refused-rule}
use Rattle.image.specs.Check.{call_of, IsReady}
use Rattle.plan.specs.declared.Planned.{Planned}
use Rattle.plan.specs.Planned.{decides_right, Kept, Plans}
use Rattle.plan.proofs.Parts.{made_kept, either-kept}
use Rattle.planner.specs.Asked.{valued, Asked, PutPlanned, joint_changes, stands_at, Joinable, FoldPlanned}
use Rattle.planner.proofs.Ready.{region-size}
use Rattle.session.specs.declared.Locks.{Locks}
use Rattle.decision.specs.declared.Change as deciding
use Rattle.decision.specs.declared.Change.TheVariants as decision
use Rattle.decision.specs.Decision.{decided, broken_of}
use Rattle.decision.specs.Parts.{found_pk, offset_of}
use Rattle.decision.specs.Modes.{barring, transition_rules, transition_of, byte_of, transition_by}
use Rattle.engine.specs.Modes.{SaysModes, no_value}

-- ---- the rules of a request, in stages

module _ (m : Bool) (s : Session) (to : ℕ) (img : List ℕ) where
  abbrev cs : List Change
  cs = mode_changes to (values_of img)

  abbrev own_rules : List (Rule × Bool)
  own_rules = (Side, rule22 s.setup.modem.vendor m key_mode) ∷ (Locked, rule6_mode s cs) ∷ (Mode, rule24 cs) ∷ []

  abbrev room_rule : List (Rule × Bool)
  room_rule = (Room, rule13 (terms_for_def m s) (region_size img) cs (values_of img)) ∷ []

  stages : mode_broken m s to img ≡ or_else (first_broken (image_rules img)) (first_broken (own_rules ++ room_rule))
  unfolding mode_broken mode_rules
  stages = ap first_broken (append_assoc (image_rules img) own_rules room_rule) ∙ broken-append (image_rules img) (own_rules ++ room_rule)

  refused-by : {rule : Rule} → mode_broken m s to img ≡ some rule → mode_plan m s to img ≡ refuse rule
  unfolding plan_of
  refused-by e = rw e

  -- rule 1 or 2
  pub image-refused : (rule : Rule) → call_of img ≡ Err rule → mode_plan m s to img ≡ refuse rule
  image-refused rule h = refused-by (stages ∙ rw (refused-rule authenticated img rule h))

  -- ---- in a session that says so

  module _ {t : Terms} {held : Locks} {locks : List ℕ} (says : SaysModes m s t held locks) where
    its-rules : own_rules ≡ transition_rules t (barring held locks) cs
    unfolding transition_rules rule6_mode terms_for_def
    its-rules =
        let side : rule22 s.setup.modem.vendor m key_mode ≡ rule22 t.vendor t.modem key_mode =
        ap (λ (y : Terms). rule22 y.vendor y.modem key_mode) says.terms in
        rw (side, says.bars key_mode, says.bars key_pk)

    its-room : rule13 (terms_for_def m s) (region_size img) cs (values_of img) ≡ rule13 t (region_size img) cs (values_of img)
    its-room = ap (λ (y : Terms). rule13 y (region_size img) cs (values_of img)) says.terms

    named : (o : Maybe Rule) → broken_of (decided o (Ok decision.Put)) ≡ o
    named (some rule) = refl
    named none = refl

    -- the rule that it breaks, over an image that breaks neither 1 nor 2
    its-broken : first_broken (image_rules img) ≡ none → mode_broken m s to img ≡ broken_of (transition_of t (barring held locks) to (region_size img) (values_of img))
    unfolding transition_of
    its-broken h =
        stages
        ∙ ap (λ (o : Maybe Rule). or_else o (first_broken (own_rules ++ room_rule))) h
        ∙ ap₂ (λ (x : List (Rule × Bool)) (b : Bool). first_broken (x ++ ((Room, b) ∷ []))) its-rules its-room
        ∙ sym (named (first_broken (transition_rules t (barring held locks) cs ++ ((Room, rule13 t (region_size img) cs (values_of img)) ∷ []))))

-- PlatMode's value by its fields
pub mode-fields : (byte : ℕ) {name vendor none : List ℕ} → name ≡ key_mode.name → vendor ≡ global_vendor_def → none ≡ [] → valued name vendor 0x07 no_stamp_def (none ++ (byte ∷ [])) ≡ mode_value byte
unfolding mode_value key_mode
mode-fields byte n v e = rw (n, v, e)

-- what the decision asks of the region that was cut
pub region-asked : {img r : List ℕ} {b at used : ℕ} → IsReady img b at used → r ≡ part 0 (4096 * b) img → (sound r ≡ true) × (length r ≤ 28672)
region-asked ready cut =
    let is = cut ∙ ready.cut in
    let n = ap length is in
    (ap sound is ∙ ready.sounds, omega (arith, ready.few, ready.long))

-- the region that was cut, with what was decided over it
module _ (t : Terms) (held : Locks) (locks : List ℕ) (to : ℕ) (places : Places) (pk : Option ℕ) (byte : ℕ) {img r : List ℕ} {b at used : ℕ} {what : Result deciding.Change Rule}
    (ready : IsReady img b at used) (cut : r ≡ part 0 (4096 * b) img)
    (d : (what ≡ transition_of t (barring held locks) to (length r) (values (entries r)))
    × (places.added ≡ found_of (added key_mode (entries r)))
    × (places.replacing ≡ found_of (replacing key_mode (entries r)))
    × (what ≡ Ok decision.Put → transition_by pk byte ≡ mode_changes to (values (entries r)))
    × ((at : ℕ) → pk ≡ Some at → offset_of (found_pk r) ≡ Some at)
    × (byte ≡ byte_of to)) where
  its-region : r ≡ region img
  its-region = cut ∙ ready.cut

  decided-so : transition_of t (barring held locks) to (region_size img) (values_of img) ≡ what
  unfolding values_in
  decided-so =
      let long : length (region img) ≡ region_size img = ready.long ∙ sym (region-size img b ready.number) in
      sym (d.0 ∙ ap (λ (x : List ℕ). transition_of t (barring held locks) to (length x) (values (entries x))) its-region
      ∙ ap (λ (n : ℕ). transition_of t (barring held locks) to n (values (entries (region img)))) long)

  -- a rule, or a put
  only-put : (o : Maybe Rule) → decided o (Ok decision.Put) ≡ what → (what ≡ Ok decision.Nothing → ⊥) × (what ≡ Ok decision.Remove → ⊥)
  only-put (some rule) e = (λ h. let z : ◌≡◌ {A = ℕ} 0 1 = cc in absurd (omega arith), λ h. let z : ◌≡◌ {A = ℕ} 0 1 = cc in absurd (omega arith))
  only-put none e = (λ h. let z : ◌≡◌ {A = ℕ} 0 1 = cc in absurd (omega arith), λ h. let z : ◌≡◌ {A = ℕ} 0 1 = cc in absurd (omega arith))

  pub never-else : (what ≡ Ok decision.Nothing → ⊥) × (what ≡ Ok decision.Remove → ⊥)
  unfolding transition_of
  never-else =
      only-put
      (first_broken (transition_rules t (barring held locks) (mode_changes to (values_of img)) ++ ((Room, rule13 t (region_size img) (mode_changes to (values_of img)) (values_of img)) ∷ [])))
      decided-so

  its-changes : what ≡ Ok decision.Put → transition_by pk byte ≡ mode_changes to (values_of img)
  unfolding values_in
  its-changes h = d.3 h ∙ ap (λ (x : List ℕ). mode_changes to (values (entries x))) its-region

  alone-changes : what ≡ Ok decision.Put → pk ≡ None → mode_changes to (values_of img) ≡ put (mode_value byte) ∷ []
  unfolding transition_by
  alone-changes h z = sym (its-changes h) ∙ rw z

  both-changes : what ≡ Ok decision.Put → {at : ℕ} → pk ≡ Some at → mode_changes to (values_of img) ≡ remove key_pk ∷ put (mode_value byte) ∷ []
  unfolding transition_by
  both-changes h n = sym (its-changes h) ∙ rw n

  -- it is a byte that says that PlatMode's value comes
  some_byte : eqb byte 0 ≡ false
  unfolding byte_of
  some_byte = rw d.5 (go (eqb to audit_mode))
    where
      go : (a : Bool) → eqb (cond a audit_mode deployed_mode) 0 ≡ false
      go true = refl
      go false = refl

  mode-named : key_of (mode_value byte) ≡ key_mode
  unfolding mode_value key_mode
  mode-named = refl

  joint : joint_changes false no_value byte ≡ remove key_pk ∷ put (mode_value byte) ∷ []
  joint = rw some_byte

  -- the offsets of what stands
  offset-of : (o : Maybe walk.Entry) → offset_of (found_of o) ≡ on_some o (λ e. Some e.at) None
  offset-of (some e) = refl
  offset-of none = refl

  pk-at : {at : ℕ} → pk ≡ Some at → Some at ≡ stands_at key_pk (region img)
  pk-at {at} n = sym (d.4 at n) ∙ ap (λ (x : List ℕ). offset_of (found_pk x)) its-region ∙ offset-of (standing key_pk (entries (region img)))

  mode-at : {there : Option ℕ} {f : Option Placed} → f ≡ else_found places.added places.replacing → there ≡ offset_of f → there ≡ stands_at key_mode (region img)
  unfolding standing
  mode-at e h =
      let es = entries r in
      h ∙ ap offset_of (e ∙ ap₂ else_found d.1 d.2 ∙ sym (found-else (added key_mode es) (replacing key_mode es)))
      ∙ ap (λ (x : List ℕ). offset_of (found_of (standing key_mode (entries x)))) its-region
      ∙ offset-of (standing key_mode (entries (region img)))

  module _ (m : Bool) (s : Session) (says : SaysModes m s t held locks) where
    broken : mode_broken m s to img ≡ broken_of what
    broken = its-broken m s to img says ready.unbroken ∙ ap broken_of decided-so

    pub mode-refused : {rule : Rule} → what ≡ Err rule → mode_plan m s to img ≡ refuse rule
    mode-refused h = refused-by m s to img (broken ∙ ap broken_of h)

    plan : (cs : List Change) → what ≡ Ok decision.Put → mode_changes to (values_of img) ≡ cs → mode_plan m s to img ≡ changes_plan false img cs
    unfolding plan_of
    plan cs h e = rw (broken ∙ ap broken_of h, e)

    fits : (cs : List Change) → what ≡ Ok decision.Put → mode_changes to (values_of img) ≡ cs → space_of (steps cs (values_of img)) ≤ region_size img
    fits cs h e = rw (← e) (mode-fitting m s to img (broken ∙ ap broken_of h)).room

    -- ---- the mode alone

    pub alone-asked : what ≡ Ok decision.Put → pk ≡ None → Asked img b at used places (mode_value byte)
    unfolding steps
    alone-asked h z = record {
      ready = ready;
      added = d.1 ∙ ap (λ (x : List ℕ). found_of (added key_mode (entries x))) its-region ∙ ap (λ (k : Key). found_of (added k (entries (region img)))) (sym mode-named);
      replacing = d.2 ∙ ap (λ (x : List ℕ). found_of (replacing key_mode (entries x))) its-region ∙ ap (λ (k : Key). found_of (replacing k (entries (region img)))) (sym mode-named);
      valid = λ l. mode-valid byte;
      room = fits (put (mode_value byte) ∷ []) h (alone-changes h z);
    }

    alone-plan : what ≡ Ok decision.Put → pk ≡ None → mode_plan m s to img ≡ put_plan img (mode_value byte)
    unfolding change_plan
    alone-plan h z = plan (put (mode_value byte) ∷ []) h (alone-changes h z)

    alone-kept : what ≡ Ok decision.Put → pk ≡ None → (before c : List ℕ) → Kept (mode_plan m s to img) before c
    unfolding put_plan
    alone-kept h z before c =
        subst (λ (p : Plan). Kept p before c) (sym (alone-plan h z)) (either-kept (fits_tail (region img) (mode_value byte)) _ _ _ _ before c)

    pub alone-plans : what ≡ Ok decision.Put → pk ≡ None → Bytes img → (before : List ℕ) {c : List ℕ} {p : Result Planned Rule} → PutPlanned img (mode_value byte) c p
        → Plans (mode_plan m s to img) img before c p
    unfolding in_place_def
    alone-plans h z bytes-img before {c} {p} q =
        let is = alone-plan h z in
        record {
          same = q.same ∙ sym is;
          decides = subst (λ (x : Plan). IfOk p (λ y. decides_right x y ≡ true)) (sym is) q.decides;
          kept = alone-kept h z before c;
          ready =
              q.ready
              (λ fits w. subst (λ (ss : List Store). ClearsOne (is_state_def img) ss img) (ap (stores_of w) is)
              ((marks-clear-one-bit w img bytes-img (mode m s to) tt).1 (put (mode_value byte)) refl (alone-changes h z) fits))
              (λ w. subst (λ (ss : List Store). ClearsOne (is_record img) ss img) (ap (stores_of w) is) (marks-clear-one-bit w img bytes-img (mode m s to) tt).0);
        }

    -- ---- PK goes first

    pub losing-asked : what ≡ Ok decision.Put → {at : ℕ} → pk ≡ Some at → {there : Option ℕ} {f : Option Placed} → f ≡ else_found places.added places.replacing → there ≡ offset_of f
        → Joinable img b used (Some at) there false no_value byte
    losing-asked h n e o = record {
      tail = at;
      ready = ready;
      first = pk-at n;
      second = mode-at e o;
      named = λ x. absurd (false≢true x);
      valid = λ x. absurd (false≢true x);
      room = rw joint (fits (remove key_pk ∷ put (mode_value byte) ∷ []) h (both-changes h n));
    }

    losing-plan : what ≡ Ok decision.Put → {at : ℕ} → pk ≡ Some at → mode_plan m s to img ≡ compact_plan img (steps (joint_changes false no_value byte) (values_of img))
    unfolding folded_plan
    losing-plan h n =
        plan (remove key_pk ∷ put (mode_value byte) ∷ []) h (both-changes h n)
        ∙ ap (λ (cs : List Change). compact_plan img (steps cs (values_of img))) (sym joint)

    pub losing-plans : what ≡ Ok decision.Put → {at : ℕ} → pk ≡ Some at → Bytes img → (before : List ℕ) {c : List ℕ} {p : Result Planned Rule} → FoldPlanned img (joint_changes false no_value byte) c p
        → Plans (mode_plan m s to img) img before c p
    losing-plans h n bytes-img before {c} {p} q =
        let is = losing-plan h n in
        record {
          same = q.same ∙ sym is;
          decides = subst (λ (x : Plan). IfOk p (λ y. decides_right x y ≡ true)) (sym is) q.decides;
          kept = made_kept before c is;
          ready = q.ready (λ w. subst (λ (ss : List Store). ClearsOne (is_record img) ss img) (ap (stores_of w) is) (marks-clear-one-bit w img bytes-img (mode m s to) tt).0);
        }
