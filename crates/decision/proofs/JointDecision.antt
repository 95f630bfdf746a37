-- The decision on a set of PK with which PlatMode changes. No rule before room is broken, so the side is ours and PK's value is no error record; then room is judged after both
-- changes, of which a delete puts nothing.
-- Assumes nothing.
use Prim.Native.Nat.{ℕ, ◌+◌, ◌≤◌}
use native.Mathlib.Omega.{arith}
use mathlib.Core.Path.{◌≡◌, refl, sym, ap, ap₂, ◌∙◌}
use mathlib.Core.Bool.{Bool, true, false, not, cond, ◌&&◌, ◌||◌, false≢true}
use mathlib.Core.List.{List, [], ◌∷◌, ◌++◌}
use mathlib.Core.Option.{Option, none, some}
use lib.ListN.{length}
use lib.Dec.{eqb}
use borrow.Author.Tests.{eqb-true, not-false}
use Rattle.model.specs.declared.Terms.{Terms}
use Rattle.model.specs.declared.Rule.{Rule}
use Rattle.model.specs.Lists.{among, on_some}
use Rattle.model.specs.Name.{Key}
use Rattle.model.specs.Entry.{Value, key_of, header_size_def, rounded, entry_size_def}
use Rattle.model.specs.Region.{record_bit, sound, entries, values, standing, find}
use Rattle.model.specs.Request.{Request, request_key, data_proper, is_key_name_def, key_pk, key_mode, deployed_mode, mode_value}
use Rattle.model.specs.Limits.{Limit}
use Rattle.model.specs.Change.{Change, nothing, remove, put, new_value, change_in, beside_pk, changes_of, is_error_record_def}
use Rattle.model.specs.Sides.{owns, side_sizes}
use Rattle.model.specs.Rules.{first_broken, rule5, rule13, rule18, rule22, request_rules, item_rules, setting_rules, room_rules}
use Rattle.model.proofs.Requests.{unbroken, put-named, record-append}
use Rattle.layout.specs.declared.Entry as numbers
use Rattle.std.specs.Prelude.{Some, None, Ok, Err}
use Rattle.values.specs.Found.{placed_at, found_of}
use Rattle.decision.specs.declared.Change as told
use Rattle.decision.specs.declared.Change.TheVariants.{Put}
use Rattle.decision.specs.Decision.{Decision, kind_of, decided, tried_of, decision_of, broken_of, beside_by}
use Rattle.decision.specs.Parts.{Found, JoinedAs, found_mode, offset_of, moves_by, beside_found, deploys_by, new_size, room_after_def, roomed_by}
use Rattle.decision.specs.Profile.{comes_size, comes_sizes}
use Rattle.decision.specs.Joint.{taken_by, coming_by, joint_after}
use Rattle.decision.proofs.Together.{beside_none, beside-some, beside-moves, beside-here}
use Rattle.decision.proofs.JointRoom.{pk-key, pk-ours, joint-room, joint-counts}
use Rattle.decision.proofs.Assembled.{new-entry, puts-new, decision-cases, decision-alone}
use Rattle.decision.proofs.Accepted.{decided-none, tried-named}

-- a key's attributes are no error record's
key-plain : (a : ℕ) → among (0x27 ∷ 0x67 ∷ []) a ≡ true → record_bit a ≡ false
key-plain a h = go (eqb a 0x27) refl (eqb a 0x67) refl h
  where
    go : (x : Bool) → eqb a 0x27 ≡ x → (y : Bool) → eqb a 0x67 ≡ y → (x || (y || false)) ≡ true → record_bit a ≡ false
    go true e y f h = rw (eqb-true a 0x27 e)
    go false e true f h = rw (eqb-true a 0x67 f)
    go false e false f h = absurd (false≢true h)

module _ (t : Terms) (q : Request) (r : List ℕ) (sounds : sound r ≡ true) (old : Found) (h : old ≡ found_of (standing (request_key q) (entries r))) (ls : List Limit) where
  abbrev vs : List Value
  vs = values (entries r)

  abbrev tried : Decision
  tried = tried_of ls t q vs

  abbrev rules : List (Rule × Bool)
  rules = item_rules t q vs ++ setting_rules ls q (find (request_key q) vs)

  -- what goes with a set that breaks no rule
  pub beside-decided : (full : Option Rule) → broken_of (roomed_by tried full) ≡ none
      → beside_by (offset_of (beside_found r tried old (request_key q))) (deploys_by r tried (beside_found r tried old (request_key q))) ≡ beside_pk (change_in q vs) vs
  unfolding tried_of roomed_by
  beside-decided full b = go (first_broken rules) b
    where
      go : (o : Option Rule) → broken_of (roomed_by (decided o (kind_of (change_in q vs))) full) ≡ none
          → beside_by (offset_of (beside_found r (decided o (kind_of (change_in q vs))) old (request_key q)))
          (deploys_by r (decided o (kind_of (change_in q vs))) (beside_found r (decided o (kind_of (change_in q vs))) old (request_key q)))
          ≡ beside_pk (change_in q vs) vs
      go (some rule) b = let z : ◌≡◌ {A = ℕ} 0 1 = cc in absurd (omega arith)
      go none b = beside-here r sounds q old h

  module _ (foreign : t.foreign ≡ rule22 t.vendor t.modem (request_key q)) (at : ℕ) (e : numbers.Entry) (b : beside_found r tried old (request_key q) ≡ placed_at at e) where
    named : request_key q ≡ key_pk
    named = (beside-moves r tried old (request_key q) at e b).named

    found : placed_at at e ≡ found_of (standing key_mode (entries r))
    found = (beside-moves r tried old (request_key q) at e b).found

    pk : old ≡ found_of (standing key_pk (entries r))
    pk = h ∙ ap (λ (k : Key). found_of (standing k (entries r))) named

    module _ (kept : first_broken rules ≡ none) where
      ours : t.modem ≡ false
      unfolding item_rules request_rules rule22
      ours =
          let own : not (owns t.vendor t.modem (request_key q)) ≡ false = sym foreign ∙ unbroken _ 22 kept in
          pk-ours t.vendor t.modem (ap (owns t.vendor t.modem) (sym named) ∙ not-false (owns t.vendor t.modem (request_key q)) own)

      plain : record_bit q.attributes ≡ false
      unfolding item_rules request_rules rule5
      plain =
          let five : (is_key_name_def (request_key q) && not (among (0x27 ∷ 0x67 ∷ []) q.attributes)) ≡ false = unbroken _ 5 kept in
          key-plain q.attributes (not-false (among (0x27 ∷ 0x67 ∷ []) q.attributes) (rw (ap is_key_name_def named ∙ pk-key) at five))

    -- what goes is there
    pub joint-there : tried ≡ Ok Put → taken_by r old + taken_by r (placed_at at e) ≤ side_sizes t.vendor t.modem vs
    unfolding tried_of
    joint-there p = joint-counts t r sounds (ours (decided-none (first_broken rules) (kind_of (change_in q vs)) (Ok Put) p refl).0) old (placed_at at e) pk found

    -- the size of PK's entry
    abbrev size : ℕ
    size = rounded (header_size_def + length q.name + new_size r old q.attributes (length (data_proper q)))

    -- room for both, where PK is put
    module _ (kept : first_broken rules ≡ none) (v : Value) (c : change_in q vs ≡ put v) where
      new-plain : is_error_record_def v ≡ false
      unfolding new_value
      new-plain = ap is_error_record_def (puts-new t q r sounds old h v c) ∙ record-append q.attributes ∙ plain kept

      new-size : size ≡ entry_size_def v
      new-size = new-entry t q r sounds old h ∙ ap entry_size_def (sym (puts-new t q r sounds old h v c))

      new-named : key_of v ≡ key_pk
      unfolding change_in
      new-named = put-named q (find (request_key q) vs) v c ∙ named

      put-room : (b : Bool)
          → first_broken (room_rules t (length r) (put v ∷ cond b (put (mode_value deployed_mode) ∷ []) (remove key_mode ∷ [])) vs)
          ≡ first_broken (joint_after t r old (placed_at at e) (coming_by b size))
      unfolding joint_after coming_by comes_sizes comes_size mode_value
      put-room true =
          sym (joint-room t r sounds (ours kept) old (placed_at at e) pk found (put v) (put (mode_value deployed_mode)) new-named refl refl refl
          (λ w i. put_as v w new-plain i, (λ w i. put_as (mode_value deployed_mode) w refl i, tt)) refl (size + entry_size_def (mode_value deployed_mode)) (omega (arith, new-size)))
        where
          put_as : (v w : Value) → is_error_record_def v ≡ false → put v ≡ put w → is_error_record_def w ≡ false
          put_as v w p i = let j : v ≡ w = cc in sym (ap is_error_record_def j) ∙ p
      put-room false =
          sym (joint-room t r sounds (ours kept) old (placed_at at e) pk found (put v) (remove key_mode) new-named refl refl refl
          (λ w i. put_as w i, (λ w i. none-put w i, tt)) refl (size + 0) (omega (arith, new-size)))
        where
          put_as : (w : Value) → put v ≡ put w → is_error_record_def w ≡ false
          put_as w i = let j : v ≡ w = cc in sym (ap is_error_record_def j) ∙ new-plain

          none-put : (w : Value) → remove key_mode ≡ put w → is_error_record_def w ≡ false
          none-put w i = let z : ◌≡◌ {A = ℕ} 0 1 = cc in absurd (omega arith)

    -- and whatever a set that moves it does
    kind-room : (c : Change) → change_in q vs ≡ c → first_broken rules ≡ none → moves_by (kind_of c) old ≡ true
        → decided (first_broken (room_rules t (length r) (c ∷ cond (deploys_by r (kind_of c) (placed_at at e)) (put (mode_value deployed_mode) ∷ []) (remove key_mode ∷ [])) vs)) (kind_of c)
        ≡ roomed_by (kind_of c) (first_broken (joint_after t r old (placed_at at e) (coming_by (deploys_by r (kind_of c) (placed_at at e)) size)))
    unfolding first_broken room_rules rule18 rule13 roomed_by
    kind-room nothing i kept m = absurd (false≢true m)
    kind-room (remove k) i kept m = refl
    kind-room (put v) i kept m = ap (λ (o : Option Rule). on_some o (λ rule. Err rule) (Ok Put)) (put-room kept v i (deploys_by r (Ok Put) (placed_at at e)))

    -- *the decision*
    pub decision-joint : decision_of ls t q (length r) vs ≡ roomed_by tried (first_broken (joint_after t r old (placed_at at e) (coming_by (deploys_by r tried (placed_at at e)) size)))
    unfolding changes_of
    decision-joint =
        decision-cases t q r sounds old h ls (first_broken (joint_after t r old (placed_at at e) (coming_by (deploys_by r tried (placed_at at e)) size)))
        (λ kept k.
        let c : Change = change_in q vs in
        let f : beside_found r (kind_of c) old (request_key q) ≡ placed_at at e = sym (ap (λ (d : Decision). beside_found r d old (request_key q)) k) ∙ b in
        let here : beside_pk c vs ≡ cond (deploys_by r (kind_of c) (placed_at at e)) (put (mode_value deployed_mode) ∷ []) (remove key_mode ∷ []) =
        sym (beside-here r sounds q old h) ∙ ap (λ (x : Found). beside_by (offset_of x) (deploys_by r (kind_of c) x)) f
        ∙ beside-some at (deploys_by r (kind_of c) (placed_at at e)) in
        rw (here, k) (kind-room c refl kept (beside-moves r (kind_of c) old (request_key q) at e f).moves))

  -- ---- by what was found of PlatMode that changes too

  -- a rule broken before room is the answer
  no-kind : (rule : Rule) (c : Change) → Err rule ≡ kind_of c → ⊥
  no-kind rule nothing e = let z : ◌≡◌ {A = ℕ} 0 1 = cc in omega arith
  no-kind rule (remove k) e = let z : ◌≡◌ {A = ℕ} 0 1 = cc in omega arith
  no-kind rule (put v) e = let z : ◌≡◌ {A = ℕ} 0 1 = cc in omega arith

  pub broken-before : (rule : Rule) → Err rule ≡ tried → Err rule ≡ decision_of ls t q (length r) vs
  unfolding roomed_by
  broken-before rule d =
      sym (decision-cases t q r sounds old h ls none (λ e k. absurd (no-kind rule (change_in q vs) (d ∙ k))) ∙ ap (λ (x : Decision). roomed_by x none) (sym d))

  module _ (what : told.Change) (w : Ok what ≡ tried) (n : ℕ) (m : n ≡ new_size r old q.attributes (length (data_proper q))) where
    seen : (x : Found) → x ≡ beside_found r (Ok what) old (request_key q) → beside_found r tried old (request_key q) ≡ x
    seen x f = sym (f ∙ ap (λ (d : Decision). beside_found r d old (request_key q)) w)

    abbrev with : List Change
    with = beside_pk (change_in q vs) vs

    -- nothing
    module _ (f : None ≡ beside_found r (Ok what) old (request_key q)) where
      abbrev alone : Option Rule
      alone = first_broken (room_after_def t r old (owns t.vendor t.modem (request_key q)) (record_bit q.attributes) (rounded (header_size_def + length q.name + n)))

      alone-decided : (done : Decision) → done ≡ roomed_by (Ok what) alone → (done ≡ decision_of ls t q (length r) vs) × (broken_of done ≡ none → beside_by None false ≡ with)
      alone-decided done o =
          let same : done ≡ roomed_by tried alone = o ∙ ap (λ (d : Decision). roomed_by d alone) w in (
            same ∙ rw m (sym (decision-alone t q r sounds old h ls (seen None f))),
            λ z. beside_none false ∙ sym (beside_none (deploys_by r tried None)) ∙ (rw (seen None f) at (beside-decided alone (ap broken_of (sym same) ∙ z))),
          )

      pub alone-broken : (rule : Rule) → Err rule ≡ roomed_by (Ok what) alone → Err rule ≡ decision_of ls t q (length r) vs
      alone-broken rule o = (alone-decided (Err rule) o).0

      pub alone-joined : (done : told.Change) → Ok done ≡ roomed_by (Ok what) alone
          → JoinedAs (decision_of ls t q (length r) vs) with (found_mode r) (Ok (record { what = done; beside = None; deploys = false }))
      alone-joined done o =
          let d = alone-decided (Ok done) o in
          (d.0, d.1 refl, λ at e. let z : ◌≡◌ {A = ℕ} 0 1 = cc in absurd (omega arith))

    -- its entry
    module _ (foreign : t.foreign ≡ rule22 t.vendor t.modem (request_key q)) (at : ℕ) (e : numbers.Entry) (f : placed_at at e ≡ beside_found r (Ok what) old (request_key q)) where
      pub joint-asked : what ≡ Put → (length q.name ≤ 128) × (taken_by r old + taken_by r (placed_at at e) ≤ side_sizes t.vendor t.modem vs)
      joint-asked p = (tried-named ls t q vs (sym w ∙ ap Ok p), joint-there foreign at e (seen (placed_at at e) f) (sym w ∙ ap Ok p))

      module _ (deploys : Bool) (d : deploys ≡ deploys_by r (Ok what) (placed_at at e)) where
        abbrev both : Bool → Option Rule
        both b = first_broken (joint_after t r old (placed_at at e) (coming_by b (rounded (header_size_def + length q.name + n))))

        joint-decided : (done : Decision) → done ≡ roomed_by (Ok what) (both deploys)
            → (done ≡ decision_of ls t q (length r) vs) × (broken_of done ≡ none → beside_by (Some at) deploys ≡ with)
        joint-decided done o =
            let here : deploys ≡ deploys_by r tried (placed_at at e) = d ∙ ap (λ (x : Decision). deploys_by r x (placed_at at e)) w in
            let same : done ≡ roomed_by tried (both (deploys_by r tried (placed_at at e))) = o ∙ ap₂ (λ (x : Decision) (b : Bool). roomed_by x (both b)) w here in (
              same ∙ rw m (sym (decision-joint foreign at e (seen (placed_at at e) f))),
              λ z. ap (beside_by (Some at)) here
                  ∙ (rw (seen (placed_at at e) f) at (beside-decided (both (deploys_by r tried (placed_at at e))) (ap broken_of (sym same) ∙ z))),
            )

        pub joint-broken : (rule : Rule) → Err rule ≡ roomed_by (Ok what) (both deploys) → Err rule ≡ decision_of ls t q (length r) vs
        joint-broken rule o = (joint-decided (Err rule) o).0

        pub joint-joined : (done : told.Change) → Ok done ≡ roomed_by (Ok what) (both deploys)
            → JoinedAs (decision_of ls t q (length r) vs) with (found_mode r) (Ok (record { what = done; beside = Some at; deploys = deploys }))
        joint-joined done o =
            let j = joint-decided (Ok done) o in
            (j.0, j.1 refl, λ a e'. sym (ap offset_of (found foreign at e (seen (placed_at at e) f))) ∙ e')
