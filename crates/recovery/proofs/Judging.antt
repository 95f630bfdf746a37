-- A side's call is judged by what the side sees: its rules look up names of its own, and PK and PlatMode for key names, which are ours; room by the side's own
-- sum, and for error records, which are ours, by theirs, since where shares are kept to all values fit. So it breaks the same rule, and makes the same changes,
-- over any two lists of values of which the side sees the same.
-- Assumes nothing.
use Prim.Native.Nat.{ℕ, ◌+◌, ◌≤◌}
use native.Mathlib.Omega.{arith}
use mathlib.Core.Path.{◌≡◌, refl, sym, ap, ap₂, ◌∙◌, subst}
use mathlib.Core.Bool.{Bool, true, false, not, cond, ◌&&◌, ◌||◌, false≢true}
use mathlib.Core.List.{List, [], ◌∷◌, ◌++◌}
use mathlib.Core.Option.{Option, none, some}
use lib.ListN.{length}
use lib.Dec.{ltb}
use borrow.Author.Tests.{ltb-false, le-ltb, not-false}
use Rattle.model.specs.Layout.{authenticated}
use Rattle.model.specs.declared.Setup.{Setup}
use Rattle.model.specs.declared.Session.{Session}
use Rattle.model.specs.declared.Terms.{Terms}
use Rattle.model.specs.declared.Rule.{Rule}
use Rattle.model.specs.declared.Rule.TheVariants.{Name, Locked, Side, Mode, Room, RecordSpace, File, Twice}
use Rattle.model.specs.Lists.{all, keep, any, or_else}
use Rattle.model.specs.Name.{Key, same_key_def, record_name}
use Rattle.model.specs.Image.{region_size, region}
use Rattle.model.specs.Entry.{Value, key_of}
use Rattle.model.specs.Region.{values_of, values_in, values, entries, find}
use Rattle.model.specs.Session.{share_of, reserved}
use Rattle.model.specs.Request.{Request, request_key, is_key_name_def, key_pk, user_mode_def, key_mode, audit_mode, deployed_mode, mode_value, stores_mode, mode_of}
use Rattle.model.specs.Profile.{items_in}
use Rattle.model.specs.Limits.{limits_for}
use Rattle.model.specs.Change.{Change, nothing, remove, put, change_in, without_mode, beside_pk, changes_of, mode_changes, changes_in, without, step, steps, entry_sizes, entry_sizes_in, space_of, is_error_record_def, record_sizes, other_sizes}
use Rattle.model.specs.Sides.{owns, view, side_sizes}
use Rattle.model.specs.Rules.{first_broken, rule1, rule2_in, rule3, rule6, rule6_mode, rule13, rule18, rule22, rule24, rule25, rule26, puts, terms_if, terms_for_def, terms_of, image_rules_in, request_rules, item_rules, setting_rules, room_rules, set_broken, items_rules, profile_rules, profile_broken, mode_rules, mode_broken}
use Rattle.model.specs.Beside.{Valid}
use Rattle.model.proofs.Tests.{and_split, key-eq}
use Rattle.model.proofs.Parts.{parts-region}
use Rattle.model.proofs.Chunks.{region-chunked}
use Rattle.model.proofs.Encode.{AllValid, sound-valid}
use Rattle.model.proofs.Changes.{EachPut}
use Rattle.model.proofs.Looking.{items_alike, mode-alike}
use Rattle.model.proofs.Joint.{mode-valid, beside-puts, mode-puts}
use Rattle.model.proofs.Requests.{unbroken, broken-append, image-valid, item-valid}
use Rattle.model.proofs.Files.{file-form, file-vendors}
use Rattle.model.proofs.Profiles.{first-own, others-kept, items-valid}
use Rattle.recovery.proofs.Compaction.{clean-sound}
use Rattle.recovery.proofs.StartingUp.{Ready, ready-is}
use Rattle.recovery.proofs.Views.{About, AllAbout, find-view, view-step, view-steps, record-ours, ours-only, ours-own, key-ours, mode-ours, with_mode, with-pk}
use Rattle.recovery.proofs.Shares.{Within, within-fits, steps-within}
use Rattle.recovery.proofs.Owned.{change-about, item-own, changes-about, mode-about, items-about, items-unrecorded, mode-unrecorded}
use Rattle.recovery.proofs.Usable.{few-kept}

-- ---- error records are ours

-- a record's name, where it is one
abbrev pub rightly_named : Value → Bool
rightly_named v = not (is_error_record_def v) || record_name (key_of v)

all_named : (vs : List Value) → AllValid authenticated vs → all rightly_named vs ≡ true
all_named [] h = refl
all_named (v ∷ vs) h = rw h.0.recorded (all_named vs h.1)

pub ready-named : (img : List ℕ) → Ready img → all rightly_named (values_of img) ≡ true
unfolding values_in
ready-named img i =
    let same : region img ≡ i.r = ap region i.whole ∙ parts-region i.parts in
    ap (λ (r : List ℕ). all rightly_named (values (entries r))) same
    ∙ all_named (values (entries i.r))
    (sound-valid authenticated i.r (region-chunked authenticated i.b i.parts.region-long (clean-sound i.r i.cleaned)))

-- so we see them all
pub records-seen : (g : List ℕ) (vs : List Value) → all rightly_named vs ≡ true → record_sizes (view g false vs) ≡ record_sizes vs
unfolding record_sizes view entry_sizes_in
records-seen g [] h = refl
records-seen g (v ∷ vs) h =
    let p = and_split (rightly_named v) (all rightly_named vs) h in
    go (is_error_record_def v) refl (owns g false (key_of v)) refl p.0 (records-seen g vs p.1)
  where
    own : is_error_record_def v ≡ true → rightly_named v ≡ true → owns g false (key_of v) ≡ true
    own e n = ours-own g (key_of v) (record-ours g (key_of v) (subst (λ (b : Bool). (not b || record_name (key_of v)) ≡ true) e n))

    go : (x : Bool) → is_error_record_def v ≡ x → (y : Bool) → owns g false (key_of v) ≡ y → rightly_named v ≡ true
        → entry_sizes (keep is_error_record_def (keep (λ w. owns g false (key_of w)) vs)) ≡ entry_sizes (keep is_error_record_def vs)
        → entry_sizes (keep is_error_record_def (cond (owns g false (key_of v)) (v ∷ keep (λ w. owns g false (key_of w)) vs) (keep (λ w. owns g false (key_of w)) vs)))
        ≡ entry_sizes (cond (is_error_record_def v) (v ∷ keep is_error_record_def vs) (keep is_error_record_def vs))
    go true e true f n i = simp (e, f) (omega arith)
    go true e false f n i = absurd (false≢true (sym f ∙ own e n))
    go false e true f n i = simp (e, f) i
    go false e false f n i = simp (e, f) i

-- and what a change puts stays so
last-named : (xs : List Value) (v : Value) → rightly_named v ≡ true → all rightly_named xs ≡ true → all rightly_named (xs ++ (v ∷ [])) ≡ true
last-named [] v n h = rw n
last-named (x ∷ xs) v n h = let p = and_split (rightly_named x) (all rightly_named xs) h in rw p.0 (last-named xs v n p.1)

kept-named : (f : Value → Bool) (xs : List Value) → all rightly_named xs ≡ true → all rightly_named (keep f xs) ≡ true
kept-named f [] h = refl
kept-named f (x ∷ xs) h = let p = and_split (rightly_named x) (all rightly_named xs) h in by (f x) p.0 (kept-named f xs p.1)
  where
    by : (b : Bool) → rightly_named x ≡ true → all rightly_named (keep f xs) ≡ true → all rightly_named (cond b (x ∷ keep f xs) (keep f xs)) ≡ true
    by true p i = rw p i
    by false p i = i

put-named : (v : Value) (vs : List Value) → rightly_named v ≡ true → all rightly_named vs ≡ true → all rightly_named (step (put v) vs) ≡ true
unfolding step without
put-named v vs n h = last-named (keep (λ w. not (same_key_def (key_of w) (key_of v))) vs) v n (kept-named (λ w. not (same_key_def (key_of w) (key_of v))) vs h)

steps-named : (cs : List Change) (vs : List Value) → EachPut Valid cs → all rightly_named vs ≡ true → all rightly_named (steps cs vs) ≡ true
unfolding steps step without
steps-named [] vs p h = h
steps-named (nothing ∷ cs) vs p h = steps-named cs vs p.1 h
steps-named (remove k ∷ cs) vs p h = steps-named cs (without k vs) p.1 (kept-named (λ w. not (same_key_def (key_of w) k)) vs h)
steps-named (put v ∷ cs) vs p h = steps-named cs (step (put v) vs) p.1 (put-named v vs (p.0 v refl).recorded h)

-- who puts one is us
ours-put : (g : List ℕ) (m : Bool) (cs : List Change) → EachPut Valid cs → AllAbout g m cs true → any (puts is_error_record_def) cs ≡ true → m ≡ false
ours-put g m [] p o h = absurd (false≢true h)
ours-put g m (nothing ∷ cs) p o h = ours-put g m cs p.1 o.1 h
ours-put g m (remove k ∷ cs) p o h = ours-put g m cs p.1 o.1 h
ours-put g m (put v ∷ cs) p o h = go (is_error_record_def v) refl (p.0 v refl).recorded h (λ e. ours-put g m cs p.1 o.1 e)
  where
    go : (x : Bool) → is_error_record_def v ≡ x → (not x || record_name (key_of v)) ≡ true → (x || any (puts is_error_record_def) cs) ≡ true → (any (puts is_error_record_def) cs ≡ true → m ≡ false) → m ≡ false
    go true e n h rest = ours-only g m (key_of v) o.0 (record-ours g (key_of v) n)
    go false e n h rest = rest h

-- ---- room, by what a side sees

-- 18 and 13 as the side can tell them
abbrev pub few18 : Terms → List Change → List Value → Bool
few18 t cs ws = any (puts is_error_record_def) cs && ltb t.records (record_sizes (steps cs ws))

abbrev pub room13 : Terms → List Change → List Value → Bool
room13 t cs ws = any (puts (λ v. not (is_error_record_def v))) cs && ltb t.share (other_sizes (steps cs ws) + t.reserve)

module _ (m : Bool) (s : Session) (foreign barred : Bool) (img : List ℕ) (i : Ready img) (cs : List Change) (valid : EachPut Valid cs)
    (own : AllAbout s.setup.modem.vendor m cs true) where
  abbrev g : List ℕ
  g = s.setup.modem.vendor

  abbrev vs : List Value
  vs = values_of img

  abbrev t : Terms
  t = terms_if m s foreign barred

  stepped : view g m (steps cs vs) ≡ steps cs (view g m vs)
  stepped = view-steps g m cs vs own

  pub few-seen : rule18 t cs vs ≡ few18 t cs (view g m vs)
  unfolding rule18
  few-seen = go (any (puts is_error_record_def) cs) refl
    where
      go : (x : Bool) → any (puts is_error_record_def) cs ≡ x → (x && ltb t.records (record_sizes (steps cs vs))) ≡ (x && ltb t.records (record_sizes (steps cs (view g m vs))))
      go false e = refl
      go true e =
          ap (λ (n : ℕ). ltb t.records n)
          (sym (records-seen g (steps cs vs) (steps-named cs vs valid (ready-named img i)))
          ∙ ap (λ (x : Bool). record_sizes (view g x (steps cs vs))) (sym (ours-put g m cs valid own e))
          ∙ ap record_sizes stepped)

  side_same : side_sizes g m (steps cs vs) ≡ other_sizes (steps cs (view g m vs))
  unfolding side_sizes
  side_same = ap other_sizes stepped

  -- where 18 is kept, all values fit if the side's sum does
  pub room-seen : Within s.setup (region_size img) vs → rule18 t cs vs ≡ false → rule13 t (region_size img) cs vs ≡ room13 t cs (view g m vs)
  unfolding rule13
  room-seen w few = go sum refl ∙ ap (λ (n : ℕ). any (puts (λ v. not (is_error_record_def v))) cs && ltb (share_of m s.setup) (n + reserved m s)) side_same
    where
      sum : Bool
      sum = any (puts (λ v. not (is_error_record_def v))) cs && ltb (share_of m s.setup) (side_sizes g m (steps cs vs) + reserved m s)

      room : sum ≡ false → any (puts (λ v. not (is_error_record_def v))) cs ≡ true → side_sizes g m (steps cs vs) ≤ share_of m s.setup
      room e p =
          let l = ltb-false (share_of m s.setup) (side_sizes g m (steps cs vs) + reserved m s) (rw p at e) in
          omega arith

      whole : sum ≡ false → ltb (region_size img) (space_of (steps cs vs)) ≡ false
      whole e =
          le-ltb (region_size img) (space_of (steps cs vs))
          (within-fits s.setup (region_size img) (steps cs vs)
          (steps-within s.setup (region_size img) m cs vs (record { own = own; few = few-kept m s foreign barred cs vs few; room = room e }) w))

      none-and : (x : Bool) → (x && false) ≡ false
      none-and true = refl
      none-and false = refl

      go : (x : Bool) → sum ≡ x → (sum || (any (puts (λ v. true)) cs && ltb (region_size img) (space_of (steps cs vs)))) ≡ sum
      go true e = rw e
      go false e = ap (λ (b : Bool). b || (any (puts (λ v. true)) cs && ltb (region_size img) (space_of (steps cs vs)))) e
          ∙ ap (λ (b : Bool). any (puts (λ v. true)) cs && b) (whole e) ∙ none-and (any (puts (λ v. true)) cs) ∙ sym e

-- ---- rules in parts

-- a ready image breaks neither 1 nor 2
pub image-passed : (img : List ℕ) → Ready img → (xs : List (Rule × Bool)) → first_broken (image_rules_in authenticated img ++ xs) ≡ first_broken xs
unfolding image_rules_in first_broken rule1 rule2_in
image-passed img i xs = let r = ready-is img i in rw (r.0, r.1)

parts-passed : (img : List ℕ) → Ready img → (xs ys zs : List (Rule × Bool)) → first_broken (image_rules_in authenticated img ++ xs ++ ys ++ zs) ≡ first_broken (xs ++ ys ++ zs)
unfolding image_rules_in first_broken rule1 rule2_in
parts-passed img i xs ys zs = let r = ready-is img i in rw (r.0, r.1)

two-passed : (img : List ℕ) → Ready img → (xs ys : List (Rule × Bool)) → first_broken (image_rules_in authenticated img ++ xs ++ ys) ≡ or_else (first_broken xs) (first_broken ys)
unfolding image_rules_in first_broken rule1 rule2_in
two-passed img i xs ys = let r = ready-is img i in rw (r.0, r.1) (broken-append xs ys)

three-parts : (xs ys zs : List (Rule × Bool)) → first_broken (xs ++ ys ++ zs) ≡ or_else (or_else (first_broken xs) (first_broken ys)) (first_broken zs)
three-parts xs ys zs = broken-append (xs ++ ys) zs ∙ ap (λ (o : Option Rule). or_else o (first_broken zs)) (broken-append xs ys)

-- what breaks first breaks first, whatever comes after it; and after what is kept the rest decides
or-else : (a a' b b' : Option Rule) → a ≡ a' → (a ≡ none → b ≡ b') → or_else a b ≡ or_else a' b'
or-else a a' b b' e f = go a refl
  where
    go : (x : Option Rule) → a ≡ x → or_else a b ≡ or_else a' b'
    go (some rule) h = rw (sym e, h)
    go none h = rw (sym e, h) (f h)

none_first : (a b : Option Rule) → or_else a b ≡ none → a ≡ none
none_first none b h = refl
none_first (some rule) b h = let z : ◌≡◌ {A = ℕ} 0 1 = cc in absurd (omega arith)

none-second : (a b : Option Rule) → or_else a b ≡ none → b ≡ none
none-second none b h = h
none-second (some rule) b h = let z : ◌≡◌ {A = ℕ} 0 1 = cc in absurd (omega arith)

-- ---- two lists of which a side sees the same

module _ (g : List ℕ) (m : Bool) (vs ws : List Value) (same : view g m vs ≡ view g m ws) where
  pub looked : (k : Key) → owns g m k ≡ true → find k vs ≡ find k ws
  looked k o = sym (find-view g m k vs o) ∙ ap (find k) same ∙ find-view g m k ws o

  -- who owns PlatMode, or a key name, sees the mode
  pub modes-seen : owns g m key_mode ≡ true → mode_of vs ≡ mode_of ws
  modes-seen o = mode-alike vs ws (looked key_pk (with-pk g m o)) (looked key_mode o)

  key-modes : (k : Key) → owns g m k ≡ true → is_key_name_def k ≡ true → mode_of vs ≡ mode_of ws
  key-modes k o named = modes-seen (subst (λ (x : Bool). owns g x key_mode ≡ true) (sym (ours-only g m k o (key-ours g k named))) (mode-ours g))

  change-same : (r : Request) → owns g m (request_key r) ≡ true → change_in r vs ≡ change_in r ws
  unfolding change_in
  change-same r o = rw (looked (request_key r) o)

  -- PlatMode's change beside one of an own name
  beside_same : (c : Change) → About g m c true → beside_pk c vs ≡ beside_pk c ws
  unfolding beside_pk user_mode_def stores_mode
  beside_same nothing o = refl
  beside_same (remove k) o = go (same_key_def k key_pk) refl
    where
      go : (t : Bool) → same_key_def k key_pk ≡ t → cond t (without_mode vs) [] ≡ cond t (without_mode ws) []
      go true e = rw (looked key_mode (with_mode g m (ap (owns g m) (sym (key-eq k key_pk e)) ∙ o)))
      go false e = refl
  beside_same (put v) o = go (same_key_def (key_of v) key_pk) refl
    where
      go : (t : Bool) → same_key_def (key_of v) key_pk ≡ t
          → cond (t && not (user_mode_def vs)) (cond (stores_mode audit_mode vs) (put (mode_value deployed_mode) ∷ []) (without_mode vs)) []
          ≡ cond (t && not (user_mode_def ws)) (cond (stores_mode audit_mode ws) (put (mode_value deployed_mode) ∷ []) (without_mode ws)) []
      go true e =
          let p : owns g m key_pk ≡ true = ap (owns g m) (sym (key-eq (key_of v) key_pk e)) ∙ o in
          rw (looked key_pk p, looked key_mode (with_mode g m p))
      go false e = refl

  pub changes-same : (r : Request) → owns g m (request_key r) ≡ true → changes_of r vs ≡ changes_of r ws
  unfolding changes_of
  changes-same r o =
      ap (λ (c : Change). c ∷ beside_pk c vs) (change-same r o)
      ∙ ap (λ (cs : List Change). change_in r ws ∷ cs) (beside_same (change_in r ws) (change-about g m true r ws o))

  pub modes-same : (to : ℕ) → owns g m key_mode ≡ true → mode_changes to vs ≡ mode_changes to ws
  unfolding mode_changes
  modes-same to o = rw (modes-seen o)

  view-after : (c : Change) → About g m c true → view g m (step c vs) ≡ view g m (step c ws)
  view-after c o = view-step g m c vs o ∙ ap (step c) same ∙ sym (view-step g m c ws o)

  items-same : (t : Terms) (r : Request) → owns g m (request_key r) ≡ true → item_rules t r vs ≡ item_rules t r ws
  items-same t r o = items_alike t r vs ws (looked (request_key r) o) (key-modes (request_key r) o)

-- ---- two sessions that say the same to a side

pub record Says (u : Setup) (m : Bool) (s q : Session) : Type 0 where
  pub here : s.setup ≡ u
  pub there : q.setup ≡ u
  pub terms : (k : Key) → owns u.modem.vendor m k ≡ true → terms_of m s k ≡ terms_of m q k
  pub room : (foreign barred : Bool) → terms_if m s foreign barred ≡ terms_if m q foreign barred

-- a foreign name: 3, or 22, whatever is there
item-foreign : (m : Bool) (s : Session) (r : Request) (vs : List Value) → owns s.setup.modem.vendor m (request_key r) ≡ false
    → first_broken (item_rules (terms_of m s (request_key r)) r vs) ≡ cond (rule3 (request_key r)) (some Name) (some Side)
unfolding item_rules request_rules terms_of rule22 first_broken
item-foreign m s r vs o = rw o (go (rule3 (request_key r)))
  where
    go : (b : Bool) → cond b (some Name) (some Side) ≡ cond b (some Name) (some Side)
    go b = refl

module _ (u : Setup) (m : Bool) (s q : Session) (say : Says u m s q) where
  abbrev G : List ℕ
  G = u.modem.vendor

  own-here : (k : Key) (x : Bool) → owns G m k ≡ x → owns s.setup.modem.vendor m k ≡ x
  own-here k x o = ap (λ (z : Setup). owns z.modem.vendor m k) say.here ∙ o

  own-there : (k : Key) (x : Bool) → owns G m k ≡ x → owns q.setup.modem.vendor m k ≡ x
  own-there k x o = ap (λ (z : Setup). owns z.modem.vendor m k) say.there ∙ o

  kept-own : (r : Request) (vs : List Value) → first_broken (item_rules (terms_of m s (request_key r)) r vs) ≡ none → owns G m (request_key r) ≡ true
  kept-own r vs kept = ap (λ (z : Setup). owns z.modem.vendor m (request_key r)) (sym say.here) ∙ item-own m s r vs kept

  item-pair : (r : Request) (vs ws : List Value) → view G m vs ≡ view G m ws
      → first_broken (item_rules (terms_of m s (request_key r)) r vs) ≡ first_broken (item_rules (terms_of m q (request_key r)) r ws)
  item-pair r vs ws same = go (owns G m (request_key r)) refl
    where
      go : (x : Bool) → owns G m (request_key r) ≡ x
          → first_broken (item_rules (terms_of m s (request_key r)) r vs) ≡ first_broken (item_rules (terms_of m q (request_key r)) r ws)
      go false o = item-foreign m s r vs (own-here (request_key r) false o) ∙ sym (item-foreign m q r ws (own-there (request_key r) false o))
      go true o =
          ap first_broken (items-same G m vs ws same (terms_of m s (request_key r)) r o)
          ∙ ap (λ (t : Terms). first_broken (item_rules t r ws)) (say.terms (request_key r) o)

  setting-pair : (r : Request) (vs ws : List Value) → view G m vs ≡ view G m ws → owns G m (request_key r) ≡ true
      → first_broken (setting_rules (limits_for s.setup (request_key r)) r (find (request_key r) vs)) ≡ first_broken (setting_rules (limits_for q.setup (request_key r)) r (find (request_key r) ws))
  setting-pair r vs ws same o =
      ap (λ (z : Setup). first_broken (setting_rules (limits_for z (request_key r)) r (find (request_key r) vs))) (say.here ∙ sym say.there)
      ∙ ap (λ (x : Option Value). first_broken (setting_rules (limits_for q.setup (request_key r)) r x)) (looked G m vs ws same (request_key r) o)

  -- the items of a profile, each over what those before it leave
  items-pair : (rs : List Request) (vs ws : List Value) → view G m vs ≡ view G m ws → first_broken (items_rules m s rs vs) ≡ first_broken (items_rules m q rs ws)
  unfolding items_rules
  items-pair [] vs ws same = refl
  items-pair (r ∷ rs) vs ws same =
      let k = request_key r in
      let mine = item_rules (terms_of m s k) r vs in
      let its = item_rules (terms_of m q k) r ws in
      let named = setting_rules (limits_for s.setup k) r (find k vs) in
      let names = setting_rules (limits_for q.setup k) r (find k ws) in
      let others = items_rules m s rs (step (change_in r vs) vs) in
      let others' = items_rules m q rs (step (change_in r ws) ws) in
      three-parts mine named others
      ∙ or-else (or_else (first_broken mine) (first_broken named)) (or_else (first_broken its) (first_broken names)) (first_broken others) (first_broken others')
      (or-else (first_broken mine) (first_broken its) (first_broken named) (first_broken names) (item-pair r vs ws same) (λ e. setting-pair r vs ws same (kept-own r vs e)))
      (λ e.
      (let o = kept-own r vs (none_first (first_broken mine) (first_broken named) e) in
      ap (λ (c : Change). first_broken (items_rules m s rs (step c vs))) (change-same G m vs ws same r o)
      ∙ items-pair rs (step (change_in r ws) vs) (step (change_in r ws) ws) (view-after G m vs ws same (change_in r ws) (change-about G m true r ws o))))
      ∙ sym (three-parts its names others')

  pub items-changes : (rs : List Request) (vs ws : List Value) → view G m vs ≡ view G m ws → first_broken (items_rules m s rs vs) ≡ none → changes_in rs vs ≡ changes_in rs ws
  unfolding changes_in
  items-changes [] vs ws same h = refl
  items-changes (r ∷ rs) vs ws same h =
      let o = kept-own r vs (first-own m s r rs vs h) in
      let c = change-same G m vs ws same r o in
      let others : first_broken (items_rules m s rs (step (change_in r ws) vs)) ≡ none =
      ap (λ (d : Change). first_broken (items_rules m s rs (step d vs))) (sym c) ∙ others-kept m s r rs vs h in
      let after = view-after G m vs ws same (change_in r ws) (change-about G m true r ws o) in
      ap (λ (d : Change). d ∷ changes_in rs (step d vs)) c
      ∙ ap (λ (cs : List Change). change_in r ws ∷ cs) (items-changes rs (step (change_in r ws) vs) (step (change_in r ws) ws) after others)

  -- ---- calls on two ready images that keep to the shares
  module _ (img jmg : List ℕ) (i : Ready img) (j : Ready jmg) (w : Within s.setup (region_size img) (values_of img)) (y : Within q.setup (region_size jmg) (values_of jmg))
      (same : view G m (values_of img) ≡ view G m (values_of jmg)) where
    abbrev hs : List Value
    hs = values_of img

    abbrev js : List Value
    js = values_of jmg

    seen_here : view s.setup.modem.vendor m hs ≡ view G m hs
    seen_here = ap (λ (z : Setup). view z.modem.vendor m hs) say.here

    seen-there : view q.setup.modem.vendor m js ≡ view G m hs
    seen-there = ap (λ (z : Setup). view z.modem.vendor m js) say.there ∙ sym same

    about-here : (cs : List Change) → AllAbout G m cs true → AllAbout s.setup.modem.vendor m cs true
    about-here cs o = subst (λ (z : Setup). AllAbout z.modem.vendor m cs true) (sym say.here) o

    about-there : (cs : List Change) → AllAbout G m cs true → AllAbout q.setup.modem.vendor m cs true
    about-there cs o = subst (λ (z : Setup). AllAbout z.modem.vendor m cs true) (sym say.there) o

    -- room for the same changes
    module _ (foreign barred : Bool) (cs : List Change) (valid : EachPut Valid cs) (own : AllAbout G m cs true) where
      few-pair : rule18 (terms_if m s foreign barred) cs hs ≡ rule18 (terms_if m q foreign barred) cs js
      few-pair =
          few-seen m s foreign barred img i cs valid (about-here cs own)
          ∙ ap₂ (λ (t : Terms) (l : List Value). few18 t cs l) (say.room foreign barred) (seen_here ∙ sym seen-there)
          ∙ sym (few-seen m q foreign barred jmg j cs valid (about-there cs own))

      room-pair : rule18 (terms_if m s foreign barred) cs hs ≡ false
          → rule13 (terms_if m s foreign barred) (region_size img) cs hs ≡ rule13 (terms_if m q foreign barred) (region_size jmg) cs js
      room-pair few =
          room-seen m s foreign barred img i cs valid (about-here cs own) w few
          ∙ ap₂ (λ (t : Terms) (l : List Value). room13 t cs l) (say.room foreign barred) (seen_here ∙ sym seen-there)
          ∙ sym (room-seen m q foreign barred jmg j cs valid (about-there cs own) y (sym few-pair ∙ few))

    -- ---- a set
    set-valid : (r : Request) → length r.vendor ≡ 16 → first_broken (item_rules (terms_of m s (request_key r)) r hs) ≡ none → EachPut Valid (changes_of r hs)
    unfolding changes_of
    set-valid r long kept =
        let ready = ready-is img i in (
          λ v c. item-valid (terms_of m s (request_key r)) r hs kept (image-valid img ready.0 ready.1) v c long,
          beside-puts Valid (mode-valid deployed_mode) (change_in r hs) hs,
        )

    set_room : (r : Request) → length r.vendor ≡ 16 → first_broken (item_rules (terms_of m s (request_key r)) r hs) ≡ none
        → first_broken (room_rules (terms_of m s (request_key r)) (region_size img) (changes_of r hs) hs)
        ≡ first_broken (room_rules (terms_of m q (request_key r)) (region_size jmg) (changes_of r js) js)
    unfolding room_rules first_broken terms_of
    set_room r long kept =
        let k = request_key r in
        let o = kept-own r hs kept in
        let cs = changes_of r hs in
        let foreign = rule22 s.setup.modem.vendor m k in
        let barred = rule6 s k in
        let valid = set-valid r long kept in
        let own = changes-about G m hs r o in
        let theirs : terms_if m q foreign barred ≡ terms_if m q (rule22 q.setup.modem.vendor m k) (rule6 q k) = sym (say.room foreign barred) ∙ say.terms k o in
        by (rule18 (terms_if m s foreign barred) cs hs) refl (few-pair foreign barred cs valid own) (room-pair foreign barred cs valid own)
        ∙ ap₂ judged theirs (changes-same G m hs js same r o)
      where
        judged : Terms → List Change → Option Rule
        judged t ds = cond (rule18 t ds js) (some RecordSpace) (cond (rule13 t (region_size jmg) ds js) (some Room) none)

        by : {a a' c c' : Bool} (x : Bool) → a ≡ x → a ≡ a' → (a ≡ false → c ≡ c')
            → cond a (some RecordSpace) (cond c (some Room) none) ≡ cond a' (some RecordSpace) (cond c' (some Room) none)
        by true e f h = rw (sym f, e)
        by false e f h = rw (sym f, e, h e)

    pub set_pair : (r : Request) → length r.vendor ≡ 16 → set_broken m s r img ≡ set_broken m q r jmg
    unfolding set_broken
    set_pair r long =
        let k = request_key r in
        let mine = item_rules (terms_of m s k) r hs in
        let its = item_rules (terms_of m q k) r js in
        let named = setting_rules (limits_for s.setup k) r (find k hs) in
        let names = setting_rules (limits_for q.setup k) r (find k js) in
        let room = room_rules (terms_of m s k) (region_size img) (changes_of r hs) hs in
        let rooms = room_rules (terms_of m q k) (region_size jmg) (changes_of r js) js in
        parts-passed img i mine named room
        ∙ three-parts mine named room
        ∙ or-else (or_else (first_broken mine) (first_broken named)) (or_else (first_broken its) (first_broken names)) (first_broken room) (first_broken rooms)
        (or-else (first_broken mine) (first_broken its) (first_broken named) (first_broken names) (item-pair r hs js same) (λ e. setting-pair r hs js same (kept-own r hs e)))
        (λ e. set_room r long (none_first (first_broken mine) (first_broken named) e))
        ∙ sym (three-parts its names rooms)
        ∙ sym (parts-passed jmg j its names rooms)

    -- ---- a profile, which puts no error record
    profile-room : (file : List ℕ) → first_broken (items_rules m s (items_in file) hs) ≡ none
        → rule13 (terms_for_def m s) (region_size img) (changes_in (items_in file) hs) hs ≡ rule13 (terms_for_def m q) (region_size jmg) (changes_in (items_in file) js) js
    unfolding terms_for_def rule18
    profile-room file kept =
        let rs = items_in file in
        let cs = changes_in rs hs in
        let ready = ready-is img i in
        let valid = items-valid m s rs hs kept (file-vendors file) (image-valid img ready.0 ready.1) in
        let own : AllAbout G m cs true = subst (λ (z : Setup). AllAbout z.modem.vendor m cs true) say.here (items-about m s rs hs kept) in
        let few : rule18 (terms_if m s false false) cs hs ≡ false =
        ap (λ (b : Bool). b && ltb s.setup.records (record_sizes (steps cs hs))) (items-unrecorded rs hs (file-form file)) in
        room-pair false false cs valid own few
        ∙ ap (λ (ds : List Change). rule13 (terms_if m q false false) (region_size jmg) ds js) (items-changes rs hs js same kept)

    pub profile-pair : (file : List ℕ) → profile_broken m s file img ≡ profile_broken m q file jmg
    unfolding profile_broken profile_rules
    profile-pair file =
        let rs = items_in file in
        let form : List (Rule × Bool) = (File, rule25 file) ∷ (Twice, rule26 rs) ∷ [] in
        let mine = items_rules m s rs hs in
        let its = items_rules m q rs js in
        let room : List (Rule × Bool) = (Room, rule13 (terms_for_def m s) (region_size img) (changes_in rs hs) hs) ∷ [] in
        let rooms : List (Rule × Bool) = (Room, rule13 (terms_for_def m q) (region_size jmg) (changes_in rs js) js) ∷ [] in
        parts-passed img i form mine room
        ∙ three-parts form mine room
        ∙ or-else (or_else (first_broken form) (first_broken mine)) (or_else (first_broken form) (first_broken its)) (first_broken room) (first_broken rooms)
        (or-else (first_broken form) (first_broken form) (first_broken mine) (first_broken its) refl (λ e. items-pair rs hs js same))
        (λ e. ap (λ (b : Bool). first_broken ((Room, b) ∷ [])) (profile-room file (none-second (first_broken form) (first_broken mine) e)))
        ∙ sym (three-parts form its rooms)
        ∙ sym (parts-passed jmg j form its rooms)

    -- ---- a mode request, which puts none either
    -- its own rules, in a session
    abbrev before : Session → List Change → List (Rule × Bool)
    before z cs = (Side, rule22 z.setup.modem.vendor m key_mode) ∷ (Locked, rule6_mode z cs) ∷ (Mode, rule24 cs) ∷ []

    before-foreign : (z : Session) (cs : List Change) → owns z.setup.modem.vendor m key_mode ≡ false → first_broken (before z cs) ≡ some Side
    unfolding first_broken rule22
    before-foreign z cs o = rw o

    locked-pair : (k : Key) → owns G m k ≡ true → rule6 s k ≡ rule6 q k
    unfolding terms_of
    locked-pair k o = ap (λ (t : Terms). t.barred) (say.terms k o)

    before-pair : (to : ℕ) → first_broken (before s (mode_changes to hs)) ≡ first_broken (before q (mode_changes to js))
    unfolding rule22 rule6_mode
    before-pair to = go (owns G m key_mode) refl
      where
        go : (x : Bool) → owns G m key_mode ≡ x → first_broken (before s (mode_changes to hs)) ≡ first_broken (before q (mode_changes to js))
        go false o = before-foreign s (mode_changes to hs) (own-here key_mode false o) ∙ sym (before-foreign q (mode_changes to js) (own-there key_mode false o))
        go true o =
            let said : before s (mode_changes to hs) ≡ before q (mode_changes to hs) =
            rw (own-here key_mode true o, own-there key_mode true o, locked-pair key_mode o, locked-pair key_pk (with-pk G m o)) in
            ap first_broken said ∙ ap (λ (cs : List Change). first_broken (before q cs)) (modes-same G m hs js same to o)

    mode-room : (to : ℕ) → owns G m key_mode ≡ true
        → rule13 (terms_for_def m s) (region_size img) (mode_changes to hs) hs ≡ rule13 (terms_for_def m q) (region_size jmg) (mode_changes to js) js
    unfolding terms_for_def rule18
    mode-room to o =
        let cs = mode_changes to hs in
        let valid = mode-puts Valid (mode-valid audit_mode) (mode-valid deployed_mode) to hs in
        let few : rule18 (terms_if m s false false) cs hs ≡ false =
        ap (λ (b : Bool). b && ltb s.setup.records (record_sizes (steps cs hs))) (mode-unrecorded to hs) in
        room-pair false false cs valid (mode-about G m hs to o) few
        ∙ ap (λ (ds : List Change). rule13 (terms_if m q false false) (region_size jmg) ds js) (modes-same G m hs js same to o)

    own-kept : (to : ℕ) → first_broken (before s (mode_changes to hs)) ≡ none → owns G m key_mode ≡ true
    unfolding rule22
    own-kept to e =
        ap (λ (z : Setup). owns z.modem.vendor m key_mode) (sym say.here)
        ∙ not-false (owns s.setup.modem.vendor m key_mode) (unbroken (before s (mode_changes to hs)) 22 e)

    pub mode-pair : (to : ℕ) → mode_broken m s to img ≡ mode_broken m q to jmg
    unfolding mode_broken mode_rules
    mode-pair to =
        let mine = before s (mode_changes to hs) in
        let its = before q (mode_changes to js) in
        let room : List (Rule × Bool) = (Room, rule13 (terms_for_def m s) (region_size img) (mode_changes to hs) hs) ∷ [] in
        let rooms : List (Rule × Bool) = (Room, rule13 (terms_for_def m q) (region_size jmg) (mode_changes to js) js) ∷ [] in
        two-passed img i mine room
        ∙ or-else (first_broken mine) (first_broken its) (first_broken room) (first_broken rooms) (before-pair to)
        (λ e. ap (λ (b : Bool). first_broken ((Room, b) ∷ [])) (mode-room to (own-kept to e)))
        ∙ sym (two-passed jmg j its rooms)
