-- A profile over an image that is ready. Its file breaks 25 or 26, or what is decided of its items over the region is what they come to over the image's values: it names
-- the rule that the profile breaks, or tells whether something changes; then its plan is refused, empty, or one compaction.
-- Assumes nothing.
use Prim.Native.Nat.{ℕ, ◌*◌}
use native.Mathlib.Omega.{arith}
use mathlib.Core.Path.{◌≡◌, refl, sym, ap, ap₂, ◌∙◌, subst}
use mathlib.Core.Bool.{Bool, true, false}
use mathlib.Core.List.{List, [], ◌∷◌, ◌++◌, append_assoc}
use mathlib.Core.Option.{Option, none, some}
use Rattle.std.specs.Prelude.{Some, Result, Ok, Err, IfOk}
use lib.ListN.{length}
use Rattle.model.specs.Layout.{authenticated}
use Rattle.model.specs.declared.Session.{Session}
use Rattle.model.specs.declared.Terms.{Terms}
use Rattle.model.specs.declared.Rule.{Rule}
use Rattle.model.specs.declared.Rule.TheVariants.{File, Twice, Room}
use Rattle.model.specs.Lists.{part, on_some, or_else}
use Rattle.model.specs.Name.{Key}
use Rattle.model.specs.Image.{region_size, region}
use Rattle.model.specs.Entry.{Value}
use Rattle.model.specs.Region.{sound, entries, values, values_of, values_in}
use Rattle.model.specs.Request.{Request, request_key}
use Rattle.model.specs.Profile.{items_in, shares_name_def}
use Rattle.model.specs.Limits.{Limit, limits_in, limits_for}
use Rattle.model.specs.Change.{Change, changes_in, steps}
use Rattle.model.specs.Rules.{first_broken, terms_of, terms_for_def, image_rules, items_rules, profile_rules, profile_broken, rule13, rule25, rule26}
use Rattle.model.specs.Stores.{Store, Bytes}
use Rattle.model.specs.Set.{Plan, refuse, make, folded_plan, compact_plan, changes_plan}
use Rattle.model.specs.Answers.{stores_of}
use Rattle.model.specs.Beside.{EachItem, items_alone, changes_alone}
use Rattle.model.specs.Book.{profile_plan, plan_of, doing, kind_of, profile, ClearsOne, is_record}
use Rattle.model.proofs.Requests.{broken-append}
use Rattle.model.proofs.Alone.{InForm, items-alone, changes-alone}
use Rattle.model.proofs.Files.{file-form}
use Rattle.model.proofs.Changes.{Fitting}
use Rattle.model.proofs.Profiles.{profile-fitting}
use Rattle.recovery.proofs.Bits.{marks-clear-one-bit}
use Rattle.plan.specs.declared.Planned.{Planned}
use Rattle.plan.specs.Planned.{decides_right, Plans}
use Rattle.plan.proofs.Parts.{made_kept}
use Rattle.planner.specs.Asked.{FoldPlanned, Foldable}
use Rattle.profile.specs.declared.Settings.{Settings}
use Rattle.profile.specs.Reader.{requests_in, Reads}
use Rattle.profile.specs.Folded.{Folds}
use Rattle.profile.proofs.Whole.{read-form, read-items}
use Rattle.image.proofs.Readiness.{refused-rule}
use Rattle.image.specs.Check.{call_of, IsReady}
use Rattle.planner.proofs.Ready.{region-size}
use Rattle.planner.proofs.Changed.{foldable}
use Rattle.decision.specs.declared.Change as deciding
use Rattle.decision.specs.declared.Change.TheVariants as decision
use Rattle.decision.specs.Decision.{broken_of}
use Rattle.decision.proofs.Accepted.{weighed-rule, weighed-nothing, weighed-put, weighed-remove}
use Rattle.decision.specs.Profile.{told_of, limits_of, weighed_of, Weighable}
use Rattle.session.specs.declared.Locks.{Locks}
use Rattle.engine.specs.Profile.{SaysAll}

-- ---- the rules of a profile, in stages

module _ (m : Bool) (s : Session) (file img : List ℕ) where
  abbrev form_rules : List (Rule × Bool)
  form_rules = (File, rule25 file) ∷ (Twice, rule26 (items_in file)) ∷ []

  abbrev later_rules : List (Rule × Bool)
  later_rules =
      items_rules m s (items_in file) (values_of img)
      ++ ((Room, rule13 (terms_for_def m s) (region_size img) (changes_in (items_in file) (values_of img)) (values_of img)) ∷ [])

  stages : profile_broken m s file img ≡ or_else (first_broken (image_rules img)) (or_else (first_broken form_rules) (first_broken later_rules))
  unfolding profile_broken profile_rules
  stages =
      let i : List (Rule × Bool) = image_rules img in
      let f : List (Rule × Bool) = form_rules in
      let t : List (Rule × Bool) = items_rules m s (items_in file) (values_of img) in
      let d : List (Rule × Bool) = (Room, rule13 (terms_for_def m s) (region_size img) (changes_in (items_in file) (values_of img)) (values_of img)) ∷ [] in
      ap first_broken (append_assoc (i ++ f) t d ∙ append_assoc i f (t ++ d))
      ∙ broken-append i (f ++ (t ++ d))
      ∙ ap (λ (o : Option Rule). or_else (first_broken i) o) (broken-append f (t ++ d))

  refused-by : {rule : Rule} → profile_broken m s file img ≡ some rule → profile_plan m s file img ≡ refuse rule
  unfolding plan_of
  refused-by e = rw e

  -- rule 1 or 2
  pub image-refused : (rule : Rule) → call_of img ≡ Err rule → profile_plan m s file img ≡ refuse rule
  image-refused rule h = refused-by (stages ∙ rw (refused-rule authenticated img rule h))

  module _ (kept : first_broken (image_rules img) ≡ none) where
    -- 25
    pub file-refused : rule25 file ≡ true → profile_plan m s file img ≡ refuse File
    unfolding first_broken
    file-refused h = refused-by (stages ∙ rw (kept, h))

    -- 26
    pub twice-refused : rule25 file ≡ false → rule26 (items_in file) ≡ true → profile_plan m s file img ≡ refuse Twice
    unfolding first_broken
    twice-refused h g = refused-by (stages ∙ rw (kept, h, g))

    items-broken : rule25 file ≡ false → rule26 (items_in file) ≡ false → profile_broken m s file img ≡ first_broken later_rules
    unfolding first_broken
    items-broken h g = stages ∙ rw (kept, h, g)

-- ---- the file as it was read

module _ {file : List ℕ} {p : Settings} (reads : Reads file (Some p)) where
  pub formed : rule25 file ≡ false
  formed = read-form reads

  pub twice : (b : Bool) → shares_name_def (requests_in file p) ≡ b → rule26 (items_in file) ≡ b
  unfolding rule26
  twice b h = ap shares_name_def (read-items reads) ∙ h

  pub in-form : EachItem InForm (requests_in file p)
  in-form = subst (EachItem InForm) (read-items reads) (file-form file)

-- ---- what is said to each name

alone-as : (told told' : Key → Terms) (limits limits' : Key → List Limit) → ((k : Key) → told k ≡ told' k) → ((k : Key) → limits k ≡ limits' k)
    → (rs : List Request) (vs : List Value) → items_alone told limits rs vs ≡ items_alone told' limits' rs vs
unfolding items_alone
alone-as told told' limits limits' t l [] vs = refl
alone-as told told' limits limits' t l (r ∷ rs) vs = rw (t (request_key r), l (request_key r), alone-as told told' limits limits' t l rs vs)

-- what the judging of the items asks of the region that was cut
pub weigh-asked : {file img r : List ℕ} {p : Settings} {b at used : ℕ} → IsReady img b at used → r ≡ part 0 (4096 * b) img → Reads file (Some p)
    → shares_name_def (requests_in file p) ≡ false
    → Weighable r file p
weigh-asked ready cut reads apart =
    let is = cut ∙ ready.cut in
    let n = ap length is in
    record {
      sounds = ap sound is ∙ ready.sounds;
      small = omega (arith, ready.few, ready.long);
      few = reads.few;
      within = reads.within;
      formed = in-form reads;
      apart = apart;
    }

-- the region that was cut, with what was decided over it
module _ (t : Terms) (held : Locks) (locks table : List ℕ) {file img r : List ℕ} {p : Settings} {b at used : ℕ} {what : Result deciding.Change Rule}
    (ready : IsReady img b at used) (cut : r ≡ part 0 (4096 * b) img)
    (reads : Reads file (Some p)) (apart : shares_name_def (requests_in file p) ≡ false)
    (d : what ≡ weighed_of t (told_of t held locks) (limits_of t table) (requests_in file p) (length r) (values (entries r))) where
  its-region : r ≡ region img
  its-region = cut ∙ ready.cut

  decided-so : weighed_of t (told_of t held locks) (limits_of t table) (requests_in file p) (region_size img) (values_of img) ≡ what
  unfolding values_in
  decided-so =
      let long : length (region img) ≡ region_size img = ready.long ∙ sym (region-size img b ready.number) in
      let f : ℕ → List ℕ → Result deciding.Change Rule = λ n x. weighed_of t (told_of t held locks) (limits_of t table) (requests_in file p) n (values (entries x)) in
      sym (d ∙ ap (λ (x : List ℕ). f (length x) x) its-region ∙ ap (λ (n : ℕ). f n (region img)) long)

  module _ (m : Bool) (s : Session) (says : SaysAll m s t held locks table) where
    pub its-changes : changes_in (items_in file) (values_of img) ≡ changes_alone (requests_in file p) (values_of img)
    its-changes = ap (λ (xs : List Request). changes_in xs (values_of img)) (read-items reads) ∙ changes-alone (requests_in file p) (values_of img) apart

    its-limits : (k : Key) → limits_for s.setup k ≡ limits_in table t.rules k
    unfolding terms_for_def
    its-limits k = ap₂ (λ (x : List ℕ) (n : ℕ). limits_in x n k) says.limits (ap (λ (y : Terms). y.rules) says.terms)

    its-rules : first_broken (items_rules m s (items_in file) (values_of img)) ≡ first_broken (items_alone (told_of t held locks) (limits_of t table) (requests_in file p) (values_of img))
    its-rules =
        ap (λ (xs : List Request). first_broken (items_rules m s xs (values_of img))) (read-items reads)
        ∙ items-alone m s (requests_in file p) (values_of img) (in-form reads) apart
        ∙ ap first_broken (alone-as (terms_of m s) (told_of t held locks) (limits_for s.setup) (limits_of t table) says.each its-limits (requests_in file p) (values_of img))

    its-room : rule13 (terms_for_def m s) (region_size img) (changes_in (items_in file) (values_of img)) (values_of img)
        ≡ rule13 t (region_size img) (changes_alone (requests_in file p) (values_of img)) (values_of img)
    its-room = ap₂ (λ (y : Terms) (cs : List Change). rule13 y (region_size img) cs (values_of img)) says.terms its-changes

    pub broken : profile_broken m s file img ≡ broken_of what
    broken =
        let vs : List Value = values_of img in
        let a : List (Rule × Bool) = items_alone (told_of t held locks) (limits_of t table) (requests_in file p) vs in
        let e : List (Rule × Bool) = (Room, rule13 t (region_size img) (changes_alone (requests_in file p) vs) vs) ∷ [] in
        items-broken m s file img ready.unbroken (formed reads) (twice reads false apart)
        ∙ broken-append (items_rules m s (items_in file) vs) ((Room, rule13 (terms_for_def m s) (region_size img) (changes_in (items_in file) vs) vs) ∷ [])
        ∙ ap₂ or_else its-rules (ap (λ (x : Bool). first_broken ((Room, x) ∷ [])) its-room)
        ∙ sym (broken-append a e)
        ∙ sym (weighed-rule t (told_of t held locks) (limits_of t table) (requests_in file p) (region_size img) vs)
        ∙ ap broken_of decided-so

    pub items_refused : {rule : Rule} → what ≡ Err rule → profile_plan m s file img ≡ refuse rule
    items_refused h = refused-by m s file img (broken ∙ ap broken_of h)

    -- the changes of a profile are folded in, also where there are none
    folded : (cs : List Change) → changes_plan true img cs ≡ folded_plan img cs
    unfolding folded_plan
    folded [] = refl
    folded (c ∷ []) = refl
    folded (c ∷ e ∷ cs) = refl

    pub plan : broken_of what ≡ none → profile_plan m s file img ≡ folded_plan img (changes_alone (requests_in file p) (values_of img))
    unfolding plan_of
    plan h =
        ap (λ (o : Option Rule). on_some o refuse (doing (kind_of (profile m s file)) img)) (broken ∙ h)
        ∙ folded (changes_in (items_in file) (values_of img)) ∙ ap (folded_plan img) its-changes

    -- no stores, or one compaction

    pub items-nothing : what ≡ Ok decision.Nothing → profile_plan m s file img ≡ make [] []
    unfolding folded_plan
    items-nothing h =
        plan (ap broken_of h)
        ∙ rw (weighed-nothing t (told_of t held locks) (limits_of t table) (requests_in file p) (region_size img) (values_of img) (decided-so ∙ h)).1

    pub never-removed : what ≡ Ok decision.Remove → ⊥
    never-removed h = weighed-remove t (told_of t held locks) (limits_of t table) (requests_in file p) (region_size img) (values_of img) (decided-so ∙ h)

    pub fold-plan : what ≡ Ok decision.Put → profile_plan m s file img ≡ compact_plan img (steps (changes_alone (requests_in file p) (values_of img)) (values_of img))
    unfolding folded_plan
    fold-plan h =
        plan (ap broken_of h)
        ∙ rw (weighed-put t (told_of t held locks) (limits_of t table) (requests_in file p) (region_size img) (values_of img) (decided-so ∙ h)).1

    -- what they put can be stored, and all fits
    pub fold-fits : what ≡ Ok decision.Put → Fitting (changes_alone (requests_in file p) (values_of img)) (values_of img) (region_size img)
    fold-fits h =
        subst (λ (cs : List Change). Fitting cs (values_of img) (region_size img)) its-changes (profile-fitting m s file img (broken ∙ ap broken_of h))

    pub fold-asked : what ≡ Ok decision.Put → (leave : List ℕ) (stores : List Bool) → Folds r (requests_in file p) leave stores
        → Foldable img b used (requests_in file p) leave stores
    fold-asked h leave stores folds =
        foldable ready (in-form reads) apart (subst (λ (x : List ℕ). Folds x (requests_in file p) leave stores) its-region folds) (fold-fits h)

    -- *what was planned*
    pub fold-plans : what ≡ Ok decision.Put → Bytes img → Bytes file → (before : List ℕ) {c : List ℕ} {q : Result Planned Rule}
        → FoldPlanned img (changes_alone (requests_in file p) (values_of img)) c q → Plans (profile_plan m s file img) img before c q
    fold-plans h bytes-img bytes-file before {c} {q} f =
        record {
          same = f.same ∙ sym (fold-plan h);
          decides = subst (λ (x : Plan). IfOk q (λ y. decides_right x y ≡ true)) (sym (fold-plan h)) f.decides;
          kept = made_kept before c (fold-plan h);
          ready =
              f.ready
              (λ w. subst (λ (ss : List Store). ClearsOne (is_record img) ss img) (ap (stores_of w) (fold-plan h))
              (marks-clear-one-bit w img bytes-img (profile m s file) bytes-file).0);
        }
