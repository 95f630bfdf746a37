-- Demand 3. Every call of a run keeps the invariant with the book: refused it stores nothing, and otherwise by what its kind keeps up to and from its deciding store (`CallKept`), where a
-- start-up keeps the values and a call that reads stores nothing. A done start-up leaves the image ready, and then its values are the book.
-- Assumes nothing.
use Prim.Native.Nat.{ℕ, ◌+◌, ◌*◌, ◌-◌, ◌≤◌, ◌<◌, min}
use native.Mathlib.Omega.{arith}
use mathlib.Core.Path.{◌≡◌, refl, sym, ap, ◌∙◌, subst}
use mathlib.Core.Logic.{inl, inr}
use mathlib.Core.Bool.{Bool, true, false, cond, not, ◌&&◌, true≢false, false≢true}
use mathlib.Core.List.{List, [], ◌∷◌, ◌++◌}
use mathlib.Core.Option.{Option, none, some}
use lib.ListN.{length, length-append}
use lib.Seq.{take-nil}
use lib.Dec.{leb, ltb}
use borrow.Author.Tests.{leb-true, leb-false, le-leb}
use Rattle.model.specs.Layout.{authenticated, state_at}
use Rattle.model.specs.declared.Setup.{Setup}
use Rattle.model.specs.declared.Session.{Session}
use Rattle.model.specs.declared.Context.{Context}
use Rattle.model.specs.Region.{values_in}
use Rattle.model.specs.declared.Rule.{Rule}
use Rattle.model.specs.declared.Rule.TheVariants.{Side}
use Rattle.model.specs.Lists.{all, all_ff, on_some, is_some, is_empty}
use Rattle.model.specs.Name.{Key}
use Rattle.model.specs.Image.{block, blocks, right_length, region_size, region, work}
use Rattle.model.specs.Entry.{Value, key_of}
use Rattle.model.specs.Walk.{Entry, state_of, entry_value_def}
use Rattle.model.specs.Region.{entries, tail_at, tail, values, values_of, sound, clean, find, added, standing}
use Rattle.model.specs.Work.{well_formed, ends_in_fc_def, idle, pending, ready_for_start_up, ready_in}
use Rattle.model.specs.Request.{Request}
use Rattle.model.specs.Profile.{items_in}
use Rattle.model.specs.Change.{Change, nothing, remove, put, is_nothing, changes_of, changes_in, step, steps, without}
use Rattle.model.specs.Sides.{allotted}
use Rattle.model.specs.Rules.{set_broken, profile_broken, start_up_broken}
use Rattle.model.specs.Stores.{Store, Write, write, clear, stores, run, mark, apply_all, after, reach, Cut}
use Rattle.model.specs.Compact.{encode, all_used, next_record_def, compact_to, compact_on, fill_spare}
use Rattle.model.specs.Set.{Plan, refuse, make, mark_state, leftover, entry_stores, delete_to, tail_to, tail_on, fits_tail, put_plan, compact_plan, change_plan, folded_plan, changes_plan}
use Rattle.model.specs.StartUp.{start_up_stores, start_up_plan}
use Rattle.model.specs.Answers.{rule_number, done, stopped, refused, outcome, ended, dead_of, page_of, made_of, image_after, stores_of, decided}
use Rattle.model.specs.Book.{Call, set, profile, call_broken, Kind, reads, writes, starts_up, kind_of, doing, plan_of, Sized, changes_by, entered, counts, book_after, Run, begin, ran, cut, StartedUp, MovedInto, Begins, started, moved_in, Agrees, AgreesAll, Demand3}
use Rattle.model.proofs.Tests.{or_left, or_right, true-and}
use Rattle.model.proofs.Stores.{after-all, stores-append}
use Rattle.model.proofs.Chunks.{Chunked, region-chunked}
use Rattle.model.proofs.Values.{find-standing}
use Rattle.recovery.proofs.Cuts.{Safe, cut_at, Goes, goes-nowhere}
use Rattle.recovery.proofs.EveryCall.{plan-accepted, plan-refused, Accepted, accepted}
use Rattle.model.proofs.Parts.{Parts, parts-region, parts-work, parts-spare, parts-size, parts-right}
use Rattle.model.proofs.Changes.{Fitting, steps-valid, steps-distinct, steps-nothing}
use Rattle.model.proofs.Encode.{sound-valid, sound-distinct}
use Rattle.model.proofs.Profiles.{profile-length, profile-ready, profile-fitting}
use Rattle.model.proofs.Requests.{set-length, set-ready, set-fitting, start_up-length, start_up-ready, start_up-judged}
use Rattle.recovery.proofs.Invariant.{Holding, in-spare, in-region, holding-blocks}
use Rattle.recovery.proofs.Compaction.{clean-sound}
use Rattle.model.specs.Move.{moved, image_moved}
use Rattle.model.proofs.Moving as moves
use Rattle.recovery.proofs.StartingUp.{Ready, ready_of, ready-blocks, ready-holds, start_up-holding, start_up-any, found-holding}
use Rattle.recovery.proofs.Marks.{State}
use Rattle.recovery.proofs.Sets.{Kept, its-state, nothing-kept, delete-kept, tail-kept, compact-kept}

-- ---- a call that breaks no rule: its plan keeps K up to the deciding store, and K' from there on

pub record PlanKept (b : ℕ) (planned : Plan) (img : List ℕ) (K K' : List Value) : Type 0 where
  pub to : List Write
  pub on : List Write
  pub plan : planned ≡ make to on
  pub kept : Kept b K K' to on img
  pub decides : is_empty to ≡ true → K' ≡ K

planned-as : {b : ℕ} {p q : Plan} {img : List ℕ} {K K' : List Value} → q ≡ p → PlanKept b p img K K' → PlanKept b q img K K'
planned-as e k = record { to = k.to; on = k.on; plan = e ∙ k.plan; kept = k.kept; decides = k.decides }

-- where it enters the changes of its kind
abbrev KindKept : Kind → List ℕ → List Value → Type 0
KindKept k img K = PlanKept (blocks img) (doing k img) img K (steps (changes_by k K) K)

abbrev pub CallKept : Call → List ℕ → List Value → Type 0
CallKept c img K = PlanKept (blocks img) (plan_of c img) img K (entered c K)

last-there : {A : Type 0} (l : List A) (a : A) → is_empty (l ++ (a ∷ [])) ≡ false
last-there [] a = refl
last-there (b ∷ l) a = refl

-- a write and a compaction have stores before their deciding ones
tail-some : (at : ℕ) (v : Value) (es : List Entry) → is_empty (tail_to at v es) ≡ false
unfolding tail_to
tail-some at v es =
    last-there (leftover (key_of v) es ++ on_some (added (key_of v) es) (λ e. mark_state e.at 0x3E) [] ++ entry_stores at v) (write (at + state_at) (0x3F ∷ []))

pub compact-some : (x : List ℕ) (vs : List Value) → is_empty (compact_to x vs) ≡ false
unfolding compact_to fill_spare
compact-some x vs =
    last-there
    (cond (all_used (work x)) (clear (blocks x) ∷ []) []
    ++ mark (block * blocks x + next_record_def (work x)) 0xFE
    ++ run (block * blocks x + block) (encode (region_size x) vs))
    (write (block * blocks x + next_record_def (work x)) (0xFC ∷ []))

-- the plan's kinds, for the parts of a ready image
module _ {b : ℕ} {r w s : List ℕ} (p : Parts b r w s) (rested : idle w ≡ true) (free : all_ff s ≡ true) (cleaned : clean r ≡ true) where
  abbrev joined-image : List ℕ
  joined-image = r ++ (w ++ s)

  abbrev its-list : List Value
  its-list = values (entries r)

  pub its-values : values_of joined-image ≡ its-list
  unfolding values_in
  its-values = ap (λ (l : List ℕ). values (entries l)) (parts-region p)

  -- by a plan, with changes entered
  abbrev By : Plan → List Change → Type 0
  By plan cs = PlanKept b plan joined-image its-list (steps cs its-list)

  -- changes of which none changes anything
  nothing-plan : (cs : List Change) → all is_nothing cs ≡ true → By (make [] []) cs
  nothing-plan cs e =
      subst (PlanKept b (make [] []) joined-image its-list) (sym (steps-nothing cs its-list e))
      (record { to = []; on = []; plan = refl; kept = nothing-kept p rested free cleaned; decides = λ h. refl })

  -- a delete of a value that stands has a store
  delete-some : (k : Key) → is_some (find k its-list) ≡ true → is_empty (delete_to k (entries r)) ≡ false
  unfolding delete_to
  delete-some k present = go (standing k (entries r)) refl
    where
      st : State (block * b) 0 r (tail r) (entries r)
      st = its-state p rested free cleaned

      looked : find k its-list ≡ on_some (standing k (entries r)) (λ e. some (entry_value_def e)) none
      looked = find-standing (block * b) (entries r) k st.judged

      go : (o : Option Entry) → standing k (entries r) ≡ o → is_empty (delete_to k (entries r)) ≡ false
      go none e = absurd (false≢true (ap is_some (sym (looked ∙ ap (λ (o : Option Entry). on_some o (λ e. some (entry_value_def e)) none) e)) ∙ present))
      go (some x) e = rw e (last-there (leftover k (entries r)) (write (x.at + state_at) ((state_of x - 0x02) ∷ [])))

  remove-plan : (k : Key) → is_some (find k its-list) ≡ true → By (change_plan joined-image (remove k)) (remove k ∷ [])
  unfolding change_plan steps step
  remove-plan k present = record {
    to = delete_to k (entries r);
    on = [];
    plan = ap (λ (l : List ℕ). make (delete_to k (entries l)) []) (parts-region p);
    kept = delete-kept p rested free cleaned k present;
    decides = λ e. absurd (true≢false (sym e ∙ delete-some k present));
  }

  put_as : (v : Value) {to on : List Write} → Kept b its-list (without (key_of v) its-list ++ (v ∷ [])) to on joined-image → Kept b its-list (steps (put v ∷ []) its-list) to on joined-image
  unfolding steps step
  put_as v k = k

  put-tail : (v : Value) → fits_tail r v ≡ true → put_plan joined-image v ≡ make (tail_to (tail_at r) v (entries r)) (tail_on v (entries r))
  unfolding put_plan
  put-tail v h = rw (parts-region p, h)

  put-compact : (v : Value) → fits_tail r v ≡ false → put_plan joined-image v ≡ compact_plan joined-image (steps (put v ∷ []) its-list)
  unfolding put_plan steps
  put-compact v h = rw (parts-region p, h, its-values)

  -- a compaction with changes folded in
  compact-plan : (cs : List Change) → Fitting cs its-list (block * b) → By (compact_plan joined-image (steps cs its-list)) cs
  compact-plan cs f =
      let chunked : Chunked authenticated r = region-chunked authenticated b p.region-long (clean-sound r cleaned) in
      record {
        to = compact_to joined-image (steps cs its-list);
        on = compact_on joined-image (steps cs its-list);
        plan = refl;
        kept =
            compact-kept p rested free cleaned (steps cs its-list) (steps-valid cs its-list f.valid (sound-valid authenticated r chunked))
            (steps-distinct cs its-list (sound-distinct authenticated r chunked)) f.room;
        decides = λ e. absurd (true≢false (sym e ∙ compact-some joined-image (steps cs its-list)));
      }

  put-plan : (v : Value) → Fitting (put v ∷ []) its-list (block * b) → By (change_plan joined-image (put v)) (put v ∷ [])
  unfolding change_plan
  put-plan v f = go (fits_tail r v) refl
    where
      go : (t : Bool) → fits_tail r v ≡ t → By (put_plan joined-image v) (put v ∷ [])
      go true h = record {
        to = tail_to (tail_at r) v (entries r);
        on = tail_on v (entries r);
        plan = put-tail v h;
        kept = put_as v (tail-kept p rested free cleaned v (f.valid.0 v refl) h);
        decides = λ e. absurd (true≢false (sym e ∙ tail-some (tail_at r) v (entries r)));
      }
      go false h = planned-as (put-compact v h) (compact-plan (put v ∷ []) f)

  -- a single change that is not folded in
  single-plan : (c : Change) → Fitting (c ∷ []) its-list (block * b) → By (change_plan joined-image c) (c ∷ [])
  unfolding change_plan
  single-plan nothing f = nothing-plan (nothing ∷ []) refl
  single-plan (remove k) f = remove-plan k (f.there k refl)
  single-plan (put v) f = put-plan v f

  folded-plan : (cs : List Change) → Fitting cs its-list (block * b) → By (folded_plan joined-image cs) cs
  unfolding folded_plan
  folded-plan cs f = go (all is_nothing cs) refl
    where
      go : (t : Bool) → all is_nothing cs ≡ t → By (cond t (make [] []) (compact_plan joined-image (steps cs (values_of joined-image)))) cs
      go true e = nothing-plan cs e
      go false e = planned-as (ap (λ (vs : List Value). compact_plan joined-image (steps cs vs)) its-values) (compact-plan cs f)

  changes-plan : (fold : Bool) (cs : List Change) → Fitting cs its-list (block * b) → By (changes_plan fold joined-image cs) cs
  changes-plan fold [] f = nothing-plan [] refl
  changes-plan true (c ∷ []) f = folded-plan (c ∷ []) f
  changes-plan false (c ∷ []) f = single-plan c f
  changes-plan fold (c ∷ d ∷ cs) f = folded-plan (c ∷ d ∷ cs) f

-- ---- the values of a ready image that holds K

pub ready-values : {b : ℕ} (img : List ℕ) (K : List Value) → Ready img → Holding b K img → values_of img ≡ K
unfolding values_in idle
ready-values img K i (in-region h) = ap (λ (l : List ℕ). values (entries l)) (ap region h.whole ∙ parts-region h.parts) ∙ h.held
ready-values img K i (in-spare h) =
    let same : i.w ≡ h.w = sym (ap work i.whole ∙ parts-work i.parts) ∙ ap work h.whole ∙ parts-work h.parts in
    absurd (closed (well_formed h.w) (ap idle (sym same) ∙ i.rested) h.ended)
  where
    closed : (t : Bool) → (t && not (ends_in_fc_def h.w)) ≡ true → ends_in_fc_def h.w ≡ true → ⊥
    closed true e f = false≢true (ap not (sym f) ∙ e)
    closed false e f = false≢true e

kept-as : {b b₁ : ℕ} {K K₁ K' K₁' : List Value} {to on : List Write} {img img₁ : List ℕ} → b ≡ b₁ → K ≡ K₁ → K' ≡ K₁' → img ≡ img₁
    → Kept b K K' to on img → Kept b₁ K₁ K₁' to on img₁
kept-as {b} {b₁} {K} {K₁} {K'} {K₁'} {to} {on} {img} {img₁} s e f g k =
    subst (λ (n : ℕ). Kept n K₁ K₁' to on img₁) s
    (subst (λ (x : List ℕ). Kept b K₁ K₁' to on x) g (subst (λ (x : List Value). Kept b K₁ x to on img) f (subst (λ (x : List Value). Kept b x K' to on img) e k)))

-- ---- every kind of call, where no rule is broken

-- changes of a ready image
writes_kept : (fold : Bool) (changes : List Value → List Change) (img : List ℕ) (K : List Value) → (i : Ready img)
    → Fitting (changes (values_of img)) (values_of img) (region_size img) → {b : ℕ} → Holding b K img → KindKept (writes fold changes) img K
writes_kept fold changes img K i f holds =
    let p = i.parts in
    let held = ready-values img K i holds in
    -- the values and the region's size by parts
    let same : values_of img ≡ values (entries i.r) = ap values_of i.whole ∙ its-values p i.rested i.free i.cleaned in
    let here : values (entries i.r) ≡ K = sym same ∙ held in
    let cs = changes (values_of img) in
    let asked : cs ≡ changes K = ap changes held in
    let fits : Fitting cs (values (entries i.r)) (block * i.b) =
    subst (Fitting cs (values (entries i.r))) (ap region_size i.whole ∙ parts-size p) (subst (λ (vs : List Value). Fitting cs vs (region_size img)) same f) in
    let k = changes-plan p i.rested i.free i.cleaned fold cs fits in
    record {
      to = k.to;
      on = k.on;
      plan = ap (λ (x : List ℕ). changes_plan fold x cs) i.whole ∙ k.plan;
      kept = kept-as (sym (ready-blocks img i)) here (ap (steps cs) here ∙ ap (λ (x : List Change). steps x K) asked) (sym i.whole) k.kept;
      decides = λ h. ap (λ (x : List Change). steps x K) (sym asked) ∙ ap (steps cs) (sym here) ∙ k.decides h ∙ here;
    }

-- one that decides nothing and enters nothing: what it stores keeps K
leaving-kept : (img : List ℕ) (K : List Value) (on : List Write) (end : List ℕ) → Goes (Holding (blocks img) K) on img end → Ready end → blocks end ≡ blocks img → values_of end ≡ K
    → PlanKept (blocks img) (make [] on) img K K
leaving-kept img K on end goes ready sized held = record {
  to = [];
  on = on;
  plan = refl;
  kept = record { middle = img; end = end; to-goes = goes-nowhere (Holding (blocks img) K) img; on-goes = goes; ready = ready; sized = sized; held = held };
  decides = λ e. refl;
}

kind-kept : (k : Kind) (img : List ℕ) (K : List Value) → Accepted k img → Holding (blocks img) K img → KindKept k img K
unfolding steps
kind-kept reads img K a holds =
    let ready = ready_of img a.0 a.1 in
    leaving-kept img K [] img (goes-nowhere (Holding (blocks img) K) img) ready refl (ready-values img K ready holds)
kind-kept (writes fold changes) img K a holds = writes_kept fold changes img K (ready_of img a.long a.ready) a.fitting holds
kind-kept (starts_up setup) img K a holds =
    let up = start_up-holding (blocks img) K img holds in
    leaving-kept img K (start_up_stores img) up.end up.goes up.ready up.sized up.held

-- so of a call
from-kind : (c : Call) (img : List ℕ) (K : List Value) → call_broken c img ≡ none → KindKept (kind_of c) img K → CallKept c img K
unfolding entered
from-kind c img K e k = planned-as (plan-accepted c img e) k

pub call_kept : (c : Call) (img : List ℕ) (K : List Value) → Sized c → call_broken c img ≡ none → Holding (blocks img) K img → CallKept c img K
call_kept c img K sized e holds = from-kind c img K e (kind-kept (kind_of c) img K (accepted c img sized e) holds)

-- of a set, its bytes aside
pub set-kept : (m : Bool) (s : Session) (r : Request) (img : List ℕ) (K : List Value) → set_broken m s r img ≡ none → length r.vendor ≡ 16 → {b : ℕ} → Holding b K img → CallKept (set m s r) img K
set-kept m s r img K e long holds =
    let ready = ready_of img (set-length m s r img e) (set-ready m s r img e) in
    from-kind (set m s r) img K e (writes_kept false (changes_of r) img K ready (set-fitting m s r img e long) holds)

-- of a profile likewise
pub profile-kept : (m : Bool) (s : Session) (file img : List ℕ) (K : List Value) → profile_broken m s file img ≡ none → {b : ℕ} → Holding b K img → CallKept (profile m s file) img K
profile-kept m s file img K e holds =
    let ready = ready_of img (profile-length m s file img e) (profile-ready m s file img e) in
    from-kind (profile m s file) img K e (writes_kept true (changes_in (items_in file)) img K ready (profile-fitting m s file img e) holds)

-- in a run a start-up finds the book, and is refused where the book does not keep to its shares, and there only
pub holding-right : {b : ℕ} (K : List Value) (img : List ℕ) → Holding b K img → (right_length img ≡ true) × (ready_for_start_up img ≡ true)
unfolding ready_for_start_up pending
holding-right K img (in-spare h) =
    let p = h.parts in (
      ap right_length h.whole ∙ parts-right p,
      ap ready_for_start_up h.whole ∙ or_left (pending (h.r ++ (h.w ++ h.s))) (sound (region (h.r ++ (h.w ++ h.s)))) (true-and (true-and (ap well_formed (parts-work p) ∙ h.formed) (ap ends_in_fc_def (parts-work p) ∙ h.ended)) (ap clean (parts-spare p) ∙ h.cleaned)),
    )
holding-right K img (in-region h) =
    let p = h.parts in (
      ap right_length h.whole ∙ parts-right p,
      ap ready_for_start_up h.whole ∙ or_right (pending (h.r ++ (h.w ++ h.s))) (sound (region (h.r ++ (h.w ++ h.s)))) (ap sound (parts-region p) ∙ h.sounds),
    )

pub holding-judged : {b : ℕ} (u : Setup) (K : List Value) (img : List ℕ) → Holding b K img → start_up_broken u img ≡ cond (allotted u (region_size img) K) none (some Side)
holding-judged {b} u K img holds =
    let right = holding-right K img holds in
    start_up-judged u img right.0 right.1 ∙ ap (λ (vs : List Value). cond (allotted u (region_size img) vs) none (some Side)) (found-holding b K img holds)

pub start_up-plan : (u : Setup) (img : List ℕ) → start_up_broken u img ≡ none → start_up_plan u img ≡ make [] (start_up_stores img)
unfolding start_up_plan
start_up-plan u img h = rw h

pub start_up-refused : (u : Setup) (img : List ℕ) (rule : Rule) → start_up_broken u img ≡ some rule → start_up_plan u img ≡ refuse rule
unfolding start_up_plan
start_up-refused u img rule h = rw h

-- ---- any call, cut after k stores

-- a list of no stores leaves the image
pub cut-none : (k : ℕ) (img img' : List ℕ) → Cut [] k img img' → img' ≡ img
unfolding after apply_all
cut-none k img img' (inl e) = e ∙ rw take-nil
cut-none k img img' (inr u) = absurd u

pub book-cond : (c : Call) (t : Bool) (K : List Value) → book_after c t K ≡ cond t (entered c K) K
unfolding book_after
book-cond c true K = refl
book-cond c false K = refl

module _ (w b : ℕ) where
  module _ (img img' : List ℕ) (K K' : List Value) (to on : List Write) (kept : Kept b K K' to on img) (k : ℕ) (left : Cut (stores w (to ++ on)) k img img') where
    kept-cut : (k < length (stores w to) → Holding b K img') × (length (stores w to) ≤ k → Holding b K' img')
    kept-cut =
        let on-safe : Safe (Holding b K') (stores w on) (apply_all (stores w to) img) = subst (Safe (Holding b K') (stores w on)) (sym (kept.to-goes.left w)) (kept.on-goes.safe w) in
        let end : Holding b K' (apply_all (stores w on) (apply_all (stores w to) img)) =
        subst (Holding b K') (sym (ap (apply_all (stores w on)) (kept.to-goes.left w) ∙ kept.on-goes.left w)) (subst (λ (n : ℕ). Holding n K' kept.end) kept.sized (subst (λ (vs : List Value). Holding (blocks kept.end) vs kept.end) kept.held (ready-holds kept.end kept.ready))) in
        cut_at (Holding b K) (Holding b K') (stores w to) (stores w on) k img img' (kept.to-goes.safe w) on-safe end
        (subst (λ (ss : List Store). Cut ss k img img') (stores-append w to on) left)

    -- by whether the deciding store is complete
    kept-decided : (is_empty to ≡ true → K' ≡ K) → Holding b (cond (decided w k (make to on)) K' K) img'
    unfolding decided stores
    kept-decided decides = go (is_empty to) refl (leb (length (stores w to)) k) refl
      where
        empty-length : (l : List Write) → is_empty l ≡ true → length (stores w l) ≡ 0
        empty-length [] h = refl
        empty-length (x ∷ l) h = absurd (false≢true h)

        go : (e : Bool) → is_empty to ≡ e → (t : Bool) → leb (length (stores w to)) k ≡ t → Holding b (cond (not (is_empty to) && leb (length (stores w to)) k) K' K) img'
        go true e t f = rw e (subst (λ (vs : List Value). Holding b vs img') (decides e) (kept-cut.1 (let z = empty-length to e in omega arith)))
        go false e true f = rw (e, f) (kept-cut.1 (leb-true (length (stores w to)) k f))
        go false e false f = rw (e, f) (kept-cut.0 (leb-false (length (stores w to)) k f))

  -- by its plan: a refusal, or what keeps K
  pub call-cut : (K : List Value) (img img' : List ℕ) (c : Call) → Sized c → Holding b K img → (k : ℕ) → Cut (stores_of w (plan_of c img)) k img img'
      → Holding b (book_after c (decided w k (plan_of c img)) K) img'
  unfolding stores_of decided
  call-cut K img img' c sized holds k left = go (call_broken c img) refl
    where
      here : blocks img ≡ b
      here = holding-blocks b K img holds

      Left : Plan → Type 0
      Left p = Cut (stores_of w p) k img img' → Holding b (book_after c (decided w k p) K) img'

      refused-left : (rule : Rule) → Left (refuse rule)
      refused-left rule made = subst (λ (vs : List Value). Holding b vs img') (sym (book-cond c false K)) (subst (Holding b K) (sym (cut-none k img img' made)) holds)

      made-left : (kept : CallKept c img K) → Left (make kept.to kept.on)
      made-left kept made =
          subst (λ (vs : List Value). Holding b vs img') (sym (book-cond c (decided w k (make kept.to kept.on)) K))
          (kept-decided img img' K (entered c K) kept.to kept.on (subst (λ (n : ℕ). Kept n K (entered c K) kept.to kept.on img) here kept.kept) k made kept.decides)

      go : (o : Option Rule) → call_broken c img ≡ o → Holding b (book_after c (decided w k (plan_of c img)) K) img'
      go (some rule) e = subst Left (sym (plan-refused c img rule e)) (refused-left rule) left
      go none e = let kept = call_kept c img K sized e (subst (λ (n : ℕ). Holding n K img) (sym here) holds) in subst Left (sym kept.plan) (made-left kept) left

-- ---- a call that is done

refused-not : (rule count : ℕ) → refused rule ≡ done count → ⊥
refused-not rule count e = let z : ◌≡◌ {A = ℕ} 0 1 = cc in omega arith

stopped-not : (count : ℕ) → stopped ≡ done count → ⊥
stopped-not count e = let z : ◌≡◌ {A = ℕ} 0 1 = cc in omega arith

ended-done : (n reached len count : ℕ) → ended n reached len ≡ done count → len ≤ min n reached
ended-done n reached len count h = go (leb len (min n reached)) refl (ltb reached n) h
  where
    go : (t : Bool) → leb len (min n reached) ≡ t → (u : Bool) → cond t (done len) (cond u (refused 23) stopped) ≡ done count → len ≤ min n reached
    go true e u f = leb-true len (min n reached) e
    go false e true f = absurd (refused-not 23 count f)
    go false e false f = absurd (stopped-not count f)

-- no rule was broken, and all stores were made
pub done-accepted : (x : Context) (count : ℕ) (o : Option Rule) (p : Plan) (img : List ℕ) → outcome x (on_some o refuse p) img ≡ done count → o ≡ none
unfolding outcome
done-accepted x count none p img h = refl
done-accepted x count (some rule) p img h = absurd (refused-not (rule_number rule) count h)

pub all_made : (x : Context) (count : ℕ) (p : Plan) (img : List ℕ) → outcome x p img ≡ done count → image_after x p img ≡ apply_all (stores_of (page_of x) p) img
unfolding outcome image_after made_of stores_of
all_made x count (refuse rule) img h = absurd (refused-not (rule_number rule) count h)
all_made x count (make to on) img h =
    let ss : List Store = stores (page_of x) (to ++ on) in
    let reached = reach (dead_of x) ss img in
    after-all (min x.limit reached) ss img (ended-done x.limit reached (length ss) count h)

-- a start-up
pub record Finished (u : Setup) (x : Context) (img : List ℕ) : Type 0 where
  pub accepted : start_up_broken u img ≡ none
  pub left : image_after x (start_up_plan u img) img ≡ apply_all (stores (page_of x) (start_up_stores img)) img

pub finished : (u : Setup) (x : Context) (count : ℕ) (img : List ℕ) → outcome x (start_up_plan u img) img ≡ done count → Finished u x img
unfolding start_up_plan stores_of
finished u x count img h =
    let accepted = done-accepted x count (start_up_broken u img) (make [] (start_up_stores img)) img h in
    record { accepted = accepted; left = all_made x count (start_up_plan u img) img h ∙ ap (λ (p : Plan). apply_all (stores_of (page_of x) p) img) (start_up-plan u img accepted) }

-- ---- a call that ran is one cut after the stores that it made

refused-same : (c : Call) (x : Context) (rule : Rule) (img : List ℕ) (K : List Value)
    → book_after c (decided (page_of x) (made_of x (refuse rule) img) (refuse rule)) K
    ≡ book_after c (counts (outcome x (refuse rule) img) (decided (page_of x) (made_of x (refuse rule) img) (refuse rule))) K
unfolding outcome
refused-same c x rule img K = refl

made_counted : (w n reached : ℕ) (c : Call) (K : List Value) (to on : List Write) → (is_empty to ≡ true → entered c K ≡ K)
    → book_after c (decided w (min n reached) (make to on)) K
    ≡ book_after c (counts (ended n reached (length (stores w (to ++ on)))) (decided w (min n reached) (make to on))) K
unfolding decided
made_counted w n reached c K to on decides = go (leb (length (stores w (to ++ on))) (min n reached)) refl (ltb reached n)
  where
    -- done: the deciding store, if any, is complete
    complete : length (stores w (to ++ on)) ≤ min n reached → (e : Bool) → is_empty to ≡ e → book_after c (not e && leb (length (stores w to)) (min n reached)) K ≡ book_after c true K
    complete h true e = book-cond c false K ∙ sym (decides e) ∙ sym (book-cond c true K)
    complete h false e =
        ap (λ (t : Bool). book_after c t K)
        (le-leb (length (stores w to)) (min n reached)
        (let l : length (stores w (to ++ on)) ≡ length (stores w to) + length (stores w on) = ap length (stores-append w to on) ∙ length-append (stores w to) (stores w on) in omega arith))

    go : (t : Bool) → leb (length (stores w (to ++ on))) (min n reached) ≡ t → (u : Bool)
        → book_after c (not (is_empty to) && leb (length (stores w to)) (min n reached)) K
        ≡ book_after c (counts (cond t (done (length (stores w (to ++ on)))) (cond u (refused 23) stopped)) (not (is_empty to) && leb (length (stores w to)) (min n reached))) K
    go true h u = complete (leb-true (length (stores w (to ++ on))) (min n reached) h) (is_empty to) refl
    go false h true = refl
    go false h false = refl

made-accepted : (x : Context) (c : Call) (img : List ℕ) (K : List Value) (to on : List Write) → (is_empty to ≡ true → entered c K ≡ K)
    → book_after c (decided (page_of x) (made_of x (make to on) img) (make to on)) K
    ≡ book_after c (counts (outcome x (make to on) img) (decided (page_of x) (made_of x (make to on) img) (make to on))) K
unfolding outcome made_of stores_of
made-accepted x c img K to on decides = made_counted (page_of x) x.limit (reach (dead_of x) (stores (page_of x) (to ++ on)) img) c K to on decides

-- a done call with no deciding store changes nothing
pub counted : (K : List Value) (img : List ℕ) (c : Call) → Sized c → Holding (blocks img) K img → (x : Context)
    → book_after c (decided (page_of x) (made_of x (plan_of c img) img) (plan_of c img)) K
    ≡ book_after c (counts (outcome x (plan_of c img) img) (decided (page_of x) (made_of x (plan_of c img) img) (plan_of c img))) K
counted K img c sized holds x = go (call_broken c img) refl
  where
    Counted : Plan → Type 0
    Counted p = book_after c (decided (page_of x) (made_of x p img) p) K ≡ book_after c (counts (outcome x p img) (decided (page_of x) (made_of x p img) p)) K

    go : (o : Option Rule) → call_broken c img ≡ o → Counted (plan_of c img)
    go (some rule) e = subst Counted (sym (plan-refused c img rule e)) (refused-same c x rule img K)
    go none e =
        let kept = call_kept c img K sized e holds in
        subst Counted (sym kept.plan) (made-accepted x c img K kept.to kept.on kept.decides)

-- ---- the run

-- what a start-up leaves that is carried out is ready, whatever image it began on
pub start_up-leaves : (u : Setup) (w : ℕ) (img : List ℕ) → start_up_broken u img ≡ none → Ready (apply_all (stores w (start_up_stores img)) img)
start_up-leaves u w img accepted =
    let up = (start_up-any img (start_up-length u img accepted) (start_up-ready u img accepted)).up in
    subst Ready (sym (up.goes.left w)) up.ready

started-ready : (start : List ℕ) → StartedUp start → Ready start
started-ready start st =
    let f = finished st.setup st.context st.stores st.before st.finished in
    subst Ready (sym (st.left ∙ f.left)) (start_up-leaves st.setup (page_of st.context) st.before f.accepted)

-- and so is what a done move leaves in the authenticated form
moved_ready : (start : List ℕ) → MovedInto start → Ready start
unfolding image_moved ready_in
moved_ready start m =
    let whole : start ≡ moved m.form authenticated m.source m.target = m.left ∙ rw m.accepted in
    subst Ready (sym whole) (ready_of (moved m.form authenticated m.source m.target)
    (moves.moved_length m.form authenticated m.source m.target m.accepted)
    (moves.moved_ready m.form authenticated m.source m.target m.accepted))

pub begins-ready : (start : List ℕ) → Begins start → Ready start
begins-ready start (started st) = started-ready start st
begins-ready start (moved_in m) = moved_ready start m

-- in a run the image holds the book
pub run_holds : (start : List ℕ) → Begins start → {img : List ℕ} {book : List Value} → Run start img book → Holding (blocks start) book img
unfolding image_after
run_holds start st begin = ready-holds start (begins-ready start st)
run_holds start st (ran {img} {book} r c sized x) =
    let b = blocks start in
    let holds = run_holds start st r in
    let k = made_of x (plan_of c img) img in
    let here = subst (λ (n : ℕ). Holding n book img) (sym (holding-blocks b book img holds)) holds in
    subst (λ (vs : List Value). Holding b vs (after k (stores_of (page_of x) (plan_of c img)) img)) (counted book img c sized here x)
    (call-cut (page_of x) b book img (after k (stores_of (page_of x) (plan_of c img)) img) c sized holds k (inl refl))
run_holds start st (cut {img} {img'} {book} r c sized w k left) = call-cut w (blocks start) book img img' c sized (run_holds start st r) k left

-- a start-up that is carried out leaves the book's values
pub start_up-holds : {b : ℕ} (w : ℕ) (K : List Value) (img : List ℕ) → Holding b K img → values_of (apply_all (stores w (start_up_stores img)) img) ≡ K
start_up-holds {b} w K img holds = let up = start_up-holding b K img holds in ap values_of (up.goes.left w) ∙ up.held

pub start_up-values : {b : ℕ} (K : List Value) (img : List ℕ) → Holding b K img → (u : Setup) (x : Context) (count : ℕ) → outcome x (start_up_plan u img) img ≡ done count
    → values_of (image_after x (start_up_plan u img) img) ≡ K
start_up-values K img holds u x count h = ap values_of (finished u x count img h).left ∙ start_up-holds (page_of x) K img holds

agrees : {b : ℕ} (K : List Value) (img : List ℕ) → Holding b K img → (k : Kind) (x : Context) → Agrees k x img K
agrees K img holds reads x = tt
agrees K img holds (writes fold changes) x = tt
agrees K img holds (starts_up setup) x = λ count h. start_up-values K img holds setup x count h

agrees-all : (start : List ℕ) → Begins start → {img : List ℕ} {book : List Value} → (r : Run start img book) → AgreesAll r
agrees-all start st begin = tt
agrees-all start st (ran {img} {book} r c sized x) = (agrees-all start st r, agrees book img (run_holds start st r) (kind_of c) x)
agrees-all start st (cut r c sized w k left) = agrees-all start st r

pub demand3 : Demand3
demand3 start img book st r = agrees-all start st r
