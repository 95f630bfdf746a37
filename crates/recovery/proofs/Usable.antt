-- Calls keep to the shares of their session, so in a run whose writing calls have the shares of a setup the book keeps to them, and a start-up that is given them is not refused.
-- Assumes nothing.
use Prim.Native.Nat.{ℕ, ◌+◌, ◌*◌, ◌≤◌}
use native.Mathlib.Omega.{arith}
use mathlib.Core.Path.{◌≡◌, refl, sym, ap, ◌∙◌, subst}
use mathlib.Core.Bool.{Bool, true, false, not, cond, ◌&&◌, ◌||◌, true≢false}
use mathlib.Core.List.{List}
use mathlib.Core.Option.{Option, none, some}
use lib.Dec.{ltb}
use borrow.Author.Tests.{ltb-false, not-false}
use Rattle.model.specs.declared.Setup.{Setup}
use Rattle.model.specs.declared.Session.{Session}
use Rattle.model.specs.declared.Context.{Context}
use Rattle.model.specs.declared.Rule.{Rule}
use Rattle.model.specs.Lists.{any}
use Rattle.model.specs.Image.{block, blocks, right_length, region_size}
use Rattle.model.specs.Entry.{Value}
use Rattle.model.specs.Region.{values_of}
use Rattle.model.specs.Work.{ready_for_call}
use Rattle.model.specs.Session.{share_of, reserved}
use Rattle.model.specs.Request.{Request, request_key, key_mode}
use Rattle.model.specs.Profile.{items_in}
use Rattle.model.specs.Change.{Change, changes_of, mode_changes, changes_in, steps, space_of, is_error_record_def, record_sizes}
use Rattle.model.specs.Sides.{owns, side_sizes, allotted}
use Rattle.model.specs.Rules.{puts, rule6, rule13, rule18, rule22, terms_if, terms_for_def, terms_of, image_rules_in, request_rules, standing_rules, result_rules, item_rules, setting_rules, room_rules, set_broken, profile_broken, mode_rules, mode_broken}
use Rattle.model.specs.Set.{Plan, refuse}
use Rattle.model.specs.Answers.{outcome, made_of, page_of, decided}
use Rattle.model.specs.Book.{Call, set, get, next, start_up_def, several, profile, mode, Sized, call_broken, plan_of, entered, counts, book_after, Run, begin, ran, cut, Begins}
use Rattle.model.proofs.Tests.{or_split}
use Rattle.model.proofs.Requests.{unbroken, set-length, set-ready, set_own, mode-length, mode-ready}
use Rattle.model.proofs.Files.{file-form}
use Rattle.model.proofs.Profiles.{profile-length, profile-ready, profile-items, profile-room}
use Rattle.recovery.specs.Claims.{SameShares, InShares, AllInShares, SharesKept}
use Rattle.recovery.proofs.Invariant.{Holding, holding-blocks}
use Rattle.recovery.proofs.EveryCall.{plan-refused}
use Rattle.recovery.proofs.StartingUp.{ready_of}
use Rattle.recovery.proofs.Theorem.{ready-values, run_holds, book-cond}
use Rattle.recovery.proofs.Shares.{Within, KeepsTo, within_of, within-is, steps-within}
use Rattle.recovery.proofs.Owned.{item-own, changes-about, mode-about, items-about, items-unrecorded, mode-unrecorded}
use Rattle.recovery.proofs.Claims.{start_up-never-refused}

-- ---- a call that breaks no rule keeps to the shares of its session

-- what 13, and what 18, leaves
module _ (m : Bool) (s : Session) (foreign barred : Bool) (cs : List Change) (vs : List Value) where
  pub room-kept : (size : ℕ) → rule13 (terms_if m s foreign barred) size cs vs ≡ false → any (puts (λ v. not (is_error_record_def v))) cs ≡ true
      → side_sizes s.setup.modem.vendor m (steps cs vs) ≤ share_of m s.setup
  unfolding rule13
  room-kept size h e =
      let sum = side_sizes s.setup.modem.vendor m (steps cs vs) + reserved m s in
      let k : (ltb (share_of m s.setup) sum || (any (puts (λ v. true)) cs && ltb size (space_of (steps cs vs)))) ≡ false = rw e at h in
      let l = ltb-false (share_of m s.setup) sum (or_split _ _ k).0 in
      omega arith

  pub few-kept : rule18 (terms_if m s foreign barred) cs vs ≡ false → any (puts is_error_record_def) cs ≡ true → record_sizes (steps cs vs) ≤ s.setup.records
  unfolding rule18
  few-kept h e = ltb-false s.setup.records (record_sizes (steps cs vs)) (rw e at h)

pub set_keeps : (m : Bool) (s : Session) (r : Request) (img : List ℕ) → set_broken m s r img ≡ none → KeepsTo s.setup m (changes_of r (values_of img)) (values_of img)
unfolding set_broken image_rules_in item_rules request_rules standing_rules result_rules setting_rules room_rules terms_of
set_keeps m s r img e =
    let foreign = rule22 s.setup.modem.vendor m (request_key r) in
    let barred = rule6 s (request_key r) in
    let cs = changes_of r (values_of img) in
    let f : rule18 (terms_if m s foreign barred) cs (values_of img) ≡ false = unbroken _ 18 e in
    let h : rule13 (terms_if m s foreign barred) (region_size img) cs (values_of img) ≡ false = unbroken _ 13 e in
    record {
      own = changes-about s.setup.modem.vendor m (values_of img) r (item-own m s r (values_of img) (set_own m s r img e));
      few = few-kept m s foreign barred cs (values_of img) f;
      room = room-kept m s foreign barred cs (values_of img) (region_size img) h;
    }

-- no item of a profile puts an error record
pub profile-keeps : (m : Bool) (s : Session) (file img : List ℕ) → profile_broken m s file img ≡ none
    → KeepsTo s.setup m (changes_in (items_in file) (values_of img)) (values_of img)
unfolding terms_for_def
profile-keeps m s file img e =
    let cs = changes_in (items_in file) (values_of img) in
    record {
      own = items-about m s (items_in file) (values_of img) (profile-items m s file img e);
      few = λ h. absurd (true≢false (sym h ∙ items-unrecorded (items_in file) (values_of img) (file-form file)));
      room = room-kept m s false false cs (values_of img) (region_size img) (profile-room m s file img e);
    }

-- and neither does a mode request, which is ours
pub mode-own : (m : Bool) (s : Session) (to : ℕ) (img : List ℕ) → mode_broken m s to img ≡ none → owns s.setup.modem.vendor m key_mode ≡ true
unfolding mode_broken mode_rules image_rules_in rule22
mode-own m s to img e = not-false (owns s.setup.modem.vendor m key_mode) (unbroken _ 22 e)

pub mode-keeps : (m : Bool) (s : Session) (to : ℕ) (img : List ℕ) → mode_broken m s to img ≡ none
    → KeepsTo s.setup m (mode_changes to (values_of img)) (values_of img)
unfolding mode_broken mode_rules image_rules_in terms_for_def
mode-keeps m s to img e =
    let cs = mode_changes to (values_of img) in
    let h : rule13 (terms_if m s false false) (region_size img) cs (values_of img) ≡ false = unbroken _ 13 e in
    record {
      own = mode-about s.setup.modem.vendor m (values_of img) to (mode-own m s to img e);
      few = λ h. absurd (true≢false (sym h ∙ mode-unrecorded to (values_of img)));
      room = room-kept m s false false cs (values_of img) (region_size img) h;
    }

-- ---- the book of a run keeps to the shares

-- shares are all that is asked of a setup
within_same : (u v : Setup) (size : ℕ) (vs : List Value) → SameShares u v → Within u size vs → Within v size vs
within_same u v size vs e w = record {
  fit = subst (λ (n : ℕ). n ≤ size) sums w.fit;
  side = sides;
  records = subst (λ (n : ℕ). record_sizes vs ≤ n) e.records w.records;
}
  where
    sums : 28 + u.share + u.modem.share + u.records ≡ 28 + v.share + v.modem.share + v.records
    sums = rw (e.ours, e.modems, e.records)

    sides : (m : Bool) → side_sizes v.modem.vendor m vs ≤ share_of m v
    sides true = rw (← e.vendor, ← e.modems) (w.side true)
    sides false = rw (← e.vendor, ← e.ours) (w.side false)

same-turned : (u v : Setup) → SameShares u v → SameShares v u
same-turned u v e = record { vendor = sym e.vendor; ours = sym e.ours; modems = sym e.modems; records = sym e.records }

-- changes of a ready image that holds K
changed-within : {b : ℕ} (u : Setup) (s : Session) (m : Bool) (changes : List Value → List Change) (img : List ℕ) (K : List Value) → SameShares s.setup u
    → right_length img ≡ true → ready_for_call img ≡ true → KeepsTo s.setup m (changes (values_of img)) (values_of img) → Holding b K img
    → Within u (region_size img) K → Within u (region_size img) (steps (changes K) K)
changed-within u s m changes img K shares long ready k holds w =
    let held : values_of img ≡ K = ready-values img K (ready_of img long ready) holds in
    let own : Within s.setup (region_size img) (values_of img) =
    within_same u s.setup (region_size img) (values_of img) (same-turned s.setup u shares) (subst (Within u (region_size img)) (sym held) w) in
    subst (λ (vs : List Value). Within u (region_size img) (steps (changes vs) vs)) held
    (within_same s.setup u (region_size img) (steps (changes (values_of img)) (values_of img)) shares (steps-within s.setup (region_size img) m (changes (values_of img)) (values_of img) k own))

-- of an accepted call
entered-within : {b : ℕ} (u : Setup) (c : Call) (img : List ℕ) (K : List Value) → Sized c → InShares u c → call_broken c img ≡ none → Holding b K img
    → Within u (region_size img) K → Within u (region_size img) (entered c K)
unfolding entered steps
entered-within u (set m s r) img K sized shares e holds w =
    changed-within u s m (changes_of r) img K shares (set-length m s r img e) (set-ready m s r img e) (set_keeps m s r img e) holds w
entered-within u (get m s k buffer) img K sized shares e holds w = w
entered-within u (next m s k buffer) img K sized shares e holds w = w
entered-within u (start_up_def setup) img K sized shares e holds w = w
entered-within u (several m s ks buffer) img K sized shares e holds w = w
entered-within u (profile m s file) img K sized shares e holds w =
    changed-within u s m (changes_in (items_in file)) img K shares (profile-length m s file img e) (profile-ready m s file img e) (profile-keeps m s file img e) holds w
entered-within u (mode m s to) img K sized shares e holds w =
    changed-within u s m (mode_changes to) img K shares (mode-length m s to img e) (mode-ready m s to img e) (mode-keeps m s to img e) holds w

-- of any call, by what the book is fed: nothing of one that is refused
module _ {b : ℕ} (u : Setup) (c : Call) (img : List ℕ) (K : List Value) (sized : Sized c) (shares : InShares u c) (holds : Holding b K img) (w : Within u (region_size img) K) where
  pub fed-within : (fed : Plan → Bool) → ((rule : Rule) → fed (refuse rule) ≡ false) → Within u (region_size img) (book_after c (fed (plan_of c img)) K)
  fed-within fed none-fed = go (call_broken c img) refl
    where
      go : (o : Option Rule) → call_broken c img ≡ o → Within u (region_size img) (book_after c (fed (plan_of c img)) K)
      go (some rule) e =
          subst (Within u (region_size img)) (sym (ap (λ (p : Plan). book_after c (fed p) K) (plan-refused c img rule e) ∙ ap (λ (t : Bool). book_after c t K) (none-fed rule) ∙ book-cond c false K)) w
      go none e = subst (Within u (region_size img)) (sym (book-cond c (fed (plan_of c img)) K)) (by (fed (plan_of c img)))
        where
          by : (t : Bool) → Within u (region_size img) (cond t (entered c K) K)
          by true = entered-within u c img K sized shares e holds w
          by false = w

pub size_of : {b : ℕ} (K : List Value) (img : List ℕ) → Holding b K img → region_size img ≡ block * b
unfolding region_size
size_of {b} K img holds = ap (λ (n : ℕ). block * n) (holding-blocks b K img holds)

refused-feeds : (x : Context) (img : List ℕ) (rule : Rule) → counts (outcome x (refuse rule) img) (decided (page_of x) (made_of x (refuse rule) img) (refuse rule)) ≡ false
unfolding outcome decided
refused-feeds x img rule = refl

pub cut-feeds : (w k : ℕ) (rule : Rule) → decided w k (refuse rule) ≡ false
unfolding decided
cut-feeds w k rule = refl

run-within : (u : Setup) (start : List ℕ) → Begins start → Within u (block * blocks start) (values_of start) → {img : List ℕ} {book : List Value}
    → (run : Run start img book) → AllInShares u run → Within u (block * blocks start) book
run-within u start st w begin a = w
run-within u start st w (ran {img} {book} run c sized x) a =
    let holds = run_holds start st run in
    let size = size_of book img holds in
    subst (λ (n : ℕ). Within u n (book_after c (counts (outcome x (plan_of c img) img) (decided (page_of x) (made_of x (plan_of c img) img) (plan_of c img))) book)) size
    (fed-within u c img book sized a.1 holds (subst (λ (n : ℕ). Within u n book) (sym size) (run-within u start st w run a.0))
    (λ p. counts (outcome x p img) (decided (page_of x) (made_of x p img) p)) (refused-feeds x img))
run-within u start st w (cut {img} {img'} {book} run c sized width k left) a =
    let holds = run_holds start st run in
    let size = size_of book img holds in
    subst (λ (n : ℕ). Within u n (book_after c (decided width k (plan_of c img)) book)) size
    (fed-within u c img book sized a.1 holds (subst (λ (n : ℕ). Within u n book) (sym size) (run-within u start st w run a.0))
    (λ p. decided width k p) (cut-feeds width k))

pub shares-kept : SharesKept
unfolding region_size
shares-kept u start img book st fits run a =
    let w = run-within u start st (within_of u (block * blocks start) (values_of start) fits) run a in
    let size = size_of book img (run_holds start st run) in
    let here : allotted u (region_size img) book ≡ true = ap (λ (n : ℕ). allotted u n book) size ∙ within-is u (block * blocks start) book w in
    let up = (start_up-never-refused start img book st run u).0 here in
    (here, up.0, up.1)
