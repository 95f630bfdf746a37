-- The platform's mode through calls. A call that breaks no rule enters changes by which the mode makes one of the paper's steps, and leaves just these values;
-- in a run, however it is cut, a start-up finds the book with the call entered or without it, and so PK and PlatMode of one of the two. The modem's changes are
-- of names that are not ours, as these two are.
-- Assumes nothing.
use Prim.Native.Nat.{ℕ}
use mathlib.Core.Path.{◌≡◌, refl, sym, ap, ◌∙◌, subst}
use mathlib.Core.Logic.{◌⊎◌, inl, inr}
use mathlib.Core.Bool.{Bool, true, false, cond, true≢false}
use mathlib.Core.List.{List}
use mathlib.Core.Option.{Option, none, some}
use Rattle.model.specs.declared.Session.{Session}
use Rattle.model.specs.declared.Context.{Context}
use Rattle.model.specs.declared.Rule.{Rule}
use Rattle.model.specs.declared.Answer.{Answer}
use Rattle.model.specs.Lists.{is_empty}
use Rattle.model.specs.Image.{blocks}
use Rattle.model.specs.Entry.{Value}
use Rattle.model.specs.Region.{values_of}
use Rattle.model.specs.Request.{mode_of}
use Rattle.model.specs.Profile.{items_in}
use Rattle.model.specs.Change.{mode_changes, steps}
use Rattle.model.specs.Rules.{image_rules_in, rule24, mode_rules, mode_broken}
use Rattle.model.specs.Stores.{Store, apply_all, Cut}
use Rattle.model.specs.Set.{Plan, refuse}
use Rattle.model.specs.StartUp.{start_up_plan}
use Rattle.model.specs.Answers.{image_after, page_of, made_of, stores_of, decided}
use Rattle.model.specs.Book.{Call, set, get, next, start_up_def, several, profile, mode, call_broken, Kind, reads, writes, starts_up, kind_of, plan_of, mode_plan, Sized, changes_by, entered, book_after}
use Rattle.model.specs.Beside.{mode_named, Moves, stays}
use Rattle.model.proofs.Files.{file-form}
use Rattle.model.proofs.Modes.{changes-move, mode-moves, mode-reached, items-move}
use Rattle.model.proofs.Profiles.{profile-items}
use Rattle.model.proofs.Requests.{unbroken, set_apart, remove-present}
use Rattle.recovery.specs.Claims.{DoneOrUndone, ModesMove, ModeReached, WithPK, LeavesWithPK, ModeWithPK}
use Rattle.recovery.specs.Tenants.{call_of, ModemKeepsMode}
use Rattle.recovery.specs.Interface.{Returned, InterfaceModeReached, InterfaceModeWithPK}
use Rattle.recovery.specs.Host.{deciding_done, power-failed, HostModeReached, HostModeWithPK}
use Rattle.recovery.proofs.Invariant.{Holding, holding-blocks}
use Rattle.recovery.proofs.StartingUp.{ready_of}
use Rattle.recovery.proofs.EveryCall.{plan-refused, Accepted, accepted}
use Rattle.recovery.proofs.Theorem.{ready-values, all_made, book-cond, run_holds}
use Rattle.recovery.proofs.Done.{call-accepted, call-leaves, call-done, writes-not}
use Rattle.recovery.proofs.Views.{view-steps-other, all-other, mode-ours}
use Rattle.recovery.proofs.Claims.{wholly-done-or-undone}
use Rattle.recovery.proofs.Usable.{cut-feeds}
use Rattle.recovery.proofs.Judging.{modes-seen}
use Rattle.recovery.proofs.Isolation.{changes_asked, entered-asked, no_start, asked-keeps}
use Rattle.recovery.proofs.Interface.{calls-run, begun-begins}
use Rattle.recovery.proofs.Host.{told-stores, told-unbroken, told-decided, hosting-holds, host-begins, host-keeps-the-book}

-- ---- a call that breaks no rule

call-moves : (c : Call) (img : List ℕ) → Sized c → call_broken c img ≡ none → Moves (mode_of (values_of img)) (mode_of (entered c (values_of img)))
unfolding entered steps
call-moves (set m s r) img sized e = changes-move r (values_of img) (set_apart m s r img e) (remove-present m s r img e)
call-moves (get m s k buffer) img sized e = stays (mode_of (values_of img))
call-moves (next m s k buffer) img sized e = stays (mode_of (values_of img))
call-moves (start_up_def setup) img sized e = stays (mode_of (values_of img))
call-moves (several m s ks buffer) img sized e = stays (mode_of (values_of img))
call-moves (profile m s file) img sized e = items-move m s (items_in file) (values_of img) (file-form file) (profile-items m s file img e)
call-moves (mode m s to) img sized e = mode-moves to (values_of img)

pub modes-move : ModesMove
modes-move c img x count sized n h =
    subst (λ (vs : List Value). Moves (mode_of (values_of img)) (mode_of vs)) (sym (call-done c img x count sized n h).3)
    (call-moves c img sized (call-accepted c img x count h))

-- a mode request comes to the mode that it names: it is not refused by 24, so it makes changes
pub changes-asked : (m : Bool) (s : Session) (to : ℕ) (img : List ℕ) → mode_broken m s to img ≡ none → is_empty (mode_changes to (values_of img)) ≡ false
unfolding mode_broken mode_rules image_rules_in rule24
changes-asked m s to img e = unbroken _ 24 e

reached : (m : Bool) (s : Session) (to : ℕ) (img : List ℕ) → mode_broken m s to img ≡ none → (w : ℕ)
    → mode_named to ≡ some (mode_of (values_of (apply_all (stores_of w (mode_plan m s to img)) img)))
unfolding entered
reached m s to img e w =
    mode-reached to (values_of img) (changes-asked m s to img e)
    ∙ ap (λ (vs : List Value). some (mode_of vs)) (sym (call-leaves (mode m s to) img tt (writes-not false (mode_changes to)) e w).held)

pub mode-is-reached : ModeReached
mode-is-reached m s to img x count h =
    reached m s to img (call-accepted (mode m s to) img x count h) (page_of x)
    ∙ ap (λ (left : List ℕ). some (mode_of (values_of left))) (sym (all_made x count (mode_plan m s to img) img h))

-- ---- any call of a run, by what the book is fed: nothing of one that is refused

module _ {b : ℕ} (c : Call) (img : List ℕ) (K : List Value) (sized : Sized c) (holds : Holding b K img) where
  -- where no rule is broken, the image holds K, or the call enters nothing
  entered-moves : call_broken c img ≡ none → Moves (mode_of K) (mode_of (entered c K))
  unfolding entered steps
  entered-moves e = by_kind (kind_of c) (accepted c img sized e) (call-moves c img sized e)
    where
      by_kind : (k : Kind) → Accepted k img → Moves (mode_of (values_of img)) (mode_of (steps (changes_by k (values_of img)) (values_of img)))
          → Moves (mode_of K) (mode_of (steps (changes_by k K) K))
      by_kind reads a h = stays (mode_of K)
      by_kind (writes fold changes) a h =
          subst (λ (vs : List Value). Moves (mode_of vs) (mode_of (steps (changes vs) vs))) (ready-values img K (ready_of img a.long a.ready) holds) h
      by_kind (starts_up setup) a h = stays (mode_of K)

  pub fed-with-pk : (fed : Plan → Bool) → ((rule : Rule) → fed (refuse rule) ≡ false) → WithPK c K (book_after c (fed (plan_of c img)) K)
  fed-with-pk fed none-fed = go (call_broken c img) refl
    where
      one : (t : Bool) → (t ≡ true → call_broken c img ≡ none) → WithPK c K (book_after c t K)
      one true e = subst (WithPK c K) (sym (book-cond c true K)) (inr refl, entered-moves (e refl))
      one false e = subst (WithPK c K) (sym (book-cond c false K)) (inl refl, stays (mode_of K))

      go : (o : Option Rule) → call_broken c img ≡ o → WithPK c K (book_after c (fed (plan_of c img)) K)
      go none e = one (fed (plan_of c img)) (λ h. e)
      go (some rule) e = one (fed (plan_of c img)) (λ h. absurd (true≢false (sym h ∙ ap fed (plan-refused c img rule e) ∙ none-fed rule)))

pub mode-with-pk : ModeWithPK
mode-with-pk start img book st run c sized = (
  λ x u y count h. whole (page_of x) (made_of x (plan_of c img) img) (values.0 x u y count h),
  λ w k left at u y count h. whole w k (values.1 w k left at u y count h),
)
  where
    values : ((x : Context) → DoneOrUndone (page_of x) c img book (made_of x (plan_of c img) img) (image_after x (plan_of c img) img))
        × ((w k : ℕ) (left : List ℕ) → Cut (stores_of w (plan_of c img)) k img left → DoneOrUndone w c img book k left)
    values = wholly-done-or-undone start img book st run c sized

    whole : (w k : ℕ) {vs : List Value} → vs ≡ cond (decided w k (plan_of c img)) (entered c book) book → WithPK c book vs
    whole w k e =
        subst (WithPK c book) (sym (e ∙ sym (book-cond c (decided w k (plan_of c img)) book)))
        (fed-with-pk c img book sized (run_holds start st run) (λ p. decided w k p) (cut-feeds w k))

-- ---- the modem

pub modem-keeps-mode : ModemKeepsMode
modem-keeps-mode s a img x count sized h =
    let c = call_of true s a in
    let g = s.setup.modem.vendor in
    let cs = changes_asked true s a (values_of img) in
    let left : values_of (image_after x (plan_of c img) img) ≡ steps cs (values_of img) =
    (call-done c img x count sized (no_start true s a) h).3 ∙ entered-asked true s a (values_of img) in
    let own = (asked-keeps true s a img sized (call-accepted c img x count h)).own in
    ap mode_of left
    ∙ modes-seen g false (steps cs (values_of img)) (values_of img) (view-steps-other g false cs (values_of img) (all-other g true cs own)) (mode-ours g)

-- ---- through the interface

pub interface-mode-reached : InterfaceModeReached
interface-mode-reached m s to x img img' stores made =
    mode-is-reached m s to img x stores (sym made.0) ∙ ap (λ (left : List ℕ). some (mode_of (values_of left))) (sym made.1)

pub interface-mode-with-pk : InterfaceModeWithPK
unfolding plan_of start_up_plan
interface-mode-with-pk start img img' left book c x y setup stores begun calls sized ended up =
    let all = mode-with-pk start img book (begun-begins start begun) (calls-run calls) c sized in
    subst (λ (l : List ℕ). WithPK c book (values_of l)) (sym up.1) (by all ended)
  where
    by : ((x : Context) → LeavesWithPK c book (image_after x (plan_of c img) img))
        × ((w k : ℕ) (left : List ℕ) → Cut (stores_of w (plan_of c img)) k img left → LeavesWithPK c book left)
        → ((a : Answer) × Returned c x img img' a) ⊎ ((k : ℕ) × Cut (stores_of (page_of x) (plan_of c img)) k img img')
        → WithPK c book (values_of (image_after y (start_up_plan setup img') img'))
    by all (inl r) = subst (LeavesWithPK c book) (sym r.1.1) (all.0 x) setup y stores (sym up.0)
    by all (inr k) = all.1 (page_of x) k.0 img' k.1 setup y stores (sym up.0)

-- ---- of a host

pub host-mode-reached : HostModeReached
host-mode-reached m s to part content p planned zero w =
    reached m s to part (told-unbroken (mode m s to) part content p planned zero) w
    ∙ ap (λ (ss : List Store). some (mode_of (values_of (apply_all ss part)))) (sym (told-stores w (mode_plan m s to part) content p planned))

pub host-mode-with-pk : HostModeWithPK
host-mode-with-pk setup start part part' content again book c p up w k begun hosting sized planned left started zero v =
    let ready = host-begins start begun in
    let holds = hosting-holds start ready hosting in
    let here = subst (λ (n : ℕ). Holding n book part) (sym (holding-blocks (blocks start) book part holds)) holds in
    let next = power-failed hosting c sized content p planned w k left in
    let values = (host-keeps-the-book setup start part' again (book_after c (deciding_done w k content p) book) up begun next started).0 zero v in
    subst (WithPK c book) (told-decided w book part c sized here content p planned k ∙ sym values)
    (fed-with-pk c part book sized holds (λ q. decided w k q) (cut-feeds w k))
