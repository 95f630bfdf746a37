-- What holds of every list of calls to the functions of the interface: by its contract each call is a step of a run, so Demand 3 speaks of it. And what holds of a set that is
-- done in a session of a start-up, which keeps the rules for settings that it was given.
-- Assumes nothing.
use Prim.Native.Nat.{ℕ}
use native.Mathlib.Omega.{arith}
use mathlib.Core.Path.{◌≡◌, refl, sym, ap, ◌∙◌, subst}
use mathlib.Core.Bool.{Bool, true, false, cond}
use mathlib.Core.List.{List, []}
use lib.Dec.{leb}
use lib.Seq.{take-nil}
use Rattle.model.specs.declared.Layout.{Layout}
use Rattle.model.specs.declared.Setup.{Setup}
use Rattle.model.specs.declared.Session.{Session}
use Rattle.model.specs.declared.Answer.TheVariants.{Done}
use Rattle.model.specs.declared.Context.{Context}
use Rattle.model.specs.declared.Rule.{Rule}
use mathlib.Core.Option.{Option, none, some}
use Rattle.model.specs.Layout.{authenticated}
use Rattle.model.specs.Lists.{on_some}
use Rattle.model.specs.Name.{Key}
use Rattle.model.specs.Entry.{Value}
use Rattle.model.specs.Region.{values_of, find}
use Rattle.model.specs.Session.{locked, counted_phase, with_phase, moved_to_def, with_lock_def, locked_session, kept, fresh_session}
use Rattle.model.specs.Request.{request_key}
use Rattle.model.specs.Profile.{items_in}
use Rattle.model.specs.Limits.{Limit, limits_for}
use Rattle.model.specs.Rules.{lock_broken}
use Rattle.model.specs.Stores.{stores, after, apply_all}
use Rattle.model.specs.Set.{refuse, make}
use Rattle.model.specs.StartUp.{start_up_plan}
use Rattle.model.specs.Answers.{Outcome, done, refused, rule_number, answer_of, image_after, made_of, page_of, stores_of, decided, lock_session}
use Rattle.model.specs.Move.{move_broken, move_answer}
use Rattle.model.specs.Book.{Call, start_up_def, call_broken, Kind, reads, kind_of, doing, plan_of, profile_plan, counts, book_after, Run, begin, ran, cut, Begins, started, moved_in}
use Rattle.recovery.specs.Interface.{MoveReturned, Begun, by-start-up, by_move, Calls, none_yet, returned, power-failed, InterfaceKeepsTheBook, InSession, fresh, moved, lock-asked, InterfaceKeepsSettings, InterfaceKeepsProfileSettings}
use Rattle.model.proofs.Files.{each_item}
use Rattle.recovery.specs.Claims.{forbidden}
use Rattle.recovery.proofs.Theorem.{demand3}
use Rattle.recovery.proofs.Done.{sets-keep-settings, profiles-keep-settings}

-- a call that reads leaves the image: what a function that is lent it shared ensures
none_made : (x : Context) (o : Option Rule) (img : List ℕ) → image_after x (on_some o refuse (make [] [])) img ≡ img
unfolding image_after stores_of stores after apply_all
none_made x (some rule) img = rw take-nil
none_made x none img = rw take-nil

pub reading-image : (x : Context) (c : Call) (img : List ℕ) → kind_of c ≡ reads → image_after x (plan_of c img) img ≡ img
unfolding plan_of
reading-image x c img e =
    ap (λ (k : Kind). image_after x (on_some (call_broken c img) refuse (doing k img)) img) e ∙ none_made x (call_broken c img) img

-- so the calls are a run
pub calls-run : {start img : List ℕ} {book : List Value} → Calls start img book → Run start img book
calls-run none_yet = begin
calls-run {start} (returned {img} {img'} {book} calls c sized x a m) =
    let made = made_of x (plan_of c img) img in
    subst
    (λ (i : List ℕ). Run start i (book_after c (counts (answer_of a) (decided (page_of x) made (plan_of c img))) book))
    (sym m.1)
    (subst
    (λ (o : Outcome). Run start (image_after x (plan_of c img) img) (book_after c (counts o (decided (page_of x) made (plan_of c img))) book))
    (sym m.0)
    (ran (calls-run calls) c sized x))
calls-run (power-failed calls c sized x k left) = cut (calls-run calls) c sized (page_of x) k left

-- ---- what they begin on

-- a move that returned done broke no rule
accepted-move : (from to : Layout) (source target : List ℕ) → done 0 ≡ move_answer from to source target → move_broken from to source target ≡ none
unfolding move_answer
accepted-move from to source target h = go (move_broken from to source target) refl h
  where
    go : (o : Option Rule) → move_broken from to source target ≡ o → done 0 ≡ on_some o (λ rule. refused (rule_number rule)) (done 0)
        → move_broken from to source target ≡ none
    go none e h = e
    go (some rule) e h = let z : ◌≡◌ {A = ℕ} 0 1 = cc in absurd (omega arith)

pub move-begins : (start : List ℕ) (from : Layout) (source target : List ℕ) → MoveReturned from authenticated source target start (Done 0) → Begins start
move-begins start from source target m =
    moved_in (record { form = from; source = source; target = target; accepted = accepted-move from authenticated source target m.0; left = m.1 })

pub begun-begins : (start : List ℕ) → Begun start → Begins start
unfolding plan_of start_up_plan
begun-begins start (by-start-up before bytes setup x stores up) =
    started (record { setup = setup; before = before; bytes = bytes; context = x; stores = stores; finished = sym up.0; left = up.1 })
begun-begins start (by_move from source target m) = move-begins start from source target m

pub interface-keeps-the-book : InterfaceKeepsTheBook
unfolding plan_of start_up_plan
interface-keeps-the-book start img img' book setup x stores begun calls again =
    let all = demand3 start _ _ (begun-begins start begun) (ran (calls-run calls) (start_up_def setup) tt x) in
    ap values_of again.1 ∙ all.1 stores (sym again.0)

-- ---- the sessions of a start-up

-- phases and locks leave what the start-up was given
moved-setup : (s : Session) (p : ℕ) → (moved_to_def s p).setup ≡ s.setup
unfolding moved_to_def with_phase
moved-setup s p = go (leb (counted_phase p) (counted_phase s.phase))
  where
    go : (b : Bool) → (cond b s (with_phase s (counted_phase p))).setup ≡ s.setup
    go true = refl
    go false = refl

lock-setup : (m : Bool) (s : Session) (k : Key) → (lock_session m s k).setup ≡ s.setup
unfolding lock_session locked_session with_lock_def
lock-setup m s k = go (lock_broken m s k) (locked s k)
  where
    go : (o : Option Rule) (b : Bool) → (on_some o (λ rule. s) (cond b s (with_lock_def s k))).setup ≡ s.setup
    go (some rule) b = refl
    go none true = refl
    go none false = refl

pub kept-setup : {setup : Setup} {s : Session} → InSession setup s → s.setup ≡ kept setup
unfolding fresh_session
kept-setup fresh = refl
kept-setup (moved {s} i p) = moved-setup s p ∙ kept-setup i
kept-setup (lock-asked {s} i m k) = lock-setup m s k ∙ kept-setup i

-- and the rules among it are kept as they were given
kept-limits : (setup : Setup) (k : Key) → limits_for (kept setup) k ≡ limits_for setup k
unfolding kept
kept-limits setup k = refl

pub session-limits : {setup : Setup} {s : Session} → InSession setup s → (k : Key) → limits_for s.setup k ≡ limits_for setup k
session-limits {setup} i k = ap (λ (u : Setup). limits_for u k) (kept-setup i) ∙ kept-limits setup k

pub interface-keeps-settings : InterfaceKeepsSettings
interface-keeps-settings setup m s r x img img' stores i long made =
    let k = request_key r in
    let left : forbidden (limits_for s.setup k) (find k (values_of img')) ≡ false =
    ap (λ (y : List ℕ). forbidden (limits_for s.setup k) (find k (values_of y))) made.1 ∙ sets-keep-settings m s r img x stores long (sym made.0) in
    ap (λ (ls : List Limit). forbidden ls (find k (values_of img'))) (sym (session-limits i k)) ∙ left

pub interface-keeps-profile-settings : InterfaceKeepsProfileSettings
interface-keeps-profile-settings setup m s file x img img' stores i made =
    rw made.1
    (each_item (items_in file)
    (λ r h. ap (λ (ls : List Limit). forbidden ls (find (request_key r) (values_of (image_after x (profile_plan m s file img) img)))) (sym (session-limits i (request_key r))) ∙ h)
    (profiles-keep-settings m s file img x stores (sym made.0)))
