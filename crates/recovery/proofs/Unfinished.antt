-- How many start-ups have stores to make. A call that breaks no rule and has all its stores complete leaves the image ready for calls, and on such an image a start-up has none to
-- make: so before each that has some, and after the one before it, there is a call that did not run to its end.
-- Assumes nothing.
use Prim.Native.Nat.{ℕ, zero, suc, ◌+◌, ◌≤◌}
use native.Mathlib.Nat.{le_of_suc-le-suc}
use native.Mathlib.Omega.{arith}
use mathlib.Core.Path.{◌≡◌, refl, sym, ◌∙◌, subst}
use mathlib.Core.Logic.{inl, inr}
use mathlib.Core.Bool.{Bool, true, false, not}
use mathlib.Core.List.{List, [], ◌∷◌}
use mathlib.Core.Option.{Option, none, some}
use lib.ListN.{length}
use lib.Dec.{ltb}
use borrow.Author.Tests.{ltb-false}
use Rattle.model.specs.declared.Rule.{Rule}
use Rattle.model.specs.Lists.{on_some}
use Rattle.model.specs.Entry.{Value}
use Rattle.model.specs.Work.{ready_for_call}
use Rattle.model.specs.Stores.{Store, apply, apply_all, after, Cut}
use Rattle.model.specs.Set.{Plan}
use Rattle.model.specs.Answers.{stores_of}
use Rattle.model.specs.Book.{Call, call_broken, Kind, reads, writes, starts_up, kind_of, plan_of, Sized}
use Rattle.recovery.specs.Wear.{busy_by, busy_start_up, Step, count, busy_start_ups, unfinished, StartUpsBounded}
use Rattle.recovery.proofs.Invariant.{Holding, holding-blocks}
use Rattle.recovery.proofs.StartingUp.{Ready, ready_of, ready-is, ready-rests}
use Rattle.recovery.proofs.EveryCall.{plan-refused}
use Rattle.recovery.proofs.Theorem.{CallKept, cut-none, holding-right, call_kept, begins-ready}
use Rattle.recovery.proofs.Done.{kept-left}
use Rattle.recovery.proofs.Wear.{one_if, one-most, count-more, History, fresh, next, history-holds, run-history}

-- a cut with all stores complete has begun no other
cut_all : (ss : List Store) (k : ℕ) (img img' : List ℕ) → length ss ≤ k → Cut ss k img img' → img' ≡ apply_all ss img
unfolding after apply_all
cut_all [] k img img' h left = cut-none k img img' left
cut_all (s ∷ ss) zero img img' h left = absurd (omega arith)
cut_all (s ∷ ss) (suc k) img img' h (inl e) = cut_all ss k (apply s img) img' (le_of_suc-le-suc h) (inl e)
cut_all (s ∷ ss) (suc k) img img' h (inr u) = cut_all ss k (apply s img) img' (le_of_suc-le-suc h) (inr u)

-- 1 for an image that is not ready for calls
abbrev waits : List ℕ → ℕ
waits img = one_if (not (ready_for_call img))

module _ {b : ℕ} (img img' : List ℕ) (book : List Value) (holds : Holding b book img) where
  -- a start-up that has stores to make finds an image that is not ready
  busy-waits : (k : Kind) → one_if (busy_by k img) ≤ waits img
  busy-waits reads = omega arith
  busy-waits (writes fold changes) = omega arith
  busy-waits (starts_up setup) = go (ready_for_call img) refl
    where
      go : (t : Bool) → ready_for_call img ≡ t → one_if (busy_by (starts_up setup) img) ≤ one_if (not t)
      go true e = rw (ready-rests img (ready_of img (holding-right book img holds).0 e)) (omega arith)
      go false e = one-most (busy_by (starts_up setup) img)

  -- and a call that is accepted leaves one that is ready, or does not run to its end
  call_ends : (w k : ℕ) (c : Call) → Sized c → Cut (stores_of w (plan_of c img)) k img img'
      → one_if (busy_start_up c img) + waits img' ≤ one_if (ltb k (length (stores_of w (plan_of c img)))) + waits img
  unfolding busy_start_up stores_of
  call_ends w k c sized left = go (call_broken c img) refl
    where
      go : (q : Option Rule) → call_broken c img ≡ q
          → one_if (on_some q (λ rule. false) (busy_by (kind_of c) img)) + waits img' ≤ one_if (ltb k (length (stores_of w (plan_of c img)))) + waits img
      go (some rule) e = rw (cut-none k img img' (subst (λ (p : Plan). Cut (stores_of w p) k img img') (plan-refused c img rule e) left)) (omega arith)
      go none e = by (ltb k (length ss)) refl
        where
          ss : List Store
          ss = stores_of w (plan_of c img)

          kept : CallKept c img book
          kept = call_kept c img book sized e (subst (λ (n : ℕ). Holding n book img) (sym (holding-blocks b book img holds)) holds)

          by : (t : Bool) → ltb k (length ss) ≡ t → one_if (busy_by (kind_of c) img) + waits img' ≤ one_if t + waits img
          by true f =
              let l = busy-waits (kind_of c) in
              let m = one-most (not (ready_for_call img')) in
              omega arith
          by false f =
              let l = busy-waits (kind_of c) in
              let end = cut_all ss k img img' (ltb-false k (length ss) f) left ∙ kept-left c img book kept w in
              rw (ready-is img' (subst Ready (sym end) kept.kept.ready)).1 (omega arith)

step-ends : (s : Step) (ss : List Step) (img' : List ℕ) → one_if (busy_start_up s.call s.image) + waits img' ≤ one_if (unfinished s) + waits s.image
    → busy_start_ups ss + waits s.image ≤ count unfinished ss → busy_start_ups (s ∷ ss) + waits img' ≤ count unfinished (s ∷ ss)
step-ends s ss img' one h =
    let a = count-more (λ s. busy_start_up s.call s.image) s ss in
    let c = count-more unfinished s ss in
    omega arith

module _ (start : List ℕ) (ready : Ready start) where
  -- one more call did not run to its end where the image is not ready
  history-ends : {img : List ℕ} {book : List Value} {ss : List Step} → History start img book ss → busy_start_ups ss + waits img ≤ count unfinished ss
  history-ends fresh = rw (ready-is start ready).1 (omega arith)
  history-ends (next {img} {img'} {book} {ss} h c sized w k failed left) =
      step-ends (record { call = c; image = img; book = book; width = w; complete = k; power_failed = failed }) ss img'
      (call_ends img img' book (history-holds start ready h) w k c sized left) (history-ends h)

  pub history-start-ups : {img : List ℕ} {book : List Value} {ss : List Step} → History start img book ss → busy_start_ups ss ≤ count unfinished ss
  history-start-ups h = let l = history-ends h in omega arith

pub start-ups-bounded : StartUpsBounded
start-ups-bounded start img book st run = let i = begins-ready start st in history-start-ups start i (run-history start i run)
