-- What calls wear, all together: the bounds on each block's erases, and the planners' figure; of a run, of the interface, and of a host that carries out plans.
-- Assumes nothing.
use Prim.Native.Nat.{ℕ, suc, ◌+◌, ◌*◌, ◌≤◌}
use native.Mathlib.Nat.{add-mul, suc-mul, mul-le-mul_right}
use native.Mathlib.Omega.{arith}
use mathlib.Core.Logic.{inl}
use mathlib.Core.Path.{refl, sym, subst}
use mathlib.Core.Bool.{true, false}
use mathlib.Core.List.{List, ◌∷◌}
use lib.ListN.{length}
use lib.Dec.{eqb}
use Rattle.model.specs.Image.{blocks, work}
use Rattle.model.specs.Entry.{Value}
use Rattle.model.specs.Work.{record_space}
use Rattle.model.specs.Stores.{Store, after, Cut}
use Rattle.model.specs.Answers.{Outcome, answer_of, page_of, made_of, image_after, stores_of, decided}
use Rattle.model.specs.Book.{plan_of, counts, book_after}
use Rattle.recovery.specs.Interface.{Calls, none_yet, returned, power-failed}
use Rattle.recovery.specs.Host.{Hosting}
use Rattle.recovery.specs.Host as host
use Rattle.recovery.specs.Wear.{to_compact, busy_start_up, Step, steps_in, shorts, others, busy_start_ups, due, power_failures, to_store_in, erases_by, erased, WorkBounded, ErasesBounded, FigureHolds, PlannersFigure, Wears, steps_of_calls, InterfaceWears, steps_of_host, HostWears}
use Rattle.recovery.proofs.Invariant.{Holding, holding-blocks}
use Rattle.recovery.proofs.StartingUp.{Ready}
use Rattle.recovery.proofs.Theorem.{begins-ready}
use Rattle.recovery.proofs.Interface.{begun-begins}
use Rattle.recovery.proofs.Host.{told-stores, told-left, told-decided, told-carried, host-begins}
use Rattle.recovery.proofs.Wear.{one_if, count-more, History, fresh, next, history-holds, history-ran, run-history, history-first, history-shorts}
use Rattle.recovery.proofs.Unfinished.{history-start-ups}
use Rattle.recovery.proofs.Erasing.{blocks-bounded}
use Rattle.recovery.proofs.WorkErases.{used_in, used-most, call-cost}

-- ---- the work block

abbrev cost : List Step → ℕ
cost ss = due ss + 65 * busy_start_ups ss + record_space * power_failures ss

step-cost : (b before : ℕ) (s : Step) (ss : List Step) (img' : List ℕ)
    → record_space * erases_by b s + used_in img' ≤ used_in s.image + one_if (to_compact s.call s.image s.book) + 65 * one_if (busy_start_up s.call s.image) + record_space * one_if s.power_failed
    → record_space * erased b ss + used_in s.image ≤ before + cost ss → record_space * erased b (s ∷ ss) + used_in img' ≤ before + cost (s ∷ ss)
unfolding erased
step-cost b before s ss img' one h =
    let a = count-more (λ s. to_compact s.call s.image s.book) s ss in
    let c = count-more (λ s. busy_start_up s.call s.image) s ss in
    let d = count-more (λ s. s.power_failed) s ss in
    omega arith

module _ (start : List ℕ) (ready : Ready start) where
  -- 64 for every erase, and the records that are used
  history-cost : {img : List ℕ} {book : List Value} {ss : List Step} → History start img book ss → record_space * erased (blocks start) ss + used_in img ≤ used_in start + cost ss
  unfolding erased erases_by
  history-cost fresh = omega arith
  history-cost (next {img} {img'} {book} {ss} h c sized w k failed left) =
      step-cost (blocks start) (used_in start) (record { call = c; image = img; book = book; width = w; complete = k; power_failed = failed }) ss img'
      (call-cost img img' book (history-holds start ready h) w k failed c sized left) (history-cost h)

pub work-bounded : (start img : List ℕ) (book : List Value) (ss : List Step) → Ready start → History start img book ss → WorkBounded (blocks start) ss
work-bounded start img book ss ready history =
    let h = history-cost start ready history in
    let m = used-most (work start) in
    omega arith

-- ---- the figure

figure : (e s o a t : ℕ) → e ≤ s + o → s * a ≤ a + t → e * a ≤ suc o * a + t
figure e s o a t h l =
    let m = mul-le-mul_right a h in
    let d = add-mul s o a in
    let n = suc-mul o a in
    omega arith

pub figure-holds : (start img : List ℕ) (book : List Value) (ss : List Step) → Ready start → History start img book ss → FigureHolds (blocks start) ss
figure-holds start img book ss ready history least l j other =
    let h = blocks-bounded start img book ss ready history j other in
    figure (erased j ss) (shorts ss) (others ss + busy_start_ups ss) (suc least) (to_store_in ss) (omega arith) (history-shorts start img book ss ready history least l)

-- ---- of a run

pub erases-bounded : ErasesBounded
erases-bounded start img book st run =
    let i = begins-ready start st in
    let h = run-history start i run in
    (blocks-bounded start img book (steps_in run) i h, work-bounded start img book (steps_in run) i h)

pub planners-figure : PlannersFigure
planners-figure start img book st run = let i = begins-ready start st in figure-holds start img book (steps_in run) i (run-history start i run)

-- ---- of the interface and of a host

history-wears : (start img : List ℕ) (book : List Value) (ss : List Step) → Ready start → History start img book ss → Wears start ss img book
history-wears start img book ss ready h = (
  history-first start ready h,
  history-shorts start img book ss ready h,
  history-start-ups start ready h,
  blocks-bounded start img book ss ready h,
  work-bounded start img book ss ready h,
  figure-holds start img book ss ready h,
)

calls-history : (start : List ℕ) → Ready start → {img : List ℕ} {book : List Value} → (calls : Calls start img book) → History start img book (steps_of_calls calls)
unfolding steps_of_calls
calls-history start ready none_yet = fresh
calls-history start ready (returned {img} {img'} {book} calls c sized x a m) =
    let k = made_of x (plan_of c img) img in
    let steps : List Step = record { call = c; image = img; book = book; width = page_of x; complete = k; power_failed = false } ∷ steps_of_calls calls in
    subst (λ (i : List ℕ). History start i (book_after c (counts (answer_of a) (decided (page_of x) k (plan_of c img))) book) steps) (sym m.1)
    (subst (λ (o : Outcome). History start (image_after x (plan_of c img) img) (book_after c (counts o (decided (page_of x) k (plan_of c img))) book) steps) (sym m.0)
    (history-ran start ready (calls-history start ready calls) c sized x))
calls-history start ready (power-failed calls c sized x k left) = next (calls-history start ready calls) c sized (page_of x) k true left

pub interface-wears : InterfaceWears
interface-wears start img book begun calls =
    let i = begins-ready start (begun-begins start begun) in
    history-wears start img book (steps_of_calls calls) i (calls-history start i calls)

host-history : (start : List ℕ) → Ready start → {part : List ℕ} {book : List Value} → (hosting : Hosting start part book) → History start part book (steps_of_host hosting)
unfolding steps_of_host
host-history start ready host.none_yet = fresh
host-history start ready (host.carried-out {part} {book} hosting c sized content p planned w) =
    let plan = plan_of c part in
    let k = length (stores_of w plan) in
    let h = host-history start ready hosting in
    let holds = history-holds start ready h in
    let here = subst (λ (n : ℕ). Holding n book part) (sym (holding-blocks (blocks start) book part holds)) holds in
    let steps : List Step = record { call = c; image = part; book = book; width = w; complete = k; power_failed = false } ∷ steps_of_host hosting in
    subst (λ (x : List ℕ). History start x (book_after c (eqb p.rule 0) book) steps) (sym (told-left w plan content p part planned))
    (subst (λ (vs : List Value). History start (after k (stores_of w plan) part) vs steps) (told-carried w book part c sized here content p planned)
    (next h c sized w k false (inl refl)))
host-history start ready (host.power-failed {part} {part'} {book} hosting c sized content p planned w k left) =
    let h = host-history start ready hosting in
    let holds = history-holds start ready h in
    let here = subst (λ (n : ℕ). Holding n book part) (sym (holding-blocks (blocks start) book part holds)) holds in
    let steps : List Step = record { call = c; image = part; book = book; width = w; complete = k; power_failed = true } ∷ steps_of_host hosting in
    subst (λ (vs : List Value). History start part' vs steps) (told-decided w book part c sized here content p planned k)
    (next h c sized w k true (subst (λ (ss : List Store). Cut ss k part part') (told-stores w (plan_of c part) content p planned) left))

pub host-wears : HostWears
host-wears start part book begun hosting =
    let i = host-begins start begun in
    history-wears start part book (steps_of_host hosting) i (host-history start i hosting)
