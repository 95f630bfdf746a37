-- What holds of every run of a host: with every w the stores of the numbers that it was told are those that the definitions plan, all together and up to the deciding
-- one, so each of its calls keeps the invariant of a run with the book.
-- Assumes nothing.
use Prim.Native.Nat.{ℕ, suc, ◌+◌}
use native.Mathlib.Omega.{arith}
use mathlib.Core.Path.{◌≡◌, refl, sym, ap, ap₂, ◌∙◌, subst}
use mathlib.Core.Bool.{Bool, true, false, cond, not, ◌&&◌, true≢false}
use mathlib.Core.List.{List, [], ◌∷◌, ◌++◌, append_assoc}
use mathlib.Core.Logic.{inl}
use mathlib.Core.Option.{Option, none, some}
use lib.ListN.{length, take, drop, length-append, take-append-drop}
use lib.Dec.{eqb, leb, ltb}
use borrow.Author.Tests.{le-leb}
use Rattle.model.specs.declared.Setup.{Setup}
use Rattle.model.specs.declared.Rule.{Rule}
use Rattle.model.specs.declared.Rule.TheVariants as rule
use Rattle.model.specs.Lists.{is_empty}
use Rattle.model.specs.Sides.{allotted}
use Rattle.model.specs.Image.{blocks, region_size}
use Rattle.model.specs.Entry.{Value}
use Rattle.model.specs.Region.{values_of, find}
use Rattle.model.specs.Request.{request_key}
use Rattle.model.specs.Rules.{start_up_broken}
use Rattle.model.specs.Stores.{Store, Write, stores, apply_all, after, Cut}
use Rattle.model.specs.Set.{Plan, refuse, make}
use Rattle.model.specs.StartUp.{start_up_plan, start_up_stores}
use Rattle.model.specs.Answers.{rule_number, stores_of, decided}
use Rattle.model.specs.Book.{Call, set, profile, call_broken, plan_of, set_plan, profile_plan, Sized, entered, book_after}
use Rattle.model.specs.Limits.{Limit}
use Rattle.model.specs.Profile.{items_in}
use Rattle.model.proofs.Stores.{after-all, stores-append}
use Rattle.plan.specs.declared.HostOp.{HostOp}
use Rattle.plan.specs.declared.HostPlan.{HostPlan}
use Rattle.plan.specs.Planned.{up_to}
use Rattle.plan.specs.Told.{stores_of_numbers, expand_numbers, no_operations_def, refusal_of, Told}
use Rattle.recovery.specs.Claims.{forbidden}
use Rattle.recovery.specs.Host.{carried_out, deciding_done, Hosting, none_yet, carried-out, power-failed, HostBegun, by-start-up, by_move, HostKeepsTheBook, HostKeepsSettings, HostKeepsProfileSettings}
use Rattle.model.proofs.Files.{each_item}
use Rattle.recovery.proofs.Invariant.{Holding, holding-blocks}
use Rattle.recovery.proofs.EveryCall.{plan-refused}
use Rattle.recovery.proofs.Done.{settings-kept, profile-settings}
use Rattle.recovery.proofs.Interface.{move-begins, session-limits}
use Rattle.recovery.proofs.StartingUp.{Ready, ready-holds}
use Rattle.recovery.proofs.Theorem.{call_kept, book-cond, call-cut, start_up-plan, start_up-refused, start_up-leaves, start_up-holds, holding-judged, begins-ready}

-- ---- the stores that were told

numbers-append : (content : List ℕ) (xs ys : List HostOp) → expand_numbers content (xs ++ ys) ≡ expand_numbers content xs ++ expand_numbers content ys
unfolding expand_numbers
numbers-append content [] ys = refl
numbers-append content (x ∷ xs) ys =
    ap (λ (l : List Write). stores_of_numbers content x ++ l) (numbers-append content xs ys)
    ∙ sym (append_assoc (stores_of_numbers content x) (expand_numbers content xs) (expand_numbers content ys))

nothing-told : (content : List ℕ) → expand_numbers content [] ≡ []
unfolding expand_numbers
nothing-told content = refl

none-stored : (content : List ℕ) → expand_numbers content no_operations_def ≡ []
unfolding expand_numbers stores_of_numbers no_operations_def
none-stored content = refl

-- all operations told are all stores planned
pub told-stores : (w : ℕ) (plan : Plan) (content : List ℕ) (p : HostPlan) → Told plan content p → stores w (expand_numbers content p.ops) ≡ stores_of w plan
unfolding stores_of stores refusal_of
told-stores w (refuse r) content p e = ap (λ (h : HostPlan). stores w (expand_numbers content h.ops)) e ∙ ap (stores w) (none-stored content)
told-stores w (make to on) content p t =
    let n = up_to p.deciding in
    ap (stores w)
    (ap (expand_numbers content) (sym (take-append-drop n p.ops))
    ∙ numbers-append content (take n p.ops) (drop n p.ops)
    ∙ ap₂ (λ (x y : List Write). x ++ y) t.1 t.2)

pub told-left : (w : ℕ) (plan : Plan) (content : List ℕ) (p : HostPlan) (part : List ℕ) → Told plan content p
    → carried_out w content p part ≡ after (length (stores_of w plan)) (stores_of w plan) part
told-left w plan content p part t =
    ap (λ (ss : List Store). apply_all ss part) (told-stores w plan content p t) ∙ sym (after-all (length (stores_of w plan)) (stores_of w plan) part (omega arith))

-- ---- the rule told

pub no-rule-zero : (r : Rule) → eqb (rule_number r) 0 ≡ false
no-rule-zero rule.Length = refl
no-rule-zero rule.Unready = refl
no-rule-zero rule.Name = refl
no-rule-zero rule.Attributes = refl
no-rule-zero rule.KeyAttributes = refl
no-rule-zero rule.Locked = refl
no-rule-zero rule.Standing = refl
no-rule-zero rule.Descriptor = refl
no-rule-zero rule.Verdict = refl
no-rule-zero rule.Stamp = refl
no-rule-zero rule.Absent = refl
no-rule-zero rule.DataSize = refl
no-rule-zero rule.Room = refl
no-rule-zero rule.Buffer = refl
no-rule-zero rule.LockPhase = refl
no-rule-zero rule.LockSpace = refl
no-rule-zero rule.RecordName = refl
no-rule-zero rule.RecordSpace = refl
no-rule-zero rule.Source = refl
no-rule-zero rule.TimeBased = refl
no-rule-zero rule.Setting = refl
no-rule-zero rule.Side = refl
no-rule-zero rule.Worn = refl
no-rule-zero rule.Mode = refl
no-rule-zero rule.File = refl
no-rule-zero rule.Twice = refl
no-rule-zero rule.Script = refl

-- rule 0 is told of a plan that is accepted only
pub told-accepted : (plan : Plan) (content : List ℕ) (p : HostPlan) → Told plan content p → p.rule ≡ 0 → (r : Rule) → plan ≡ refuse r → ⊥
unfolding refusal_of
told-accepted plan content p t z r e =
    let refused : Told (refuse r) content p = subst (λ (q : Plan). Told q content p) e t in
    true≢false (sym (ap (λ (n : ℕ). eqb n 0) z) ∙ ap (λ (h : HostPlan). eqb h.rule 0) refused ∙ no-rule-zero r)

-- ---- the deciding operation told

-- a call of a run whose plan has no deciding store leaves the book
none-decides : (K : List Value) (part : List ℕ) (c : Call) → Sized c → Holding (blocks part) K part → (to on : List Write) → plan_of c part ≡ make to on → is_empty to ≡ true
    → entered c K ≡ K
none-decides K part c sized holds to on e h = go (call_broken c part) refl
  where
    same-to : (to to' on on' : List Write) → make to on ≡ make to' on' → to ≡ to'
    same-to to to' on on' e = cc

    not-both : (r : Rule) → refuse r ≡ make to on → ⊥
    not-both r e = let z : ◌≡◌ {A = ℕ} 0 1 = cc in omega arith

    go : (o : Option Rule) → call_broken c part ≡ o → entered c K ≡ K
    go none f =
        let kept = call_kept c part K sized f holds in
        kept.decides (ap is_empty (same-to kept.to to kept.on on (sym kept.plan ∙ e)) ∙ h)
    go (some r) f = absurd (not-both r (sym (plan-refused c part r f) ∙ e))

-- in the plan's own numbers, or by the definitions: the book is the same
module _ (w : ℕ) (K : List Value) (part : List ℕ) (c : Call) (sized : Sized c) (holds : Holding (blocks part) K part) (content : List ℕ) (p : HostPlan) (t : Told (plan_of c part) content p) where
  -- told of a plan with an empty front that it is complete: the call leaves the book anyway
  by_front : (to on : List Write) → plan_of c part ≡ make to on → (e : Bool) → is_empty to ≡ e → (t : Bool)
      → book_after c (not e && t) K ≡ book_after c t K
  by_front to on e false f t = refl
  by_front to on e true f false = refl
  by_front to on e true f true = book-cond c false K ∙ sym (none-decides K part c sized holds to on e f) ∙ sym (book-cond c true K)

  -- cut after k stores
  pub told-decided : (k : ℕ) → book_after c (decided w k (plan_of c part)) K ≡ book_after c (deciding_done w k content p) K
  unfolding decided refusal_of
  told-decided k = by-plan (plan_of c part) refl t
    where
      empty : (to : List Write) → [] ≡ to → (not (is_empty to) && leb (length (stores w to)) k) ≡ false
      empty to e = rw (sym e)

      by_number : (to on : List Write) → plan_of c part ≡ make to on → (d : Bool) → ltb p.deciding 12 ≡ d
          → expand_numbers content (take (cond d (suc p.deciding) 0) p.ops) ≡ to
          → book_after c (not (is_empty to) && leb (length (stores w to)) k) K
          ≡ book_after c (d && leb (length (stores w (expand_numbers content (take (suc p.deciding) p.ops)))) k) K
      by_number to on e true f g =
          by_front to on e (is_empty to) refl (leb (length (stores w to)) k) ∙ ap (λ (ws : List Write). book_after c (leb (length (stores w ws)) k) K) (sym g)
      by_number to on e false f g = ap (λ (t : Bool). book_after c t K) (empty to (sym (nothing-told content) ∙ g))

      by-plan : (plan : Plan) → plan_of c part ≡ plan → Told plan content p → book_after c (decided w k plan) K ≡ book_after c (deciding_done w k content p) K
      by-plan (refuse r) e t = ap (λ (h : HostPlan). book_after c (deciding_done w k content h) K) (sym t)
      by-plan (make to on) e t = by_number to on e (ltb p.deciding 12) refl t.1

  -- carried out: the rule 0 tells that it is done
  pub told-carried : book_after c (decided w (length (stores_of w (plan_of c part))) (plan_of c part)) K ≡ book_after c (eqb p.rule 0) K
  unfolding decided stores_of refusal_of
  told-carried = by-plan (plan_of c part) refl t
    where
      by-plan : (plan : Plan) → plan_of c part ≡ plan → Told plan content p → book_after c (decided w (length (stores_of w plan)) plan) K ≡ book_after c (eqb p.rule 0) K
      by-plan (refuse r) e t = ap (λ (b : Bool). book_after c b K) (sym (ap (λ (h : HostPlan). eqb h.rule 0) t ∙ no-rule-zero r))
      by-plan (make to on) e t =
          let l : length (stores w (to ++ on)) ≡ length (stores w to) + length (stores w on) = ap length (stores-append w to on) ∙ length-append (stores w to) (stores w on) in
          ap (λ (b : Bool). book_after c (not (is_empty to) && b) K) (le-leb (length (stores w to)) (length (stores w (to ++ on))) (omega arith))
          ∙ by_front to on e (is_empty to) refl true
          ∙ ap (λ (b : Bool). book_after c b K) (sym (ap (λ (n : ℕ). eqb n 0) t.0))

-- ---- so the part holds the book

pub hosting-holds : (start : List ℕ) → Ready start → {part : List ℕ} {book : List Value} → Hosting start part book → Holding (blocks start) book part
hosting-holds start ready none_yet = ready-holds start ready
hosting-holds start ready (carried-out {part} {book} hosting c sized content p planned w) =
    let b = blocks start in
    let holds = hosting-holds start ready hosting in
    let here = subst (λ (n : ℕ). Holding n book part) (sym (holding-blocks b book part holds)) holds in
    let plan = plan_of c part in
    let k = length (stores_of w plan) in
    subst (λ (x : List ℕ). Holding b (book_after c (eqb p.rule 0) book) x) (sym (told-left w plan content p part planned))
    (subst (λ (vs : List Value). Holding b vs (after k (stores_of w plan) part)) (told-carried w book part c sized here content p planned)
    (call-cut w b book part (after k (stores_of w plan) part) c sized holds k (inl refl)))
hosting-holds start ready (power-failed {part} {part'} {book} hosting c sized content p planned w k left) =
    let b = blocks start in
    let holds = hosting-holds start ready hosting in
    let here = subst (λ (n : ℕ). Holding n book part) (sym (holding-blocks b book part holds)) holds in
    subst (λ (vs : List Value). Holding b vs part') (told-decided w book part c sized here content p planned k)
    (call-cut w b book part part' c sized holds k (subst (λ (ss : List Store). Cut ss k part part') (told-stores w (plan_of c part) content p planned) left))

-- ---- what it begins on

-- an accepted start-up's stores, and what they leave
pub start_up-told : (u : Setup) (w : ℕ) (img content : List ℕ) (p : HostPlan) → start_up_broken u img ≡ none → Told (start_up_plan u img) content p
    → carried_out w content p img ≡ apply_all (stores w (start_up_stores img)) img
unfolding stores_of
start_up-told u w img content p accepted t =
    ap (λ (ss : List Store). apply_all ss img) (told-stores w (start_up_plan u img) content p t ∙ ap (stores_of w) (start_up-plan u img accepted))

pub host-begins : (start : List ℕ) → HostBegun start → Ready start
host-begins start (by-start-up u before content p bytes up zero w) = go (start_up_broken u before) refl
  where
    go : (o : Option Rule) → start_up_broken u before ≡ o → Ready (carried_out w content p before)
    go none e = subst Ready (sym (start_up-told u w before content p e up)) (start_up-leaves u w before e)
    go (some r) e = absurd (told-accepted (start_up_plan u before) content p up zero r (start_up-refused u before r e))
host-begins start (by_move from source target m) = begins-ready start (move-begins start from source target m)

pub host-keeps-the-book : HostKeepsTheBook
unfolding refusal_of
host-keeps-the-book u start part content book p begun hosting again = (
  λ zero w. left (start_up_broken u part) refl zero w,
  λ fits. (told-as (start_up-plan u part (judged ∙ rw fits))).0,
  λ unfit. ap (λ (h : HostPlan). h.rule) (told-as (start_up-refused u part rule.Side (judged ∙ rw unfit))),
)
  where
    judged : start_up_broken u part ≡ cond (allotted u (region_size part) book) none (some rule.Side)
    judged = holding-judged u book part (hosting-holds start (host-begins start begun) hosting)

    told-as : {plan : Plan} → start_up_plan u part ≡ plan → Told plan content p
    told-as e = subst (λ (x : Plan). Told x content p) e again

    left : (o : Option Rule) → start_up_broken u part ≡ o → p.rule ≡ 0 → (w : ℕ) → values_of (carried_out w content p part) ≡ book
    left none e zero w = ap values_of (start_up-told u w part content p e again) ∙ start_up-holds w book part (hosting-holds start (host-begins start begun) hosting)
    left (some r) e zero w = absurd (told-accepted (start_up_plan u part) content p again zero r (start_up-refused u part r e))

-- ---- rules for settings: rule 0 tells that none is broken

pub told-unbroken : (c : Call) (part content : List ℕ) (p : HostPlan) → Told (plan_of c part) content p → p.rule ≡ 0 → call_broken c part ≡ none
told-unbroken c part content p t zero = go (call_broken c part) refl
  where
    go : (o : Option Rule) → call_broken c part ≡ o → call_broken c part ≡ none
    go none e = e
    go (some r) e = absurd (told-accepted (plan_of c part) content p t zero r (plan-refused c part r e))

pub host-keeps-settings : HostKeepsSettings
host-keeps-settings setup m s r part content p i long planned zero w =
    let k = request_key r in
    let accepted = told-unbroken (set m s r) part content p planned zero in
    ap₂
    (λ (ls : List Limit) (left : List ℕ). forbidden ls (find k (values_of left)))
    (sym (session-limits i k))
    (ap (λ (ss : List Store). apply_all ss part) (told-stores w (set_plan m s r part) content p planned))
    ∙ settings-kept m s r part long accepted w

pub host-keeps-profile-settings : HostKeepsProfileSettings
host-keeps-profile-settings setup m s file part content p i planned zero w =
    let accepted = told-unbroken (profile m s file) part content p planned zero in
    rw (told-stores w (profile_plan m s file part) content p planned)
    (each_item (items_in file)
    (λ r h. ap (λ (ls : List Limit). forbidden ls (find (request_key r) (values_of (apply_all (stores_of w (profile_plan m s file part)) part)))) (sym (session-limits i (request_key r))) ∙ h)
    (profile-settings m s file part accepted w))
