-- A session in use is a history: where what ran is what an event does, with some n, dead bytes and w. So what one side asks alters nothing that the other is told or sees. Through the
-- interface the contracts say so.
-- Assumes nothing.
use Prim.Native.Nat.{ℕ}
use mathlib.Core.Path.{◌≡◌, refl, sym, ap, ap₂, ◌∙◌, subst}
use mathlib.Core.Logic.{◌≢◌}
use mathlib.Core.Bool.{Bool, true, false, cond}
use mathlib.Core.List.{List, ◌∷◌}
use mathlib.Core.Option.{none, some}
use Rattle.model.specs.declared.Setup.{Setup}
use Rattle.model.specs.declared.Session.{Session}
use Rattle.model.specs.declared.Context.{Context}
use Rattle.model.specs.declared.Rule.TheVariants.{Name, Side, LockPhase, LockSpace}
use Rattle.model.specs.Lists.{on_some}
use Rattle.model.specs.Name.{Key}
use Rattle.model.specs.Session.{kept, fresh_session}
use Rattle.model.specs.Rules.{first_broken, rule3, rule15, rule16, rule22, lock_broken}
use Rattle.model.specs.StartUp.{start_up_plan}
use Rattle.model.specs.Answers.{Outcome, done, refused, rule_number, outcome, image_after, lock_outcome}
use Rattle.model.specs.Book.{Call, Sized, starts_up, kind_of, plan_of}
use Rattle.model.proofs.Failing.{unworn}
use Rattle.recovery.specs.Tenants.{World, call_of, Event, Fitting, calls, locks, moves, Told, handed, leave, answer, reply, told, to_its_end, but_stores, is_of, History, begun, then, asked, heard, finished_start_up}
use Rattle.recovery.specs.Interface.{Used, unused, called, name-locked, phase-moved, asked_in, heard_in, Apart, CallReturned, InterfaceNoInterference}
use Rattle.recovery.proofs.StartingUp.{Ready}
use Rattle.recovery.proofs.Isolation.{Good, no_start, good-history, begins-good, no-interference}

-- what ran is what the call does, with a context
pub record Ends (c : Call) (img img' : List ℕ) (o : Outcome) : Type 0 where
  pub context : Context
  pub same : but_stores (outcome context (plan_of c img) img) ≡ but_stores o
  pub whole : to_its_end (outcome context (plan_of c img) img) ≡ true
  pub left : image_after context (plan_of c img) img ≡ img'

-- a lock runs to its end: its rules are 3, 22, 15 and 16
lock-ends : (m : Bool) (s : Session) (k : Key) → to_its_end (lock_outcome m s k) ≡ true
unfolding lock_outcome lock_broken first_broken
lock-ends m s k = go (rule3 k) (rule22 s.setup.modem.vendor m k) (rule15 s) (rule16 m s k)
  where
    go : (a b c d : Bool)
        → to_its_end (on_some (cond a (some Name) (cond b (some Side) (cond c (some LockPhase) (cond d (some LockSpace) none)))) (λ rule. refused (rule_number rule)) (done 0)) ≡ true
    go true b c d = refl
    go false true c d = refl
    go false false true d = refl
    go false false false true = refl
    go false false false false = refl

-- the history of a session in use
record Mirror (modem : Bool) (begin w : World) (es : List Event) (ts : List Told) : Type 0 where
  history : History begin w
  asks : asked modem history ≡ es
  hears : heard modem history ≡ ts

module _ (modem : Bool) (begin : World) where
  -- one event more
  more : {w : World} {es : List Event} {ts : List Told} → Mirror modem begin w es ts → (e : Event) (f : Fitting e) (x : Context) → to_its_end (answer x e w) ≡ true → (t : Told) → told x e w ≡ t
      → Mirror modem begin (leave x e w) (cond (is_of modem e) (e ∷ es) es) (cond (is_of modem e) (t ∷ ts) ts)
  unfolding asked heard
  more {w} {es} {ts} m e f x ran t same = record {
    history = then m.history e f x ran;
    asks = ap (λ (l : List Event). cond (is_of modem e) (e ∷ l) l) m.asks;
    hears = ap₂ (λ (s : Told) (l : List Told). cond (is_of modem e) (s ∷ l) l) same m.hears;
  }

module _ (Ran : Call → List ℕ → List ℕ → Outcome → Type 0)
    (ends : (c : Call) (img img' : List ℕ) (o : Outcome) → Ready img → Sized c → ((u : Setup) → kind_of c ≢ starts_up u) → Ran c img img' o → to_its_end o ≡ true → Ends c img img' o) where
  module _ (modem : Bool) (u : Setup) (begin : World) (fine : Good u begin) where
    mirror : {w : World} (used : Used Ran begin w) → Mirror modem begin w (asked_in modem used) (heard_in modem used)
    unfolding asked_in heard_in asked heard leave answer reply
    mirror unused = record { history = begun; asks = refl; hears = refl }
    mirror (called {w} used m a f img' o r e) =
        let before = mirror used in
        let good = good-history u modem begin fine before.history in
        let x = ends (call_of m w.session a) w.image img' o good.ready (f w.session) (no_start m w.session a) r e in
        let t : Told = record { answered = but_stores o; given = handed m w.session a w.image } in
        let one = more modem begin before (calls m a) f x.context x.whole t
        (ap (λ (p : Outcome). record { answered = p; given = handed m w.session a w.image }) x.same) in
        subst (λ (img : List ℕ). Mirror modem begin (record { session = w.session; image = img }) (cond (is_of modem (calls m a)) (calls m a ∷ asked_in modem used) (asked_in modem used))
        (cond (is_of modem (calls m a)) (t ∷ heard_in modem used) (heard_in modem used))) x.left one
    mirror (name-locked {w} used m k long) = more modem begin (mirror used) (locks m k) long (unworn 0) (lock-ends m w.session k) _ refl
    mirror (phase-moved {w} used p) = more modem begin (mirror used) (moves p) tt (unworn 0) refl _ refl

  pub used-apart : (setup : Setup) (before : List ℕ) (x : Context) (stores : ℕ) → outcome x (start_up_plan setup before) before ≡ done stores → (img : List ℕ)
      → image_after x (start_up_plan setup before) before ≡ img → Apart Ran setup (record { session = fresh_session setup; image = img })
  used-apart setup before x stores h img left =
      subst (λ (i : List ℕ). Apart Ran setup (record { session = fresh_session setup; image = i })) left apart
    where
      apart : Apart Ran setup (finished_start_up setup x before)
      apart modem v w f g same =
          let begin = finished_start_up setup x before in
          let fine = begins-good setup before x stores h in
          let p = mirror modem (kept setup) begin fine f in
          let q = mirror modem (kept setup) begin fine g in
          let c = no-interference setup before x stores h modem v w p.history q.history (p.asks ∙ same ∙ sym q.asks) in
          (sym p.hears ∙ c.0 ∙ q.hears, c.1)

-- ---- through the interface

returned-ends : (c : Call) (img img' : List ℕ) (o : Outcome) → CallReturned c img img' o → to_its_end o ≡ true → Ends c img img' o
returned-ends c img img' o (x, a, r, e) whole =
    let same : outcome x (plan_of c img) img ≡ o = sym r.0 ∙ e in
    record { context = x; same = ap but_stores same; whole = ap to_its_end same ∙ whole; left = sym r.1 }

pub interface-no-interference : InterfaceNoInterference
unfolding plan_of start_up_plan
interface-no-interference setup before img x stores r =
    used-apart CallReturned (λ c i j o ready sized n ran whole. returned-ends c i j o ran whole) setup before x stores (sym r.0) img (sym r.1)
