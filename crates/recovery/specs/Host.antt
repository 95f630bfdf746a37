-- A host that stores by itself: it asks for a plan and carries out the operations that it is told, one after the other. Its part stores up to w bytes at a time, and
-- its driver cuts what it is told at page ends. What it has done when the power fails, the book beside it, and what holds of every run of it, for every w, another
-- at each step. All that the host does is said in the numbers that it was told, `HostPlan`, as C sees them.
use Rattle.std.specs.Prelude.{ℕ, suc, ◌≡◌, Bool, true, false, cond, ◌&&◌, List, length, take, eqb, leb, ltb}
use Rattle.std.proofs.Math.Option.{some}
use Rattle.model.specs.declared.Layout.{Layout}
use Rattle.model.specs.declared.Setup.{Setup}
use Rattle.model.specs.declared.Session.{Session}
use Rattle.model.specs.declared.Answer.TheVariants.{Done}
use Rattle.model.specs.Layout.{authenticated}
use Rattle.model.specs.Image.{region_size}
use Rattle.model.specs.Entry.{Value}
use Rattle.model.specs.Region.{values_of, find}
use Rattle.model.specs.Session.{fresh_session}
use Rattle.model.specs.Request.{Request, request_key, mode_of}
use Rattle.model.specs.Profile.{items_in}
use Rattle.model.specs.Limits.{limits_for}
use Rattle.model.specs.Sides.{allotted}
use Rattle.model.specs.Stores.{Bytes, stores, apply_all, Cut}
use Rattle.model.specs.StartUp.{start_up_plan}
use Rattle.model.specs.Answers.{Outcome, done, refused}
use Rattle.model.specs.Book.{Call, set, profile, mode, plan_of, Sized, book_after}
use Rattle.model.specs.Beside.{EachItem, mode_named}
use Rattle.plan.specs.declared.HostPlan.{HostPlan}
use Rattle.plan.specs.Told.{expand_numbers, Told}
use Rattle.recovery.specs.Claims.{WithPK, forbidden, InShares}
use Rattle.recovery.specs.Interface.{MoveReturned, InSession, Apart}

-- A start-up was planned over these bytes, given what it is given: the plan and the content tell what the definitions plan. Shares and H are asked before any store; the rest
-- makes its session and is no part of its plan.
-- `vs_plan_start_up` of the C interface ensures it of its own arguments, for every image.
abbrev pub StartUpPlanned : Setup → List ℕ → List ℕ → HostPlan → Type 0
StartUpPlanned setup part content p = Told (start_up_plan setup part) content p

-- A call was planned over these bytes. `vs_plan_set`, `vs_plan_profile` and `vs_plan_mode` ensure it of their own arguments. They and `vs_plan_start_up`
-- require nothing, so such a plan exists for every set, every profile, every mode request and every start-up, on any part. A get, next-name or many-get has no
-- planning function: as a step its plan is its refusal, or operations without a store.
abbrev pub PlannedFor : Call → List ℕ → List ℕ → HostPlan → Type 0
PlannedFor c part content p = Told (plan_of c part) content p

-- the part when all operations are carried out, in stores of at most w bytes; after a refusal there are none, so it is as before
abbrev pub carried_out : ℕ → List ℕ → HostPlan → List ℕ → List ℕ
carried_out w content p part = apply_all (stores w (expand_numbers content p.ops)) part

-- the deciding operation, if one decides, is complete: the first k stores hold those of the operations up to it and its own
abbrev pub deciding_done : ℕ → ℕ → List ℕ → HostPlan → Bool
deciding_done w k content p =
    ltb p.deciding 12 && leb (length (stores w (expand_numbers content (take (suc p.deciding) p.ops)))) k

-- A run of a host from the bytes `start` of a part: the part's bytes, and the book. Each call is planned over a copy that equals the part, and has its own w, which
-- may be any number, also one that no call of the interface takes. Then
-- * all its operations are carried out, and the book moves if the rule told is 0 ("a set that is done"); a refused call has no operations and moves nothing; or
-- * the power fails: of the stores told the first k are complete and the next may be begun, as `Cut` says, and the book moves if the deciding operation was complete
--   ("or had that store complete"). A host that gives a plan up between two stores is of this kind too, and so is one whose part fails at a store, because a byte
--   there has died: the stores before it are complete, and of its own bits none or some are cleared.
-- `book_after` moves the book for a set ("only a set .. changes it"), a profile and a mode request only.
pub data Hosting (start : List ℕ) : List ℕ → List Value → Type 0 where
  none_yet : Hosting start start (values_of start)
  carried-out : {part : List ℕ}
      {book : List Value}
      → Hosting start part book
      → (c : Call)
      → Sized c
      → (content : List ℕ)
      → (p : HostPlan)
      → PlannedFor c part content p
      → (w : ℕ)
      → Hosting start (carried_out w content p part) (book_after c (eqb p.rule 0) book)
  power-failed : {part part' : List ℕ}
      {book : List Value}
      → Hosting start part book
      → (c : Call)
      → Sized c
      → (content : List ℕ)
      → (p : HostPlan)
      → PlannedFor c part content p
      → (w k : ℕ)
      → Cut (stores w (expand_numbers content p.ops)) k part part'
      → Hosting start part' (book_after c (deciding_done w k content p) book)

-- What a host begins on: a part that a start-up left, told with rule 0 and carried out, on whatever bytes it found; or one with the bytes that a move into the
-- form in which calls store left in its target, done.
pub data HostBegun : List ℕ → Type 0 where
  by-start-up : (setup : Setup) (before content : List ℕ) (p : HostPlan)
      → Bytes before
      → StartUpPlanned setup before content p
      → p.rule ≡ 0
      → (w : ℕ)
      → HostBegun (carried_out w content p before)
  by_move : {start : List ℕ} (from : Layout) (source target : List ℕ) → MoveReturned from authenticated source target start (Done 0) → HostBegun start

-- Begun so, and however often the power failed since: a start-up that is told rule 0, carried out, leaves exactly the values of the book. It is told rule 0 if the book
-- keeps to its shares and H, and 22 if it does not.
abbrev pub HostKeepsTheBook : Type 0
HostKeepsTheBook =
    (setup : Setup) (start part content : List ℕ) (book : List Value) (p : HostPlan)
    → HostBegun start
    → Hosting start part book
    → StartUpPlanned setup part content p
    → (p.rule ≡ 0 → (w : ℕ) → values_of (carried_out w content p part) ≡ book)
    × (allotted setup (region_size part) book ≡ true → p.rule ≡ 0)
    × (allotted setup (region_size part) book ≡ false → p.rule ≡ 22)

-- 02 (f), of a host: every call was planned in a session with the shares of a setup
abbrev pub AllPlannedInShares : Setup → {start part : List ℕ} {book : List Value} → Hosting start part book → Type 0
AllPlannedInShares u none_yet = Unit {0}
AllPlannedInShares u (carried-out hosting c sized content p planned w) = AllPlannedInShares u hosting × InShares u c
AllPlannedInShares u (power-failed hosting c sized content p planned w k left) = AllPlannedInShares u hosting × InShares u c

-- So its store stays usable: where what it began on keeps to the shares of a setup, the book keeps to them, and a start-up given them is told rule 0.
abbrev pub HostSharesKept : Type 0
HostSharesKept =
    (u : Setup) (start part content : List ℕ) (book : List Value) (p : HostPlan)
    → HostBegun start
    → allotted u (region_size start) (values_of start) ≡ true
    → (hosting : Hosting start part book)
    → AllPlannedInShares u hosting
    → StartUpPlanned u part content p
    → (allotted u (region_size part) book ≡ true) × (p.rule ≡ 0)

-- 02 (j), of a host: a mode request that was planned with rule 0 told, and carried out, has come to the mode that it names. On whatever bytes, and for every w.
abbrev pub HostModeReached : Type 0
HostModeReached =
    (m : Bool) (s : Session) (to : ℕ) (part content : List ℕ) (p : HostPlan)
    → PlannedFor (mode m s to) part content p
    → p.rule ≡ 0
    → (w : ℕ)
    → mode_named to ≡ some (mode_of (values_of (carried_out w content p part)))

-- And after any call of which the first k stores are complete, all of them among others, and the next may be begun, a start-up that is told rule 0, carried
-- out, leaves PK and PlatMode both as they were in the book, or both as they are with the call entered.
abbrev pub HostModeWithPK : Type 0
HostModeWithPK =
    (setup : Setup) (start part part' content again : List ℕ) (book : List Value) (c : Call) (p up : HostPlan) (w k : ℕ)
    → HostBegun start
    → Hosting start part book
    → Sized c
    → PlannedFor c part content p
    → Cut (stores w (expand_numbers content p.ops)) k part part'
    → StartUpPlanned setup part' again up
    → up.rule ≡ 0
    → (v : ℕ)
    → WithPK c book (values_of (carried_out v again up part'))

-- 02 (e), of a host: what a set leaves under its name that was planned in a session with rule 0 told, and carried out, no rule forbids that the session's start-up was
-- given for that name. On whatever bytes, and for every w.
abbrev pub HostKeepsSettings : Type 0
HostKeepsSettings =
    (setup : Setup) (m : Bool) (s : Session) (r : Request) (part content : List ℕ) (p : HostPlan)
    → InSession setup s
    → length r.vendor ≡ 16
    → PlannedFor (set m s r) part content p
    → p.rule ≡ 0
    → (w : ℕ)
    → forbidden (limits_for setup (request_key r)) (find (request_key r) (values_of (carried_out w content p part))) ≡ false

-- and so what a profile leaves under the name of each of its items.
abbrev pub HostKeepsProfileSettings : Type 0
HostKeepsProfileSettings =
    (setup : Setup) (m : Bool) (s : Session) (file part content : List ℕ) (p : HostPlan)
    → InSession setup s
    → PlannedFor (profile m s file) part content p
    → p.rule ≡ 0
    → (w : ℕ)
    → EachItem (λ r. forbidden (limits_for setup (request_key r)) (find (request_key r) (values_of (carried_out w content p part))) ≡ false) (items_in file)

-- 02 (f), of a host: a call was planned over the part's bytes and carried out with some w; the rule told is the answer, its number of stores aside. A get,
-- next-name or many-get, whose plan has no store, is carried out by doing nothing, and hands out what its function ensures.
abbrev pub answer_told : HostPlan → Outcome
answer_told p = cond (eqb p.rule 0) (done 0) (refused p.rule)

abbrev pub CallCarriedOut : Call → List ℕ → List ℕ → Outcome → Type 0
CallCarriedOut c part part' o =
    (content : List ℕ) × (p : HostPlan) × (w : ℕ) × PlannedFor c part content p × (part' ≡ carried_out w content p part) × (answer_told p ≡ o)

-- So nothing that one side sets or deletes alters what the other is told or sees, on a part that a start-up left, told with rule 0 and carried out, in its session.
abbrev pub HostNoInterference : Type 0
HostNoInterference =
    (setup : Setup) (before content : List ℕ) (p : HostPlan)
    → StartUpPlanned setup before content p
    → p.rule ≡ 0
    → (w : ℕ)
    → Apart CallCarriedOut setup (record { session = fresh_session setup; image = carried_out w content p before })
