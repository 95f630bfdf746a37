-- What a call to a function of the interface has done when it returned, in the word of the functions' own contracts, and what holds of every list of calls to them.
use Rattle.std.specs.Prelude.{ℕ, ◌≡◌, Bool, true, false, cond, ◌⊎◌, List, [], ◌∷◌, length}
use Rattle.std.proofs.Math.Option.{some}
use Rattle.model.specs.declared.Layout.{Layout}
use Rattle.model.specs.declared.Setup.{Setup}
use Rattle.model.specs.declared.Session.{Session}
use Rattle.model.specs.declared.Context.{Context}
use Rattle.model.specs.declared.Answer.{Answer}
use Rattle.model.specs.declared.Answer.TheVariants.{Done}
use Rattle.model.specs.Layout.{authenticated}
use Rattle.model.specs.Name.{Key}
use Rattle.model.specs.Entry.{Value}
use Rattle.model.specs.Region.{values_of, find}
use Rattle.model.specs.Session.{fresh_session, moved_to_def}
use Rattle.model.specs.Request.{Request, request_key, mode_of}
use Rattle.model.specs.Profile.{items_in}
use Rattle.model.specs.Limits.{limits_for}
use Rattle.model.specs.Stores.{Bytes, Cut}
use Rattle.model.specs.Answers.{Outcome, done, answer_of, outcome, image_after, made_of, page_of, stores_of, decided, lock_outcome, lock_session}
use Rattle.model.specs.Move.{move_answer, image_moved}
use Rattle.model.specs.Book.{Call, set, start_up_def, profile, mode, plan_of, Sized, counts, book_after}
use Rattle.model.specs.Beside.{EachItem, mode_named}
use Rattle.recovery.specs.Claims.{WithPK, forbidden}
use Rattle.recovery.specs.Tenants.{World, Asked, call_of, Event, calls, locks, moves, Fitting, no_more, handed, Told, to_its_end, but_stores, is_of, sees}

-- A call of the interface has returned: its arguments, its context, the image before and after, and the answer. `engine::write::set`, `engine::items::profile`,
-- `engine::modes::mode`, `engine::read::get` and `next_name` and `engine::many::get_many`, which are lent the image shared, and `engine::start::start_up`
-- ensure it of their own arguments, in every session that says what they are given.
abbrev pub Returned : Call → Context → List ℕ → List ℕ → Answer → Type 0
Returned c x img img' a = (answer_of a ≡ outcome x (plan_of c img) img) × (img' ≡ image_after x (plan_of c img) img)

-- 02 (d): a move from one form to another has returned: the source, the target before and after, and the answer. `convert::move_values` ensures it of its own
-- arguments, for any two forms and every input; it is lent the source shared.
abbrev pub MoveReturned : Layout → Layout → List ℕ → List ℕ → List ℕ → Answer → Type 0
MoveReturned from to img target target' a =
    (answer_of a ≡ move_answer from to img target) × (target' ≡ image_moved from to img target)

-- What calls begin on: an image that a start-up left, done, on whatever bytes it found; or one that a move into the form in which calls store left, done.
pub data Begun (start : List ℕ) : Type 0 where
  by-start-up : (before : List ℕ)
      → Bytes before
      → (setup : Setup) (x : Context) (stores : ℕ)
      → Returned (start_up_def setup) x before start (Done stores)
      → Begun start
  by_move : (from : Layout) (source target : List ℕ) → MoveReturned from authenticated source target start (Done 0) → Begun start

-- Calls one after the other on one image, each returned or cut by a power failure; beside them the book, from the calls' arguments and answers, and of a stopped, failed
-- or cut one whether its deciding store was complete.
pub data Calls (start : List ℕ) : List ℕ → List Value → Type 0 where
  none_yet : Calls start start (values_of start)
  returned : {img img' : List ℕ}
      {book : List Value}
      → Calls start img book
      → (c : Call)
      → Sized c
      → (x : Context)
      → (a : Answer)
      → Returned c x img img' a
      → Calls
      start
      img'
      (book_after c (counts (answer_of a) (decided (page_of x) (made_of x (plan_of c img) img) (plan_of c img))) book)
  power-failed : {img img' : List ℕ}
      {book : List Value}
      → Calls start img book
      → (c : Call)
      → Sized c
      → (x : Context)
      → (k : ℕ)
      → Cut (stores_of (page_of x) (plan_of c img)) k img img'
      → Calls start img' (book_after c (decided (page_of x) k (plan_of c img)) book)

-- These are the functions of the interface, and this holds of every list of calls to them: begun so, and however many of the calls were stopped, failed or cut, a
-- start-up that returns done leaves exactly the values of the book.
abbrev pub InterfaceKeepsTheBook : Type 0
InterfaceKeepsTheBook =
    (start img img' : List ℕ) (book : List Value) (setup : Setup) (x : Context) (stores : ℕ)
    → Begun start
    → Calls start img book
    → Returned (start_up_def setup) x img img' (Done stores)
    → values_of img' ≡ book

-- 02 (j), through the interface: a mode request that returned done has come to the mode that it names.
abbrev pub InterfaceModeReached : Type 0
InterfaceModeReached =
    (m : Bool) (s : Session) (to : ℕ) (x : Context) (img img' : List ℕ) (stores : ℕ)
    → Returned (mode m s to) x img img' (Done stores)
    → mode_named to ≡ some (mode_of (values_of img'))

-- And after any call that returned, or was cut by a power failure, a start-up that returns done leaves PK and PlatMode both as they were in the book, or both
-- as they are with the call entered.
abbrev pub InterfaceModeWithPK : Type 0
InterfaceModeWithPK =
    (start img img' left : List ℕ) (book : List Value) (c : Call) (x y : Context) (setup : Setup) (stores : ℕ)
    → Begun start
    → Calls start img book
    → Sized c
    → ((a : Answer) × Returned c x img img' a) ⊎ ((k : ℕ) × Cut (stores_of (page_of x) (plan_of c img)) k img img')
    → Returned (start_up_def setup) y img' left (Done stores)
    → WithPK c book (values_of left)

-- The sessions of a start-up: the one that it makes, whatever its answer (and `vs_session_new` from the same setup), and those that calls make of it: moved to a phase, or
-- asked for a lock, refused or not.
pub data InSession (setup : Setup) : Session → Type 0 where
  fresh : InSession setup (fresh_session setup)
  moved : {s : Session} → InSession setup s → (phase : ℕ) → InSession setup (moved_to_def s phase)
  lock-asked : {s : Session} → InSession setup s → (modem : Bool) (k : Key) → InSession setup (lock_session modem s k)

-- 02 (e), through the interface: what a set leaves under its name that returned done in a session, no rule forbids that the session's start-up was given for that name.
abbrev pub InterfaceKeepsSettings : Type 0
InterfaceKeepsSettings =
    (setup : Setup) (m : Bool) (s : Session) (r : Request) (x : Context) (img img' : List ℕ) (stores : ℕ)
    → InSession setup s
    → length r.vendor ≡ 16
    → Returned (set m s r) x img img' (Done stores)
    → forbidden (limits_for setup (request_key r)) (find (request_key r) (values_of img')) ≡ false

-- and so what a profile leaves under the name of each of its items.
abbrev pub InterfaceKeepsProfileSettings : Type 0
InterfaceKeepsProfileSettings =
    (setup : Setup) (m : Bool) (s : Session) (file : List ℕ) (x : Context) (img img' : List ℕ) (stores : ℕ)
    → InSession setup s
    → Returned (profile m s file) x img img' (Done stores)
    → EachItem (λ r. forbidden (limits_for setup (request_key r)) (find (request_key r) (values_of img')) ≡ false) (items_in file)

-- A session in use, by what it is that a call has run (the call, the image before and after, its answer): since its start-up, calls of either side ran to their end, each on the
-- image as the last left it, names were locked, and the phase was moved.
pub data Used (Ran : Call → List ℕ → List ℕ → Outcome → Type 0) (begin : World) : World → Type 0 where
  unused : Used Ran begin begin
  called : {w : World}
      → Used Ran begin w
      → (m : Bool) (a : Asked)
      → Fitting (calls m a)
      → (img' : List ℕ) (o : Outcome)
      → Ran (call_of m w.session a) w.image img' o
      → to_its_end o ≡ true
      → Used Ran begin (record { session = w.session; image = img' })
  name-locked : {w : World}
      → Used Ran begin w
      → (m : Bool) (k : Key)
      → length k.vendor ≡ 16
      → Used Ran begin (record { session = lock_session m w.session k; image = w.image })
  phase-moved : {w : World} → Used Ran begin w → (p : ℕ) → Used Ran begin (record { session = moved_to_def w.session p; image = w.image })

-- what a side asked in it, the last first, and what it was told: answers but for their numbers of stores, and what a get, a next-name and a many-get hand out
module _ {Ran : Call → List ℕ → List ℕ → Outcome → Type 0} (modem : Bool) {begin : World} where
  unfoldable pub asked_in : {w : World} → Used Ran begin w → List Event
  asked_in unused = []
  asked_in (called u m a f img' o r e) = cond (is_of modem (calls m a)) (calls m a ∷ asked_in u) (asked_in u)
  asked_in (name-locked u m k long) = cond (is_of modem (locks m k)) (locks m k ∷ asked_in u) (asked_in u)
  asked_in (phase-moved u p) = moves p ∷ asked_in u

  unfoldable pub heard_in : {w : World} → Used Ran begin w → List Told
  heard_in unused = []
  heard_in (called {w} u m a f img' o r e) =
      cond (is_of modem (calls m a)) (record { answered = but_stores o; given = handed m w.session a w.image } ∷ heard_in u) (heard_in u)
  heard_in (name-locked {w} u m k long) =
      cond (is_of modem (locks m k)) (record { answered = but_stores (lock_outcome m w.session k); given = no_more } ∷ heard_in u) (heard_in u)
  heard_in (phase-moved u p) = record { answered = done 0; given = no_more } ∷ heard_in u

-- Two uses of one session in which a side asked the same: it was told the same, and sees the same.
abbrev pub Apart : (Call → List ℕ → List ℕ → Outcome → Type 0) → Setup → World → Type 0
Apart Ran setup begin =
    (modem : Bool) (v w : World) (h : Used Ran begin v) (g : Used Ran begin w)
    → asked_in modem h ≡ asked_in modem g
    → (heard_in modem h ≡ heard_in modem g) × (sees setup modem v ≡ sees setup modem w)

-- 02 (f), "nothing that one side sets or deletes alters an answer .., value, stamp or list order that the other sees", of calls to the interface: they returned, whatever their
-- n, dead bytes and w. (What a lock and a phase do to a session, and what a get, a next-name and a many-get hand out, their functions ensure in the words
-- that are used here: `lock_outcome`, `lock_session`, `moved_to_def`, `get_reply`, `next_reply`, `gets_reply`.)
abbrev pub CallReturned : Call → List ℕ → List ℕ → Outcome → Type 0
CallReturned c img img' o = (x : Context) × (a : Answer) × Returned c x img img' a × (answer_of a ≡ o)

abbrev pub InterfaceNoInterference : Type 0
InterfaceNoInterference =
    (setup : Setup) (before img : List ℕ) (x : Context) (stores : ℕ)
    → Returned (start_up_def setup) x before img (Done stores)
    → Apart CallReturned setup (record { session = fresh_session setup; image = img })
