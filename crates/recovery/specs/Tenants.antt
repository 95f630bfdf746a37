-- 02 (f): "In a session of a finished start-up, with no move into its image and no other session writing it since, for calls that run to their end, with the phase given, nothing
-- that one side sets or deletes alters an answer (but for its number of stores), value, stamp or list order that the other sees."
use Rattle.std.specs.Prelude.{ℕ, ◌+◌, ◌≤◌, ◌≡◌, Bool, true, false, not, cond, ◌&&◌, List, [], ◌∷◌, length, eqb, ltb}
use Rattle.model.specs.declared.Setup.{Setup}
use Rattle.model.specs.declared.Session.{Session}
use Rattle.model.specs.declared.Context.{Context}
use Rattle.model.specs.Lists.{all, any}
use Rattle.model.specs.Image.{region_header_size, region_size}
use Rattle.model.specs.Name.{Key}
use Rattle.model.specs.Entry.{Value, key_of}
use Rattle.model.specs.Region.{record_bit, values_of}
use Rattle.model.specs.Session.{at_runtime_def, reserved, fresh_session, moved_to_def}
use Rattle.model.specs.Request.{Request, mode_of}
use Rattle.model.specs.Change.{Change, steps, space_of, is_error_record_def}
use Rattle.model.specs.Sides.{owns, view, allotted}
use Rattle.model.specs.Rules.{puts, rule13, rule18, terms_if, terms_for_def}
use Rattle.model.specs.Query.{storage_for, remaining_for, largest_for, query_outcome, query_gives}
use Rattle.model.specs.Set.{Plan}
use Rattle.model.specs.StartUp.{start_up_plan}
use Rattle.model.specs.Answers.{Outcome, done, stopped, refused, outcome, image_after, Reply, Gots, get_reply, gets_reply, next_reply, lock_outcome, lock_session}
use Rattle.model.specs.Book.{Call, set, get, next, several, profile, mode, Sized, plan_of}

-- a session in use, and its image
pub record World : Type 0 where
  pub session : Session
  pub image : List ℕ

-- what a side asks in it of the image: a set, with deletes and appends among them; a get, with the caller's buffer; a next-name; a many-get; a profile; a
-- mode request
pub data Asked : Type 0 where
  sets : Request → Asked
  reads : Key → List ℕ → Asked
  names : Key → List ℕ → Asked
  reads-each : List Key → List ℕ → Asked
  profiles : List ℕ → Asked
  modes : ℕ → Asked

-- it is a call of that side in that session
abbrev pub call_of : Bool → Session → Asked → Call
call_of m s (sets r) = set m s r
call_of m s (reads k buffer) = get m s k buffer
call_of m s (names k buffer) = next m s k buffer
call_of m s (reads-each ks buffer) = several m s ks buffer
call_of m s (profiles file) = profile m s file
call_of m s (modes to) = mode m s to

-- what happens in it: a side's call; a side's lock; or the phase is moved, which is neither side's: "with the phase given"
pub data Event : Type 0 where
  calls : Bool → Asked → Event
  locks : Bool → Key → Event
  moves : ℕ → Event

-- arguments are bytes, a GUID is 16 of them
abbrev pub Fitting : Event → Type 0
Fitting (calls m a) = (s : Session) → Sized (call_of m s a)
Fitting (locks m k) = length k.vendor ≡ 16
Fitting (moves phase) = Unit {0}

-- what a call is to do
abbrev pub plan_in : Bool → Asked → World → Plan
plan_in m a w = plan_of (call_of m w.session a) w.image

-- what an event leaves, with its n, its dead bytes and its w
unfoldable pub leave : Context → Event → World → World
leave x (calls m a) w = record { session = w.session; image = image_after x (plan_in m a w) w.image }
leave x (locks m k) w = record { session = lock_session m w.session k; image = w.image }
leave x (moves phase) w = record { session = moved_to_def w.session phase; image = w.image }

-- its answer; a phase is moved without one
unfoldable pub answer : Context → Event → World → Outcome
answer x (calls m a) w = outcome x (plan_in m a w) w.image
answer x (locks m k) w = lock_outcome m w.session k
answer x (moves phase) w = done 0

-- what a call hands out beside it, and leaves in the buffer
pub data Handed : Type 0 where
  no_more : Handed
  replied : Reply → Handed
  each : Gots → Handed

abbrev pub handed : Bool → Session → Asked → List ℕ → Handed
handed m s (sets r) img = no_more
handed m s (reads k buffer) img = replied (get_reply m s k buffer img)
handed m s (names k buffer) img = replied (next_reply m s k buffer img)
handed m s (reads-each ks buffer) img = each (gets_reply m s ks buffer img)
handed m s (profiles file) img = no_more
handed m s (modes to) img = no_more

unfoldable pub reply : Event → World → Handed
reply (calls m a) w = handed m w.session a w.image
reply (locks m k) w = no_more
reply (moves phase) w = no_more

-- "calls that run to their end": not stopped; 02 (h), 23: "In (f) such a call has not run to its end."
abbrev pub to_its_end : Outcome → Bool
to_its_end (done stores) = true
to_its_end stopped = false
to_its_end (refused rule) = not (eqb rule 23)

-- "an answer (but for its number of stores)"
abbrev pub but_stores : Outcome → Outcome
but_stores (done stores) = done 0
but_stores stopped = stopped
but_stores (refused rule) = refused rule

pub record Told : Type 0 where
  pub answered : Outcome
  pub given : Handed

abbrev pub told : Context → Event → World → Told
told x e w = record { answered = but_stores (answer x e w); given = reply e w }

-- what happened since a world began: each event finds the session and the image as the last one left them; its n, dead bytes and w are its own
pub data History (begin : World) : World → Type 0 where
  begun : History begin begin
  then : {w : World} → History begin w → (e : Event) → Fitting e → (x : Context) → to_its_end (answer x e w) ≡ true → History begin (leave x e w)

-- a side's own calls, and the phases, which it is given
abbrev pub is_of : Bool → Event → Bool
is_of modem (calls m a) = cond modem m (not m)
is_of modem (locks m k) = cond modem m (not m)
is_of modem (moves phase) = true

-- what a side asked, the last first, and what it was told
unfoldable pub asked : Bool → {begin w : World} → History begin w → List Event
asked modem begun = []
asked modem (then h e f x n) = cond (is_of modem e) (e ∷ asked modem h) (asked modem h)

unfoldable pub heard : Bool → {begin w : World} → History begin w → List Told
heard modem begun = []
heard modem (then {w} h e f x n) = cond (is_of modem e) (told x e w ∷ heard modem h) (heard modem h)

-- the values that it sees, each with its stamp, in their order
unfoldable pub sees : Setup → Bool → World → List Value
sees setup modem w = view setup.modem.vendor modem (values_of w.image)

-- the session of a finished start-up, and the image that it left
abbrev pub finished_start_up : Setup → Context → List ℕ → World
finished_start_up setup x before = record { session = fresh_session setup; image = image_after x (start_up_plan setup before) before }

-- Two histories of one finished start-up in which a side asked the same, and the phase was moved at the same places, whatever the other side asked, and with whatever w: it was told
-- the same, and sees the same. The second may be one in which the other side asked nothing.
abbrev pub NoInterference : Type 0
NoInterference =
    (setup : Setup) (before : List ℕ) (x : Context) (stores : ℕ)
    → outcome x (start_up_plan setup before) before ≡ done stores
    → (modem : Bool) (v w : World)
    → (h : History (finished_start_up setup x before) v) (g : History (finished_start_up setup x before) w)
    → asked modem h ≡ asked modem g
    → (heard modem h ≡ heard modem g) × (sees setup modem v ≡ sees setup modem w)

-- 02 (j), "PlatMode is ours, like the key names": no call of the modem that is done changes the platform's mode, whatever its GUID and whatever image it began
-- on. Arguments are bytes.
abbrev pub ModemKeepsMode : Type 0
ModemKeepsMode =
    (s : Session) (a : Asked) (img : List ℕ) (x : Context) (count : ℕ)
    → Sized (call_of true s a)
    → outcome x (plan_of (call_of true s a) img) img ≡ done count
    → mode_of (values_of (image_after x (plan_of (call_of true s a) img) img)) ≡ mode_of (values_of img)

-- what a query, which is no call of 01, would tell a side: its answer, and the three numbers that it gives, by the attributes asked of
abbrev pub queried : Bool → ℕ → World → Outcome × ℕ × ℕ × ℕ
queried modem a w = (
  query_outcome (at_runtime_def w.session) a w.image,
  query_gives (at_runtime_def w.session) a w.image (storage_for (terms_for_def modem w.session) (record_bit a) (region_size w.image)),
  query_gives (at_runtime_def w.session) a w.image (remaining_for (terms_for_def modem w.session) (record_bit a) (region_size w.image) (values_of w.image)),
  query_gives (at_runtime_def w.session) a w.image (largest_for (remaining_for (terms_for_def modem w.session) (record_bit a) (region_size w.image) (values_of w.image))),
)

-- It tells it the same after both.
abbrev pub QueryNoInterference : Type 0
QueryNoInterference =
    (setup : Setup) (before : List ℕ) (x : Context) (stores : ℕ)
    → outcome x (start_up_plan setup before) before ≡ done stores
    → (modem : Bool) (v w : World)
    → (h : History (finished_start_up setup x before) v) (g : History (finished_start_up setup x before) w)
    → asked modem h ≡ asked modem g
    → (a : ℕ)
    → queried modem a v ≡ queried modem a w

-- "In 01's cases our share is L less 28, the rest 0.": the modem's GUID is given too
pub record OursAlone (u : Setup) (size : ℕ) : Type 0 where
  pub ours : u.share + region_header_size ≡ size
  pub modems : u.modem.share ≡ 0
  pub records : u.records ≡ 0

-- a list of values that are ours, and no error records
abbrev pub all_ours : Setup → List Value → Bool
all_ours u vs = all (λ v. owns u.modem.vendor false (key_of v) && not (is_error_record_def v)) vs

-- 01's rule 13, as it is there: "28 plus the rounded entry sizes of all values after the change, plus R at runtime, exceeds L; a delete, or a set that stores nothing, never meets
-- this"
abbrev pub rule13_alone : Session → ℕ → List Change → List Value → Bool
rule13_alone s size cs vs = any (puts (λ v. true)) cs && ltb size (space_of (steps cs vs) + reserved false s)

-- So over values that are ours and no error records our sets, profiles and mode requests of such values meet 13 just where 01 says, and not 18, and no start-up
-- on them meets 22 if they fit.
abbrev pub AsIn01 : Type 0
AsIn01 =
    (s : Session) (size : ℕ)
    → OursAlone s.setup size
    → ((foreign barred : Bool) (cs : List Change) (vs : List Value)
    → any (puts is_error_record_def) cs ≡ false
    → all_ours s.setup (steps cs vs) ≡ true
    → (rule13 (terms_if false s foreign barred) size cs vs ≡ rule13_alone s size cs vs) × (rule18 (terms_if false s foreign barred) cs vs ≡ false))
    × ((vs : List Value) → all_ours s.setup vs ≡ true → space_of vs ≤ size → allotted s.setup size vs ≡ true)
