-- 01, the run, the book and Demand 3, by kinds of calls; and the two claims about bits. Each claim is a type; `recovery` proves them.
use Rattle.std.specs.Prelude.{ℕ, ◌+◌, ◌<◌, ◌≡◌, ◌≢◌, Bool, true, false, ◌&&◌, ◌||◌, List, [], ◌∷◌, length, get_or, eqb, leb, ltb}
use Rattle.std.proofs.Math.Option.{Option, none}
use Rattle.std.specs.Int.Bits.{bit_and}
use Rattle.model.specs.declared.Setup.{Setup}
use Rattle.model.specs.declared.Session.{Session}
use Rattle.model.specs.declared.Layout.{Layout}
use Rattle.model.specs.Layout.{authenticated, state_at}
use Rattle.model.specs.declared.Context.{Context}
use Rattle.model.specs.declared.Rule.{Rule}
use Rattle.model.specs.Lists.{any, on_some}
use Rattle.model.specs.Image.{region, work_at}
use Rattle.model.specs.Name.{Key}
use Rattle.model.specs.Entry.{Value}
use Rattle.model.specs.Region.{entries, tail_at, values_of}
use Rattle.model.specs.Work.{record_space}
use Rattle.model.specs.Request.{Request}
use Rattle.model.specs.Profile.{items_in}
use Rattle.model.specs.Change.{Change, nothing, remove, put, steps, changes_of, mode_changes, changes_in}
use Rattle.model.specs.Rules.{set_broken, get_broken, next_broken, start_up_broken, gets_broken, profile_broken, mode_broken}
use Rattle.model.specs.Stores.{Store, page, erase, apply, Bytes, Uncleared, Cut, Clears, difference}
use Rattle.model.specs.Set.{Plan, refuse, make, fits_tail, changes_plan}
use Rattle.model.specs.StartUp.{start_up_stores, start_up_plan, format_plan}
use Rattle.model.specs.Answers.{Outcome, done, stopped, refused, outcome, image_after, made_of, page_of, stores_of, decided}
use Rattle.model.specs.Move.{move_broken, image_moved}

-- "sets (deletes among them), gets, next-names and start-ups": each with its side, its session and arguments, a start-up with what it is given; 02 (g), "Demand 3's
-- list takes this call in": several names at once, and the buffer; 02 (l), "Demand 3's list takes profiles in": the file; 02 (j), it "takes mode requests in": the mode, 2
-- audit or 3 deployed
pub data Call : Type 0 where
  set : Bool → Session → Request → Call
  get : Bool → Session → Key → List ℕ → Call
  next : Bool → Session → Key → List ℕ → Call
  start_up_def : Setup → Call
  several : Bool → Session → List Key → List ℕ → Call
  profile : Bool → Session → List ℕ → Call
  mode : Bool → Session → ℕ → Call

-- "The first broken is the answer": the rule that each breaks first
abbrev pub call_broken : Call → List ℕ → Option Rule
call_broken (set m s r) img = set_broken m s r img
call_broken (get m s k buffer) img = get_broken m s k buffer img
call_broken (next m s k buffer) img = next_broken m s k buffer img
call_broken (start_up_def setup) img = start_up_broken setup img
call_broken (several m s ks buffer) img = gets_broken ks img
call_broken (profile m s file) img = profile_broken m s file img
call_broken (mode m s to) img = mode_broken m s to img

-- a call that breaks none reads; writes changes that follow from the values, a single one of them folded in too or not; or starts up with what it is given
pub data Kind : Type 0 where
  reads : Kind
  writes : Bool → (List Value → List Change) → Kind
  starts_up : Setup → Kind

-- "Of these calls only a set" changes the values: it writes one change; 02 (l): "the book in 01 takes their items as sets, in file order"
abbrev pub kind_of : Call → Kind
kind_of (set m s r) = writes false (changes_of r)
kind_of (get m s k buffer) = reads
kind_of (next m s k buffer) = reads
kind_of (start_up_def setup) = starts_up setup
kind_of (several m s ks buffer) = reads
kind_of (profile m s file) = writes true (changes_in (items_in file))
kind_of (mode m s to) = writes false (mode_changes to)

-- the stores of each kind: get, next-name and many-get make none; a start-up decides nothing
abbrev pub doing : Kind → List ℕ → Plan
doing reads img = make [] []
doing (writes fold changes) img = changes_plan fold img (changes (values_of img))
doing (starts_up setup) img = make [] (start_up_stores img)

-- what each call is to do to an image
unfoldable pub plan_of : Call → List ℕ → Plan
plan_of c img = on_some (call_broken c img) refuse (doing (kind_of c) img)

-- by a side, a set, a delete or an append, whole; a get; a next-name; a many-get; a profile
abbrev pub set_plan : Bool → Session → Request → List ℕ → Plan
set_plan modem s r img = plan_of (set modem s r) img

abbrev pub get_plan : Bool → Session → Key → List ℕ → List ℕ → Plan
get_plan modem s k buffer img = plan_of (get modem s k buffer) img

abbrev pub next_plan : Bool → Session → Key → List ℕ → List ℕ → Plan
next_plan modem s k buffer img = plan_of (next modem s k buffer) img

abbrev pub gets_plan : Bool → Session → List Key → List ℕ → List ℕ → Plan
gets_plan modem s ks buffer img = plan_of (several modem s ks buffer) img

abbrev pub profile_plan : Bool → Session → List ℕ → List ℕ → Plan
profile_plan modem s file img = plan_of (profile modem s file) img

abbrev pub mode_plan : Bool → Session → ℕ → List ℕ → Plan
mode_plan modem s to img = plan_of (mode modem s to) img

-- arguments are bytes, a GUID is 16 of them
abbrev pub Sized : Call → Type 0
Sized (set m s r) = Bytes r.name × Bytes r.vendor × (length r.vendor ≡ 16) × Bytes r.bytes
Sized (get m s k buffer) = Unit {0}
Sized (next m s k buffer) = Unit {0}
Sized (start_up_def setup) = Unit {0}
Sized (several m s ks buffer) = Unit {0}
Sized (profile m s file) = Bytes file
Sized (mode m s to) = Unit {0}

-- the changes of each kind
abbrev pub changes_by : Kind → List Value → List Change
changes_by reads vs = []
changes_by (writes fold changes) vs = changes vs
changes_by (starts_up setup) vs = []

-- the book: "only a set that is done, or had that store complete, changes it"
unfoldable pub entered : Call → List Value → List Value
entered c book = steps (changes_by (kind_of c) book) book

-- of a call that ran: done, or ended before its end with its deciding store complete; a refusal before any store has none
abbrev pub counts : Outcome → Bool → Bool
counts (done stores) complete = true
counts stopped complete = complete
counts (refused rule) complete = complete

unfoldable pub book_after : Call → Bool → List Value → List Value
book_after c true book = entered c book
book_after c false book = book

-- "A run is any list, also empty, of" calls: image and book after it, from the image that it began on. 02 (i), "for w as a variable": each call has its own, a
-- cut one any number
pub data Run (start : List ℕ) : List ℕ → List Value → Type 0 where
  begin : Run start start (values_of start)
  ran : {img : List ℕ}
      {book : List Value}
      → Run start img book
      → (c : Call)
      → Sized c
      → (x : Context)
      → Run
      start
      (image_after x (plan_of c img) img)
      (book_after c (counts (outcome x (plan_of c img) img) (decided (page_of x) (made_of x (plan_of c img) img) (plan_of c img))) book)
  cut : {img img' : List ℕ}
      {book : List Value}
      → Run start img book
      → (c : Call)
      → Sized c
      → (w k : ℕ)
      → Cut (stores_of w (plan_of c img)) k img img'
      → Run start img' (book_after c (decided w k (plan_of c img)) book)

-- "an image as a done start-up left it"
pub record StartedUp (img : List ℕ) : Type 0 where
  pub setup : Setup
  pub before : List ℕ
  pub bytes : Bytes before
  pub context : Context
  pub stores : ℕ
  pub finished : outcome context (start_up_plan setup before) before ≡ done stores
  pub left : img ≡ image_after context (start_up_plan setup before) before

-- 02 (d), "on what a done one leaves in the new form a run of 01 may begin"
pub record MovedInto (img : List ℕ) : Type 0 where
  pub form : Layout
  pub source : List ℕ
  pub target : List ℕ
  pub accepted : move_broken form authenticated source target ≡ none
  pub left : img ≡ image_moved form authenticated source target

-- what a run may begin on
pub data Begins (img : List ℕ) : Type 0 where
  started : StartedUp img → Begins img
  moved_in : MovedInto img → Begins img

-- the claim about one call of a run: a start-up that is done leaves the values of the book
abbrev pub Agrees : Kind → Context → List ℕ → List Value → Type 0
Agrees reads x img book = Unit {0}
Agrees (writes fold changes) x img book = Unit {0}
Agrees (starts_up setup) x img book =
    (stores : ℕ) → outcome x (start_up_plan setup img) img ≡ done stores → values_of (image_after x (start_up_plan setup img) img) ≡ book

-- "after every start-up in it that is done, the image's list of values equals the book as it then stands"
abbrev pub AgreesAll : {start img : List ℕ} {book : List Value} → Run start img book → Type 0
AgreesAll begin = Unit {0}
AgreesAll (ran {img} {book} run c sized x) = AgreesAll run × Agrees (kind_of c) x img book
AgreesAll (cut run c sized w k left) = AgreesAll run

-- *Demand 3*. It is also 02 (b), "A cut keeps data and stamp together": a cut append leaves the book as it was, or enters `new_value`, which has both
abbrev pub Demand3 : Type 0
Demand3 = (start img : List ℕ) (book : List Value) → Begins start → (run : Run start img book) → AgreesAll run

-- "it may only clear bits": no byte store of any call, formatting among them, on any image, with any w, asks a cleared bit to rise
abbrev pub NoBitRises : Type 0
NoBitRises =
    (w : ℕ) (img : List ℕ)
    → Bytes img
    → ((c : Call) → Sized c → Clears (stores_of w (plan_of c img)) img) × Clears (stores_of w (format_plan img)) img

-- the places of the work block's records, and of the states of entries, also of the next one
unfoldable pub is_record : List ℕ → ℕ → Bool
is_record img at = leb (work_at img) at && ltb at (work_at img + record_space)

unfoldable pub is_state_def : List ℕ → ℕ → Bool
is_state_def img at =
    any (λ e. eqb at (e.at + state_at)) (entries (region img)) || eqb at (tail_at (region img) + state_at)

-- a byte store clears exactly one bit: none rises, and old and new differ in one; "so a cut leaves the old state or the new"
abbrev pub ClearsOneBit : ℕ → ℕ → Type 0
ClearsOneBit old new =
    (bit_and old new ≡ new) × (difference old new ≡ 1) × ((x : ℕ) → Uncleared old new x → x ≢ new → x ≡ old)

-- 02 (i), "state and record marks are single bytes": a store of so many bytes changes a mark only if it is of that byte alone, and then it clears exactly one bit of it; a
-- longer one, as a header's page around the "FF in the place of its state", stores it as it stands
abbrev pub MarksAlone : ℕ → ℕ → ℕ → Type 0
MarksAlone long old new = (long ≡ 1 → ClearsOneBit old new) × (long ≢ 1 → new ≡ old)

-- a list's stores do, at every such place that they touch
abbrev pub ClearsOne : (ℕ → Bool) → List Store → List ℕ → Type 0
ClearsOne marks [] img = Unit {0}
ClearsOne marks (page at bs ∷ ss) img =
    ((i : ℕ) → i < length bs → marks (at + i) ≡ true → MarksAlone (length bs) (get_or img (at + i) 0) (get_or bs i 0))
    × ClearsOne marks ss (apply (page at bs) img)
ClearsOne marks (erase b ∷ ss) img = ClearsOne marks ss (apply (erase b) img)

-- a change in place, by a tail write or a delete: a compaction fills spare and region with whole bytes, which are no marks of states
unfoldable pub in_place_def : List ℕ → Change → Bool
in_place_def img nothing = true
in_place_def img (remove k) = true
in_place_def img (put v) = fits_tail (region img) v

-- a call that folds in what it changes, however little
abbrev pub folds : Kind → Bool
folds reads = false
folds (writes fold changes) = fold
folds (starts_up setup) = false

-- of a call that makes one change, in place
abbrev pub StatesClearOneBit : ℕ → Call → List ℕ → Type 0
StatesClearOneBit w c img =
    (change : Change)
    → folds (kind_of c) ≡ false
    → changes_by (kind_of c) (values_of img) ≡ change ∷ []
    → in_place_def img change ≡ true
    → ClearsOne (is_state_def img) (stores_of w (plan_of c img)) img

-- "Every change of state clears exactly one bit": every mark of a record, by any call, and of a state, by a change in place
abbrev pub MarksClearOneBit : Type 0
MarksClearOneBit =
    (w : ℕ) (img : List ℕ)
    → Bytes img
    → (c : Call)
    → Sized c
    → ClearsOne (is_record img) (stores_of w (plan_of c img)) img × StatesClearOneBit w c img
