-- 02 (k), "How fast the flash wears": what sets and mode requests have to store between two compactions, and how often each block is erased at most. Calls
-- are taken by their kind: a set or a mode request has a single change, and with several it is a joint change; what a profile changes is folded in, however
-- little. Each claim is a type.
use Rattle.std.specs.Prelude.{ℕ, suc, ◌+◌, ◌*◌, ◌-◌, ◌≤◌, ◌<◌, ◌≡◌, ◌≢◌, Bool, true, false, not, cond, ◌&&◌, List, [], ◌∷◌, ◌++◌, length, take, eqb, ltb}
use Rattle.std.proofs.Math.Option.{Option, none, some}
use Rattle.model.specs.Lists.{all, any, keep, on_some, is_some, is_empty}
use Rattle.model.specs.Image.{blocks, right_length, region_size, region}
use Rattle.model.specs.Entry.{Value, entry_size_def}
use Rattle.model.specs.Region.{tail}
use Rattle.model.specs.Work.{record_space, ready_for_call}
use Rattle.model.specs.Change.{Change, nothing, remove, put, is_nothing, space_of}
use Rattle.model.specs.Stores.{Store, page, erase, Cut}
use Rattle.model.specs.StartUp.{start_up_stores}
use Rattle.model.specs.Set.{Plan, put_plan, compact_plan}
use Rattle.model.specs.Answers.{page_of, made_of, stores_of, decided}
use Rattle.model.specs.Book.{Call, call_broken, Kind, reads, writes, starts_up, kind_of, plan_of, Sized, changes_by, entered, folds, in_place_def, Run, begin, ran, cut, Begins}
use Rattle.recovery.specs.Interface.{Begun, Calls, none_yet, returned, power-failed}
use Rattle.recovery.specs.Host.{Hosting, HostBegun}
use Rattle.recovery.specs.Host as host

-- ---- one call, on an image and with the book as it then is

-- the change that is made by itself: several changes, and one that is folded in, are a compaction if anything differs
abbrev pub alone : Bool → List Change → Option Change
alone true cs = none
alone false [] = none
alone false (c ∷ []) = some c
alone false (c ∷ d ∷ cs) = none

-- of a set or a mode request its single change; a joint change, a profile, a call that reads and a start-up have none
unfoldable pub single : Call → List Value → Option Change
single c book = alone (folds (kind_of c)) (changes_by (kind_of c) book)

-- the rounded size of the entry that a change has to store; a delete has no entry, nor has a set that changes nothing
unfoldable pub change_size : Change → ℕ
change_size nothing = 0
change_size (remove k) = 0
change_size (put v) = entry_size_def v

-- "the rounded sizes of all entries that sets and mode requests, stopped, cut or failed ones too, had to store", "with sizes taken from the calls (for an
-- append, its data and those then standing under the name)": from the call's arguments and the book. A refused call has nothing to store; but 23 is met at a
-- store, so that a call which failed had as much to store as one that is done.
unfoldable pub to_store : Call → List ℕ → List Value → ℕ
to_store c img book = on_some (call_broken c img) (λ rule. 0) (on_some (single c book) change_size 0)

-- the call has a compaction to make: its single change does not fit in the tail; or its changes are folded in, and something differs
unfoldable pub to_compact : Call → List ℕ → List Value → Bool
to_compact c img book =
    on_some
    (call_broken c img)
    (λ rule. false)
    (on_some (single c book) (λ change. not (in_place_def img change)) (not (all is_nothing (changes_by (kind_of c) book))))

-- "because the tail was too short"
abbrev pub too_short_def : Call → List ℕ → List Value → Bool
too_short_def c img book = to_compact c img book && is_some (single c book)

-- "other compaction": a profile's, and that of a joint change; a start-up's own is counted with the start-up
abbrev pub otherwise : Call → List ℕ → List Value → Bool
otherwise c img book = to_compact c img book && not (is_some (single c book))

-- "the tail that the first compaction left": the region without its header and the values of the book with the call entered
unfoldable pub tail_left : Call → List ℕ → List Value → ℕ
tail_left c img book = region_size img - space_of (entered c book)

-- a start-up that has stores to make; one on an image that is ready for calls has none
abbrev pub busy_by : Kind → List ℕ → Bool
busy_by reads img = false
busy_by (writes fold changes) img = false
busy_by (starts_up setup) img = not (is_empty (start_up_stores img))

unfoldable pub busy_start_up : Call → List ℕ → Bool
busy_start_up c img = on_some (call_broken c img) (λ rule. false) (busy_by (kind_of c) img)

-- ---- the calls of a run

-- one of them: the call, the image and the book before it, its w, how many of its stores were complete, and whether the power failed in it, or a host gave
-- its plan up, so that the next store may have been begun
pub record Step : Type 0 where
  pub call : Call
  pub image : List ℕ
  pub book : List Value
  pub width : ℕ
  pub complete : ℕ
  pub power_failed : Bool

-- all of them, the last first
unfoldable pub steps_in : {start img : List ℕ} {book : List Value} → Run start img book → List Step
steps_in begin = []
steps_in (ran {img} {book} run c sized x) =
    record { call = c; image = img; book = book; width = page_of x; complete = made_of x (plan_of c img) img; power_failed = false } ∷ steps_in run
steps_in (cut {img} {img'} {book} run c sized w k left) =
    record { call = c; image = img; book = book; width = w; complete = k; power_failed = true } ∷ steps_in run

abbrev pub step_plan : Step → Plan
step_plan s = plan_of s.call s.image

-- its deciding store is complete
abbrev pub decides : Step → Bool
decides s = decided s.width s.complete (step_plan s)

-- a compaction is made when its deciding store is complete; one that was ended before has changed no value and no byte of the region
abbrev pub compacted : Step → Bool
compacted s = to_compact s.call s.image s.book && decides s

abbrev pub to_store_by : Step → ℕ
to_store_by s = to_store s.call s.image s.book

abbrev pub tail_after : Step → ℕ
tail_after s = tail_left s.call s.image s.book

-- what all of them had to store
unfoldable pub to_store_in : List Step → ℕ
to_store_in [] = 0
to_store_in (s ∷ ss) = to_store_by s + to_store_in ss

-- ---- 02's bound

-- since the last compaction that was made: the tail that it left, and what calls after it had to store
pub record Window : Type 0 where
  pub left : ℕ
  pub since : ℕ

abbrev pub grown : ℕ → Option Window → Option Window
grown n none = none
grown n (some w) = some (record { left = w.left; since = w.since + n })

-- Every compaction that is made begins a window, also a profile's and that of a joint change; one that has changed no value and no byte of the region does not.
-- 02 asks for the bound with "no start-up" between. It holds across start-ups, also those that compact or finish a compaction, so that none ends a window.
unfoldable pub window_over : Option Window → List Step → Option Window
window_over first [] = first
window_over first (s ∷ ss) =
    cond (compacted s) (some (record { left = tail_after s; since = 0 })) (grown (to_store_by s) (window_over first ss))

-- "the last one included, add up to more than the tail that the first compaction left": of any call that next compacts because the tail is too short, be it
-- done, stopped, failed or cut
abbrev pub Outgrown : Option Window → List Step → List ℕ → List Value → Type 0
Outgrown first steps img book =
    (w : Window)
    → window_over first steps ≡ some w
    → (c : Call)
    → Sized c
    → too_short_def c img book ≡ true
    → w.left < w.since + to_store c img book

-- "Show this for every run of 01"
abbrev pub WearBound : Type 0
WearBound =
    (start img : List ℕ) (book : List Value)
    → Begins start
    → (run : Run start img book)
    → Outgrown none (steps_in run) img book

-- It holds from the beginning of a run too, with the tail of the image that it begins on, as a done start-up or a move left it.
abbrev pub FirstWearBound : Type 0
FirstWearBound =
    (start img : List ℕ) (book : List Value)
    → Begins start
    → (run : Run start img book)
    → Outgrown (some (record { left = length (tail (region start)); since = 0 })) (steps_in run) img book

-- And so it does from any image that calls are accepted on. Where a first compaction was ended before its deciding store, it left no tail, and the bound holds
-- from there with the image's own.
abbrev pub ReadyWearBound : Type 0
ReadyWearBound =
    (start img : List ℕ) (book : List Value)
    → right_length start ≡ true
    → ready_for_call start ≡ true
    → (run : Run start img book)
    → Outgrown (some (record { left = length (tail (region start)); since = 0 })) (steps_in run) img book

-- `WearBound` in 02's own words: "Between two compactions made because the tail was too short, with no .. other compaction between, the rounded sizes of all
-- entries that sets and mode requests .. had to store, the last one included, add up to more than the tail that the first compaction left." Start-ups may be
-- between, and so may compactions that have changed no value and no byte of the region.
abbrev pub BetweenTwo : Type 0
BetweenTwo =
    (start img : List ℕ) (book : List Value)
    → Begins start
    → (run : Run start img book)
    → (between before : List Step)
    → (one : Step)
    → steps_in run ≡ between ++ (one ∷ before)
    → (too_short_def one.call one.image one.book && decides one) ≡ true
    → any compacted between ≡ false
    → (c : Call)
    → Sized c
    → too_short_def c img book ≡ true
    → tail_after one < to_store_in between + to_store c img book

-- What is called a compaction here is the whole plan of its call, and leaves the values of the book after it.
abbrev pub CompactionPlanned : Type 0
CompactionPlanned =
    (start img : List ℕ) (book : List Value)
    → Begins start
    → Run start img book
    → (c : Call)
    → Sized c
    → to_compact c img book ≡ true
    → plan_of c img ≡ compact_plan img (entered c book)

-- `tail_left` is the tail of the image after it, if calls are accepted there without a start-up. Where it was cut or stopped before calls are accepted again,
-- with its deciding store complete, it has left no tail, and every call is refused until a start-up. A call that returned is one cut after the stores that it
-- made.
abbrev pub CompactionLeaves : Type 0
CompactionLeaves =
    (start img : List ℕ) (book : List Value)
    → Begins start
    → Run start img book
    → (c : Call)
    → Sized c
    → to_compact c img book ≡ true
    → (w k : ℕ) (img' : List ℕ)
    → Cut (stores_of w (plan_of c img)) k img img'
    → decided w k (plan_of c img) ≡ true
    → ready_for_call img' ≡ true
    → length (tail (region img')) ≡ tail_left c img book

-- What a single change has to store is the entry that its call plans to write, in the tail or in a compaction.
abbrev pub ToStorePlanned : Type 0
ToStorePlanned =
    (start img : List ℕ) (book : List Value)
    → Begins start
    → Run start img book
    → (c : Call)
    → Sized c
    → call_broken c img ≡ none
    → (v : Value)
    → single c book ≡ some (put v)
    → (plan_of c img ≡ put_plan img v) × (to_store c img book ≡ entry_size_def v)

-- ---- for planning: how many compactions

-- how many steps pass a test
abbrev pub count : (Step → Bool) → List Step → ℕ
count f ss = length (keep f ss)

-- the compactions made because the tail was too short; the other ones that are made; the start-ups that have stores to make
abbrev pub shorts : List Step → ℕ
shorts ss = count (λ s. too_short_def s.call s.image s.book && decides s) ss

abbrev pub others : List Step → ℕ
others ss = count (λ s. otherwise s.call s.image s.book && decides s) ss

abbrev pub busy_start_ups : List Step → ℕ
busy_start_ups ss = count (λ s. busy_start_up s.call s.image) ss

-- every compaction that is made leaves at least so much: for instance L less 28 and the most that the book's values ever take
abbrev pub LeavesAtLeast : ℕ → List Step → Type 0
LeavesAtLeast least [] = Unit {0}
LeavesAtLeast least (s ∷ ss) = (compacted s ≡ true → least ≤ tail_after s) × LeavesAtLeast least ss

-- compactions because the tail was too short ≤ 1 + bytes to store / (least + 1): each but the first had more than `least` to be stored since the one before it
abbrev pub ShortsBounded : List Step → Type 0
ShortsBounded steps = (least : ℕ) → LeavesAtLeast least steps → shorts steps * suc least ≤ suc least + to_store_in steps

abbrev pub CompactionsBounded : Type 0
CompactionsBounded =
    (start img : List ℕ) (book : List Value) → Begins start → (run : Run start img book) → ShortsBounded (steps_in run)

-- ---- for planning: how many start-ups have stores to make

-- a call that did not run to its end: not all stores of its plan are complete
abbrev pub unfinished : Step → Bool
unfinished s = ltb s.complete (length (stores_of s.width (step_plan s)))

-- They are at most as many as the calls that did not run to their end, start-ups among them.
abbrev pub StartUpsBounded : Type 0
StartUpsBounded =
    (start img : List ℕ) (book : List Value)
    → Begins start
    → (run : Run start img book)
    → busy_start_ups (steps_in run) ≤ count unfinished (steps_in run)

-- ---- for planning: how often each block is erased

-- by a list of stores
abbrev pub is_erase : ℕ → Store → Bool
is_erase j (page at bs) = false
is_erase j (erase b) = eqb b j

abbrev pub erases_in : ℕ → List Store → ℕ
erases_in j ss = length (keep (is_erase j) ss)

-- by a step: by its stores that are complete, and by the next one too where the power failed, since an erase that is begun wears the block
unfoldable pub erases_by : ℕ → Step → ℕ
erases_by j s = erases_in j (take (cond s.power_failed (suc s.complete) s.complete) (stores_of s.width (step_plan s)))

unfoldable pub erased : ℕ → List Step → ℕ
erased j [] = 0
erased j (s ∷ ss) = erases_by j s + erased j ss

-- Every block of the region and of the spare, b of each: in sum at most once for each compaction that is made and each start-up that has stores to make. One
-- start-up may erase the spare twice, if it follows one that was ended after it had begun to compact. What was erased before the run, by the start-up that it
-- begins after, a format or a move, is not counted.
abbrev pub BlocksBounded : ℕ → List Step → Type 0
BlocksBounded b steps = (j : ℕ) → j ≢ b → erased j steps ≤ shorts steps + others steps + busy_start_ups steps

-- calls that have a compaction to make, made or not; calls in which the power failed
abbrev pub due : List Step → ℕ
due ss = count (λ s. to_compact s.call s.image s.book) ss

abbrev pub power_failures : List Step → ℕ
power_failures ss = count (λ s. s.power_failed) ss

-- The work block: once in 64 records. A compaction uses one, made or not, and so does a start-up that compacts; some may be used at the beginning. Beside that
-- once for a start-up that has stores to make, and once where the power failed: an erase that is begun may leave all 64 used.
abbrev pub WorkBounded : ℕ → List Step → Type 0
WorkBounded b steps =
    record_space * erased b steps ≤ record_space * suc (busy_start_ups steps + power_failures steps) + due steps + busy_start_ups steps

abbrev pub ErasesBounded : Type 0
ErasesBounded =
    (start img : List ℕ) (book : List Value)
    → Begins start
    → (run : Run start img book)
    → BlocksBounded (blocks start) (steps_in run) × WorkBounded (blocks start) (steps_in run)

-- The planners' figure, of a block of the region or the spare: erases ≤ 1 + other compactions + start-ups that have stores to make + bytes to store /
-- (least + 1).
abbrev pub FigureHolds : ℕ → List Step → Type 0
FigureHolds b steps =
    (least : ℕ)
    → LeavesAtLeast least steps
    → (j : ℕ)
    → j ≢ b
    → erased j steps * suc least ≤ suc (others steps + busy_start_ups steps) * suc least + to_store_in steps

abbrev pub PlannersFigure : Type 0
PlannersFigure =
    (start img : List ℕ) (book : List Value)
    → Begins start
    → (run : Run start img book)
    → FigureHolds (blocks start) (steps_in run)

-- ---- the interface, and a host that carries out plans

-- all of it, of steps from one image to another and its book; the bound from the beginning, and so since each compaction that is made
abbrev pub Wears : List ℕ → List Step → List ℕ → List Value → Type 0
Wears start steps img book =
    Outgrown (some (record { left = length (tail (region start)); since = 0 })) steps img book
    × ShortsBounded steps
    × (busy_start_ups steps ≤ count unfinished steps)
    × BlocksBounded (blocks start) steps
    × WorkBounded (blocks start) steps
    × FigureHolds (blocks start) steps

-- the calls to the interface: one that returned has made the stores that its n, its dead bytes and its w let it, and began no other
unfoldable pub steps_of_calls : {start img : List ℕ} {book : List Value} → Calls start img book → List Step
steps_of_calls none_yet = []
steps_of_calls (returned {img} {img'} {book} calls c sized x a m) =
    record { call = c; image = img; book = book; width = page_of x; complete = made_of x (plan_of c img) img; power_failed = false } ∷ steps_of_calls calls
steps_of_calls (power-failed {img} {img'} {book} calls c sized x k left) =
    record { call = c; image = img; book = book; width = page_of x; complete = k; power_failed = true } ∷ steps_of_calls calls

abbrev pub InterfaceWears : Type 0
InterfaceWears =
    (start img : List ℕ) (book : List Value)
    → Begun start
    → (calls : Calls start img book)
    → Wears start (steps_of_calls calls) img book

-- the plans that a host carried out, with a w of its own for each, or gave up or had cut
unfoldable pub steps_of_host : {start part : List ℕ} {book : List Value} → Hosting start part book → List Step
steps_of_host host.none_yet = []
steps_of_host (host.carried-out {part} {book} hosting c sized content p planned w) =
    record { call = c; image = part; book = book; width = w; complete = length (stores_of w (plan_of c part)); power_failed = false } ∷ steps_of_host hosting
steps_of_host (host.power-failed {part} {part'} {book} hosting c sized content p planned w k left) =
    record { call = c; image = part; book = book; width = w; complete = k; power_failed = true } ∷ steps_of_host hosting

abbrev pub HostWears : Type 0
HostWears =
    (start part : List ℕ) (book : List Value)
    → HostBegun start
    → (hosting : Hosting start part book)
    → Wears start (steps_of_host hosting) part book
