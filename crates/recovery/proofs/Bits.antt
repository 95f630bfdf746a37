-- No byte store asks a cleared bit to rise, and every mark is of one byte and clears exactly one bit, with any w. Bytes are stored where the flash is blank: in the tail, in a blank spare, in an
-- erased region; marks go down the rows FF 7F 3F 3E 3C, 3F 3D and FF FE FC F8, a bit at a time.
-- Assumes nothing.
use Prim.Native.Nat.{ℕ, ◌+◌, ◌*◌, ◌≤◌}
use native.Mathlib.Omega.{arith}
use mathlib.Core.Path.{◌≡◌, refl, sym, ap, ◌∙◌, subst}
use mathlib.Core.Logic.{◌≢◌}
use mathlib.Core.Bool.{Bool, true, false, not, cond, ◌||◌, and-false, true≢false}
use mathlib.Core.List.{List, [], ◌∷◌, ◌++◌}
use mathlib.Core.Option.{Option, none, some}
use lib.Dec.{eqb, leb}
use borrow.Author.Tests.{ne_eqb, lt-leb, le-ltb}
use Rattle.model.specs.declared.Rule.{Rule}
use Rattle.model.specs.declared.Rule.TheVariants.{Length}
use Rattle.model.specs.Lists.{any, is_empty, on_some}
use Rattle.model.specs.Image.{block, right_length, region_size, region}
use Rattle.model.specs.Layout.{state_at}
use Rattle.model.specs.Entry.{Value}
use Rattle.model.specs.Region.{entries, tail_at, values_of}
use Rattle.model.specs.Work.{record_space, ready_for_start_up}
use Rattle.model.specs.Change.{Change}
use Rattle.model.specs.Rules.{first_broken, rule1, format_broken}
use Rattle.model.specs.Stores.{stores, Bytes}
use Rattle.model.specs.Set.{Plan, refuse, make, changes_plan}
use Rattle.model.specs.StartUp.{start_up_stores, format_stores, format_plan}
use Rattle.model.specs.Answers.{stores_of}
use Rattle.model.specs.Book.{Call, call_broken, Kind, reads, writes, starts_up, kind_of, doing, plan_of, Sized, changes_by, ClearsOne, is_record, is_state_def, in_place_def, folds, NoBitRises, MarksClearOneBit}
use Rattle.model.proofs.Parts.{parts-size, parts-region}
use Rattle.model.proofs.Changes.{Fitting}
use Rattle.recovery.proofs.EveryCall.{Lets, Accepted, accepted}
use Rattle.recovery.proofs.StartingUp.{Ready, ready_of}
use Rattle.recovery.proofs.ByteLists.{bytes_left}
use Rattle.recovery.proofs.Clearing.{Along, along-clears, along_one}
use Rattle.recovery.proofs.BitsOfCompaction.{Bare, start_up-along, format-along}
use Rattle.recovery.proofs.BitsOfSets.{Tailed, only_in_place, changes-along, states-below, clean-chunked}

-- ---- the places of the marks

records-bare : (img : List ℕ) → Bare (is_record img) (region_size img)
unfolding is_record block
records-bare img = record {
  below = λ i h. rw (lt-leb (region_size img) i h);
  behind = λ i h. rw (le-ltb i (region_size img + record_space) (omega arith)) (and-false (leb (region_size img) i));
}

states-tailed : (img : List ℕ) → Ready img → Tailed (is_state_def img) img
unfolding is_state_def
states-tailed img q i h l n =
    let whole : region img ≡ q.r = ap region q.whole ∙ parts-region q.parts in
    subst (λ (r : List ℕ). tail_at r ≤ i → i ≢ tail_at r + state_at → (any (λ e. eqb i (e.at + state_at)) (entries r) || eqb i (tail_at r + state_at)) ≡ false) (sym whole)
    (λ h n. rw (states-below (clean-chunked q.parts q.cleaned).made i h) (ne_eqb i (tail_at q.r + state_at) n)) h n

-- a call that is refused makes no stores
unless-refused : (marks : ℕ → Bool) (w : ℕ) (img : List ℕ) (o : Option Rule) (p : Plan) → (o ≡ none → Along marks (stores_of w p) img)
    → Along marks (stores_of w (on_some o refuse p)) img
unfolding stores_of
unless-refused marks w img none p h = h refl
unless-refused marks w img (some rule) p h = tt

-- ---- changes

module _ (marks : ℕ → Bool) (w : ℕ) (img : List ℕ) (bytes : Bytes img) (tailed : Ready img → Tailed marks img) where
  writes-along : (fold : Bool) (changes : List Value → List Change) → Lets changes img → (only_in_place fold img (changes (values_of img)) ≡ false → Bare marks (region_size img))
      → Along marks (stores_of w (changes_plan fold img (changes (values_of img)))) img
  writes-along fold changes l bare =
      let i = ready_of img l.long l.ready in
      let p = i.parts in
      let cs = changes (values_of img) in
      let bared : only_in_place fold (i.r ++ (i.w ++ i.s)) cs ≡ false → Bare marks (block * i.b) = λ h.
      subst (Bare marks) (ap region_size i.whole ∙ parts-size p) (bare (ap (λ (x : List ℕ). only_in_place fold x cs) i.whole ∙ h)) in
      subst (λ (x : List ℕ). Along marks (stores_of w (changes_plan fold x cs)) x) (sym i.whole)
      (changes-along marks w p i.cleaned i.free i.rested (bytes_left i.r (i.w ++ i.s) (subst Bytes i.whole bytes))
      (subst (Tailed marks) i.whole (tailed i)) fold cs (subst (λ (x : List ℕ). Fitting cs (values_of x) (region_size x)) i.whole l.fitting) (l.bytewise bytes) bared)

-- ---- every call, with the marks of records

kind-along : (w : ℕ) (img : List ℕ) → Bytes img → (k : Kind) → Accepted k img → Along (is_record img) (stores_of w (doing k img)) img
unfolding stores_of stores
kind-along w img bytes reads a = tt
kind-along w img bytes (writes fold changes) a =
    writes-along (is_record img) w img bytes (λ i j h l n. (records-bare img).below j l) fold changes a (λ h. records-bare img)
kind-along w img bytes (starts_up setup) a = start_up-along (is_record img) img a.0 a.1 bytes (records-bare img) w

-- of a start-up's stores, whatever it is given
pub start_up-marks : (w : ℕ) (img : List ℕ) → Bytes img → right_length img ≡ true → ready_for_start_up img ≡ true → ClearsOne (is_record img) (stores w (start_up_stores img)) img
start_up-marks w img bytes long ready =
    along_one (is_record img) (stores w (start_up_stores img)) img (start_up-along (is_record img) img long ready bytes (records-bare img) w)

call_along : (w : ℕ) (img : List ℕ) → Bytes img → (c : Call) → Sized c → Along (is_record img) (stores_of w (plan_of c img)) img
unfolding plan_of
call_along w img bytes c sized =
    unless-refused (is_record img) w img (call_broken c img) (doing (kind_of c) img) (λ e. kind-along w img bytes (kind_of c) (accepted c img sized e))

-- ---- the two claims

format-length : (img : List ℕ) → format_broken img ≡ none → right_length img ≡ true
unfolding format_broken first_broken rule1
format-length img h = go (right_length img) h
  where
    go : (t : Bool) → cond (not t) (some Length) none ≡ none → t ≡ true
    go true e = refl
    go false e = let z : ◌≡◌ {A = ℕ} 0 1 = cc in absurd (omega arith)

format-clears : (w : ℕ) (img : List ℕ) → Along (λ i. false) (stores_of w (format_plan img)) img
unfolding format_plan stores_of
format-clears w img = unless-refused (λ i. false) w img (format_broken img) (make [] (format_stores img)) (λ e. format-along img (format-length img e) w)

pub no-bit-rises : NoBitRises
no-bit-rises w img bytes = (
  λ c sized. along-clears (is_record img) (stores_of w (plan_of c img)) img (call_along w img bytes c sized),
  along-clears (λ i. false) (stores_of w (format_plan img)) img (format-clears w img),
)

-- with the marks of states, of one change in place
states-along : (w : ℕ) (img : List ℕ) → Bytes img → (o : Option Rule) (k : Kind) → (o ≡ none → Accepted k img)
    → (c : Change) → folds k ≡ false → changes_by k (values_of img) ≡ c ∷ [] → in_place_def img c ≡ true → ClearsOne (is_state_def img) (stores_of w (on_some o refuse (doing k img))) img
states-along w img bytes o reads a c single one h = absurd (true≢false (ap is_empty one))
states-along w img bytes o (writes fold changes) a c single one h =
    let placed : only_in_place fold img (changes (values_of img)) ≡ true = ap (only_in_place fold img) one ∙ rw single h in
    along_one (is_state_def img) (stores_of w (on_some o refuse (changes_plan fold img (changes (values_of img))))) img
    (unless-refused (is_state_def img) w img o (changes_plan fold img (changes (values_of img)))
    (λ e. writes-along (is_state_def img) w img bytes (states-tailed img) fold changes (a e) (λ n. absurd (true≢false (sym placed ∙ n)))))
states-along w img bytes o (starts_up setup) a c single one h = absurd (true≢false (ap is_empty one))

pub marks-clear-one-bit : MarksClearOneBit
unfolding plan_of
marks-clear-one-bit w img bytes c sized =
    (along_one (is_record img) (stores_of w (plan_of c img)) img (call_along w img bytes c sized), states-along w img bytes (call_broken c img) (kind_of c) (accepted c img sized))
