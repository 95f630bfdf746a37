-- What a query answers: refused by the first of rules 1, 2 and 4 that is broken, else the room in the region, by the sums of its values.
-- Assumes nothing.
use Prim.Native.Nat.{ℕ, ◌+◌, ◌*◌, ◌-◌, ◌/◌, min}
use native.Mathlib.Omega.{arith}
use mathlib.Core.Path.{◌≡◌, refl, sym, ap, ◌∙◌}
use mathlib.Core.Bool.{Bool, true, false, not, cond, ◌||◌, or-true}
use mathlib.Core.List.{List, [], ◌∷◌}
use mathlib.Core.Option.{none, some}
use lib.ListN.{length}
use lib.Dec.{eqb}
use Rattle.model.specs.declared.Terms.{Terms}
use Rattle.model.specs.declared.Rule.{Rule}
use Rattle.model.specs.declared.Rule.TheVariants.{Attributes}
use Rattle.model.specs.declared.Queried.{Queried}
use Rattle.model.specs.declared.Answer.TheVariants.{Done, Refused}
use Rattle.model.specs.Layout.{authenticated}
use Rattle.model.specs.Lists.{or_else}
use Rattle.model.specs.Image.{region_header_size, block, region, region_size}
use Rattle.model.specs.Entry.{Value}
use Rattle.model.specs.Region.{record_bit, entries, values, values_of, values_in}
use Rattle.model.specs.Change.{record_sizes, space_of}
use Rattle.model.specs.Sides.{side_sizes}
use Rattle.model.specs.Rules.{first_broken, rule4, image_rules}
use Rattle.model.specs.Answers.{answer_of}
use Rattle.model.specs.Query.{record_share_def, storage_for, remaining_for, largest_for, query_broken, query_outcome, query_gives}
use Rattle.model.proofs.Requests.{broken-append}
use Rattle.model.proofs.Space.{all-sizes}
use Rattle.values.proofs.Counting.{both-sides}
use Rattle.image.specs.Check.{call_of, IsReady}
use Rattle.image.specs.declared.Ready.{Ready}
use Rattle.std.specs.Prelude.{Ok, Err}
use Rattle.image.proofs.Readiness.{is-ready, refused-rule}

-- ---- attributes that no value has

pub unknown-none : (runtime : Bool) {a : ℕ} → a ≡ 0 → true ≡ (rule4 runtime a || eqb a 0)
unknown-none runtime {a} e = sym (ap (λ (n : ℕ). rule4 runtime n || eqb n 0) e ∙ or-true (rule4 runtime 0))

pub unknown-some : (runtime : Bool) (a : ℕ) {r : Bool} → eqb a 0 ≡ false → r ≡ rule4 runtime a → r ≡ (rule4 runtime a || eqb a 0)
unknown-some runtime a e b = b ∙ sym (rw e (go (rule4 runtime a)))
  where
    go : (t : Bool) → (t || false) ≡ t
    go true = refl
    go false = refl

-- ---- the room by the sums

pub remaining-by : (t : Terms) (error : Bool) (size : ℕ) (vs : List Value)
    → min
    (size - (region_header_size + record_sizes vs + side_sizes t.vendor t.modem vs + side_sizes t.vendor (not t.modem) vs))
    (cond error (record_share_def t - record_sizes vs) (t.share - (side_sizes t.vendor t.modem vs + t.reserve)))
    / 4
    * 4
    ≡ remaining_for t error size vs
unfolding remaining_for
remaining-by t error size vs =
    let all : region_header_size + record_sizes vs + side_sizes t.vendor t.modem vs + side_sizes t.vendor (not t.modem) vs ≡ space_of vs =
    omega (arith, all-sizes vs, both-sides t.vendor t.modem vs) in
    rw all

-- ---- what a query answers

abbrev pub Told : Terms → List ℕ → ℕ → Queried → Type 0
Told t img a q =
    (answer_of q.answer ≡ query_outcome t.runtime a img)
    × (q.storage ≡ query_gives t.runtime a img (storage_for t (record_bit a) (region_size img)))
    × (q.remaining ≡ query_gives t.runtime a img (remaining_for t (record_bit a) (region_size img) (values_of img)))
    × (q.largest ≡ query_gives t.runtime a img (largest_for (remaining_for t (record_bit a) (region_size img) (values_of img))))

module _ (t : Terms) (img : List ℕ) (a : ℕ) where
  abbrev runtime : Bool
  runtime = t.runtime

  judged : query_broken runtime a img ≡ or_else (first_broken (image_rules img)) (cond (rule4 runtime a || eqb a 0) (some Attributes) none)
  unfolding query_broken first_broken
  judged = broken-append (image_rules img) ((Attributes, rule4 runtime a || eqb a 0) ∷ [])

  told-rule : {q : Queried} (rule : Rule) → query_broken runtime a img ≡ some rule → q ≡ record { answer = Refused rule; storage = 0; remaining = 0; largest = 0 } → Told t img a q
  unfolding query_outcome query_gives
  told-rule rule b e = rw (e, b) (refl, refl, refl, refl)

  pub told-refused : {q : Queried} (rule : Rule) → call_of img ≡ Err rule → q ≡ record { answer = Refused rule; storage = 0; remaining = 0; largest = 0 } → Told t img a q
  told-refused rule p = told-rule rule (judged ∙ rw (refused-rule authenticated img rule p))

  module _ {x : Ready} (p : call_of img ≡ Ok x) where
    ready : IsReady img x.blocks x.tail x.used
    ready = is-ready authenticated p

    pub told-unknown : {q : Queried} → (rule4 runtime a || eqb a 0) ≡ true → q ≡ record { answer = Refused Attributes; storage = 0; remaining = 0; largest = 0 } → Told t img a q
    told-unknown k = told-rule Attributes (judged ∙ rw (ready.unbroken, k))

    pub told-room : {q : Queried} {r : List ℕ} → (rule4 runtime a || eqb a 0) ≡ false → r ≡ region img
        → q.answer ≡ Done 0
        → q.storage ≡ storage_for t (record_bit a) (length r)
        → q.remaining ≡ remaining_for t (record_bit a) (length r) (values (entries r))
        → q.largest ≡ largest_for (remaining_for t (record_bit a) (length r) (values (entries r)))
        → Told t img a q
    unfolding query_outcome query_gives values_in region_size block
    told-room k same x y z w =
        let long : region_size img ≡ length (region img) = ap (λ (n : ℕ). 4096 * n) ready.number ∙ sym ready.long in
        rw (judged, ready.unbroken, k) (ap answer_of x, rw (long, ← same) y, rw (long, ← same) z, rw (long, ← same) w)
