-- A put in the tail. The rounded entry fits where the code finds room for it; its bytes stand at the content's front; and the plan's stores are those of the definitions.
-- Assumes nothing.
use Prim.Native.Nat.{ℕ, ◌+◌, ◌*◌, ◌^◌, ◌≤◌, ◌<◌}
use native.Mathlib.Omega.{arith}
use mathlib.Core.Path.{◌≡◌, refl, sym, ap, ◌∙◌, subst}
use mathlib.Core.Logic.{◌⊎◌, inl, inr}
use mathlib.Core.Bool.{true, false}
use mathlib.Core.List.{List, ◌++◌}
use lib.ListN.{length, drop, length-append}
use lib.Seq.{sets-eq, length-sets}
use borrow.Author.Tests.{le-leb, lt-leb, leb-true}
use Rattle.std.specs.Prelude.{Some, Ok}
use Rattle.model.specs.Image.{block, region}
use Rattle.model.specs.Entry.{Value, key_of, rounded, entry_size_def, entry_bytes}
use Rattle.model.specs.Region.{entries, tail_at}
use Rattle.model.specs.Stores.{Store}
use Rattle.model.specs.Set.{Plan, make, tail_to, tail_on, fits_tail, put_plan}
use Rattle.model.specs.Answers.{stores_of}
use Rattle.model.specs.Book.{ClearsOne, is_state_def}
use Rattle.values.specs.declared.Places.{Places}
use Rattle.output.specs.Text.{Wrote}
use Rattle.compose.proofs.Headers.{entry-short}
use Rattle.plan.specs.declared.Step.{Step}
use Rattle.plan.specs.Planned.{accepted, decides_right}
use Rattle.plan.proofs.Parts.{mark-decides, accepted-as}
use Rattle.planner.specs.Entries.{Below, tail_plan}
use Rattle.planner.proofs.EntryPlans.{Holds, tail-to, tail-on, entry-holds}
use Rattle.planner.proofs.EntryReady.{tail-ready}
use Rattle.planner.proofs.Found.{places-below}
use Rattle.planner.specs.Asked.{Asked, PutPlanned}
use Rattle.planner.proofs.Ready.{image-long, ready-clean}

-- the size as the code counts it
pub size_is : (name old own : List ℕ) → rounded (60 + length name + (length old + length own)) ≡ rounded (60 + length name + length (old ++ own))
size_is name old own = ap (λ (k : ℕ). rounded (60 + length name + k)) (sym (length-append old own))

module _ {img : List ℕ} {b at used : ℕ} {places : Places} {v : Value} (a : Asked img b at used places v) where
  pub fits : at + entry_size_def v ≤ 4096 * b → fits_tail (region img) v ≡ true
  unfolding fits_tail
  fits h = le-leb (tail_at (region img) + entry_size_def v) (length (region img)) (omega (arith, a.ready.long, a.ready.tail-at))

  pub fits_not : 4096 * b < at + entry_size_def v → fits_tail (region img) v ≡ false
  unfolding fits_tail
  fits_not h = lt-leb (tail_at (region img) + entry_size_def v) (length (region img)) (omega (arith, a.ready.long, a.ready.tail-at))

  -- the places lie below an offset that the region does
  pub below : (end : ℕ) → 28672 ≤ end ⊎ length img ≤ end → Below end places.added × Below end places.replacing
  unfolding block
  below end h =
      places-below img a.ready.right (ready-clean img a.ready.ready) places.added places.replacing (key_of v) a.added a.replacing end (short h)
    where
      short : 28672 ≤ end ⊎ length img ≤ end → length (region img) ≤ end
      short (inl h) = omega (arith, a.ready.long, a.ready.few)
      short (inr h) = omega (arith, a.ready.long, (image-long img b a.ready.right a.ready.number).1)

  module _ (fit : fits_tail (region img) v ≡ true) where
    tail-room : tail_at (region img) + entry_size_def v ≤ length (region img)
    unfolding fits_tail
    tail-room = leb-true (tail_at (region img) + entry_size_def v) (length (region img)) fit

    -- what the planning asks
    pub tail-asked : Below (2 ^ 62) places.added × Below (2 ^ 62) places.replacing × (at + length v.name + length v.bytes < 2 ^ 62)
    tail-asked =
        let x = below (2 ^ 62) (inl (omega arith)) in
        let t = tail-room in
        (x.0, x.1, omega (arith, a.ready.tail-at, a.ready.long, a.ready.few))

    module _ (vendor : length v.vendor ≡ 16) {l c : List ℕ} {n : ℕ} (w : Wrote (entry_bytes 0xFF v) 0 l c n) (room : length l ≡ 28672) where
      entry-fits : length (entry_bytes 0xFF v) ≤ length l
      entry-fits =
          let s = entry-short 0xFF v (omega (arith, (a.valid vendor).stamp)) (omega arith) in
          let t = tail-room in
          omega (arith, a.ready.long, a.ready.few)

      holds : Holds c v
      holds =
          subst (λ (x : List ℕ). Holds x v) (sym (w.buffer ∙ sets-eq (entry_bytes 0xFF v) l 0 (let h = entry-fits in omega arith)))
          (entry-holds v (drop (0 + length (entry_bytes 0xFF v)) l) (a.valid vendor).stamp vendor)

      held : 60 + length v.name + length v.bytes ≤ length c
      held =
          let t = tail-room in
          omega (arith, a.ready.long, a.ready.few, ap length w.buffer ∙ length-sets l 0 (entry_bytes 0xFF v))

      is-plan : put_plan img v ≡ make (tail_to (tail_at (region img)) v (entries (region img))) (tail_on v (entries (region img)))
      unfolding put_plan
      is-plan = rw fit

      -- the state 3F decides
      decides : {ops : List Step} → ops ≡ tail_plan places (tail_at (region img)) (length v.name) (length v.bytes)
          → decides_right (put_plan img v) (accepted ops (Some 6)) ≡ true
      unfolding tail_plan
      decides {ops} o =
          let es = entries (region img) in
          let t = tail_at (region img) in
          ap (λ (q : Plan). decides_right q (accepted ops (Some 6))) is-plan
          ∙ mark-decides c (tail_plan places t (length v.name) (length v.bytes)) 6 (tail_to t v es) (tail_on v es) o refl
          (tail-to c places v es a.added a.replacing holds t)

      -- *what was planned*
      pub tail-planned : {ops : List Step} {m : ℕ} → m ≡ length v.bytes → ops ≡ tail_plan places at (length v.name) m → PutPlanned img v c (Ok (accepted ops (Some 6)))
      unfolding stores_of block
      tail-planned {ops} {m} e o =
          let es = entries (region img) in
          let t = tail_at (region img) in
          let ops' : List Step = tail_plan places t (length v.name) (length v.bytes) in
          let is : ops ≡ ops' = o ∙ ap (λ (k : ℕ). tail_plan places at (length v.name) k) e ∙ ap (λ (k : ℕ). tail_plan places k (length v.name) (length v.bytes)) (sym a.ready.tail-at) in
          let x = below (length img) (inr (omega arith)) in
          let long = image-long img b a.ready.right a.ready.number in
          let r = tail-room in
          record {
            same =
                accepted-as c ops' (Some 6) (tail_to t v es) (tail_on v es) is (tail-to c places v es a.added a.replacing holds t) (tail-on c places v es a.added a.replacing t)
                ∙ sym is-plan;
            decides = decides is;
            ready = λ states records.
                rw is
                (tail-ready c img places v a.added a.replacing x.0 x.1 (omega (arith, a.ready.long, long.1)) held holds
                (λ n. subst (λ (ss : List Store). ClearsOne (is_state_def img) ss img) (ap (stores_of n) is-plan) (states fit n)));
          }
