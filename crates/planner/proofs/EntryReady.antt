-- The plans lie within content and image, the one header has FF in the place of its state, and their marks are at places of states: what the executor asks of them
-- follows from what is shown of the lists of stores, for every w.
-- Assumes nothing.
use Prim.Native.Nat.{ℕ, ◌+◌, ◌≤◌}
use native.Mathlib.Omega.{arith}
use mathlib.Core.Path.{◌≡◌, refl, sym, ap, ◌∙◌, subst}
use mathlib.Core.Bool.{Bool, true}
use mathlib.Core.List.{List, ◌++◌}
use mathlib.Core.Option.{Option as Maybe, none, some}
use Rattle.std.specs.Prelude.{Option, Some, None}
use lib.ListN.{length}
use lib.Dec.{eqb}
use borrow.Author.Tests.{eq-eqb}
use Rattle.model.specs.Lists.{first, any}
use Rattle.model.specs.Name.{Key}
use Rattle.model.specs.Image.{region}
use Rattle.model.specs.Layout.{state_at}
use Rattle.model.specs.Entry.{Value, key_of}
use Rattle.model.specs.Walk as walk
use Rattle.model.specs.Region.{entries, tail_at, is_entry_def, added, replacing}
use Rattle.model.specs.Stores.{Write, stores}
use Rattle.model.specs.Set.{tail_to, tail_on, delete_to}
use Rattle.model.specs.Book.{ClearsOne, is_state_def}
use Rattle.model.proofs.Tests.{or_left, or_right}
use Rattle.model.proofs.Values.{any_at, found}
use Rattle.values.specs.Found.{found_of, else_found}
use Rattle.region.specs.declared.Placed.{Placed}
use Rattle.values.specs.declared.Places.{Places}
use Rattle.plan.specs.declared.Step.{Step}
use Rattle.plan.specs.declared.Step.TheVariants as step
use Rattle.plan.specs.Plan.{Fits, Blank, Ready, MarkAt}
use Rattle.plan.proofs.Bits.{bits-clear}
use Rattle.planner.specs.Entries.{on_found, Below, mark_found_def, leftover_step, remove_step, retire_step, delete_plan, tail_plan}
use Rattle.planner.proofs.EntryPlans.{delete-is, Holds, tail-is}

-- an operation that lies within and is no header, at a place of a state
abbrev Good : List ℕ → ℕ → (ℕ → Bool) → Step → Type 0
Good c long marks s = Fits (length c) long s × MarkAt marks s × Blank c s

-- where a state was found
abbrev StateAt : (ℕ → Bool) → Option Placed → Type 0
StateAt marks (Some p) = marks (p.at + state_at) ≡ true
StateAt marks None = Unit {0}

module _ (c : List ℕ) (long : ℕ) (marks : ℕ → Bool) where
  mark-good : (x : Option Placed) (v : ℕ) → Below long x → StateAt marks x → Good c long marks (mark_found_def x v)
  unfolding mark_found_def
  mark-good (Some p) v h m = (omega arith, m, tt)
  mark-good None v h m = (tt, tt, tt)

  module _ (x y : Option Placed) (hx : Below long x) (hy : Below long y) (mx : StateAt marks x) (my : StateAt marks y) where
    leftover-good : Good c long marks (on_found {A = Step} x (λ at e. mark_found_def y 0x3C) step.Nothing)
    leftover-good = go x
      where
        go : (x : Option Placed) → Good c long marks (on_found {A = Step} x (λ at e. mark_found_def y 0x3C) step.Nothing)
        go (Some p) = mark-good y 0x3C hy my
        go None = (tt, tt, tt)

    remove-good : Good c long marks (on_found {A = Step} x (λ at e. mark_found_def x 0x3D) (mark_found_def y 0x3C))
    remove-good = go x refl
      where
        go : (z : Option Placed) → x ≡ z → Good c long marks (on_found {A = Step} z (λ at e. mark_found_def x 0x3D) (mark_found_def y 0x3C))
        go (Some q) p = mark-good x 0x3D hx mx
        go None p = mark-good y 0x3C hy my

    retire-good : Good c long marks (mark_found_def (else_found x y) 0x3C)
    retire-good = go x hx mx
      where
        go : (x : Option Placed) → Below long x → StateAt marks x → Good c long marks (mark_found_def (else_found x y) 0x3C)
        go (Some p) h m = mark-good (Some p) 0x3C h m
        go None h m = mark-good y 0x3C hy my

-- an entry's state stands at a place of a state
entry-state : (img : List ℕ) (state : ℕ) (k : Key) (o : Maybe walk.Entry) → first (is_entry_def state k) (entries (region img)) ≡ o → StateAt (is_state_def img) (found_of o)
unfolding is_state_def
entry-state img state k (some e) h =
    let g = found (is_entry_def state k) (entries (region img)) e h in
    let f : walk.Entry → Bool = λ (d : walk.Entry). eqb (e.at + state_at) (d.at + state_at) in
    or_left (any f (entries (region img))) (eqb (e.at + state_at) (tail_at (region img) + state_at))
    (ap (any f) g.place ∙ any_at f g.before g.behind e ∙ or_left (f e) (any f (g.before ++ g.behind)) (eq-eqb (e.at + state_at) (e.at + state_at) refl))
entry-state img state k none h = tt

tail-state : (img : List ℕ) → is_state_def img (tail_at (region img) + state_at) ≡ true
unfolding is_state_def
tail-state img =
    or_right (any (λ (d : walk.Entry). eqb (tail_at (region img) + state_at) (d.at + state_at)) (entries (region img)))
    (eqb (tail_at (region img) + state_at) (tail_at (region img) + state_at)) (eq-eqb (tail_at (region img) + state_at) (tail_at (region img) + state_at) refl)

module _ (c img : List ℕ) (places : Places) (k : Key) (is-added : places.added ≡ found_of (added k (entries (region img))))
    (is-replacing : places.replacing ≡ found_of (replacing k (entries (region img))))
    (below-added : Below (length img) places.added) (below-replacing : Below (length img) places.replacing) where
  state-added : StateAt (is_state_def img) places.added
  unfolding added
  state-added = rw is-added (entry-state img 0x3F k (added k (entries (region img))) refl)

  state-replacing : StateAt (is_state_def img) places.replacing
  unfolding replacing
  state-replacing = rw is-replacing (entry-state img 0x3E k (replacing k (entries (region img))) refl)

  -- *a delete is ready*
  pub delete-ready : ((w : ℕ) → ClearsOne (is_state_def img) (stores w (delete_to k (entries (region img)))) img) → Ready c (delete_plan places) img
  unfolding delete_plan leftover_step remove_step
  delete-ready one =
      let m : ℕ → Bool = is_state_def img in
      let x = places.added in
      let y = places.replacing in
      let a = leftover-good c (length img) m x y below-added below-replacing state-added state-replacing in
      let b = remove-good c (length img) m x y below-added below-replacing state-added state-replacing in
      record {
        fit = (a.0, (b.0, (tt, (tt, (tt, (tt, (tt, (tt, (tt, (tt, (tt, (tt, tt))))))))))));
        blank = (a.2, (b.2, (tt, (tt, (tt, (tt, (tt, (tt, (tt, (tt, (tt, (tt, tt))))))))))));
        bits = λ w.
            bits-clear m w c (delete_plan places) img (a.1, (b.1, (tt, (tt, (tt, (tt, (tt, (tt, (tt, (tt, (tt, (tt, tt))))))))))))
            (subst (λ (xs : List Write). ClearsOne m (stores w xs) img) (sym (delete-is c places k (entries (region img)) is-added is-replacing)) (one w));
      }

-- *a tail write is ready*
pub tail-ready : (c img : List ℕ) (places : Places) (v : Value) → places.added ≡ found_of (added (key_of v) (entries (region img)))
    → places.replacing ≡ found_of (replacing (key_of v) (entries (region img)))
    → Below (length img) places.added → Below (length img) places.replacing
    → tail_at (region img) + 60 + length v.name + length v.bytes ≤ length img → 60 + length v.name + length v.bytes ≤ length c → Holds c v
    → ((w : ℕ) → ClearsOne (is_state_def img) (stores w (tail_to (tail_at (region img)) v (entries (region img)) ++ tail_on v (entries (region img)))) img)
    → Ready c (tail_plan places (tail_at (region img)) (length v.name) (length v.bytes)) img
unfolding tail_plan leftover_step retire_step
tail-ready c img places v p q hx hy fits held h one =
    let m : ℕ → Bool = is_state_def img in
    let x = places.added in
    let y = places.replacing in
    let at = tail_at (region img) in
    let n = length v.name in
    let d = length v.bytes in
    let sx = state-added c img places (key_of v) p q hx hy in
    let sy = state-replacing c img places (key_of v) p q hx hy in
    let a = leftover-good c (length img) m x y hx hy sx sy in
    let b = mark-good c (length img) m x 0x3E hx sx in
    let z = retire-good c (length img) m x y hx hy sx sy in
    let t = tail-state img in
    record {
      fit = (a.0, (b.0, ((omega arith, omega arith), (omega arith, ((omega arith, omega arith), ((omega arith, omega arith), (omega arith, (z.0, (tt, (tt, (tt, (tt, tt))))))))))));
      blank = (a.2, (b.2, (h.blank, (tt, (tt, (tt, (tt, (z.2, (tt, (tt, (tt, (tt, tt))))))))))));
      bits = λ w.
          bits-clear m w c (tail_plan places at n d) img (a.1, (b.1, (tt, (t, (tt, (tt, (t, (z.1, (tt, (tt, (tt, (tt, tt))))))))))))
          (subst (λ (xs : List Write). ClearsOne m (stores w xs) img) (sym (tail-is c places v (entries (region img)) p q h at)) (one w));
    }
