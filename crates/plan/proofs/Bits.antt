-- The marks of a plan clear one bit each where its list of stores does, for every w: what is shown of the lists of the definitions is all that the executor asks.
-- Assumes nothing.
use Prim.Native.Nat.{ℕ, suc, ◌≤◌}
use native.Mathlib.Nat.{add-zero}
use native.Mathlib.Omega.{arith}
use mathlib.Core.Path.{refl, ap, ◌∙◌, subst}
use mathlib.Core.Bool.{Bool}
use mathlib.Core.List.{List, [], ◌∷◌, ◌++◌}
use lib.ListN.{get_or}
use Rattle.model.specs.Stores.{Bytes, Store, page, byte, erase, stores, apply, apply_all}
use Rattle.model.specs.Book.{ClearsOne}
use Rattle.model.proofs.Stores.{stores-append, stores-mark}
use Rattle.plan.specs.declared.Step.{Step}
use Rattle.plan.specs.declared.Step.TheVariants.{Nothing, Mark, Erase, Program, Header}
use Rattle.plan.specs.Plan.{stores_of_step, expand, OneBit, AllOneBit, MarkAt, AllMarks}

clears-split : (marks : ℕ → Bool) (xs ys : List Store) (img : List ℕ) → ClearsOne marks (xs ++ ys) img
    → ClearsOne marks xs img × ClearsOne marks ys (apply_all xs img)
unfolding apply_all
clears-split marks [] ys img h = (tt, h)
clears-split marks (page at bs ∷ xs) ys img h =
    let r = clears-split marks xs ys (apply (page at bs) img) h.1 in
    ((h.0, r.0), r.1)
clears-split marks (erase b ∷ xs) ys img h = clears-split marks xs ys (apply (erase b) img) h

one_bit : (marks : ℕ → Bool) (w : ℕ) (c : List ℕ) (s : Step) (img : List ℕ) → MarkAt marks s → ClearsOne marks (stores w (stores_of_step c s)) img → OneBit s img
unfolding stores_of_step
one_bit marks w c Nothing img m h = tt
one_bit marks w c (Mark at v) img m h =
    let single : ClearsOne marks (byte at v ∷ []) img = subst (λ (ss : List Store). ClearsOne marks ss img) (stores-mark w at v) h in
    let one = (single.0 0 (omega arith) (ap marks (add-zero at) ∙ m)).0 refl in
    rw (← add-zero at) (one.0, one.1)
one_bit marks w c (Erase first count) img m h = tt
one_bit marks w c (Program at from len) img m h = tt
one_bit marks w c (Header at from) img m h = tt

pub bits-clear : (marks : ℕ → Bool) (w : ℕ) (c : List ℕ) (ops : List Step) (img : List ℕ) → AllMarks marks ops → ClearsOne marks (stores w (expand c ops)) img → AllOneBit w c ops img
unfolding expand
bits-clear marks w c [] img m h = tt
bits-clear marks w c (o ∷ os) img m h =
    let xs : List Store = stores w (stores_of_step c o) in
    let s = clears-split marks xs (stores w (expand c os)) img (subst (λ (ss : List Store). ClearsOne marks ss img) (stores-append w (stores_of_step c o) (expand c os)) h) in
    (one_bit marks w c o img m.0 s.0, bits-clear marks w c os (apply_all xs img) m.1 s.1)

-- numbers below 256 are bytes
pub bytes_of : (l : List ℕ) → ((i : ℕ) → get_or l i 0 ≤ 0xFF) → Bytes l
bytes_of [] h = tt
bytes_of (b ∷ l) h = (let x = h 0 in omega arith, bytes_of l (λ i. h (suc i)))
