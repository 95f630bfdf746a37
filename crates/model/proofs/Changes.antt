-- Changes one after another: what they leave is valid and distinct, and fits where rule 13 lets them pass.
-- Assumes nothing.
use Prim.Native.Nat.{ℕ, ◌+◌, ◌≤◌}
use native.Mathlib.Omega.{arith}
use mathlib.Core.Path.{◌≡◌, refl}
use mathlib.Core.Bool.{Bool, true, false, not, cond, ◌&&◌, true≢false, false≢true}
use mathlib.Core.List.{List, [], ◌∷◌, ◌++◌}
use lib.Dec.{ltb}
use borrow.Author.Tests.{ltb-false}
use Rattle.model.specs.declared.Terms.{Terms}
use Rattle.model.specs.Layout.{authenticated}
use Rattle.model.specs.Lists.{all, any, keep, is_some}
use Rattle.model.specs.Name.{Key, same_key_def}
use Rattle.model.specs.Entry.{Value, key_of, entry_size_def}
use Rattle.model.specs.Region.{find}
use Rattle.model.specs.Change.{Change, nothing, remove, put, is_nothing, step, steps, without, entry_sizes, entry_sizes_in, space_of, space_in, is_error_record_def}
use Rattle.model.specs.Sides.{side_sizes}
use Rattle.model.specs.Rules.{puts, rule13}
use Rattle.model.specs.Beside.{Valid}
use Rattle.model.proofs.Tests.{or_split}
use Rattle.model.proofs.Encode.{AllValid, Distinct, keep-valid, put-valid, keep-distinct, put-distinct}

-- what holds of every value that changes put
abbrev pub EachPut : (Value → Type 0) → List Change → Type 0
EachPut P [] = Unit {0}
EachPut P (c ∷ cs) = ((v : Value) → c ≡ put v → P v) × EachPut P cs

-- what the rules leave of changes over values, in a region of so many bytes: what they put can be stored, all fits, and a value that a single one removes is there
pub record Fitting (cs : List Change) (vs : List Value) (size : ℕ) : Type 0 where
  pub valid : EachPut Valid cs
  pub room : space_of (steps cs vs) ≤ size
  pub there : (k : Key) → cs ≡ remove k ∷ [] → is_some (find k vs) ≡ true

-- ---- one change

pub step-valid : (c : Change) (vs : List Value) → ((v : Value) → c ≡ put v → Valid v) → AllValid authenticated vs → AllValid authenticated (step c vs)
unfolding step without
step-valid nothing vs f h = h
step-valid (remove k) vs f h = keep-valid authenticated (λ v. not (same_key_def (key_of v) k)) vs h
step-valid (put v) vs f h = put-valid authenticated v vs (f v refl) h

step-distinct : (c : Change) (vs : List Value) → Distinct vs → Distinct (step c vs)
unfolding step without
step-distinct nothing vs h = h
step-distinct (remove k) vs h = keep-distinct (λ v. not (same_key_def (key_of v) k)) vs h
step-distinct (put v) vs h = put-distinct v vs h

-- what is taken out takes no more
kept_less : (f : Value → Bool) (vs : List Value) → entry_sizes (keep f vs) ≤ entry_sizes vs
unfolding entry_sizes_in
kept_less f [] = omega arith
kept_less f (v ∷ vs) = go (f v) (kept_less f vs)
  where
    go : (t : Bool) → entry_sizes (keep f vs) ≤ entry_sizes vs → entry_sizes (cond t (v ∷ keep f vs) (keep f vs)) ≤ entry_size_def v + entry_sizes vs
    go true i = omega arith
    go false i = omega arith

pub step_less : (c : Change) (vs : List Value) → puts (λ v. true) c ≡ false → space_of (step c vs) ≤ space_of vs
unfolding step without space_in
step_less nothing vs h = omega arith
step_less (remove k) vs h = let l = kept_less (λ v. not (same_key_def (key_of v) k)) vs in omega arith
step_less (put v) vs h = absurd (true≢false h)

one_more : (vs : List Value) (v : Value) → entry_sizes (vs ++ (v ∷ [])) ≡ entry_sizes vs + entry_size_def v
unfolding entry_sizes_in
one_more [] v = omega arith
one_more (w ∷ vs) v = let h = one_more vs v in omega arith

-- a value that is put takes its entry more at most
pub put-more : (v : Value) (vs : List Value) → space_of (step (put v) vs) ≤ space_of vs + entry_size_def v
unfolding step without space_in
put-more v vs =
    let l = kept_less (λ w. not (same_key_def (key_of w) (key_of v))) vs in
    let e = one_more (keep (λ w. not (same_key_def (key_of w) (key_of v))) vs) v in
    omega arith

-- ---- several

pub steps-valid : (cs : List Change) (vs : List Value) → EachPut Valid cs → AllValid authenticated vs → AllValid authenticated (steps cs vs)
unfolding steps
steps-valid [] vs f h = h
steps-valid (c ∷ cs) vs f h = steps-valid cs (step c vs) f.1 (step-valid c vs f.0 h)

pub steps-distinct : (cs : List Change) (vs : List Value) → Distinct vs → Distinct (steps cs vs)
unfolding steps
steps-distinct [] vs h = h
steps-distinct (c ∷ cs) vs h = steps-distinct cs (step c vs) (step-distinct c vs h)

steps-less : (cs : List Change) (vs : List Value) → any (puts (λ v. true)) cs ≡ false → space_of (steps cs vs) ≤ space_of vs
unfolding steps
steps-less [] vs h = omega arith
steps-less (c ∷ cs) vs h =
    let p = or_split (puts (λ v. true) c) (any (puts (λ v. true)) cs) h in
    let l = steps-less cs (step c vs) p.1 in
    let m = step_less c vs p.0 in
    omega arith

-- changes of which none changes anything
pub steps-nothing : (cs : List Change) (vs : List Value) → all is_nothing cs ≡ true → steps cs vs ≡ vs
unfolding steps step
steps-nothing [] vs h = refl
steps-nothing (nothing ∷ cs) vs h = steps-nothing cs vs h
steps-nothing (remove k ∷ cs) vs h = absurd (false≢true h)
steps-nothing (put v ∷ cs) vs h = absurd (false≢true h)

-- where there is room for changes, all values fit after them: "a delete, or a set that stores nothing" takes no more
pub room_after : (t : Terms) (size : ℕ) (cs : List Change) (vs : List Value) → rule13 t size cs vs ≡ false → space_of vs ≤ size → space_of (steps cs vs) ≤ size
unfolding rule13
room_after t size cs vs h now =
    go (any (puts (λ v. true)) cs) refl
    (or_split
    (any (puts (λ v. not (is_error_record_def v))) cs && ltb t.share (side_sizes t.vendor t.modem (steps cs vs) + t.reserve))
    (any (puts (λ v. true)) cs && ltb size (space_of (steps cs vs))) h).1
  where
    go : (b : Bool) → any (puts (λ v. true)) cs ≡ b → (any (puts (λ v. true)) cs && ltb size (space_of (steps cs vs))) ≡ false → space_of (steps cs vs) ≤ size
    go true e f = ltb-false size (space_of (steps cs vs)) (rw e at f)
    go false e f = let l = steps-less cs vs e in omega arith
