-- Steps at places of a script. What was read at a place is what the definition reads there, so what comes after it is read as the definition goes on.
-- Assumes nothing.
use Prim.Native.Nat.{ℕ, zero, suc, ◌+◌, ◌≤◌}
use native.Mathlib.Omega.{arith}
use mathlib.Core.Path.{◌≡◌, refl, sym, ap, ◌∙◌}
use mathlib.Core.Logic.{◌≢◌}
use mathlib.Core.Bool.{Bool, true, false, cond}
use mathlib.Core.List.{List, [], ◌∷◌}
use mathlib.Core.Option.{Option, none, some}
use Rattle.std.specs.Prelude as code
use lib.ListN.{length, take, drop, length-drop}
use lib.Seq.{length-take-le}
use lib.Dec.{leb}
use borrow.Author.Tests.{ne_eqb, eq-eqb, le-leb, lt-leb, leb-true, leb-false}
use Rattle.model.specs.Lists.{is_empty, is_some, part, on_some}
use Rattle.model.specs.Profile.{Number, number_at, Item, item_at}
use Rattle.profile.specs.declared.Numeral.{Numeral}
use Rattle.profile.specs.declared.Setting.{Setting}
use Rattle.profile.specs.Reader.{number_of, item_of, request_in, Within, Ends}
use Rattle.desk.specs.declared.Asked.{Asked}
use Rattle.desk.specs.Script.{Step, Stepped, item_step, delete_step, cut_step, kind_step, step_at, steps_at}
use Rattle.desk.specs.Reader.{step_in, step_of, Stops}

-- ---- an item

abbrev behind : Option ℕ → Option Item → Option Stepped
behind n o = on_some o (λ i. some (record { one = record { asked = i.asked; cut_after_def = n }; rest = i.rest })) none

module _ (s : List ℕ) (at : ℕ) (x : code.Option (Setting × ℕ)) (e : item_of s x ≡ item_at (drop at s)) (n : Option ℕ) where
  its-item : behind n (item_of s x) ≡ item_step n (drop at s)
  unfolding item_step
  its-item = ap (behind n) e

  pub no_item : x ≡ code.None → step_of s code.None ≡ item_step n (drop at s)
  unfolding item_of step_of
  no_item f = ap (λ (y : code.Option (Setting × ℕ)). behind n (item_of s y)) (sym f) ∙ its-item

  pub one-item : (t : Setting) (next : ℕ) → x ≡ code.Some (t, next) → behind n (item_of s (code.Some (t, next))) ≡ item_step n (drop at s)
  one-item t next f = ap (λ (y : code.Option (Setting × ℕ)). behind n (item_of s y)) (sym f) ∙ its-item

-- ---- a delete: its item has no data

abbrev emptied : Option Stepped → Option Stepped
emptied o = on_some o (λ t. cond (is_empty t.one.asked.bytes) (some t) none) none

empty-take : (l : List ℕ) → is_empty (take 0 l) ≡ true
empty-take [] = refl
empty-take (x ∷ l) = refl

not-empty : (l : List ℕ) → (length l ≡ 0 → ⊥) → is_empty l ≡ false
not-empty [] h = absurd (h refl)
not-empty (x ∷ l) h = refl

module _ (s : List ℕ) (at : ℕ) (x : code.Option (Setting × ℕ)) (e : item_of s x ≡ item_at (drop at s)) where
  pub no-delete : x ≡ code.None → step_of s code.None ≡ delete_step (drop at s)
  unfolding delete_step step_of
  no-delete f = ap emptied (no_item s at x e none f)

  module _ (t : Setting) (next : ℕ) (f : x ≡ code.Some (t, next)) where
    its-step : delete_step (drop at s) ≡ emptied (behind none (item_of s (code.Some (t, next))))
    unfolding delete_step
    its-step = ap emptied (sym (one-item s at x e none t next f))

    abbrev data-at : ℕ
    data-at = t.at + 16 + t.name

    pub without-data : t.size ≡ 0 → behind none (item_of s (code.Some (t, next))) ≡ delete_step (drop at s)
    unfolding item_of request_in
    without-data h =
        let none-there : is_empty (part data-at t.size s) ≡ true = ap (λ (n : ℕ). is_empty (take n (drop data-at s))) h ∙ empty-take (drop data-at s) in
        sym (its-step ∙ rw none-there)

    pub with-data : t.size ≢ 0 → Within (length s) t → step_of s code.None ≡ delete_step (drop at s)
    unfolding item_of request_in step_of
    with-data h k =
        let long : length (part data-at t.size s) ≡ t.size = length-take-le t.size (drop data-at s) (rw (length-drop data-at s) (omega arith)) in
        let some-there : is_empty (part data-at t.size s) ≡ false = not-empty (part data-at t.size s) (λ z. h (sym long ∙ z)) in
        sym (its-step ∙ rw some-there)

pub found-ends : {size : ℕ} {x : code.Option (Setting × ℕ)} {t : Setting} {next : ℕ} → x ≡ code.Some (t, next) → Ends size x → (next ≤ size) × Within size t
found-ends e l = rw e at l

-- ---- behind a number

module _ (f : ℕ → List ℕ → Option Stepped) (s : List ℕ) (at : ℕ) (x : code.Option Numeral) (e : number_of s x ≡ number_at (drop at s)) where
  abbrev then : Option Number → Option Stepped
  then o = on_some o (λ n. f n.value n.rest) none

  pub no-number-there : x ≡ code.None → step_of s code.None ≡ then (number_at (drop at s))
  unfolding number_of step_of
  no-number-there h = ap (λ (r : code.Option Numeral). then (number_of s r)) (sym h) ∙ ap then e

  pub number-there : (n : Numeral) → x ≡ code.Some n → f n.value (drop n.next s) ≡ then (number_at (drop at s))
  unfolding number_of
  number-there n h = ap (λ (r : code.Option Numeral). then (number_of s r)) (sym h) ∙ ap then e

-- ---- the kinds

pub kind_0 : (k : ℕ) (s : List ℕ) → k ≡ 0 → item_step none s ≡ kind_step k s
unfolding kind_step
kind_0 k s h = rw (eq-eqb k 0 h)

pub kind_1 : (k : ℕ) (s : List ℕ) → k ≡ 1 → delete_step s ≡ kind_step k s
unfolding kind_step
kind_1 k s h = rw (ne_eqb k 0 (λ z. absurd (omega arith)), eq-eqb k 1 h)

pub kind_2 : (k : ℕ) (s : List ℕ) → k ≡ 2 → cut_step s ≡ kind_step k s
unfolding kind_step
kind_2 k s h = rw (ne_eqb k 0 (λ z. absurd (omega arith)), ne_eqb k 1 (λ z. absurd (omega arith)), eq-eqb k 2 h)

pub kind-other : (s t : List ℕ) (k : ℕ) → k ≢ 0 → k ≢ 1 → k ≢ 2 → step_of t code.None ≡ kind_step k s
unfolding kind_step step_of
kind-other s t k f g h = rw (ne_eqb k 0 f, ne_eqb k 1 g, ne_eqb k 2 h)

-- ---- one step of so many

pub step-stops : {size : ℕ} {x : code.Option (Asked × ℕ)} {a : Asked} {next : ℕ} → x ≡ code.Some (a, next) → Stops size x → (next ≤ size) × Within size a.item
step-stops e l = rw e at l

abbrev onward : Step → Option (List Step) → Option (List Step)
onward t o = on_some o (λ ts. some (t ∷ ts)) none

unwrapped : (o : Option (List Step)) (t : Step) → is_some (onward t o) ≡ is_some o
unwrapped none t = refl
unwrapped (some ts) t = refl

module _ (s : List ℕ) (at : ℕ) (x : code.Option (Asked × ℕ)) (e : step_of s x ≡ step_at (drop at s)) (n : ℕ) where
  abbrev rest : Option Stepped → Option (List Step)
  rest o = on_some o (λ t. onward t.one (steps_at n t.rest)) none

  its-rest : steps_at (suc n) (drop at s) ≡ rest (step_of s x)
  unfolding steps_at
  its-rest = ap rest (sym e)

  pub none-there : x ≡ code.None → is_some (steps_at (suc n) (drop at s)) ≡ false
  unfolding step_of
  none-there h = ap is_some (its-rest ∙ ap (λ (y : code.Option (Asked × ℕ)). rest (step_of s y)) h)

  -- the steps from a place on are the one that was read there, and those from the next place on
  pub first-there : (a : Asked) (next : ℕ) → x ≡ code.Some (a, next) → steps_at (suc n) (drop at s) ≡ onward (step_in s a) (steps_at n (drop next s))
  unfolding step_of
  first-there a next h = its-rest ∙ ap (λ (y : code.Option (Asked × ℕ)). rest (step_of s y)) h

  pub one-there : (a : Asked) (next : ℕ) → x ≡ code.Some (a, next) → is_some (steps_at (suc n) (drop at s)) ≡ is_some (steps_at n (drop next s))
  one-there a next h = ap is_some (first-there a next h) ∙ unwrapped (steps_at n (drop next s)) (step_in s a)

suc-leb : (m n : ℕ) → leb (suc m) (suc n) ≡ leb m n
suc-leb m n = go (leb m n) refl
  where
    go : (t : Bool) → leb m n ≡ t → leb (suc m) (suc n) ≡ t
    go true e = let h = leb-true m n e in le-leb (suc m) (suc n) (omega arith)
    go false e = let h = leb-false m n e in lt-leb (suc m) (suc n) (omega arith)

pub nothing_left : (s : List ℕ) (at : ℕ) → is_some (steps_at 0 (drop at s)) ≡ leb (length s) at
unfolding steps_at
nothing_left [] zero = sym (le-leb 0 0 (omega arith))
nothing_left [] (suc at) = sym (le-leb 0 (suc at) (omega arith))
nothing_left (x ∷ s) zero = sym (lt-leb (suc (length s)) 0 (omega arith))
nothing_left (x ∷ s) (suc at) = nothing_left s at ∙ sym (suc-leb (length s) at)
