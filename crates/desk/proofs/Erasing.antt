-- The erases among the first n stores of a plan, counted from its operations: each operation has as many stores as it says, and they are all erases or none is.
-- Assumes nothing.
use Prim.Native.Nat.{ℕ, zero, suc, ◌+◌, ◌*◌, ◌-◌, ◌≤◌, ◌<◌, min}
use native.Mathlib.Omega.{arith}
use mathlib.Core.Path.{◌≡◌, refl, sym, ap, ◌∙◌}
use mathlib.Core.List.{List, [], ◌∷◌, ◌++◌, append_assoc, append-nil}
use native.Mathlib.Numerals.{add-one}
use lib.ListN.{length, take, drop, get_or, length-append, length-drop}
use lib.Seq.{length-take-le, take-nil, drop-cons}
use Rattle.model.specs.Lists.{part}
use Rattle.model.specs.Image.{block}
use Rattle.model.specs.Layout.{state_at}
use Rattle.model.specs.Stores.{Store, page, erase, Write, erases, bytewise, stores, todays, todays_one}
use Rattle.model.proofs.Stores.{stores-todays}
use Rattle.plan.specs.declared.Step.{Step}
use Rattle.plan.specs.declared.Step.TheVariants.{Nothing, Mark, Erase, Program, Header}
use Rattle.plan.specs.Plan.{stores_of_step, expand, size_of, Fits, AllFit, behind_state}
use Rattle.desk.specs.Season.{all_erases}
use Rattle.desk.specs.Erasing.{erased_of_def, erased_in}

take_none : (ys : List Store) → take 0 ys ≡ []
take_none [] = refl
take_none (y ∷ ys) = refl

take-both : (n : ℕ) (xs ys : List Store) → take n (xs ++ ys) ≡ take n xs ++ take (n - length xs) ys
take-both zero [] ys = refl
take-both zero (x ∷ xs) ys = let e : 0 - suc (length xs) ≡ 0 = omega arith in rw e (sym (take_none ys))
take-both (suc n) [] ys = let e : suc n - 0 ≡ suc n = omega arith in rw e
take-both (suc n) (x ∷ xs) ys =
    let e : suc n - suc (length xs) ≡ n - length xs = omega arith in
    rw e (ap (λ (l : List Store). x ∷ l) (take-both n xs ys))

erases-both : (xs ys : List Store) → all_erases (xs ++ ys) ≡ all_erases xs + all_erases ys
unfolding all_erases
erases-both [] ys = omega arith
erases-both (page at bs ∷ xs) ys = erases-both xs ys
erases-both (erase b ∷ xs) ys = let h = erases-both xs ys in omega arith

no-erase : (n at : ℕ) (bs : List ℕ) → all_erases (take n (bytewise at bs)) ≡ 0
unfolding all_erases bytewise
no-erase zero at [] = refl
no-erase zero at (b ∷ bs) = refl
no-erase (suc n) at [] = refl
no-erase (suc n) at (b ∷ bs) = no-erase n (suc at) bs

todays-both : (xs ys : List Write) → todays (xs ++ ys) ≡ todays xs ++ todays ys
unfolding todays
todays-both [] ys = refl
todays-both (x ∷ xs) ys = ap (λ (l : List Store). todays_one x ++ l) (todays-both xs ys) ∙ sym (append-three (todays_one x) (todays xs) (todays ys))
  where
    append-three : (a b c : List Store) → (a ++ b) ++ c ≡ a ++ (b ++ c)
    append-three a b c = simp append_assoc

all-erases : (n first count : ℕ) → all_erases (take n (todays (erases first count))) ≡ min n count
unfolding all_erases todays todays_one erases
all-erases zero first zero = refl
all-erases zero first (suc count) = omega arith
all-erases (suc n) first zero = omega arith
all-erases (suc n) first (suc count) = let h = all-erases n (suc first) count in omega arith

length-bytewise : (at : ℕ) (bs : List ℕ) → length (bytewise at bs) ≡ length bs
unfolding bytewise
length-bytewise at [] = refl
length-bytewise at (b ∷ bs) = ap suc (length-bytewise (suc at) bs)

pub length-erases : (first count : ℕ) → length (todays (erases first count)) ≡ count
unfolding todays todays_one erases
length-erases first zero = refl
length-erases first (suc count) = ap suc (length-erases (suc first) count)

length_part : (from len : ℕ) (c : List ℕ) → from + len ≤ length c → length (part from len c) ≡ len
length_part from len c h = length-take-le len (drop from c) (rw (length-drop from c) (omega arith))

nothing-in-two : (n : ℕ) (xs ys : List Store) → ((k : ℕ) → all_erases (take k xs) ≡ 0) → ((k : ℕ) → all_erases (take k ys) ≡ 0) → all_erases (take n (xs ++ ys)) ≡ 0
nothing-in-two n xs ys f g =
    ap all_erases (take-both n xs ys)
    ∙ erases-both (take n xs) (take (n - length xs) ys)
    ∙ (let h = f n in let k = g (n - length xs) in omega arith)

module _ (c : List ℕ) (long : ℕ) where
  step-erased : (s : Step) (n : ℕ) → all_erases (take n (todays (stores_of_step c s))) ≡ erased_of_def n s
  unfolding stores_of_step todays todays_one
  step-erased Nothing n = ap all_erases (take-nil n) ∙ none-in-none
    where
      none-in-none : all_erases [] ≡ 0
      none-in-none = no-erase 0 0 []
  step-erased (Mark at v) n = rw append-nil (no-erase n at (v ∷ []))
  step-erased (Erase first count) n = all-erases n first count
  step-erased (Program at from len) n = rw append-nil (no-erase n at (part from len c))
  step-erased (Header at from) n =
      rw append-nil
      (nothing-in-two n (bytewise at (part from state_at c)) (bytewise (at + length (part from state_at c) + 1) (part (from + state_at + 1) behind_state c))
      (λ k. no-erase k at (part from state_at c)) (λ k. no-erase k (at + length (part from state_at c) + 1) (part (from + state_at + 1) behind_state c)))

  step-length : (s : Step) → Fits (length c) long s → length (todays (stores_of_step c s)) ≡ size_of 1 s
  unfolding stores_of_step todays todays_one
  step-length Nothing h = refl
  step-length (Mark at v) h = rw append-nil (length-bytewise at (v ∷ []))
  step-length (Erase first count) h = length-erases first count
  step-length (Program at from len) h = rw append-nil (length-bytewise at (part from len c) ∙ length_part from len c h.0)
  step-length (Header at from) h =
      let a = length-bytewise at (part from state_at c) ∙ length_part from state_at c (omega (arith, h.0)) in
      let b = length-bytewise (at + length (part from state_at c) + 1) (part (from + state_at + 1) behind_state c) ∙ length_part (from + state_at + 1) behind_state c (omega (arith, h.0)) in
      rw append-nil (length-append (bytewise at (part from state_at c)) (bytewise (at + length (part from state_at c) + 1) (part (from + state_at + 1) behind_state c)) ∙ (omega (arith, a, b)))

  todays-erased : (ops : List Step) (n : ℕ) → AllFit (length c) long ops → all_erases (take n (todays (expand c ops))) ≡ erased_in n ops
  unfolding expand erased_in todays
  todays-erased [] n h = ap all_erases (take-nil n) ∙ no-erase 0 0 []
  todays-erased (o ∷ os) n h =
      ap (λ (l : List Store). all_erases (take n l)) (todays-both (stores_of_step c o) (expand c os))
      ∙ ap all_erases (take-both n (todays (stores_of_step c o)) (todays (expand c os)))
      ∙ erases-both (take n (todays (stores_of_step c o))) (take (n - length (todays (stores_of_step c o))) (todays (expand c os)))
      ∙ ap (λ (k : ℕ). all_erases (take n (todays (stores_of_step c o))) + all_erases (take (n - k) (todays (expand c os)))) (step-length o h.0)
      ∙ (let a = step-erased o n in let b = todays-erased os (n - size_of 1 o) h.1 in omega (arith, a, b))

  -- the erases of a plan's first n stores
  pub erased-is : (ops : List Step) (n : ℕ) → AllFit (length c) long ops → erased_in n ops ≡ all_erases (take n (stores 1 (expand c ops)))
  erased-is ops n h = sym (ap (λ (l : List Store). all_erases (take n l)) (stores-todays (expand c ops)) ∙ todays-erased ops n h)

  -- and no plan has many stores: an operation has no more than there are bytes in the image
  step-few : (s : Step) → Fits (length c) long s → long ≤ 61440 → size_of 1 s ≤ 61440
  unfolding block
  step-few Nothing h few = omega arith
  step-few (Mark at v) h few = omega arith
  step-few (Erase first count) h few = omega arith
  step-few (Program at from len) h few = omega (arith, h.1)
  step-few (Header at from) h few = omega arith

  todays-few : (ops : List Step) → AllFit (length c) long ops → long ≤ 61440 → length (todays (expand c ops)) ≤ 61440 * length ops
  unfolding expand todays
  todays-few [] h few = omega arith
  todays-few (o ∷ os) h few =
      let one = step-few o h.0 few in
      let more = todays-few os h.1 few in
      rw (todays-both (stores_of_step c o) (expand c os), length-append (todays (stores_of_step c o)) (todays (expand c os)), step-length o h.0) (omega arith)

  pub few-stores : (ops : List Step) → AllFit (length c) long ops → long ≤ 61440 → length (stores 1 (expand c ops)) ≤ 61440 * length ops
  few-stores ops h few = rw (stores-todays (expand c ops)) (todays-few ops h few)

-- no more than there are stores
pub erases-most : (n : ℕ) (ss : List Store) → all_erases (take n ss) ≤ n
unfolding all_erases
erases-most zero [] = omega arith
erases-most zero (s ∷ ss) = omega arith
erases-most (suc n) [] = omega arith
erases-most (suc n) (page at bs ∷ ss) = let h = erases-most n ss in omega arith
erases-most (suc n) (erase b ∷ ss) = let h = erases-most n ss in omega arith

-- ---- one operation after the other

pub step-most : (n : ℕ) (s : Step) → erased_of_def n s + (n - size_of 1 s) ≤ n
step-most n Nothing = omega arith
step-most n (Mark at v) = omega arith
step-most n (Erase first count) = omega arith
step-most n (Program at from len) = omega arith
step-most n (Header at from) = omega arith

pub one-operation : (d : Step) (ops : List Step) (n i : ℕ) → i < length ops
    → erased_in n (drop i ops) ≡ erased_of_def n (get_or ops i d) + erased_in (n - size_of 1 (get_or ops i d)) (drop (i + 1) ops)
unfolding erased_in
one-operation d ops n i h = rw (drop-cons ops i d h, add-one i)

pub no-operation : (ops : List Step) (n i : ℕ) → length ops ≤ i → erased_in n (drop i ops) ≡ 0
unfolding erased_in
no-operation [] n zero h = refl
no-operation [] n (suc i) h = refl
no-operation (o ∷ os) n zero h = absurd (omega arith)
no-operation (o ∷ os) n (suc i) h = no-operation os n i (omega arith)

pub none_dropped : (ops : List Step) → drop 0 ops ≡ ops
none_dropped [] = refl
none_dropped (o ∷ os) = refl
