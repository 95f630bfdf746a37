-- The stores of operations: a list's are its parts' in turn, and each operation makes as many as it says, part by part.
-- Assumes nothing.
use Prim.Native.Nat.{ℕ, zero, suc, ◌+◌, ◌-◌, ◌%◌, ◌≤◌, ◌<◌}
use native.Mathlib.Nat.{add-zero, sub-zero, mod-add-mod, mod_self}
use native.Mathlib.Omega.{arith}
use mathlib.Core.Path.{◌≡◌, refl, sym, ap, ap₂, ◌∙◌}
use mathlib.Core.Logic.{◌≢◌}
use mathlib.Core.Bool.{Bool, true, false, cond}
use mathlib.Core.List.{List, [], ◌∷◌, ◌++◌, append_assoc, append-nil}
use lib.ListN.{length, get_or, take, drop, length-append, length-drop}
use lib.Seq.{length-take-le, take-add, drop-drop, drop-cons}
use lib.Dec.{eqb, ltb}
use borrow.Author.Tests.{ltb-true, ltb-false, lt-ltb, le-ltb, ne_eqb, eqb-true, eqb-false}
use Rattle.model.specs.Lists.{part}
use Rattle.model.specs.Layout.{state_at}
use Rattle.model.specs.Entry.{header_size_def}
use Rattle.model.specs.Stores.{Store, page, erase, Write, pages, bytewise, stores, stores_one_def, apply_all, after, erases}
use Rattle.model.proofs.Stores.{stores-append, stores_run, stores-mark, pages-bytewise, pages-first}
use Rattle.model.proofs.Pages.{pages-page, pages-append}
use Rattle.plan.specs.declared.Step.{Step}
use Rattle.plan.specs.declared.Step.TheVariants.{Nothing, Mark, Erase, Program, Header}
use Rattle.plan.specs.Plan.{behind_state, stores_of_step, expand, size_of, run_of, header_rest_of, rest_of, Fits, OneBit, Blank, AllFit, AllOneBit, AllBlank}

length-bytewise : (at : ℕ) (bs : List ℕ) → length (bytewise at bs) ≡ length bs
unfolding bytewise
length-bytewise at [] = refl
length-bytewise at (b ∷ bs) = ap suc (length-bytewise (suc at) bs)

pub length_part : (from len : ℕ) (c : List ℕ) → from + len ≤ length c → length (part from len c) ≡ len
length_part from len c h = length-take-le len (drop from c) (rw length-drop (omega arith))

-- with w = 1 there are as many as bytes
pub length-run_of : (c : List ℕ) (at from len : ℕ) → from + len ≤ length c → length (run_of 1 c at from len) ≡ len
length-run_of c at from len h = ap length (pages-bytewise at (part from len c)) ∙ length-bytewise at (part from len c) ∙ length_part from len c h

pub after_none : (ss : List Store) (img : List ℕ) → after 0 ss img ≡ img
unfolding after apply_all
after_none ss img = refl

-- ---- lists of operations

pub expand-append : (c : List ℕ) (xs ys : List Step) → expand c (xs ++ ys) ≡ expand c xs ++ expand c ys
unfolding expand
expand-append c [] ys = refl
expand-append c (x ∷ xs) ys =
    ap (λ (l : List Write). stores_of_step c x ++ l) (expand-append c xs ys)
    ∙ sym (append_assoc (stores_of_step c x) (expand c xs) (expand c ys))

-- the operation at a place; none past the end
abbrev pub step_at : List Step → ℕ → Step
step_at ops k = get_or ops k Nothing

writes-from : (c : List ℕ) (ops : List Step) (k : ℕ) → expand c (drop k ops) ≡ stores_of_step c (step_at ops k) ++ expand c (drop (suc k) ops)
unfolding expand stores_of_step
writes-from c [] zero = refl
writes-from c [] (suc k) = refl
writes-from c (o ∷ ops) zero = refl
writes-from c (o ∷ ops) (suc k) = writes-from c ops k

-- the stores from a place on begin with those of the operation there
pub expand-from : (w : ℕ) (c : List ℕ) (ops : List Step) (k : ℕ)
    → stores w (expand c (drop k ops)) ≡ stores w (stores_of_step c (step_at ops k)) ++ stores w (expand c (drop (suc k) ops))
expand-from w c ops k = ap (stores w) (writes-from c ops k) ∙ stores-append w (stores_of_step c (step_at ops k)) (expand c (drop (suc k) ops))

-- and what is asked of them with what is asked of it
pub bits-from : (w : ℕ) (c : List ℕ) (ops : List Step) (k : ℕ) (img : List ℕ) → AllOneBit w c (drop k ops) img
    → OneBit (step_at ops k) img × AllOneBit w c (drop (suc k) ops) (apply_all (stores w (stores_of_step c (step_at ops k))) img)
bits-from w c [] zero img h = (tt, tt)
bits-from w c [] (suc k) img h = (tt, tt)
bits-from w c (o ∷ ops) zero img h = h
bits-from w c (o ∷ ops) (suc k) img h = bits-from w c ops k img h

pub fits-at : (held long : ℕ) (ops : List Step) (k : ℕ) → AllFit held long ops → Fits held long (step_at ops k)
fits-at held long [] k h = tt
fits-at held long (o ∷ ops) zero h = h.0
fits-at held long (o ∷ ops) (suc k) h = fits-at held long ops k h.1

pub blank-at : (c : List ℕ) (ops : List Step) (k : ℕ) → AllBlank c ops → Blank c (step_at ops k)
blank-at c [] k h = tt
blank-at c (o ∷ ops) zero h = h.0
blank-at c (o ∷ ops) (suc k) h = blank-at c ops k h.1

-- ---- bytes of the content

-- some of them, and those behind them
part-split : (c : List ℕ) (from k m : ℕ) → part from (k + m) c ≡ part from k c ++ part (from + k) m c
part-split c from k m = take-add k m (drop from c) ∙ ap (λ (l : List ℕ). part from k c ++ take m l) (drop-drop k from c)

-- up to the end of a page
pub run-split : (w : ℕ) (c : List ℕ) (at from k m : ℕ) → from + k ≤ length c → (at + k) % w ≡ 0
    → run_of w c at from (k + m) ≡ run_of w c at from k ++ run_of w c (at + k) (from + k) m
run-split w c at from k m h e =
    let long = length_part from k c h in
    ap (pages w at) (part-split c from k m)
    ∙ pages-append w at (part from k c) (part (from + k) m c) (ap (λ (n : ℕ). (at + n) % w) long ∙ e)
    ∙ ap (λ (n : ℕ). run_of w c at from k ++ pages w (at + n) (part (from + k) m c)) long

pub run-nil : (w : ℕ) (c : List ℕ) (at from : ℕ) → run_of w c at from 0 ≡ []
unfolding pages
run-nil w c at from = refl

-- there are some
pub run-some : (w : ℕ) (c : List ℕ) (at from len : ℕ) → from + len ≤ length c → 1 ≤ len → 1 ≤ length (run_of w c at from len)
run-some w c at from len h l = go (part from len c) (length_part from len c h)
  where
    go : (bs : List ℕ) → length bs ≡ len → 1 ≤ length (pages w at bs)
    go [] e = absurd (omega arith)
    go (b ∷ bs) e = let f = pages-first w at b bs in rw f.same (omega arith)

-- a page is one store
pub run-page : (w : ℕ) (c : List ℕ) (at from n : ℕ) → from + n ≤ length c → 1 ≤ n → at % w + n ≤ w → run_of w c at from n ≡ page at (part from n c) ∷ []
run-page w c at from n h l e = go (part from n c) (length_part from n c h)
  where
    go : (bs : List ℕ) → length bs ≡ n → pages w at bs ≡ page at bs ∷ []
    go [] e = absurd (omega arith)
    go (b ∷ bs) f = pages-page w at b bs (omega arith)

-- and the end of the page is reached, or that of the bytes
pub run-next : (w : ℕ) (c : List ℕ) (at from len n : ℕ) → from + len ≤ length c → 1 ≤ n → n ≤ len → at % w + n ≤ w → (n ≢ len → at % w + n ≡ w)
    → run_of w c at from len ≡ (page at (part from n c) ∷ []) ++ run_of w c (at + n) (from + n) (len - n)
run-next w c at from len n h some l fits whole = go (eqb n len) refl
  where
    go : (t : Bool) → eqb n len ≡ t → run_of w c at from len ≡ (page at (part from n c) ∷ []) ++ run_of w c (at + n) (from + n) (len - n)
    go true e =
        let same : n ≡ len = eqb-true n len e in
        let none : len - n ≡ 0 = omega arith in
        ap (run_of w c at from) (sym same)
        ∙ run-page w c at from n (omega arith) some fits
        ∙ ap (λ (l : List Store). page at (part from n c) ∷ l) (sym (ap (run_of w c (at + n) (from + n)) none ∙ run-nil w c (at + n) (from + n)))
    go false e =
        let end : (at + n) % w ≡ 0 = sym (mod-add-mod at w n) ∙ ap (λ (k : ℕ). k % w) (whole (eqb-false n len e)) ∙ mod_self w in
        let sum : len ≡ n + (len - n) = omega arith in
        ap (run_of w c at from) sum
        ∙ run-split w c at from n (len - n) (omega arith) end
        ∙ ap (λ (l : List Store). l ++ run_of w c (at + n) (from + n) (len - n)) (run-page w c at from n (omega arith) some fits)

-- ---- the stores of one operation

-- a header's bytes in the content, where the state's place is FF
header-bytes : (c : List ℕ) (from : ℕ) → from + header_size_def ≤ length c → get_or c (from + state_at) 0 ≡ 0xFF
    → part from header_size_def c ≡ part from state_at c ++ (0xFF ∷ []) ++ part (from + state_at + 1) behind_state c
header-bytes c from h e =
    let one : part (from + state_at) 1 c ≡ 0xFF ∷ [] =
    ap (take 1) (drop-cons c (from + state_at) 0 (omega arith)) ∙ ap (λ (b : ℕ). b ∷ []) e in
    part-split c from (state_at + 1) behind_state
    ∙ ap₂ (λ (l : List ℕ) (n : ℕ). l ++ part n behind_state c) (part-split c from state_at 1 ∙ ap (λ (l : List ℕ). part from state_at c ++ l) one) (let z : from + (state_at + 1) ≡ from + state_at + 1 = omega arith in z)

-- all of them
pub rest-whole : (w : ℕ) (c : List ℕ) (long : ℕ) (s : Step) → Fits (length c) long s → Blank c s → rest_of w c s 0 ≡ stores w (stores_of_step c s)
unfolding rest_of stores_of_step stores stores_one_def
rest-whole w c long Nothing f b = refl
rest-whole w c long (Mark at v) f b = sym (stores-mark w at v)
rest-whole w c long (Erase first count) f b = rw (add-zero, sub-zero)
rest-whole w c long (Program at from len) f b = rw (add-zero at, add-zero from, sub-zero) (sym (stores_run w at (part from len c)))
rest-whole w c long (Header at from) f b =
    ap₂ (λ (x y : ℕ). cond (eqb w 1) (run_of 1 c x y state_at ++ last) (run_of w c x y header_size_def)) (add-zero at) (add-zero from)
    ∙ go (eqb w 1)
    ∙ sym (append-nil (cond (eqb w 1) (pages 1 at (part from state_at c) ++ pages 1 (at + length (part from state_at c) + 1) (part (from + state_at + 1) behind_state c)) (pages w at (part from state_at c ++ (0xFF ∷ []) ++ part (from + state_at + 1) behind_state c))))
  where
    last : List Store
    last = run_of 1 c (at + state_at + 1) (from + state_at + 1) behind_state

    front : length (part from state_at c) ≡ state_at
    front = length_part from state_at c (omega (arith, f.0))

    go : (t : Bool) → cond t (run_of 1 c at from state_at ++ last) (run_of w c at from header_size_def)
        ≡ cond t (pages 1 at (part from state_at c) ++ pages 1 (at + length (part from state_at c) + 1) (part (from + state_at + 1) behind_state c)) (pages w at (part from state_at c ++ (0xFF ∷ []) ++ part (from + state_at + 1) behind_state c))
    go true = ap (λ (n : ℕ). run_of 1 c at from state_at ++ pages 1 (at + n + 1) (part (from + state_at + 1) behind_state c)) (sym front)
    go false = ap (pages w at) (header-bytes c from f.0 b)

-- none
pub rest_end : (w : ℕ) (c : List ℕ) (s : Step) → rest_of w c s (size_of w s) ≡ []
unfolding rest_of stores erases pages
rest_end w c Nothing = refl
rest_end w c (Mark at v) = refl
rest_end w c (Erase first count) = let z : count - count ≡ 0 = omega arith in rw z
rest_end w c (Program at from len) = let z : len - len ≡ 0 = omega arith in rw z
rest_end w c (Header at from) = go (eqb w 1) refl
  where
    go : (t : Bool) → eqb w 1 ≡ t
        → cond t (header_rest_of c at from (cond t (state_at + behind_state) header_size_def)) (run_of w c (at + cond t (state_at + behind_state) header_size_def) (from + cond t (state_at + behind_state) header_size_def) (header_size_def - cond t (state_at + behind_state) header_size_def)) ≡ []
    go true e = refl
    go false e = refl

-- from a place within it there are some
pub rest_some : (w : ℕ) (c : List ℕ) (long : ℕ) (s : Step) (i : ℕ) → Fits (length c) long s → i < size_of w s → 1 ≤ length (rest_of w c s i)
unfolding rest_of stores erases stores_one_def
rest_some w c long Nothing i h l = absurd (omega arith)
rest_some w c long (Mark at v) i h l = let z : i ≡ 0 = omega arith in rw z (omega arith)
rest_some w c long (Erase first count) i h l = let n : count - i ≡ suc (count - (i + 1)) = omega arith in rw n (omega arith)
rest_some w c long (Program at from len) i h l = run-some w c (at + i) (from + i) (len - i) (omega (arith, h.0)) (omega arith)
rest_some w c long (Header at from) i h l = go (eqb w 1) l
  where
    front : (t : Bool) → ltb i state_at ≡ t → i < state_at + behind_state
        → 1 ≤ length (cond t (run_of 1 c (at + i) (from + i) (state_at - i) ++ run_of 1 c (at + state_at + 1) (from + state_at + 1) behind_state) (run_of 1 c (at + i + 1) (from + i + 1) (state_at + behind_state - i)))
    front true e m =
        let k = ltb-true i state_at e in
        let n = run-some 1 c (at + i) (from + i) (state_at - i) (omega (arith, h.0)) (omega arith) in
        rw (length-append (run_of 1 c (at + i) (from + i) (state_at - i)) (run_of 1 c (at + state_at + 1) (from + state_at + 1) behind_state)) (omega (arith, n))
    front false e m = run-some 1 c (at + i + 1) (from + i + 1) (state_at + behind_state - i) (omega (arith, h.0)) (omega arith)

    go : (t : Bool) → i < cond t (state_at + behind_state) header_size_def → 1 ≤ length (cond t (header_rest_of c at from i) (run_of w c (at + i) (from + i) (header_size_def - i)))
    go true m = front (ltb i state_at) refl m
    go false m = run-some w c (at + i) (from + i) (header_size_def - i) (omega (arith, h.0)) (omega arith)

-- one block more
pub erase-rest : (w : ℕ) (c : List ℕ) (first count i : ℕ) → i < count
    → rest_of w c (Erase first count) i ≡ (erase (first + i) ∷ []) ++ rest_of w c (Erase first count) (i + 1)
unfolding rest_of stores erases stores_one_def
erase-rest w c first count i l =
    let n : count - i ≡ suc (count - (i + 1)) = omega arith in
    let e : suc (first + i) ≡ first + (i + 1) = omega arith in
    rw (n, ← e)

-- what is left of a run, r places on
run_on : (w : ℕ) (c : List ℕ) (at from len i r : ℕ) → run_of w c (at + (i + r)) (from + (i + r)) (len - (i + r)) ≡ run_of w c (at + i + r) (from + i + r) (len - i - r)
run_on w c at from len i r =
    let p : at + (i + r) ≡ at + i + r = omega arith in
    let q : from + (i + r) ≡ from + i + r = omega arith in
    let n : len - (i + r) ≡ len - i - r = omega arith in
    rw (p, q, n)

-- the part of an operation's list that a turn stores, with what is behind it
pub record Piece (w : ℕ) (c : List ℕ) (s : Step) (i at from len : ℕ) : Type 0 where
  pub behind : List Store
  pub here : rest_of w c s i ≡ run_of w c at from len ++ behind
  pub on : (r : ℕ) → r ≤ len → rest_of w c s (i + r) ≡ run_of w c (at + r) (from + r) (len - r) ++ behind

pub program-piece : (w : ℕ) (c : List ℕ) (at from len i : ℕ) → Piece w c (Program at from len) i (at + i) (from + i) (len - i)
unfolding rest_of
program-piece w c at from len i = record {
  behind = [];
  here = sym (append-nil (run_of w c (at + i) (from + i) (len - i)));
  on = λ r l. run_on w c at from len i r ∙ sym (append-nil (run_of w c (at + i + r) (from + i + r) (len - i - r)));
}

-- a header in pages
pub header-piece : (w : ℕ) (c : List ℕ) (at from i : ℕ) → w ≢ 1 → Piece w c (Header at from) i (at + i) (from + i) (header_size_def - i)
unfolding rest_of
header-piece w c at from i n = record {
  behind = [];
  here = ap (λ (t : Bool). cond t (header_rest_of c at from i) (run_of w c (at + i) (from + i) (header_size_def - i))) (ne_eqb w 1 n) ∙ sym (append-nil (run_of w c (at + i) (from + i) (header_size_def - i)));
  on = λ r l.
      ap (λ (t : Bool). cond t (header_rest_of c at from (i + r)) (run_of w c (at + (i + r)) (from + (i + r)) (header_size_def - (i + r)))) (ne_eqb w 1 n)
      ∙ run_on w c at from header_size_def i r
      ∙ sym (append-nil (run_of w c (at + i + r) (from + i + r) (header_size_def - i - r)));
}

-- byte by byte: before its state, and behind it
pub front-piece : (c : List ℕ) (at from i : ℕ) → i < state_at → Piece 1 c (Header at from) i (at + i) (from + i) (state_at - i)
unfolding rest_of
front-piece c at from i l = record {
  behind = last;
  here = ap (λ (t : Bool). cond t (run_of 1 c (at + i) (from + i) (state_at - i) ++ last) (run_of 1 c (at + i + 1) (from + i + 1) (state_at + behind_state - i))) (lt-ltb i state_at l);
  on = λ r m. go r m (ltb (i + r) state_at) refl;
}
  where
    last : List Store
    last = run_of 1 c (at + state_at + 1) (from + state_at + 1) behind_state

    go : (r : ℕ) → r ≤ state_at - i → (t : Bool) → ltb (i + r) state_at ≡ t
        → cond t (run_of 1 c (at + (i + r)) (from + (i + r)) (state_at - (i + r)) ++ last) (run_of 1 c (at + (i + r) + 1) (from + (i + r) + 1) (state_at + behind_state - (i + r)))
        ≡ run_of 1 c (at + i + r) (from + i + r) (state_at - i - r) ++ last
    go r m true e = ap (λ (ss : List Store). ss ++ last) (run_on 1 c at from state_at i r)
    go r m false e =
        let k = ltb-false (i + r) state_at e in
        let z : i + r ≡ state_at = omega arith in
        let none : state_at - i - r ≡ 0 = omega arith in
        ap (λ (x : ℕ). run_of 1 c (at + x + 1) (from + x + 1) (state_at + behind_state - x)) z
        ∙ ap (λ (ss : List Store). ss ++ last) (sym (ap (run_of 1 c (at + i + r) (from + i + r)) none ∙ run-nil 1 c (at + i + r) (from + i + r)))

pub back-piece : (c : List ℕ) (at from i : ℕ) → state_at ≤ i → Piece 1 c (Header at from) i (at + i + 1) (from + i + 1) (state_at + behind_state - i)
unfolding rest_of
back-piece c at from i l = record {
  behind = [];
  here = rw (le-ltb i state_at l) (sym (append-nil (run_of 1 c (at + i + 1) (from + i + 1) (state_at + behind_state - i))));
  on = λ r m. (let p : at + (i + r) + 1 ≡ at + i + 1 + r = omega arith in
      let q : from + (i + r) + 1 ≡ from + i + 1 + r = omega arith in
      let n : state_at + behind_state - (i + r) ≡ state_at + behind_state - i - r = omega arith in
      rw (le-ltb (i + r) state_at (omega arith), p, q, n) (sym (append-nil (run_of 1 c (at + i + 1 + r) (from + i + 1 + r) (state_at + behind_state - i - r)))));
}
