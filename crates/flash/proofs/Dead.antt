-- Bytes that are stored before one fails: with one dead address more, those before it where a bit would have to fall; pages that fail; and what is made of them.
-- Assumes nothing.
use Prim.Native.Nat.{ℕ, suc, ◌+◌, ◌-◌, ◌%◌, ◌≤◌, ◌<◌}
use native.Mathlib.Nat.{add-zero, sub-zero}
use native.Mathlib.Numerals.{add-one}
use native.Mathlib.Omega.{arith}
use mathlib.Core.Path.{◌≡◌, refl, sym, ap, ap₂, ◌∙◌, subst}
use mathlib.Core.Logic.{◌≢◌}
use mathlib.Core.Bool.{Bool, true, false, cond, not, ◌&&◌, ◌||◌, true≢false}
use mathlib.Core.List.{List, [], ◌∷◌, ◌++◌, append_assoc, append-nil}
use lib.ListN.{length, get_or, set, take, drop}
use lib.Seq.{take-suc, drop-cons, get_or-take, get_or-drop, get_or-set_other}
use lib.Bits.{bit_and}
use lib.Dec.{eqb, leb, ltb}
use mir.Val.{bool_byte}
use Rattle.std.specs.List.{list_any}
use borrow.Author.Tests.{eqb-true, eqb-false, eq-eqb, ne_eqb, leb-true, leb-false, le-leb, lt-leb, ltb-true, lt-ltb, le-ltb}
use Rattle.model.specs.Lists.{any, among, part}
use Rattle.model.specs.Stores.{Store, page, byte, erase, apply, apply_all, pages, bytewise, falls, fails, reach}
use Rattle.model.proofs.Stores.{apply_all-append, pages-sets, pages-one, pages-bytewise}
use Rattle.model.proofs.Pages.{pages-few}
use Rattle.model.proofs.Failing.{fails-byte, reach_few, reach-none}
use Rattle.plan.specs.declared.Step.{Step}
use Rattle.plan.specs.declared.Step.TheVariants.{Mark, Erase}
use Rattle.plan.specs.Plan.{size_of, run_of, rest_of, Fits, OneBit, FirstFails, Made, count_of, Programmed, Turned}
use Rattle.plan.proofs.Stores.{length_part, length-run_of, run-nil, run-split, run-next, erase-rest, Piece}
use Rattle.flash.proofs.Counting.{count_none, count-one, count-bytes, count-page, count-positive, run-count}

-- of k bytes those before a dead address
abbrev pub short : ℕ → List ℕ → List ℕ → ℕ → ℕ → ℕ
short at bs img a k = cond (leb at a && ltb a (at + k) && falls (get_or img a 0) (get_or bs (a - at) 0)) (a - at) k

-- of none
short_none : (at : ℕ) (bs img : List ℕ) (a : ℕ) → short at bs img a 0 ≡ 0
short_none at bs img a = go (leb at a) refl (ltb a (at + 0)) refl
  where
    go : (t : Bool) → leb at a ≡ t → (u : Bool) → ltb a (at + 0) ≡ u → cond (t && u && falls (get_or img a 0) (get_or bs (a - at) 0)) (a - at) 0 ≡ 0
    go true e true f = let p = leb-true at a e in let q = ltb-true a (at + 0) f in absurd (omega arith)
    go true e false f = refl
    go false e u f = refl

among-more : (ds : List ℕ) (a at : ℕ) → among (ds ++ (a ∷ [])) at ≡ (among ds at || eqb at a)
among-more [] a at = go (eqb at a)
  where
    go : (t : Bool) → (t || false) ≡ t
    go true = refl
    go false = refl
among-more (d ∷ ds) a at = go (eqb at d) (among-more ds a at)
  where
    go : (t : Bool) → among (ds ++ (a ∷ [])) at ≡ (among ds at || eqb at a) → (t || among (ds ++ (a ∷ [])) at) ≡ ((t || among ds at) || eqb at a)
    go true e = refl
    go false e = e

-- with one dead address more
reach-dead : (ds : List ℕ) (a at : ℕ) (bs img : List ℕ) → reach (ds ++ (a ∷ [])) (bytewise at bs) img ≡ short at bs img a (reach ds (bytewise at bs) img)
unfolding reach bytewise apply
reach-dead ds a at [] img = sym (short_none at [] img a)
reach-dead ds a at (b ∷ bs) img =
    rw (fails-byte (ds ++ (a ∷ [])) at b img, fails-byte ds at b img)
    (go (among ds at) refl (eqb at a) refl (falls (get_or img at 0) b) refl (reach-dead ds a (suc at) bs (set img at b)))
  where
    k : ℕ
    k = reach ds (bytewise (suc at) bs) (set img at b)

    more : ℕ
    more = reach (ds ++ (a ∷ [])) (bytewise (suc at) bs) (set img at b)

    -- it is not this one
    other : at ≢ a → more ≡ short (suc at) bs (set img at b) a k → suc more ≡ short at (b ∷ bs) img a (suc k)
    other n e = ap suc e ∙ by (leb (suc at) a) refl
      where
        by : (t : Bool) → leb (suc at) a ≡ t
            → suc (cond (t && ltb a (suc at + k) && falls (get_or (set img at b) a 0) (get_or bs (a - suc at) 0)) (a - suc at) k) ≡ short at (b ∷ bs) img a (suc k)
        by true f =
            let l = leb-true (suc at) a f in
            let place : a - at ≡ suc (a - suc at) = omega arith in
            let far : at + suc k ≡ suc at + k = omega arith in
            rw (le-leb at a (omega arith), far, get_or-set_other img at a b 0 (λ e. n (sym e)), place) (pull (ltb a (suc at + k) && falls (get_or img a 0) (get_or bs (a - suc at) 0)))
          where
            pull : (t : Bool) → suc (cond t (a - suc at) k) ≡ cond t (suc (a - suc at)) (suc k)
            pull true = refl
            pull false = refl
        by false f =
            let l = leb-false (suc at) a f in
            rw (lt-leb at a (omega (arith, n)))

    -- it is, and its bit need not fall
    kept : at ≡ a → falls (get_or img at 0) b ≡ false → more ≡ short (suc at) bs (set img at b) a k → suc more ≡ short at (b ∷ bs) img a (suc k)
    kept e f g =
        let none : leb (suc at) a ≡ false = lt-leb (suc at) a (omega arith) in
        let zero-off : a - at ≡ 0 = omega arith in
        let m : more ≡ k = g ∙ rw none in
        ap suc m ∙ rw (← e, zero-off', f) (both (leb at at) (ltb at (at + suc k)))
      where
        zero-off' : at - at ≡ 0
        zero-off' = omega arith

        both : (t u : Bool) → suc k ≡ cond (t && u && false) 0 (suc k)
        both true true = refl
        both true false = refl
        both false u = refl

    go : (t : Bool) → among ds at ≡ t → (u : Bool) → eqb at a ≡ u → (v : Bool) → falls (get_or img at 0) b ≡ v → more ≡ short (suc at) bs (set img at b) a k
        → cond (among (ds ++ (a ∷ [])) at && falls (get_or img at 0) b) 0 (suc more) ≡ short at (b ∷ bs) img a (cond (among ds at && falls (get_or img at 0) b) 0 (suc k))
    go true e u f true g ih = rw (among-more ds a at, e, g) (sym (short_none at (b ∷ bs) img a))
    go true e true f false g ih = rw (among-more ds a at, e, g) (kept (eqb-true at a f) g ih)
    go true e false f false g ih = rw (among-more ds a at, e, g) (other (eqb-false at a f) ih)
    go false e true f true g ih =
        let same : at ≡ a = eqb-true at a f in
        let none : at - at ≡ 0 = omega arith in
        rw (among-more ds a at, e, f, g) (here same)
      where
        here : at ≡ a → 0 ≡ short at (b ∷ bs) img a (suc k)
        here s =
            let none : at - at ≡ 0 = omega arith in
            rw (← s, le-leb at at (omega arith), lt-ltb at (at + suc k) (omega arith), none, g)
    go false e true f false g ih = rw (among-more ds a at, e, f, g) (kept (eqb-true at a f) g ih)
    go false e false f v g ih = rw (among-more ds a at, e, f) (other (eqb-false at a f) ih)

-- ---- a test of each address

pub any_same : (f g : ℕ → Bool) (l : List ℕ) → ((a : ℕ) → f a ≡ g a) → list_any f l ≡ any g l
any_same f g [] h = refl
any_same f g (a ∷ l) h = ap₂ (λ (x y : Bool). x || y) (h a) (any_same f g l h)

-- ---- one byte store

pub not-worn : (dead : List ℕ) (at v : ℕ) (img : List ℕ) → bit_and (get_or img at 0) v ≡ get_or img at 0 → false ≡ fails dead (byte at v) img
not-worn dead at v img e = rw (fails-byte dead at v img, eq-eqb (bit_and (get_or img at 0) v) (get_or img at 0) e) (go (among dead at))
  where
    go : (t : Bool) → false ≡ (t && false)
    go true = refl
    go false = refl

pub worn-if : (dead : List ℕ) (at v : ℕ) (img : List ℕ) → bit_and (get_or img at 0) v ≢ get_or img at 0 → among dead at ≡ fails dead (byte at v) img
worn-if dead at v img e = rw (fails-byte dead at v img, ne_eqb (bit_and (get_or img at 0) v) (get_or img at 0) e) (go (among dead at))
  where
    go : (t : Bool) → t ≡ (t && true)
    go true = refl
    go false = refl

pub mark-turned : (dead : List ℕ) (w : ℕ) (c : List ℕ) (at v i left : ℕ) (img img' : List ℕ) (r : ℕ) → 1 ≤ w → i < 1 → 1 ≤ left
    → r ≡ cond (fails dead (byte at v) img) 0 1 → img' ≡ cond (fails dead (byte at v) img) img (apply (byte at v) img) → Turned dead w c (Mark at v) i left img img' r
unfolding rest_of reach apply_all
mark-turned dead w c at v i left img img' r wide l some e f = go (fails dead (byte at v) img) refl e f
  where
    first : i ≡ 0
    first = omega arith

    go : (t : Bool) → fails dead (byte at v) img ≡ t → r ≡ cond t 0 1 → img' ≡ cond t img (apply (byte at v) img) → Turned dead w c (Mark at v) i left img img' r
    go true g h k =
        rw (first, h, count_none w wide) (omega arith, record { made = []; whole = refl; many = refl; few = omega arith; image = k; spared = refl; worn = λ z. g })
    go false g h k =
        rw (first, h, count-one w wide)
        (omega arith, record { made = byte at v ∷ []; whole = refl; many = refl; few = some; image = k; spared = rw g; worn = λ z. absurd (omega arith) })

pub erase-turned : (dead : List ℕ) (w : ℕ) (c : List ℕ) (first count i left : ℕ) (img img' : List ℕ) → 1 ≤ w → i < count → 1 ≤ left
    → img' ≡ apply (erase (first + i)) img → Turned dead w c (Erase first count) i left img img' 1
unfolding reach fails apply_all
erase-turned dead w c first count i left img img' wide l some e =
    rw (count-one w wide) (
      omega arith,
      record {
        made = erase (first + i) ∷ [];
        whole = erase-rest w c first count i l;
        many = refl;
        few = some;
        image = e;
        spared = refl;
        worn = λ z. absurd (omega arith);
      },
    )

-- ---- bytes of the content

-- a front as long as what is made of the whole
reach-front : (dead : List ℕ) (xs ys : List Store) (img : List ℕ) → reach dead (xs ++ ys) img ≡ length xs → reach dead xs img ≡ length xs
unfolding reach
reach-front dead [] ys img h = refl
reach-front dead (x ∷ xs) ys img h = go (fails dead x img) h (reach-front dead xs ys (apply x img))
  where
    go : (t : Bool) → cond t 0 (suc (reach dead (xs ++ ys) (apply x img))) ≡ suc (length xs)
        → (reach dead (xs ++ ys) (apply x img) ≡ length xs → reach dead xs (apply x img) ≡ length xs) → cond t 0 (suc (reach dead xs (apply x img))) ≡ suc (length xs)
    go true e f = absurd (omega arith)
    go false e f = ap suc (f (omega arith))

first-fails : (dead : List ℕ) (s : Store) (ss : List Store) (img : List ℕ) → reach dead (s ∷ ss) img ≡ 0 → fails dead s img ≡ true
unfolding reach
first-fails dead s ss img h = go (fails dead s img) h
  where
    go : (t : Bool) → cond t 0 (suc (reach dead ss (apply s img))) ≡ 0 → t ≡ true
    go true e = refl
    go false e = absurd (omega arith)

-- with w = 1 a run may be split anywhere, and its first store is its first byte
split : (c : List ℕ) (at from k m : ℕ) → from + k ≤ length c → run_of 1 c at from (k + m) ≡ run_of 1 c at from k ++ run_of 1 c (at + k) (from + k) m
split c at from k m h = run-split 1 c at from k m h (let z : (at + k) % 1 ≡ 0 = omega arith in z)

run-one : (c : List ℕ) (at from : ℕ) → from < length c → run_of 1 c at from 1 ≡ byte at (get_or c from 0) ∷ []
run-one c at from h = ap (λ (l : List ℕ). pages 1 at (take 1 l)) (drop-cons c from 0 h) ∙ pages-one 1 at (get_or c from 0)

pub programmed : (dead c : List ℕ) (at from len n left k : ℕ) (img img' : List ℕ) → from + len ≤ length c → n ≤ len → 1 ≤ n → n ≤ left
    → k ≡ reach dead (run_of 1 c at from n) img → img' ≡ apply_all (run_of 1 c at from k) img → Programmed dead 1 c at from len left img img' k
programmed dead c at from len n left k img img' h m some l e f =
    let few = reach_few dead (run_of 1 c at from n) img in
    let long = length-run_of c at from n (omega arith) in
    let fits : k ≤ n = omega arith in
    let part_of : run_of 1 c at from n ≡ run_of 1 c at from k ++ run_of 1 c (at + k) (from + k) (n - k) =
    ap (run_of 1 c at from) (let z : n ≡ k + (n - k) = omega arith in z) ∙ split c at from k (n - k) (omega arith) in
    let mine = length-run_of c at from k (omega arith) in
    let one : run_of 1 c at from n ≡ byte at (get_or c from 0) ∷ run_of 1 c (at + 1) (from + 1) (n - 1) =
    ap (run_of 1 c at from) (let z : n ≡ 1 + (n - 1) = omega arith in z)
    ∙ split c at from 1 (n - 1) (omega arith)
    ∙ ap (λ (l : List Store). l ++ run_of 1 c (at + 1) (from + 1) (n - 1)) (run-one c at from (omega arith)) in
    let all_one : run_of 1 c at from len ≡ byte at (get_or c from 0) ∷ run_of 1 c (at + 1) (from + 1) (len - 1) =
    ap (run_of 1 c at from) (let z : len ≡ 1 + (len - 1) = omega arith in z)
    ∙ split c at from 1 (len - 1) (omega arith)
    ∙ ap (λ (l : List Store). l ++ run_of 1 c (at + 1) (from + 1) (len - 1)) (run-one c at from (omega arith)) in
    rw (count-bytes k) (
      omega arith,
      record {
        made = run_of 1 c at from k;
        whole = ap (run_of 1 c at from) (let z : len ≡ k + (len - k) = omega arith in z) ∙ split c at from k (len - k) (omega arith);
        many = mine;
        few = omega arith;
        image = f;
        spared = reach-front dead (run_of 1 c at from k) (run_of 1 c (at + k) (from + k) (n - k)) img (ap (λ (l : List Store). reach dead l img) (sym part_of) ∙ sym e ∙ sym mine) ∙ mine;
        worn = λ z.
            subst (λ (l : List Store). FirstFails dead l img) (sym all_one)
            (first-fails dead (byte at (get_or c from 0)) (run_of 1 c (at + 1) (from + 1) (n - 1)) img (ap (λ (l : List Store). reach dead l img) (sym one) ∙ sym e ∙ z));
      },
    )

-- ---- a page of them

module _ (dead : List ℕ) (w : ℕ) (c : List ℕ) (at from len n left : ℕ) (img img' : List ℕ) (h : from + len ≤ length c) (wide : 1 ≤ w)
    (some : 1 ≤ n) (l : n ≤ len) (fits : at % w + n ≤ w) (whole : n ≢ len → at % w + n ≡ w) (m : 1 ≤ left) where
  next : run_of w c at from len ≡ (page at (part from n c) ∷ []) ++ run_of w c (at + n) (from + n) (len - n)
  next = run-next w c at from len n h some l fits whole

  -- it is made
  pub page-made : fails dead (page at (part from n c)) img ≡ false → img' ≡ apply_all (run_of 1 c at from n) img → Programmed dead w c at from len left img img' n
  unfolding reach apply_all apply
  page-made e f =
      rw (count-page w n wide some (omega arith)) (
        l,
        record {
          made = page at (part from n c) ∷ [];
          whole = next;
          many = refl;
          few = m;
          image = f ∙ pages-sets 1 at (part from n c) img;
          spared = rw e;
          worn = λ z. absurd (omega arith);
        },
      )

  -- it fails
  pub page-failed : fails dead (page at (part from n c)) img ≡ true → img' ≡ img → Programmed dead w c at from len left img img' 0
  unfolding reach apply_all
  page-failed e f =
      rw (count_none w wide, add-zero at, add-zero from, sub-zero len) (
        omega arith,
        record {
          made = [];
          whole = refl;
          many = refl;
          few = omega arith;
          image = f;
          spared = refl;
          worn = λ z. subst (λ (ss : List Store). FirstFails dead ss img) (sym next) e;
        },
      )

-- ---- all pages of them

-- from the beginning of a page on, where no address is dead
pub pages-made : (dead : List ℕ) (w : ℕ) (c : List ℕ) (at from len left : ℕ) (img img' : List ℕ) → from + len ≤ length c → 1 ≤ w → 1 ≤ len
    → length dead ≡ 0 → at % w ≡ 0 → len ≤ left → img' ≡ apply_all (run_of 1 c at from len) img → Programmed dead w c at from len left img img' len
pages-made dead w c at from len left img img' h wide some none begins l f =
    let long = length_part from len c h in
    let many = run-count w c at from len h wide some begins in
    let few = pages-few w at (part from len c) in
    let end : len - len ≡ 0 = omega arith in (
      omega arith,
      record {
        made = run_of w c at from len;
        whole = sym (ap (λ (n : ℕ). run_of w c at from len ++ run_of w c (at + len) (from + len) n) end ∙ ap (λ (ss : List Store). run_of w c at from len ++ ss) (run-nil w c (at + len) (from + len)) ∙ append-nil (run_of w c at from len));
        many = many;
        few = omega (arith, many, few, long);
        image = f ∙ pages-sets 1 at (part from len c) img ∙ sym (pages-sets w at (part from len c) img);
        spared = reach-all dead none (run_of w c at from len) img ∙ many;
        worn = λ z. let p = count-positive w len wide (λ e. omega arith) in absurd (omega arith);
      },
    )
  where
    reach-all : (dead : List ℕ) → length dead ≡ 0 → (ss : List Store) (img : List ℕ) → reach dead ss img ≡ length ss
    reach-all [] e ss img = reach-none ss img
    reach-all (d ∷ dead) e ss img = absurd (omega arith)

-- ---- a part of an operation's list

made_more : {dead : List ℕ} {ss : List Store} {left : ℕ} {before after : List ℕ} {k : ℕ} {rest : List Store} (ys : List Store)
    → Made dead ss left before after k rest → Made dead (ss ++ ys) left before after k (rest ++ ys)
made_more {dead} {ss} {left} {before} {after} {k} {rest} ys m = record {
  made = m.made;
  whole = ap (λ (l : List Store). l ++ ys) m.whole ∙ append_assoc m.made rest ys;
  many = m.many;
  few = m.few;
  image = m.image;
  spared = m.spared;
  worn = λ z. front ss (m.worn z);
}
  where
    front : (ss : List Store) → FirstFails dead ss before → FirstFails dead (ss ++ ys) before
    front [] f = absurd f
    front (s ∷ ss) f = f

pub piece-turned : (dead : List ℕ) (w : ℕ) (c : List ℕ) (s : Step) (i at from len left : ℕ) (img img' : List ℕ) (r : ℕ) → Piece w c s i at from len
    → i + len ≤ size_of w s → Programmed dead w c at from len left img img' r → Turned dead w c s i left img img' r
piece-turned dead w c s i at from len left img img' r q l p = (
  omega (arith, p.0),
  subst (λ (ss : List Store). Made dead ss left img img' (count_of w r) (rest_of w c s (i + r))) (sym q.here)
      (subst (λ (ss : List Store). Made dead (run_of w c at from len ++ q.behind) left img img' (count_of w r) ss) (sym (q.on r p.0))
      (made_more q.behind p.1)),
)

-- bytes stored, one more
pub run_more : (c : List ℕ) (at from j : ℕ) (img : List ℕ) → from + j < length c
    → set (apply_all (run_of 1 c at from j) img) (at + j) (get_or c (from + j) 0) ≡ apply_all (run_of 1 c at from (j + 1)) img
unfolding apply_all apply
run_more c at from j img h =
    sym (ap (λ (l : List Store). apply_all l img) (split c at from j 1 (omega arith) ∙ ap (λ (l : List Store). run_of 1 c at from j ++ l) (run-one c (at + j) (from + j) h)) ∙ apply_all-append (run_of 1 c at from j) (byte (at + j) (get_or c (from + j) 0) ∷ []) img)

-- what is short of k bytes of the content
pub short-content : (c : List ℕ) (at from r : ℕ) (img : List ℕ) (a k : ℕ) → k ≤ r
    → cond (leb at a && ltb a (at + k) && falls (get_or img a 0) (get_or c (from + (a - at)) 0)) (a - at) k ≡ short at (part from r c) img a k
short-content c at from r img a k l = go (leb at a) refl (ltb a (at + k)) refl
  where
    go : (t : Bool) → leb at a ≡ t → (u : Bool) → ltb a (at + k) ≡ u
        → cond (t && u && falls (get_or img a 0) (get_or c (from + (a - at)) 0)) (a - at) k ≡ cond (t && u && falls (get_or img a 0) (get_or (part from r c) (a - at) 0)) (a - at) k
    go true e true f =
        let p = leb-true at a e in
        let q = ltb-true a (at + k) f in
        ap (λ (b : ℕ). cond (falls (get_or img a 0) b) (a - at) k) (sym (get_or-take r (drop from c) (a - at) 0 (omega arith) ∙ get_or-drop from c (a - at) 0))
    go true e false f = refl
    go false e u f = refl

pub reach-next-dead : (dead c : List ℕ) (at from r : ℕ) (img : List ℕ) (d k : ℕ) → d < length dead → from + r ≤ length c
    → k ≡ reach (take d dead) (run_of 1 c at from r) img
    → cond (leb at (get_or dead d 0) && ltb (get_or dead d 0) (at + k) && falls (get_or img (get_or dead d 0) 0) (get_or c (from + (get_or dead d 0 - at)) 0)) (get_or dead d 0 - at) k
    ≡ reach (take (d + 1) dead) (run_of 1 c at from r) img
reach-next-dead dead c at from r img d k h l e =
    let few = reach_few (take d dead) (run_of 1 c at from r) img in
    let long = length-run_of c at from r l in
    let single : run_of 1 c at from r ≡ bytewise at (part from r c) = pages-bytewise at (part from r c) in
    short-content c at from r img (get_or dead d 0) k (omega arith)
    ∙ ap (short at (part from r c) img (get_or dead d 0)) (e ∙ ap (λ (l : List Store). reach (take d dead) l img) single)
    ∙ sym (reach-dead (take d dead) (get_or dead d 0) at (part from r c) img)
    ∙ ap₂ (λ (ds : List ℕ) (l : List Store). reach ds l img) (sym (take-suc dead d 0 h) ∙ ap (λ (n : ℕ). take n dead) (sym (add-one d))) (sym single)

pub reach-no-dead : (c : List ℕ) (at from r : ℕ) (dead img : List ℕ) → from + r ≤ length c → r ≡ reach (take 0 dead) (run_of 1 c at from r) img
reach-no-dead c at from r dead img h = sym (reach-none (run_of 1 c at from r) img ∙ length-run_of c at from r h)

-- no more bytes than there are
pub reach-within : (dead c : List ℕ) (at from r : ℕ) (img : List ℕ) (k : ℕ) → from + r ≤ length c → k ≡ reach dead (run_of 1 c at from r) img → k ≤ r
reach-within dead c at from r img k h e =
    let few = reach_few dead (run_of 1 c at from r) img in
    let long = length-run_of c at from r h in
    omega arith

pub run_none : (c : List ℕ) (at from : ℕ) (img : List ℕ) → img ≡ apply_all (run_of 1 c at from 0) img
unfolding apply_all pages
run_none c at from img = refl

-- ---- the tests of one address

module _ (at a n old new : ℕ) where
  pub below : a < at → false ≡ (leb at a && ltb a (at + n) && falls old new)
  below h = rw (lt-leb at a h)

  pub beyond : at + n ≤ a → false ≡ (leb at a && ltb a (at + n) && falls old new)
  beyond h = rw (le-ltb a (at + n) h) (go (leb at a))
    where
      go : (t : Bool) → false ≡ (t && false && falls old new)
      go true = refl
      go false = refl

  pub within : at ≤ a → a < at + n → (leb at a && ltb a (at + n) && falls old new) ≡ falls old new
  within h l = rw (le-leb at a h, lt-ltb a (at + n) l)

-- a page, address by address
module _ (at : ℕ) (c : List ℕ) (from n : ℕ) (img : List ℕ) (h : from + n ≤ length c) where
  abbrev pub touched : ℕ → Bool
  touched a = leb at a && ltb a (at + n) && falls (get_or img a 0) (get_or c (from + (a - at)) 0)

  -- in the words of `fails`
  abbrev hit : ℕ → Bool
  hit a = leb at a && ltb a (at + length (part from n c)) && falls (get_or img a 0) (get_or (part from n c) (a - at) 0)

  hit-touched : (a : ℕ) → hit a ≡ touched a
  hit-touched a =
      ap (λ (m : ℕ). leb at a && ltb a (at + m) && falls (get_or img a 0) (get_or (part from n c) (a - at) 0)) (length_part from n c h)
      ∙ go (leb at a) refl (ltb a (at + n)) refl
    where
      go : (t : Bool) → leb at a ≡ t → (u : Bool) → ltb a (at + n) ≡ u
          → (t && u && falls (get_or img a 0) (get_or (part from n c) (a - at) 0)) ≡ (t && u && falls (get_or img a 0) (get_or c (from + (a - at)) 0))
      go true e true f =
          let p = leb-true at a e in
          let q = ltb-true a (at + n) f in
          ap (falls (get_or img a 0)) (get_or-take n (drop from c) (a - at) 0 (omega arith) ∙ get_or-drop from c (a - at) 0)
      go true e false f = refl
      go false e u f = refl

  pub page-touched : (dead : List ℕ) → list_any touched dead ≡ fails dead (page at (part from n c)) img
  unfolding fails
  page-touched dead = any_same touched hit dead (λ a. sym (hit-touched a))

-- ---- a mark

pub mark_made : (f : Bool) {r : Bool} → r ≡ not f → bool_byte r ≡ cond f 0 1
mark_made true h = rw h
mark_made false h = rw h

-- ---- what an operation asks, and what was made of it, where it is known

pub asked-as : {s t : Step} → s ≡ t → (w held long i : ℕ) (img : List ℕ) → i < size_of w s → Fits held long s → (i ≡ 0 → OneBit s img)
    → (i < size_of w t) × Fits held long t × (i ≡ 0 → OneBit t img)
asked-as e w held long i img l f b =
    subst (λ (x : Step). (i < size_of w x) × Fits held long x × (i ≡ 0 → OneBit x img)) e (l, f, b)

pub turned_as : {s t : Step} → s ≡ t → (dead : List ℕ) (w : ℕ) (c : List ℕ) (i left : ℕ) (img : List ℕ) (r : ℕ) {img' : List ℕ}
    → Turned dead w c t i left img img' r → Turned dead w c s i left img img' r
turned_as e dead w c i left img r t = rw e t

-- the places of a header
pub header-short : {w i : ℕ} → i < cond (eqb w 1) 59 60 → w ≡ 1 → i < 59
header-short {w} {i} l e = subst (λ (t : Bool). i < cond t 59 60) (eq-eqb w 1 e) l

pub header-long : {w i : ℕ} → i < cond (eqb w 1) 59 60 → w ≢ 1 → i < 60
header-long {w} {i} l n = subst (λ (t : Bool). i < cond t 59 60) (ne_eqb w 1 n) l

pub header-places : (w i : ℕ) → w ≢ 1 → i < 60 → i + (60 - i) ≤ cond (eqb w 1) 59 60
header-places w i n l = rw (ne_eqb w 1 n) (omega arith)
