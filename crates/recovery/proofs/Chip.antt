-- Every store lies within one page; bytes from a page's start to a page's end are stored as whole pages: by induction over the bytes.
-- Assumes nothing.
use Prim.Native.Nat.{ℕ, suc, ◌+◌, ◌*◌, ◌%◌, ◌≤◌, ◌<◌}
use native.Mathlib.Nat.{zero-add, zero-mul, suc-mul, mod-lt, mod-add-mod, mod-eq_of_lt, mod_self}
use native.Mathlib.Numerals.{add-one}
use native.Mathlib.Omega.{arith}
use mathlib.Core.Path.{◌≡◌, refl, sym, ap, ◌∙◌, subst}
use mathlib.Core.Logic.{◌≢◌}
use mathlib.Core.Bool.{Bool, true, false, cond}
use mathlib.Core.List.{List, [], ◌∷◌, ◌++◌}
use lib.ListN.{length}
use lib.Dec.{eqb, ltb}
use borrow.Author.Tests.{eqb-true, eqb-false, ltb-true, ltb-false}
use Rattle.model.specs.Image.{block}
use Rattle.model.specs.Stores.{Store, page, erase, Write, write, header, clear, joined_to, pages, stores, stores_one_def, run, Every, width_of}
use Rattle.model.proofs.Pages.{widths, width_positive}
use Rattle.model.proofs.Stores.{stores_run, stores-mark, Starts, none-there, page-there, pages-start, pages-first, pages-one}
use Rattle.recovery.specs.Chip.{OnePage, StoresWithinPages, WholePage, MarksAreSingle}

-- ---- within one page

-- a place that does not end a page: the next is the next of the same page
next_place : (w at : ℕ) → 1 ≤ w → suc at % w ≢ 0 → suc at % w ≡ suc (at % w)
next_place w at h n = go (ltb (at % w + 1) w) refl
  where
    step : suc at % w ≡ (at % w + 1) % w
    step = ap (λ (k : ℕ). k % w) (sym (add-one at)) ∙ sym (mod-add-mod at w 1)

    go : (t : Bool) → ltb (at % w + 1) w ≡ t → suc at % w ≡ suc (at % w)
    go true e = step ∙ mod-eq_of_lt (ltb-true (at % w + 1) w e) ∙ add-one (at % w)
    go false e =
        let l : at % w < w = mod-lt at (omega arith) in
        let m : w ≤ at % w + 1 = ltb-false (at % w + 1) w e in
        let whole : at % w + 1 ≡ w = omega arith in
        absurd (n (step ∙ ap (λ (k : ℕ). k % w) whole ∙ mod_self w))

module _ (w : ℕ) (positive : 1 ≤ w) where
  one_byte : (at b : ℕ) → OnePage w (page at (b ∷ []))
  one_byte at b = (omega arith, let l : at % w < w = mod-lt at (omega arith) in omega arith)

  joined-page : (at b : ℕ) {ss : List Store} → suc at % w ≢ 0 → Starts (suc at) ss → Every (OnePage w) ss → Every (OnePage w) (joined_to at b ss)
  joined-page at b n none-there h = (one_byte at b, tt)
  joined-page at b n (page-there bs ss) h = ((omega arith, (let e = next_place w at positive n in omega (arith, h.0.1))), h.1)

  pub pages-within : (at : ℕ) (bs : List ℕ) → Every (OnePage w) (pages w at bs)
  unfolding pages
  pages-within at [] = tt
  pages-within at (b ∷ bs) = go (eqb (suc at % w) 0) refl (pages-within (suc at) bs)
    where
      go : (t : Bool) → eqb (suc at % w) 0 ≡ t → Every (OnePage w) (pages w (suc at) bs)
          → Every (OnePage w) (cond t (page at (b ∷ []) ∷ pages w (suc at) bs) (joined_to at b (pages w (suc at) bs)))
      go true e h = (one_byte at b, h)
      go false e h = joined-page at b (eqb-false (suc at % w) 0 e) (pages-start w (suc at) bs) h

every-join : (P : Store → Type 0) (xs ys : List Store) → Every P xs → Every P ys → Every P (xs ++ ys)
every-join P [] ys p q = q
every-join P (x ∷ xs) ys p q = (p.0, every-join P xs ys p.1 q)

one-within : (w : ℕ) → 1 ≤ w → (x : Write) → Every (OnePage w) (stores_one_def w x)
unfolding stores_one_def
one-within w h (write at bs) = pages-within w h at bs
one-within w h (header at front rest) = go (eqb w 1) refl
  where
    go : (t : Bool) → eqb w 1 ≡ t → Every (OnePage w) (cond t (pages 1 at front ++ pages 1 (at + length front + 1) rest) (pages w at (front ++ (0xFF ∷ []) ++ rest)))
    go true e =
        subst (λ (k : ℕ). Every (OnePage k) (pages 1 at front ++ pages 1 (at + length front + 1) rest)) (sym (eqb-true w 1 e))
        (every-join (OnePage 1) (pages 1 at front) (pages 1 (at + length front + 1) rest) (pages-within 1 (omega arith) at front) (pages-within 1 (omega arith) (at + length front + 1) rest))
    go false e = pages-within w h at (front ++ (0xFF ∷ []) ++ rest)
one-within w h (clear b) = (tt, tt)

pub stores-within-pages : StoresWithinPages
unfolding stores
stores-within-pages w h [] = tt
stores-within-pages w h (x ∷ xs) = every-join (OnePage w) (stores_one_def w x) (stores w xs) (one-within w h x) (stores-within-pages w h xs)

pub marks-are-single : MarksAreSingle
marks-are-single = stores-mark

-- ---- whole pages

-- bytes that end with a page: so does every store
abbrev Ends : ℕ → Store → Type 0
Ends w (page at bs) = (at + length bs) % w ≡ 0
Ends w (erase b) = Unit {0}

pages-end : (w at : ℕ) (bs : List ℕ) → (at + length bs) % w ≡ 0 → Every (Ends w) (pages w at bs)
unfolding pages
pages-end w at [] h = tt
pages-end w at (b ∷ []) h = rw (pages-one w at b) (h, tt)
pages-end w at (b ∷ c ∷ bs) h =
    let later = pages-end w (suc at) (c ∷ bs) (ap (λ (n : ℕ). n % w) (let e : suc at + suc (length bs) ≡ at + suc (suc (length bs)) = omega arith in e) ∙ h) in
    let first = pages-first w (suc at) c bs in
    subst (λ (l : List Store). Every (Ends w) (cond (eqb (suc at % w) 0) (page at (b ∷ []) ∷ l) (joined_to at b l))) (sym first.same)
    (go (eqb (suc at % w) 0) refl first.more first.behind (subst (Every (Ends w)) first.same later))
  where
    go : (t : Bool) → eqb (suc at % w) 0 ≡ t → (cs : List ℕ) (ss : List Store) → Every (Ends w) (page (suc at) (c ∷ cs) ∷ ss)
        → Every (Ends w) (cond t (page at (b ∷ []) ∷ page (suc at) (c ∷ cs) ∷ ss) (joined_to at b (page (suc at) (c ∷ cs) ∷ ss)))
    go true e cs ss k = (ap (λ (n : ℕ). n % w) (add-one at) ∙ eqb-true (suc at % w) 0 e, k)
    go false e cs ss k = (ap (λ (n : ℕ). n % w) (let f : at + suc (suc (length cs)) ≡ suc at + suc (length cs) = omega arith in f) ∙ k.0, k.1)

-- every store behind the first begins with a page
abbrev Begins : ℕ → Store → Type 0
Begins w (page at bs) = at % w ≡ 0
Begins w (erase b) = Unit {0}

abbrev Behind : ℕ → List Store → Type 0
Behind w [] = Unit {0}
Behind w (s ∷ ss) = Every (Begins w) ss

behind-all : (w at : ℕ) {ss : List Store} → Starts at ss → at % w ≡ 0 → Behind w ss → Every (Begins w) ss
behind-all w at none-there e h = tt
behind-all w at (page-there bs ss) e h = (e, h)

behind-joined : (w at b : ℕ) {ss : List Store} → Starts (suc at) ss → Behind w ss → Behind w (joined_to at b ss)
behind-joined w at b none-there h = tt
behind-joined w at b (page-there bs ss) h = h

pages-behind : (w at : ℕ) (bs : List ℕ) → Behind w (pages w at bs)
unfolding pages
pages-behind w at [] = tt
pages-behind w at (b ∷ bs) = go (eqb (suc at % w) 0) refl (pages-behind w (suc at) bs)
  where
    go : (t : Bool) → eqb (suc at % w) 0 ≡ t → Behind w (pages w (suc at) bs) → Behind w (cond t (page at (b ∷ []) ∷ pages w (suc at) bs) (joined_to at b (pages w (suc at) bs)))
    go true e h = behind-all w (suc at) (pages-start w (suc at) bs) (eqb-true (suc at % w) 0 e) h
    go false e h = behind-joined w at b (pages-start w (suc at) bs) h

-- all three together: whole pages
whole_of : (w : ℕ) → 1 ≤ w → (s : Store) → OnePage w s → Ends w s → Begins w s → WholePage w s
whole_of w h (erase b) p e s = tt
whole_of w h (page at bs) p e s = (s, go (ltb (length bs) w) refl)
  where
    end : length bs % w ≡ 0
    end = ap (λ (k : ℕ). k % w) (sym (zero-add (length bs))) ∙ ap (λ (k : ℕ). (k + length bs) % w) (sym s) ∙ mod-add-mod at w (length bs) ∙ e

    go : (t : Bool) → ltb (length bs) w ≡ t → length bs ≡ w
    go true f = let z : length bs ≡ 0 = sym (mod-eq_of_lt (ltb-true (length bs) w f)) ∙ end in absurd (omega (arith, p.0))
    go false f = let m = ltb-false (length bs) w f in omega (arith, p.1, s)

all_whole : (w : ℕ) → 1 ≤ w → (ss : List Store) → Every (OnePage w) ss → Every (Ends w) ss → Every (Begins w) ss → Every (WholePage w) ss
all_whole w h [] p e s = tt
all_whole w h (x ∷ ss) p e s = (whole_of w h x p.0 e.0 s.0, all_whole w h ss p.1 e.1 s.1)

pub whole-pages : (w at : ℕ) (bs : List ℕ) → 1 ≤ w → at % w ≡ 0 → (at + length bs) % w ≡ 0 → Every (WholePage w) (pages w at bs)
whole-pages w at bs h e f =
    all_whole w h (pages w at bs) (pages-within w h at bs) (pages-end w at bs f) (behind-all w at (pages-start w at bs) e (pages-behind w at bs))

-- their bytes together are the bytes stored
abbrev total : List Store → ℕ
total [] = 0
total (page at bs ∷ ss) = length bs + total ss
total (erase b ∷ ss) = total ss

total-joined : (at b : ℕ) {ss : List Store} → Starts (suc at) ss → total (joined_to at b ss) ≡ suc (total ss)
total-joined at b none-there = refl
total-joined at b (page-there bs ss) = omega arith

pages-total : (w at : ℕ) (bs : List ℕ) → total (pages w at bs) ≡ length bs
unfolding pages
pages-total w at [] = refl
pages-total w at (b ∷ bs) = go (eqb (suc at % w) 0) (pages-total w (suc at) bs)
  where
    go : (t : Bool) → total (pages w (suc at) bs) ≡ length bs → total (cond t (page at (b ∷ []) ∷ pages w (suc at) bs) (joined_to at b (pages w (suc at) bs))) ≡ suc (length bs)
    go true h = omega arith
    go false h = total-joined at b (pages-start w (suc at) bs) ∙ ap suc h

-- no erases
abbrev Paged : Store → Type 0
Paged (page at bs) = Unit {0}
Paged (erase b) = ⊥

paged-joined : (at b : ℕ) {ss : List Store} → Starts (suc at) ss → Every Paged ss → Every Paged (joined_to at b ss)
paged-joined at b none-there h = (tt, tt)
paged-joined at b (page-there bs ss) h = (tt, h.1)

pages-paged : (w at : ℕ) (bs : List ℕ) → Every Paged (pages w at bs)
unfolding pages
pages-paged w at [] = tt
pages-paged w at (b ∷ bs) = go (eqb (suc at % w) 0) (pages-paged w (suc at) bs)
  where
    go : (t : Bool) → Every Paged (pages w (suc at) bs) → Every Paged (cond t (page at (b ∷ []) ∷ pages w (suc at) bs) (joined_to at b (pages w (suc at) bs)))
    go true h = (tt, h)
    go false h = paged-joined at b (pages-start w (suc at) bs) h

whole-count : (w : ℕ) (ss : List Store) → Every (WholePage w) ss → Every Paged ss → length ss * w ≡ total ss
whole-count w [] h p = zero-mul w
whole-count w (page at bs ∷ ss) h p =
    let rest = whole-count w ss h.1 p.1 in
    suc-mul (length ss) w ∙ omega (arith, h.0.1, rest)
whole-count w (erase b ∷ ss) h p = absurd p.0

block-begins : (k n : ℕ) → block * k % width_of n ≡ 0
unfolding block
block-begins k = widths (λ w. block * k % w ≡ 0) (omega arith) (omega arith) (omega arith) (omega arith) (omega arith)

block-ends : (k m n : ℕ) → (block * k + block * m) % width_of n ≡ 0
unfolding block
block-ends k m = widths (λ w. (block * k + block * m) % w ≡ 0) (omega arith) (omega arith) (omega arith) (omega arith) (omega arith)

-- bytes that begin with a block and fill blocks are stored as whole pages, as many as fit
pub blocks-whole : (n k m : ℕ) (bs : List ℕ) → length bs ≡ block * m
    → Every (WholePage (width_of n)) (stores (width_of n) (run (block * k) bs)) × (length (stores (width_of n) (run (block * k) bs)) * width_of n ≡ length bs)
blocks-whole n k m bs l =
    let w = width_of n in
    let at = block * k in
    let whole = whole-pages w at bs (width_positive n) (block-begins k n) (ap (λ (j : ℕ). (at + j) % w) l ∙ block-ends k m n) in
    let count : length (pages w at bs) * w ≡ length bs = whole-count w (pages w at bs) whole (pages-paged w at bs) ∙ pages-total w at bs in
    rw (stores_run w at bs) (whole, count)
