-- What a loop that stores needs of pages: bytes within one page are one store; a run up to a page end and a run from there on are the run of both; the number of stores
-- depends on the number of bytes alone, and is no greater. By induction over the bytes. And the widths that there are, one by one.
-- Assumes nothing.
use Prim.Native.Nat.{ℕ, suc, ◌+◌, ◌%◌, ◌≤◌, ◌<◌}
use native.Mathlib.Nat.{add-zero, mod-add-mod, mod-eq_of_lt}
use native.Mathlib.Numerals.{add-one}
use native.Mathlib.Omega.{arith}
use mathlib.Core.Path.{◌≡◌, refl, sym, ap, ◌∙◌, subst}
use mathlib.Core.Bool.{Bool, true, false, cond, ◌||◌}
use mathlib.Core.List.{List, [], ◌∷◌, ◌++◌}
use lib.ListN.{length}
use lib.Dec.{eqb}
use borrow.Author.Tests.{eqb-true, eq-eqb, ne_eqb}
use Rattle.model.specs.Stores.{Store, page, joined_to, pages, width_of}
use Rattle.model.proofs.Stores.{Starts, none-there, page-there, pages-start, pages-first}

suc-place : (w at : ℕ) → at % w + 1 < w → suc at % w ≡ at % w + 1
suc-place w at h = ap (λ (n : ℕ). n % w) (sym (add-one at)) ∙ sym (mod-add-mod at w 1) ∙ mod-eq_of_lt h

-- bytes within one page are one store
pub pages-page : (w at b : ℕ) (bs : List ℕ) → at % w + suc (length bs) ≤ w → pages w at (b ∷ bs) ≡ page at (b ∷ bs) ∷ []
unfolding pages
pages-page w at b [] h = go (eqb (suc at % w) 0)
  where
    go : (t : Bool) → cond t (page at (b ∷ []) ∷ []) (page at (b ∷ []) ∷ []) ≡ page at (b ∷ []) ∷ []
    go true = refl
    go false = refl
pages-page w at b (c ∷ bs) h =
    let next : suc at % w ≡ at % w + 1 = suc-place w at (omega arith) in
    rw (ne_eqb (suc at % w) 0 (omega arith)) (ap (joined_to at b) (pages-page w (suc at) c bs (omega arith)))

-- a byte in front of stores that begin behind it
abbrev in_front : Bool → ℕ → ℕ → List Store → List Store
in_front t at b ss = cond t (page at (b ∷ []) ∷ ss) (joined_to at b ss)

front-append : (t : Bool) (at b a : ℕ) (bs : List ℕ) (ss ys : List Store) → in_front t at b ((page a bs ∷ ss) ++ ys) ≡ in_front t at b (page a bs ∷ ss) ++ ys
front-append true at b a bs ss ys = refl
front-append false at b a bs ss ys = refl

-- up to a page end, and on from there
pub pages-append : (w at : ℕ) (xs ys : List ℕ) → (at + length xs) % w ≡ 0 → pages w at (xs ++ ys) ≡ pages w at xs ++ pages w (at + length xs) ys
unfolding pages
pages-append w at [] ys h = ap (λ (n : ℕ). pages w n ys) (sym (add-zero at))
pages-append w at (x ∷ []) ys h =
    let end : suc at % w ≡ 0 = ap (λ (n : ℕ). n % w) (sym (add-one at)) ∙ h in
    rw (eq-eqb (suc at % w) 0 end, add-one at)
pages-append w at (x ∷ y ∷ xs) ys h =
    let place : suc at + suc (length xs) ≡ at + suc (suc (length xs)) = omega arith in
    let rest : List Store = pages w (at + suc (suc (length xs))) ys in
    let first = pages-first w (suc at) y xs in
    let more : pages w (suc at) ((y ∷ xs) ++ ys) ≡ (page (suc at) (y ∷ first.more) ∷ first.behind) ++ rest =
    pages-append w (suc at) (y ∷ xs) ys (ap (λ (n : ℕ). n % w) place ∙ h) ∙ ap (λ (n : ℕ). pages w (suc at) (y ∷ xs) ++ pages w n ys) place ∙ ap (λ (l : List Store). l ++ rest) first.same in
    ap (in_front (eqb (suc at % w) 0) at x) more
    ∙ front-append (eqb (suc at % w) 0) at x (suc at) (y ∷ first.more) first.behind rest
    ∙ ap (λ (l : List Store). in_front (eqb (suc at % w) 0) at x l ++ rest) (sym first.same)

-- as many stores for as many bytes
joined_length : (at b c : ℕ) {ss us : List Store} → Starts (suc at) ss → Starts (suc at) us → length ss ≡ length us → length (joined_to at b ss) ≡ length (joined_to at c us)
joined_length at b c none-there none-there h = refl
joined_length at b c none-there (page-there bs us) h = absurd (omega arith)
joined_length at b c (page-there bs ss) none-there h = absurd (omega arith)
joined_length at b c (page-there bs ss) (page-there cs us) h = h

pub pages-length : (w at : ℕ) (xs ys : List ℕ) → length xs ≡ length ys → length (pages w at xs) ≡ length (pages w at ys)
unfolding pages
pages-length w at [] [] h = refl
pages-length w at [] (y ∷ ys) h = absurd (omega arith)
pages-length w at (x ∷ xs) [] h = absurd (omega arith)
pages-length w at (x ∷ xs) (y ∷ ys) h = go (eqb (suc at % w) 0) (pages-length w (suc at) xs ys (omega arith))
  where
    go : (t : Bool) → length (pages w (suc at) xs) ≡ length (pages w (suc at) ys) → length (in_front t at x (pages w (suc at) xs)) ≡ length (in_front t at y (pages w (suc at) ys))
    go true e = ap suc e
    go false e = joined_length at x y (pages-start w (suc at) xs) (pages-start w (suc at) ys) e

-- no more stores than bytes
pub pages-few : (w at : ℕ) (bs : List ℕ) → length (pages w at bs) ≤ length bs
unfolding pages
pages-few w at [] = omega arith
pages-few w at (b ∷ bs) = go (eqb (suc at % w) 0) (pages-few w (suc at) bs)
  where
    joined : {ss : List Store} → Starts (suc at) ss → length ss ≤ length bs → length (joined_to at b ss) ≤ suc (length bs)
    joined none-there h = omega arith
    joined (page-there cs ss) h = omega arith

    go : (t : Bool) → length (pages w (suc at) bs) ≤ length bs → length (cond t (page at (b ∷ []) ∷ pages w (suc at) bs) (joined_to at b (pages w (suc at) bs))) ≤ suc (length bs)
    go true h = omega arith
    go false h = joined (pages-start w (suc at) bs) h

-- the widths that there are
pub widths : (P : ℕ → Type 0) → P 1 → P 2 → P 4 → P 8 → P 16 → (n : ℕ) → P (width_of n)
unfolding width_of
widths P a b c d e n = go (eqb n 2) (eqb n 4) (eqb n 8) (eqb n 16) refl refl refl refl
  where
    go : (t u v x : Bool) → eqb n 2 ≡ t → eqb n 4 ≡ u → eqb n 8 ≡ v → eqb n 16 ≡ x → P (cond (t || (u || (v || (x || false)))) n 1)
    go true u v x i j k l = subst P (sym (eqb-true n 2 i)) b
    go false true v x i j k l = subst P (sym (eqb-true n 4 j)) c
    go false false true x i j k l = subst P (sym (eqb-true n 8 k)) d
    go false false false true i j k l = subst P (sym (eqb-true n 16 l)) e
    go false false false false i j k l = a

pub width_positive : (n : ℕ) → 1 ≤ width_of n
width_positive = widths (λ w. 1 ≤ w) (omega arith) (omega arith) (omega arith) (omega arith) (omega arith)
