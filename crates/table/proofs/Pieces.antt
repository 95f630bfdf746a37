-- A list of stores written as pieces: bytes from an offset on, and erased blocks. What the list leaves is each piece laid over the image in turn,
-- since a run of bytes leaves an overlay; so an image after thousands of stores is computed in a pass for each piece.
-- Assumes nothing.
use Prim.Native.Nat.{ℕ, ◌+◌, ◌*◌, ◌≤◌}
use native.Mathlib.Omega.{arith}
use mathlib.Core.Path.{◌≡◌, refl, sym, ap, ◌∙◌}
use mathlib.Core.Bool.{Bool, true, false, ◌&&◌}
use mathlib.Core.List.{List, [], ◌∷◌, ◌++◌}
use lib.ListN.{length, length-append, length-take, length-drop, length-replicate}
use lib.Dec.{T, leb, leb→le}
use Rattle.model.specs.Lists.{overlay}
use Rattle.model.specs.Image.{block}
use Rattle.model.specs.Stores.{Store, erase, Write, run, blank, apply, apply_all, bytewise, todays, todays_one}
use Rattle.model.specs.Stores.{clear as clearing}
use Rattle.model.proofs.Stores.{apply_all-append, run-overlay, stores_run, pages-bytewise}

pub data Piece : Type 0 where
  store : ℕ → List ℕ → Piece
  clear : ℕ → Piece

abbrev pub stores_in : Piece → List Store
stores_in (store at bs) = bytewise at bs
stores_in (clear b) = erase b ∷ []

unfoldable pub flat : List Piece → List Store
flat [] = []
flat (p ∷ ps) = stores_in p ++ flat ps

abbrev pub laid : Piece → List ℕ → List ℕ
laid (store at bs) img = overlay at bs img
laid (clear b) img = overlay (block * b) blank img

unfoldable pub laid_all : List Piece → List ℕ → List ℕ
laid_all [] img = img
laid_all (p ∷ ps) img = laid_all ps (laid p img)

-- a piece lies within an image of so many bytes
abbrev pub inside : ℕ → Piece → Bool
inside size (store at bs) = leb (at + length bs) size
inside size (clear b) = leb (block * b + block) size

unfoldable pub all_inside : ℕ → List Piece → Bool
all_inside size [] = true
all_inside size (p ∷ ps) = inside size p && all_inside size ps

length-overlay : (at : ℕ) (bs img : List ℕ) → at + length bs ≤ length img → length (overlay at bs img) ≡ length img
length-overlay at bs img h = simp (length-append, length-take, length-drop) (omega arith)

length-blank : length blank ≡ block
unfolding blank
length-blank = length-replicate block 0xFF

both : (a b : Bool) → T (a && b) → T a × T b
both true true t = (tt, tt)
both true false t = absurd t
both false b t = absurd t

laid-length : (p : Piece) (img : List ℕ) → T (inside (length img) p) → length (laid p img) ≡ length img
laid-length (store at bs) img t = length-overlay at bs img (leb→le (at + length bs) (length img) t)
laid-length (clear b) img t =
    length-overlay (block * b) blank img (rw length-blank (leb→le (block * b + block) (length img) t))

laid-piece : (p : Piece) (img : List ℕ) → T (inside (length img) p) → apply_all (stores_in p) img ≡ laid p img
unfolding apply_all apply
laid-piece (store at bs) img t =
    ap (λ (ss : List Store). apply_all ss img) (sym (stores_run 1 at bs ∙ pages-bytewise at bs)) ∙ run-overlay 1 at bs img (leb→le (at + length bs) (length img) t)
laid-piece (clear b) img t = refl

pub flat-laid : (ps : List Piece) (img : List ℕ) → T (all_inside (length img) ps) → apply_all (flat ps) img ≡ laid_all ps img
unfolding flat laid_all all_inside apply_all
flat-laid [] img t = refl
flat-laid (p ∷ ps) img t =
    let h = both (inside (length img) p) (all_inside (length img) ps) t in
    apply_all-append (stores_in p) (flat ps) img
    ∙ ap (apply_all (flat ps)) (laid-piece p img h.0)
    ∙ flat-laid ps (laid p img) (rw (laid-length p img h.0) h.1)

-- what a list of pieces writes: byte by byte it is their stores
unfoldable pub as_writes : List Piece → List Write
as_writes [] = []
as_writes (store at bs ∷ ps) = run at bs ++ as_writes ps
as_writes (clear b ∷ ps) = clearing b ∷ as_writes ps

pub as-flat : (ps : List Piece) → todays (as_writes ps) ≡ flat ps
unfolding as_writes flat todays todays_one
as-flat [] = refl
as-flat (store at bs ∷ ps) = ap (λ (l : List Store). bytewise at bs ++ l) (as-flat ps)
as-flat (clear b ∷ ps) = ap (λ (l : List Store). erase b ∷ l) (as-flat ps)
