-- Bytes copied to the front of a buffer, and others behind them, are the joined bytes copied.
-- Assumes nothing.
use Prim.Native.Nat.{ℕ, ◌+◌, ◌-◌, ◌≤◌}
use native.Mathlib.Nat.{zero-add}
use mathlib.Core.Path.{◌≡◌, refl, sym, ap, ◌∙◌}
use mathlib.Core.List.{List, ◌++◌, append_assoc, append-nil}
use lib.ListN.{length, take, drop, length-append}
use lib.Seq.{paste, take-length, take_at, drop_at, drop-drop, drop-length}
use borrow.Rule.Slice.PartMut.{mid_of, put_mid, Post-is}
use Rattle.model.specs.Lists.{overlay}
use Rattle.region.proofs.Turns.{rest}

module _ (d s : List ℕ) where
  pub copy-all : (i : ℕ) → i ≡ length s → paste d 0 s i ≡ overlay 0 s d
  copy-all i h = rw (h, take-length s)

overlay-front : (s d : List ℕ) → overlay 0 s d ≡ s ++ drop (length s) d
overlay-front s d = simp zero-add

-- one list copied to the front, another behind it
copy-behind : (s t d : List ℕ) → take (length s) (overlay 0 s d) ++ overlay 0 t (drop (length s) (overlay 0 s d)) ≡ overlay 0 (s ++ t) d
copy-behind s t d =
    rw (overlay-front s d, take_at s (drop (length s) d) (length s) refl, drop_at s (drop (length s) d) (length s) refl, overlay-front t (drop (length s) d), overlay-front (s ++ t) d, length-append s t, drop-drop (length t) (length s) d)
    (sym (append_assoc s t (drop (length s + length t) d)))

-- as a part of a slice, lent from an offset on and put back
pub put_rest : (a : ℕ) (xs ys : List ℕ) → a ≤ length xs → put_mid a (length xs - a) xs ys ≡ take a xs ++ ys
put_rest a xs ys h =
    ap (λ (z : List ℕ). take a xs ++ (ys ++ z)) (Post-is a (length xs) xs h ∙ drop-length xs)
    ∙ ap (λ (z : List ℕ). take a xs ++ z) (append-nil ys)

pub copied_behind : (s t d b b' : List ℕ) → length s ≤ length b → b ≡ overlay 0 s d → b' ≡ overlay 0 t (mid_of (length s) (length b - length s) b)
    → put_mid (length s) (length b - length s) b b' ≡ overlay 0 (s ++ t) d
copied_behind s t d b b' h p q =
    put_rest (length s) b b' h
    ∙ ap (λ (z : List ℕ). take (length s) b ++ z) (q ∙ ap (overlay 0 t) (rest b (length s)))
    ∙ ap (λ (x : List ℕ). take (length s) x ++ overlay 0 t (drop (length s) x)) p
    ∙ copy-behind s t d
