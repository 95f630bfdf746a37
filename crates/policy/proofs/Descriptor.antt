-- A descriptor is right where its size, its kind and its zero bytes are. Of the stamp the data may lack some bytes: with what they have in front of
-- zeros, 16 in all, it is what is left of zeros when these bytes are laid over them.
-- Assumes nothing.
use Prim.Native.Nat.{ℕ, zero, suc, ◌+◌, ◌≤◌}
use native.Mathlib.Nat.{min-le_left}
use native.Mathlib.Omega.{arith}
use mathlib.Core.Path.{◌≡◌, refl, sym, ap, ◌∙◌}
use mathlib.Core.Bool.{Bool, true, false, not, cond, ◌&&◌, and-true, and-false, true≢false}
use mathlib.Core.List.{List, [], ◌∷◌, ◌++◌}
use lib.ListN.{length, take, drop, replicate, length-take, length-drop}
use lib.Seq.{take_all, take-append-le, take-take}
use lib.Dec.{eqb, leb}
use borrow.Author.Tests.{leb-true}
use Rattle.model.specs.Lists.{part, same, u16_at_def}
use Rattle.model.specs.Request.{Request, stamp_to_store, time_based_def, stamp_size, certificate, descriptor_length, proper_at, right_descriptor, proper_of}
use Rattle.model.specs.Rules.{rule8}
use Rattle.model.proofs.Tests.{and_split}
use Rattle.policy.specs.Descriptor.{no_stamp_def, stamp_in_def, stamp_of_def, right_size, right_kind}

pub right-parts : (bytes : List ℕ) → right_descriptor bytes ≡ (same (part 7 9 bytes) (replicate 9 0) && right_size bytes && right_kind bytes)
unfolding right_descriptor right_size right_kind
right-parts bytes =
    regroup
    (same (part 7 9 bytes) (replicate 9 0))
    (leb 24 (descriptor_length bytes))
    (leb (proper_at bytes) (length bytes))
    (eqb (u16_at_def bytes 20) 0x0200)
    (eqb (u16_at_def bytes 22) 0x0EF1)
    (same (part 24 16 bytes) certificate)
  where
    regroup : (z a b r t k : Bool) → (z && a && b && r && t && k) ≡ (z && (a && b) && (r && t && k))
    regroup true true true true true k = refl
    regroup true true true true false k = refl
    regroup true true true false t k = refl
    regroup true true false r t k = refl
    regroup true false b r t k = refl
    regroup false a b r t k = refl

pub wrong_size : (bytes : List ℕ) → right_size bytes ≡ false → right_descriptor bytes ≡ false
wrong_size bytes h = right-parts bytes ∙ rw (h, and-false (same (part 7 9 bytes) (replicate 9 0)))

pub wrong-kind : (bytes : List ℕ) → right_kind bytes ≡ false → right_descriptor bytes ≡ false
wrong-kind bytes h = right-parts bytes ∙ rw h (and-false (same (part 7 9 bytes) (replicate 9 0) && right_size bytes))

pub right-zeros : (bytes : List ℕ) → right_size bytes ≡ true → right_kind bytes ≡ true → right_descriptor bytes ≡ same (part 7 9 bytes) (replicate 9 0)
right-zeros bytes h k = right-parts bytes ∙ rw (h, k) (and-true (same (part 7 9 bytes) (replicate 9 0) && true) ∙ and-true (same (part 7 9 bytes) (replicate 9 0)))

-- data with a right descriptor hold it whole
pub right-long : (bytes : List ℕ) → right_descriptor bytes ≡ true → 40 ≤ length bytes
unfolding right_size
right-long bytes h =
    let p = and_split (same (part 7 9 bytes) (replicate 9 0) && right_size bytes) (right_kind bytes) (sym (right-parts bytes) ∙ h) in
    let q = and_split (same (part 7 9 bytes) (replicate 9 0)) (right_size bytes) p.0 in
    let t = and_split (leb 24 (descriptor_length bytes)) (leb (proper_at bytes) (length bytes)) q.1 in
    omega (arith, leb-true 24 (descriptor_length bytes) t.0, leb-true (proper_at bytes) (length bytes) t.1)

-- the data proper, by where they begin
pub proper-drop : (a : ℕ) (bytes : List ℕ) → drop (cond (time_based_def a) (proper_at bytes) 0) bytes ≡ proper_of a bytes
unfolding proper_of
proper-drop a bytes = go (time_based_def a)
  where
    go : (t : Bool) → drop (cond t (proper_at bytes) 0) bytes ≡ cond t (drop (proper_at bytes) bytes) bytes
    go true = refl
    go false = refl

front-short : (bytes : List ℕ) → length (take stamp_size bytes) ≤ 16
front-short bytes = rw length-take (min-le_left 16 (length bytes))

abbrev zeros : ℕ → List ℕ
zeros n = replicate n 0

few-zeros : (n m : ℕ) → n ≤ m → take n (zeros m) ≡ zeros n
few-zeros zero m h = refl
few-zeros (suc n) zero h = absurd (omega arith)
few-zeros (suc n) (suc m) h = ap (λ (l : List ℕ). 0 ∷ l) (few-zeros n m (omega arith))

filled-up : (n m : ℕ) (s : List ℕ) → length s ≤ n → n ≤ m → take n (s ++ zeros m) ≡ s ++ drop (length s) (zeros n)
filled-up n m [] h k = few-zeros n m k
filled-up zero m (x ∷ s) h k = absurd (omega arith)
filled-up (suc n) m (x ∷ s) h k = ap (λ (l : List ℕ). x ∷ l) (filled-up n m s (omega arith) (omega arith))

-- the front of some bytes, laid over zeros
pub front-laid : (bytes : List ℕ) → take stamp_size bytes ++ drop (length (take stamp_size bytes)) no_stamp_def ≡ stamp_in_def bytes
unfolding stamp_in_def no_stamp_def
front-laid bytes = let front = take stamp_size bytes in sym (filled-up 16 16 front (front-short bytes) (omega arith))

-- bytes that have a whole stamp in front have that one
pub stamp-whole : (bytes : List ℕ) → stamp_size ≤ length bytes → stamp_in_def bytes ≡ take stamp_size bytes
unfolding stamp_in_def
stamp-whole bytes h =
    let n : stamp_size ≤ length (take stamp_size bytes) = rw length-take (omega arith) in
    take-append-le stamp_size (take stamp_size bytes) no_stamp_def n ∙ take-take stamp_size stamp_size bytes (omega arith)

-- a header has a whole stamp
pub stamp-held : (r : List ℕ) (at : ℕ) → at + 60 ≤ length r → stamp_in_def (part 16 16 (drop at r)) ≡ part 16 16 (drop at r)
stamp-held r at h =
    let long : 16 ≤ length (part 16 16 (drop at r)) = simp (length-take, length-drop) (omega arith) in
    let short : length (part 16 16 (drop at r)) ≤ 16 = simp (length-take, length-drop) (omega arith) in
    stamp-whole (part 16 16 (drop at r)) long ∙ take_all 16 (part 16 16 (drop at r)) short

-- where rule 8 is kept the stamp is the one to store
pub stamp-right : (r : Request) → rule8 r.attributes r.bytes ≡ false → stamp_to_store r ≡ stamp_of_def r.attributes r.bytes
unfolding rule8 stamp_to_store stamp_of_def no_stamp_def
stamp-right r h = go (time_based_def r.attributes) (right_descriptor r.bytes) refl h
  where
    go : (t d : Bool) → right_descriptor r.bytes ≡ d → (t && not d) ≡ false
        → cond t (take stamp_size r.bytes) (replicate stamp_size 0) ≡ cond t (stamp_in_def r.bytes) (replicate stamp_size 0)
    go true true e h = let l = right-long r.bytes e in sym (stamp-whole r.bytes (omega arith))
    go true false e h = absurd (true≢false h)
    go false d e h = refl
