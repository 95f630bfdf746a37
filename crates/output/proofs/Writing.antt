-- Texts written one behind the other are one text written: storing a joined list is storing its parts in turn, by induction over the first.
-- Assumes nothing.
use Prim.Native.Nat.{ℕ, suc, ◌+◌, ◌-◌, ◌≤◌, ◌<◌, min}
use native.Mathlib.Nat.{add-zero, add_assoc, add-suc, suc-add}
use native.Mathlib.Numerals.{add-one}
use native.Mathlib.Omega.{arith}
use mathlib.Core.Path.{◌≡◌, refl, sym, ap, subst, ◌∙◌}
use mathlib.Core.Bool.{Bool, true, false}
use mathlib.Core.List.{List, [], ◌∷◌, ◌++◌, append_assoc, append-nil}
use lib.ListN.{length, take, drop, get_or, set, length-append, take-append-drop}
use lib.Seq.{sets, sets-eq, take_at, take-suc, take_all, length-take-le, length-sets, set_out, drop-drop}
use lib.Dec.{leb}
use borrow.Rule.Slice.PartMut.{put_mid}
use borrow.Author.Tests.{leb-true, leb-false}
use Rattle.output.specs.Text.{Wrote, hex_of}

pub sets-append : (l : List ℕ) (at : ℕ) (xs ys : List ℕ) → sets l at (xs ++ ys) ≡ sets (sets l at xs) (at + length xs) ys
sets-append l at [] ys = rw add-zero
sets-append l at (x ∷ xs) ys = rw (add-suc, ← suc-add at (length xs)) (sets-append (set l at x) (suc at) xs ys)

pub wrote_none : (at : ℕ) (l : List ℕ) → Wrote [] at l l at
wrote_none at l = record { place = sym (add-zero at); buffer = refl }

pub wrote-append : {xs ys : List ℕ} {at n n' : ℕ} {l l' l'' : List ℕ}
    → Wrote xs at l l' n → Wrote ys n l' l'' n' → Wrote (xs ++ ys) at l l'' n'
wrote-append {xs} {ys} {at} {n} {n'} {l} {l'} {l''} p q = record {
  place = q.place ∙ rw (p.place, length-append, add_assoc);
  buffer = q.buffer ∙ rw (p.place, p.buffer, sets-append);
}

-- the same text by another name
pub wrote_as : {xs ys : List ℕ} {at n : ℕ} {l l' : List ℕ} → xs ≡ ys → Wrote xs at l l' n → Wrote ys at l l' n
wrote_as {at = at} {n} {l} {l'} e w = subst (λ (t : List ℕ). Wrote t at l l' n) e w

-- the buffer keeps its length
pub wrote-length : {xs : List ℕ} {at n : ℕ} {l l' : List ℕ} → Wrote xs at l l' n → length l' ≡ length l
wrote-length {xs} {at} {l = l} w = ap length w.buffer ∙ length-sets l at xs

-- one turn of a loop that writes the bytes of a list in order
pub wrote-byte : (src : List ℕ) (i : ℕ) {at n n' : ℕ} {l l' l'' : List ℕ} → i < length src
    → Wrote (take i src) at l l' n → Wrote (get_or src i 0 ∷ []) n l' l'' n' → Wrote (take (i + 1) src) at l l'' n'
wrote-byte src i h p q = wrote_as (rw (add-one, take-suc src i 0)) (wrote-append p q)

-- bytes past the buffer's end are not stored
sets-out : (xs l : List ℕ) (at : ℕ) → length l ≤ at → sets l at xs ≡ l
sets-out [] l at h = refl
sets-out (x ∷ xs) l at h = rw (set_out l at x h) (sets-out xs l (suc at) (omega arith))

sets-room : (l : List ℕ) (at : ℕ) (s : List ℕ) (n : ℕ) → n ≡ min (length s) (length l - at) → sets l at (take n s) ≡ sets l at s
sets-room l at s n e = go (leb (length s) (length l - at)) refl
  where
    go : (t : Bool) → leb (length s) (length l - at) ≡ t → sets l at (take n s) ≡ sets l at s
    go true h = ap (sets l at) (take_all n s (omega (arith, leb-true (length s) (length l - at) h)))
    go false h =
        let few : n < length s = omega (arith, leb-false (length s) (length l - at) h) in
        let past : length (sets l at (take n s)) ≤ at + length (take n s) = rw (length-sets l at (take n s), length-take-le n s (omega arith)) (omega arith) in
        sym (ap (sets l at) (sym (take-append-drop n s)) ∙ sets-append l at (take n s) (drop n s)
        ∙ sets-out (drop n s) (sets l at (take n s)) (at + length (take n s)) past)

-- so a text is written by a write to the places that it has
pub wrote-places : (src put : List ℕ) (n : ℕ) {at : ℕ} {l l' : List ℕ} → at ≤ length l → n ≡ min (length src) (length l - at) → put ≡ take n src
    → l' ≡ put_mid at (at + n - at) l put → Wrote src at l l' (at + length src)
wrote-places src put n {at} {l} {l'} h e p q = record { place = refl; buffer = go }
  where
    long : length (take n src) ≡ n
    long = length-take-le n src (omega arith)

    stored : sets l at src ≡ take at l ++ take n src ++ drop (at + n) l
    stored = sym (sets-room l at src n e) ∙ sets-eq (take n src) l at (omega (arith, long)) ∙ rw long refl

    go : l' ≡ sets l at src
    go =
        let k : at + n - at ≡ n = omega arith in
        q ∙ rw (k, p, drop-drop n at l) (sym (append_assoc (take at l) (take n src) (drop (at + n) l))) ∙ sym stored

-- nothing of a text is written whose place lies past the end
pub wrote-past : (src : List ℕ) {at : ℕ} {l l' : List ℕ} → length l ≤ at → l' ≡ l → Wrote src at l l' (at + length src)
wrote-past src {at} {l} h e = record { place = refl; buffer = e ∙ sym (sets-out src l at h) }

-- one turn of a loop that writes their hexadecimal digits
hex-append : (xs ys : List ℕ) → hex_of (xs ++ ys) ≡ hex_of xs ++ hex_of ys
unfolding hex_of
hex-append [] ys = refl
hex-append (x ∷ xs) ys = rw (hex-append xs ys)

pub wrote-hex : (src : List ℕ) (i : ℕ) {at n n' : ℕ} {l l' l'' : List ℕ} → i < length src
    → Wrote (hex_of (take i src)) at l l' n → Wrote (hex_of (get_or src i 0 ∷ [])) n l' l'' n' → Wrote (hex_of (take (i + 1) src)) at l l'' n'
wrote-hex src i h p q =
    wrote_as (rw (add-one, take-suc src i 0, hex-append)) (wrote-append p q)

-- the front of a buffer that holds the text
pub wrote-front : {text before after : List ℕ} {next : ℕ} → Wrote text 0 before after next → length text ≤ length before → take next after ≡ text
wrote-front {text} {before} {after} {next} w h =
    let n : length text ≡ next = omega (arith, w.place) in
    ap (take next) (w.buffer ∙ sets-eq text before 0 (omega arith)) ∙ take_at text (drop (0 + length text) before) next n

-- ---- a text written piece by piece

-- of the whole text this is still to come, and what stands before it is written
pub record Partly (whole rest : List ℕ) (at : ℕ) (before after : List ℕ) (next : ℕ) : Type 0 where
  pub text : List ℕ
  pub parts : whole ≡ text ++ rest
  pub wrote : Wrote text at before after next

pub partly_none : {whole rest : List ℕ} (at : ℕ) (l : List ℕ) → whole ≡ rest → Partly whole rest at l l at
partly_none at l e = record { text = []; parts = e; wrote = wrote_none at l }

pub partly-next : {whole rest piece more : List ℕ} {at n n' : ℕ} {l l' l'' : List ℕ}
    → Partly whole rest at l l' n → rest ≡ piece ++ more → Wrote piece n l' l'' n' → Partly whole more at l l'' n'
partly-next {piece = piece} {more} w e p = record {
  text = w.text ++ piece;
  parts = w.parts ∙ ap (λ (s : List ℕ). w.text ++ s) e ∙ sym (append_assoc w.text piece more);
  wrote = wrote-append w.wrote p;
}

pub partly-all : {whole rest : List ℕ} {at n : ℕ} {l l' : List ℕ} → Partly whole rest at l l' n → rest ≡ [] → Wrote whole at l l' n
partly-all w e = wrote_as (sym (w.parts ∙ rw (e, append-nil))) w.wrote
