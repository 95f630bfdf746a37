-- The records passed one at a time tell what the definitions say of all of them. What a look has told after i records, and the definitions on the
-- records left, give together what the definitions say of the whole: after an unused record, or after FC, the records left must all be FF.
-- Assumes nothing.
use Prim.Native.Nat.{ℕ, ◌+◌, ◌≤◌, ◌<◌}
use native.Mathlib.Numerals.{add-one}
use native.Mathlib.Omega.{arith}
use mathlib.Core.Path.{◌≡◌, refl, sym, ap, ◌∙◌}
use mathlib.Core.Bool.{Bool, true, false, not, cond, ◌&&◌, ◌||◌, and-false, and-true, or-true}
use mathlib.Core.List.{List, [], ◌∷◌}
use lib.ListN.{length, drop, get_or}
use lib.Seq.{drop-cons, drop-length}
use lib.Dec.{eqb, eqb-suc-suc}
use borrow.Author.Tests.{eqb-true, eqb-false, ne_eqb}
use Rattle.model.specs.Lists.{all, any, keep, among, all_ff}
use Rattle.model.specs.Work.{record_states, used, used_first_def, spare_last, last_used}
use Rattle.records.specs.Passed.{unread, with_used, onward, through}
use Rattle.records.specs.declared.Look.{Look}

-- ---- one record more

pub onward-unused : (l : Look) (i r : ℕ) → r ≡ 0xFF → l ≡ onward l i r
unfolding onward
onward-unused l i r e = rw e

pub onward-used : (l : Look) (i r : ℕ) → eqb r 0xFF ≡ false → with_used l i r ≡ onward l i r
unfolding onward
onward-used l i r e = rw e

pub onward-count : (l : Look) (i r : ℕ) → l.used ≤ i → (onward l i r).used ≤ i + 1
unfolding onward
onward-count l i r h = go (eqb r 0xFF)
  where
    go : (t : Bool) → (cond (not t) (with_used l i r) l).used ≤ i + 1
    go true = omega arith
    go false = omega arith

pub through-next : (l : Look) (i : ℕ) (rs : List ℕ) → i < length rs
    → through l i (drop i rs) ≡ through (onward l i (get_or rs i 0)) (i + 1) (drop (i + 1) rs)
unfolding through
through-next l i rs h = rw (drop-cons rs i 0 h, ← add-one i)

pub through-end : (l : Look) (rs : List ℕ) → through l (length rs) (drop (length rs) rs) ≡ l
unfolding through
through-end l rs = rw (drop-length rs)

-- ---- all of them

-- only the four kinds, no used record after an unused one, FC only in the last used
abbrev pub in_order : List ℕ → Bool
in_order rs = all (among record_states) rs && used_first_def rs && spare_last rs

-- a used record may come after i records: all of them are used, and the last is not FC
abbrev may_follow : Look → ℕ → Bool
may_follow l i = eqb l.used i && not (eqb l.last 0xFC)

-- what is told in the end, by what was told after i records and by the records left
abbrev told : Look → ℕ → List ℕ → Look
told l i rs = record {
  formed = l.formed && ((may_follow l i || all_ff rs) && in_order rs);
  used = l.used + length (keep used rs);
  last = cond (any used rs) (last_used rs) l.last;
}

pub same-look : (a b : Look) → a.formed ≡ b.formed → a.used ≡ b.used → a.last ≡ b.last → a ≡ b
same-look a b f u l = λ j. record { formed = f j; used = u j; last = l j }

unused-formed : (m a s u p : Bool) → (a && ((s && u) && p)) ≡ ((m || a) && ((s && (a && u)) && p))
unused-formed m true s u p = rw (or-true m)
unused-formed m false s u p = rw (and-false s, and-false (m || false))

used-formed : (f e c k d a s u p : Bool)
    → ((f && e && c && k) && ((e && d || a) && ((s && u) && p))) ≡ (f && ((e && c || false) && (((k && s) && u) && ((d || a) && p))))
used-formed false e c k d a s u p = refl
used-formed true false c k d a s u p = refl
used-formed true true false k d a s u p = refl
used-formed true true true false d a s u p = refl
used-formed true true true true d a true true p = refl
used-formed true true true true d a true false p = and-false (d || a)
used-formed true true true true d a false u p = and-false (d || a)

told-unused : (l : Look) (i : ℕ) (rs : List ℕ) → l.used ≤ i → told l (i + 1) rs ≡ told l i (0xFF ∷ rs)
unfolding used_first_def spare_last last_used all_ff
told-unused l i rs h =
    let n : eqb l.used (i + 1) ≡ false = ne_eqb l.used (i + 1) (λ e. omega arith) in
    same-look (told l (i + 1) rs) (told l i (0xFF ∷ rs))
    (rw n
    (ap (λ b. l.formed && b)
    (unused-formed (may_follow l i) (all_ff rs) (all (among record_states) rs) (used_first_def rs) (spare_last rs))))
    refl
    (go (any used rs))
  where
    go : (t : Bool) → cond t (last_used rs) l.last ≡ cond t (cond t (last_used rs) 0xFF) l.last
    go true = refl
    go false = refl

told-used : (l : Look) (i r : ℕ) (rs : List ℕ) → eqb r 0xFF ≡ false → told (with_used l i r) (i + 1) rs ≡ told l i (r ∷ rs)
unfolding used_first_def spare_last last_used all_ff
told-used l i r rs e =
    let e' : eqb 0xFF r ≡ false = ne_eqb 0xFF r (λ q. eqb-false r 0xFF e (sym q)) in
    let n : eqb (l.used + 1) (i + 1) ≡ eqb l.used i = rw (add-one l.used, add-one i) (eqb-suc-suc l.used i) in
    same-look (told (with_used l i r) (i + 1) rs) (told l i (r ∷ rs))
    (rw (n, e, e')
    (used-formed l.formed (eqb l.used i) (not (eqb l.last 0xFC)) (among (0xFE ∷ 0xFC ∷ 0xF8 ∷ []) r) (not (eqb r 0xFC)) (all_ff rs)
    (all (among record_states) rs) (used_first_def rs) (spare_last rs)))
    (rw e (omega arith))
    (rw e)

through-told : (l : Look) (i : ℕ) (rs : List ℕ) → l.used ≤ i → through l i rs ≡ told l i rs
unfolding through all_ff used_first_def spare_last
through-told l i [] h = same-look l (told l i []) (rw (or-true (may_follow l i), and-true l.formed)) (omega arith) refl
through-told l i (r ∷ rs) h = through-told (onward l i r) (i + 1) rs (onward-count l i r h) ∙ go (eqb r 0xFF) refl
  where
    go : (t : Bool) → eqb r 0xFF ≡ t → told (onward l i r) (i + 1) rs ≡ told l i (r ∷ rs)
    go true e = rw (← onward-unused l i r (eqb-true r 0xFF e), eqb-true r 0xFF e) (told-unused l i rs h)
    go false e = rw (← onward-used l i r e) (told-used l i r rs e)

last-of-none : (rs : List ℕ) → cond (any used rs) (last_used rs) 0xFF ≡ last_used rs
unfolding last_used
last-of-none [] = refl
last-of-none (r ∷ rs) = go (eqb r 0xFF) refl (any used rs)
  where
    go : (t : Bool) → eqb r 0xFF ≡ t → (n : Bool) → cond (not t || n) (cond n (last_used rs) r) 0xFF ≡ cond n (last_used rs) r
    go true e true = refl
    go true e false = sym (eqb-true r 0xFF e)
    go false e n = refl

-- what the records tell
pub through-records : (rs : List ℕ) → through unread 0 rs ≡ record { formed = in_order rs; used = length (keep used rs); last = last_used rs }
through-records rs =
    through-told unread 0 rs (omega arith)
    ∙ same-look (told unread 0 rs) (record { formed = in_order rs; used = length (keep used rs); last = last_used rs }) refl (omega arith) (last-of-none rs)
