-- A look at the whole block: the records tell the number of used ones and the last, and the block is well formed if they are in order and the
-- rest is FF. A look that rests is an idle block, a look that closes a well-formed one that ends in FC.
-- Assumes nothing.
use Prim.Native.Nat.{ℕ, zero, suc, ◌+◌, ◌-◌, ◌≤◌}
use native.Mathlib.Omega.{arith}
use mathlib.Core.Path.{◌≡◌, refl, sym, ap, ap₂, ◌∙◌}
use mathlib.Core.Bool.{Bool, true, false, ◌&&◌, and-true}
use mathlib.Core.List.{List, [], ◌∷◌, ◌++◌}
use lib.ListN.{length, take, drop, drop_of_length-le, take-append-drop}
use lib.Seq.{take_all, length-take-le, take-append-add, drop-append-add}
use lib.Dec.{eqb}
use borrow.Author.Tests.{eqb-true}
use Rattle.model.specs.Lists.{all_ff}
use Rattle.model.proofs.Tests.{and_split}
use Rattle.model.specs.Work.{record_space, records, well_formed, used_records, ends_in_fc_def, idle}
use Rattle.records.specs.Look.{look_at_def, idle_at, ends_at}
use Rattle.records.specs.Passed.{unread, onward, through}
use Rattle.records.specs.declared.Look.{Look}
use Rattle.records.proofs.Passed.{same-look, through-records, onward-unused}

-- what the records tell, with what is told of the rest
abbrev rest_told : Bool → Look → Look
rest_told b l = record { formed = l.formed && b; used = l.used; last = l.last }

look-parts : (w : List ℕ) → rest_told (all_ff (drop record_space w)) (through unread 0 (take record_space w)) ≡ look_at_def w
unfolding look_at_def well_formed used_records records
look-parts w = rw (through-records (take record_space w))

pub look-short : (w : List ℕ) → length w ≤ record_space → through unread 0 w ≡ look_at_def w
unfolding all_ff
look-short w h =
    let l = through unread 0 w in
    let p : rest_told (all_ff []) l ≡ look_at_def w = rw (drop_of_length-le w h, take_all record_space w h) at (look-parts w) in
    same-look l (rest_told (all_ff []) l) (sym (and-true l.formed)) refl refl ∙ p

-- ---- blank behind the first records

through-blank : (l : Look) (i : ℕ) (rs : List ℕ) → all_ff rs ≡ true → through l i rs ≡ l
unfolding through all_ff
through-blank l i [] h = refl
through-blank l i (r ∷ rs) h =
    let p = and_split (eqb 0xFF r) (all_ff rs) h in
    rw (← onward-unused l i r (sym (eqb-true 0xFF r p.0))) (through-blank l (i + 1) rs p.1)

through-both : (l : Look) (i : ℕ) (a b : List ℕ) → all_ff b ≡ true → through l i (a ++ b) ≡ through l i a
unfolding through
through-both l i [] b h = through-blank l i b h
through-both l i (r ∷ a) b h = through-both (onward l i r) (i + 1) a b h

blank_part : (n : ℕ) (b : List ℕ) → all_ff b ≡ true → (all_ff (take n b) ≡ true) × (all_ff (drop n b) ≡ true)
unfolding all_ff
blank_part zero b h = (refl, h)
blank_part (suc n) [] h = (refl, refl)
blank_part (suc n) (r ∷ b) h =
    let p = and_split (eqb 0xFF r) (all_ff b) h in
    let q = blank_part n b p.1 in
    (rw p.0 q.0, q.1)

-- the first records tell everything
pub look-front : (w : List ℕ) (k : ℕ) → k ≤ record_space → k ≤ length w → all_ff (drop k w) ≡ true → through unread 0 (take k w) ≡ look_at_def w
look-front w k h m b =
    let l = through unread 0 (take k w) in
    let n : length (take k w) + (record_space - k) ≡ record_space = let e = length-take-le k w m in omega arith in
    let q = blank_part (record_space - k) (drop k w) b in
    let whole = take-append-drop k w in
    let front : take record_space w ≡ take k w ++ take (record_space - k) (drop k w) =
    ap (take record_space) (sym whole) ∙ ap (λ (j : ℕ). take j (take k w ++ drop k w)) (sym n) ∙ take-append-add (take k w) (drop k w) (record_space - k) in
    let rest : drop record_space w ≡ drop (record_space - k) (drop k w) =
    ap (drop record_space) (sym whole) ∙ ap (λ (j : ℕ). drop j (take k w ++ drop k w)) (sym n) ∙ drop-append-add (take k w) (drop k w) (record_space - k) in
    let told : through unread 0 (take record_space w) ≡ l = ap (through unread 0) front ∙ through-both unread 0 (take k w) (take (record_space - k) (drop k w)) q.0 in
    same-look l (rest_told true l) (sym (and-true l.formed)) refl refl
    ∙ ap₂ rest_told (sym (ap all_ff rest ∙ q.1)) (sym told)
    ∙ look-parts w

pub look-in-order : (w : List ℕ) (l : Look) → l ≡ through unread 0 (take record_space w) → l.formed ≡ true
    → ◌≡◌ {A = Look} (record { formed = all_ff (drop record_space w); used = l.used; last = l.last }) (look_at_def w)
look-in-order w l e f =
    same-look (record { formed = all_ff (drop record_space w); used = l.used; last = l.last }) (rest_told (all_ff (drop record_space w)) l) (rw f) refl refl
    ∙ rw e (look-parts w)

pub look-disordered : (w : List ℕ) (l : Look) → l ≡ through unread 0 (take record_space w) → l.formed ≡ false → l ≡ look_at_def w
look-disordered w l e f =
    same-look l (rest_told (all_ff (drop record_space w)) l) (rw f) refl refl ∙ rw e (look-parts w)

pub look-idle : (w : List ℕ) → idle_at (look_at_def w) ≡ idle w
unfolding look_at_def idle ends_in_fc_def
look-idle w = refl

pub look-closed : (w : List ℕ) → ends_at (look_at_def w) ≡ (well_formed w && ends_in_fc_def w)
unfolding look_at_def ends_in_fc_def
look-closed w = refl
