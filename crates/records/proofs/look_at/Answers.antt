-- `records::look_at` meets its contract: a short block is all records; of a longer one that is FF behind some records these tell everything, and else the records tell all
-- but whether the rest is FF, which matters only where they are in order. Assumes nothing.
use Prim.Native.Nat.{ℕ, ◌-◌, ◌≤◌, ◌<◌}
use native.Mathlib.Omega.{arith}
use mathlib.Core.Path.{◌≡◌, sym, ap, ◌∙◌}
use mathlib.Core.List.{List}
use lib.ListN.{length, take, drop, length-drop}
use lib.Seq.{length-take-le, take_all}
use Rattle.model.specs.Lists.{all_ff}
use Rattle.records.proofs.Block.{look-short, look-front, look-in-order, look-disordered}
use Rattle.records.proofs.look_at.Goals as goal

-- what is counted has a place among the records
few : (w : List ℕ) (k : ℕ) → 64 < length w → k ≤ length (take 64 w) → (k ≤ 64) × (k ≤ length w)
few w k h f = let e = length-take-le 64 w (omega arith) in (omega arith, omega arith)

pub returns-then-w-le-RECORDS : goal.returns-then-w-le-RECORDS
returns-then-w-le-RECORDS c =
    let w = c.args.w.now in
    c.look_through.ensures ∙ look-short w (omega arith)

pub slice_bounds-used_first-end : goal.slice_bounds-used_first-end
slice_bounds-used_first-end c =
    let w = c.args.w.now in
    let h : 64 ≤ length w = omega arith in
    sym (length-take-le 64 w h)

pub slice_bounds-is_blank-count : goal.slice_bounds-is_blank-count
slice_bounds-is_blank-count c =
    let w = c.args.w.now in
    (few w c.used_first-k.result c.if-w-le-RECORDS.false c.used_first-k.ensures).1

pub slice_bounds-is_blank-start : goal.slice_bounds-is_blank-start
slice_bounds-is_blank-start c =
    let w = c.args.w.now in
    let f = few w c.used_first-k.result c.if-w-le-RECORDS.false c.used_first-k.ensures in
    omega (arith, f.1)

pub slice_bounds-is_blank-end : goal.slice_bounds-is_blank-end
slice_bounds-is_blank-end c =
    let w = c.args.w.now in
    let f = few w c.used_first-k.result c.if-w-le-RECORDS.false c.used_first-k.ensures in
    omega (arith, f.1)

pub slice_bounds-look_through-end : goal.slice_bounds-look_through-end
slice_bounds-look_through-end c =
    let w = c.args.w.now in
    sym (length-take-le c.used_first-k.result w (few w c.used_first-k.result c.if-w-le-RECORDS.false c.used_first-k.ensures).1)

pub returns-then-is_blank : goal.returns-then-is_blank
returns-then-is_blank c =
    let w = c.args.w.now in
    let k = c.used_first-k.result in
    let f = few w k c.if-w-le-RECORDS.false c.used_first-k.ensures in
    let t : take (length w - k) (drop k w) ≡ drop k w = take_all (length w - k) (drop k w) (simp length-drop (omega arith)) in
    c.look_through-then-is_blank.ensures ∙ look-front w k f.0 f.1 (ap all_ff (sym t) ∙ sym c.is_blank.ensures ∙ c.if-is_blank.true)

pub slice_bounds-look_through-end-2 : goal.slice_bounds-look_through-end-2
slice_bounds-look_through-end-2 c =
    let w = c.args.w.now in
    let h : 64 ≤ length w = omega arith in
    sym (length-take-le 64 w h)

pub returns-then-l : goal.returns-then-l
returns-then-l c =
    let w = c.args.w.now in
    let l = c.look_through-l.result in
    let t : take (length w - 64) (drop 64 w) ≡ drop 64 w = take_all (length w - 64) (drop 64 w) (simp length-drop (omega arith)) in
    rw (c.is_blank-then-l.ensures ∙ ap all_ff t) (look-in-order w l c.look_through-l.ensures c.if-l.true)

pub returns-else-l : goal.returns-else-l
returns-else-l c =
    let w = c.args.w.now in
    look-disordered w c.look_through-l.result c.look_through-l.ensures c.if-l.false
