-- `values::list::is_allotted` meets its contract: one sum after the other is held to its share. Assumes nothing.
use Prim.Native.Nat.{◌+◌}
use mathlib.Core.Path.{◌≡◌, ◌∙◌}
use mathlib.Core.Bool.{false, ◌&&◌}
use lib.ListN.{length}
use lib.Dec.{leb}
use borrow.Author.Tests.{le-leb, lt-leb}
use Rattle.values.specs.Allotted.{allotted_by}
use Rattle.values.proofs.Counting.{told-sums}
use Rattle.values.proofs.list.is_allotted.Goals as goal
use Rattle.values.proofs.list.is_allotted.Goals.{then-fit-region, else-fit-region, then-sums-share, else-sums-share}

pub returns-then-sums-theirs : goal.returns-then-sums-theirs
unfolding allotted_by
returns-then-sums-theirs c =
    let s = told-sums c.args.guid.now false c.args.region.now c.tally-sums.ensures.0 in
    let sums = c.tally-sums.result in
    let fits : c.if-fit-region.value ≡ (leb (28 + c.args.share + c.args.theirs + c.args.records) (length c.args.region.now) && leb sums.own c.args.share) =
    elim c.if-fit-region.branch [ then-fit-region w ↦ w.value-is ∙ rw (le-leb _ _ w.if-fit-region.true) | else-fit-region w ↦ w.value-is ∙ rw (lt-leb _ _ w.if-fit-region.false) ] in
    let share : c.if-sums-share.value ≡ (c.if-fit-region.value && leb sums.others c.args.theirs) =
    elim c.if-sums-share.branch [ then-sums-share w ↦ w.value-is ∙ rw w.if-sums-share.true | else-sums-share w ↦ w.value-is ∙ rw w.if-sums-share.false ] in
    rw (← s.own, ← s.others, ← s.records, ← fits, ← share, c.if-sums-theirs.true)

pub returns-else-sums-theirs : goal.returns-else-sums-theirs
unfolding allotted_by
returns-else-sums-theirs c =
    let s = told-sums c.args.guid.now false c.args.region.now c.tally-sums.ensures.0 in
    let sums = c.tally-sums.result in
    let fits : c.if-fit-region.value ≡ (leb (28 + c.args.share + c.args.theirs + c.args.records) (length c.args.region.now) && leb sums.own c.args.share) =
    elim c.if-fit-region.branch [ then-fit-region w ↦ w.value-is ∙ rw (le-leb _ _ w.if-fit-region.true) | else-fit-region w ↦ w.value-is ∙ rw (lt-leb _ _ w.if-fit-region.false) ] in
    let share : c.if-sums-share.value ≡ (c.if-fit-region.value && leb sums.others c.args.theirs) =
    elim c.if-sums-share.branch [ then-sums-share w ↦ w.value-is ∙ rw w.if-sums-share.true | else-sums-share w ↦ w.value-is ∙ rw w.if-sums-share.false ] in
    rw (← s.own, ← s.others, ← s.records, ← fits, ← share, c.if-sums-theirs.false)
