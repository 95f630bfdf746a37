use Rattle.std.proofs.Common.{ap, ◌∙◌, map, arith}
use Rattle.model.specs.Walk.{entry_value_def}
use Rattle.model.specs.Region.{entries_in, values}
use Rattle.region.specs.Stored.{entry_of}
use Rattle.values.specs.Listed.{values_left}
use Rattle.values.proofs.Counting.{counted_none, counted-all, sides-split, sums-within, counted-asks, counted-turn}
use Rattle.values.proofs.list.tally.Goals as goal

pub loop-e-init : goal.loop-e-init
unfolding values
loop-e-init c =
    let a = c.args in
    let h = c.default-t.ensures in
    let all = ap (λ v. map entry_value_def (values_left v)) c.into_iter-e-iterator.ensures.into_iter_gives ∙ ap (map entry_value_def) c.values-e-items.ensures in
    (tt, tt, rw all (counted_none a.y a.guid.now a.modem (values (entries_in a.y a.region.now)) (h.0, h.1.0, h.1.1.0, h.1.1.1.0, h.1.1.1.1)))

pub returns : goal.returns
returns c =
    let a = c.args in
    let t = counted-all c.loop-e.invariant.2 (ap (map entry_value_def) c.in-None.ensures.steps.0) in
    let sides = sides-split a.y a.guid.now a.modem (values (entries_in a.y a.region.now)) in
    (t, omega (arith, t.records, t.own, t.others, sides, sums-within a.y a.region.now))

pub counted-t-requires : goal.counted-t-requires
counted-t-requires c =
    counted-asks _ (entry_of c.in-Some.e) (rw c.in-Some.ensures.steps at c.loop-e.invariant.2) c.entry_size.ensures (omega arith)

pub loop-e-preserved : goal.loop-e-preserved
loop-e-preserved c =
    (tt, tt, counted-turn _ (entry_of c.in-Some.e) (rw c.in-Some.ensures.steps at c.loop-e.invariant.2) c.entry_size.ensures c.is_own-own.ensures c.counted-t.ensures)
