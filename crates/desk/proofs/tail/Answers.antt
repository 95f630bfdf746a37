use Rattle.std.proofs.Common.{refl, sym, ap, ◌∙◌}
use Rattle.model.specs.Walk.{walk_end_def}
use Rattle.model.specs.Region.{entries_in, tail_at_in}
use Rattle.model.specs.Beside.{from_in}
use Rattle.region.proofs.Turns.{at_entry, at-end}
use Rattle.desk.proofs.Tails.{tail-next}
use Rattle.desk.proofs.tail.Goals as goal

pub loop-next-init : goal.loop-next-init
unfolding tail_at_in entries_in from_in
loop-next-init c = refl

pub loop-next-smaller : goal.loop-next-smaller
loop-next-smaller c = (at_entry c.turn.ensures c.in-Some.is).less

pub loop-next-preserved : goal.loop-next-preserved
loop-next-preserved c = c.loop-next.invariant ∙ tail-next (at_entry c.turn.ensures c.in-Some.is)

pub returns : goal.returns
unfolding walk_end_def
returns c =
    let e = at-end c.turn.ensures c.in_default.is in
    sym (c.loop-next.invariant ∙ ap (walk_end_def c.loop-next.at) e.walk)
