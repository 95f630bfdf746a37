use native.Mathlib.Omega.{arith}
use mathlib.Core.Path.{◌∙◌}
use Rattle.model.specs.Name.{keyed}
use Rattle.model.specs.Region.{is_entry_def}
use Rattle.region.proofs.Turns.{at_entry}
use Rattle.values.proofs.Finds.{entry-unlike, first_next}
use Rattle.values.proofs.lookup.like_from.Goals as goal

pub slice_bounds-may_be-count : goal.slice_bounds-may_be-count
slice_bounds-may_be-count c = (at_entry c.turn.ensures c.in-Some.is).inside

pub slice_bounds-may_be-start : goal.slice_bounds-may_be-start
slice_bounds-may_be-start c = let w = at_entry c.turn.ensures c.in-Some.is in omega arith

pub loop-next-smaller : goal.loop-next-smaller
loop-next-smaller c = (at_entry c.turn.ensures c.in-Some.is).less

pub loop-next-preserved : goal.loop-next-preserved
loop-next-preserved c =
    let w = at_entry c.turn.ensures c.in-Some.is in (
      λ s v. c.loop-next.invariant.0 s v ∙ first_next w (is_entry_def s (keyed _ v)) (entry-unlike w _ (c.may_be.ensures.1 c.if-may_be.false) s v),
      omega (arith, c.loop-next.invariant.1, w.less),
    )
