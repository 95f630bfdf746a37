use Rattle.std.proofs.Common.{sym, ap, ◌∙◌, [], ◌∷◌, arith}
use Rattle.model.specs.Layout.{authenticated}
use Rattle.model.specs.Entry.{entry_size_def}
use Rattle.model.specs.Compact.{joined}
use Rattle.model.specs.Walk as walk
use Rattle.region.specs.Walk.{entry_at}
use Rattle.region.specs.declared.Placed.{Placed}
use Rattle.values.specs.Listed.{values_left}
use Rattle.values.proofs.Next.{next-value}
use Rattle.values.proofs.Listed.{all-entries}
use Rattle.output.proofs.Writing.{partly_none, partly-next, partly-all, wrote_as}
use Rattle.compose.specs.Compose.{leaving}
use Rattle.compose.proofs.Carried.{all-to-come, next-to-come, none-to-come}
use Rattle.compose.proofs.put_others.Goals as goal

pub loop-e-init : goal.loop-e-init
loop-e-init c =
    let r = c.args.region.now in
    let all = ap values_left c.into_iter-e-iterator.ensures.into_iter_gives ∙ c.values-e-items.ensures in
    (tt, tt, record { here = 28; rest = all ∙ all-entries authenticated r; within = omega arith; values = partly_none _ _ (all-to-come _ _) })

pub put_other-next-requires : goal.put_other-next-requires
put_other-next-requires c =
    let i = c.loop-e.invariant.2 in
    let x = next-value (sym i.rest ∙ c.in-Some.ensures.steps) in
    (omega (arith, i.within, x.from-here, x.fits), omega arith)

pub loop-e-preserved : goal.loop-e-preserved
loop-e-preserved c =
    let i = c.loop-e.invariant.2 in
    let x = next-value (sym i.rest ∙ c.in-Some.ensures.steps) in
    let r = c.args.region.now in
    let w = c.put_other-next.ensures in
    let own = ap (λ (p : Placed). entry_at r p.at p.entry) c.placed.ensures ∙ sym x.is in (
      tt,
      tt,
      record {
        here = c.in-Some.e.next;
        rest = x.rest;
        within = omega (arith, i.within, w.1, ap (λ (e : walk.Entry). entry_size_def (walk.entry_value_def e)) own, x.from-here, x.size);
        values = partly-next i.values (next-to-come _ x) (wrote_as (ap (λ (e : walk.Entry). joined (leaving c.args.leave.now (e ∷ []))) own) w.0);
      },
    )

pub returns : goal.returns
returns c =
    let i = c.loop-e.invariant.2 in
    partly-all i.values (none-to-come _ _ _ (sym i.rest ∙ c.in-None.ensures.steps.0))
