use Rattle.std.proofs.Common.{refl, sym, ap, ◌∙◌, arith}
use Rattle.values.specs.Listed.{values_left}
use Rattle.values.proofs.Next.{next-value}
use Rattle.values.proofs.Listed.{all-entries}
use Rattle.output.proofs.Writing.{wrote-length, partly_none, partly-next, partly-all}
use Rattle.convert.proofs.Carried.{all-to-come, next-to-come, none-to-come}
use Rattle.convert.proofs.put.put_values.Goals as goal

pub loop-e-init : goal.loop-e-init
loop-e-init c =
    let a = c.args in
    let all = ap values_left c.into_iter-e-iterator.ensures.into_iter_gives ∙ c.values-e-items.ensures in
    (tt, tt, record { here = 28; rest = all ∙ all-entries a.from a.region.now; within = omega arith; long = refl; values = partly_none _ _ (all-to-come a.from a.to _) })

pub put_value-next-requires : goal.put_value-next-requires
put_value-next-requires c =
    let i = c.loop-e.invariant.2 in
    let x = next-value (sym i.rest ∙ c.in-Some.ensures.steps) in
    omega (arith, i.within, x.from-here, x.fits)

pub loop-e-preserved : goal.loop-e-preserved
loop-e-preserved c =
    let i = c.loop-e.invariant.2 in
    let x = next-value (sym i.rest ∙ c.in-Some.ensures.steps) in
    let w = c.put_value-next.ensures in (
      tt,
      tt,
      record {
        here = c.in-Some.e.next;
        rest = x.rest;
        within = omega (arith, i.within, w.1, x.from-here, x.size);
        long = wrote-length w.0 ∙ i.long;
        values = partly-next i.values (next-to-come _ _ x) w.0;
      },
    )

pub returns : goal.returns
returns c =
    let i = c.loop-e.invariant.2 in
    partly-all i.values (none-to-come _ _ _ _ (sym i.rest ∙ c.in-None.ensures.steps.0))
