use Rattle.std.proofs.Common.{refl, sym, ap, ◌∙◌, arith}
use Rattle.values.specs.Listed.{values_left}
use Rattle.values.proofs.Next.{next-value}
use Rattle.values.proofs.Listed.{all-entries, listed-all, listed-left}
use Rattle.output.proofs.Writing.{partly_none, partly-next, partly-all}
use Rattle.report.specs.Varlist.{value_lines}
use Rattle.report.proofs.Lines.{next-lines}
use Rattle.report.proofs.put_lines.Goals as goal

pub loop-e-init : goal.loop-e-init
loop-e-init c =
    let a = c.args in
    let all = ap values_left c.into_iter-e-iterator.ensures.into_iter_gives ∙ c.values-e-items.ensures in
    (tt, tt, refl, record { here = 28; rest = all ∙ all-entries a.y a.region.now; within = omega arith; lines = partly_none _ _ (ap value_lines (listed-all _ _)) })

pub put_entry-next-requires : goal.put_entry-next-requires
put_entry-next-requires c =
    let i = c.loop-e.invariant.3 in
    let x = next-value (sym i.rest ∙ c.in-Some.ensures.steps) in
    omega (arith, i.within, x.from-here, x.fits)

pub loop-e-preserved : goal.loop-e-preserved
loop-e-preserved c =
    let i = c.loop-e.invariant.3 in
    let x = next-value (sym i.rest ∙ c.in-Some.ensures.steps) in
    let w = c.put_entry-next in (
      tt,
      tt,
      w.auto.out ∙ c.loop-e.invariant.2,
      record {
        here = c.in-Some.e.next;
        rest = x.rest;
        within = omega (arith, i.within, w.ensures.1, x.from-here, x.size);
        lines = partly-next i.lines (next-lines x) w.ensures.0;
      },
    )

pub returns : goal.returns
unfolding value_lines
returns c =
    let i = c.loop-e.invariant.3 in
    partly-all i.lines (ap value_lines (listed-left _ _ _ (sym i.rest ∙ c.in-None.ensures.steps.0)))
