-- `report::put_store` meets its contract: the summary, then the lines; there are no more values than bytes in the region, so their number fits.
-- Assumes nothing.
use Prim.Native.Nat.{ℕ}
use native.Mathlib.Omega.{arith}
use mathlib.Core.Path.{ap}
use lib.ListN.{length}
use Rattle.output.proofs.Writing.{wrote-append, wrote_as}
use Rattle.report.specs.Varlist.{summary_line}
use Rattle.values.proofs.Next.{few-values}
use Rattle.report.proofs.put_store.Goals as goal

pub overflow_cast-t : goal.overflow_cast-t
overflow_cast-t c =
    let a = c.args in
    let few = few-values a.y a.region.now in
    record { fits = omega (arith, c.tally-t.ensures.0.number) }

pub returns : goal.returns
returns c =
    let a = c.args in
    let live = ap (λ (n : ℕ). summary_line (length a.region.now) a.tail n)
    c.tally-t.ensures.0.number in
    wrote-append (wrote_as live c.put_summary-next.ensures.0) c.put_lines.ensures
