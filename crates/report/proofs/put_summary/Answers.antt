-- `report::put_summary` meets its contract: the three fields, then the end of the line.
-- Assumes nothing.
use native.Mathlib.Omega.{arith}
use Rattle.output.specs.Text.{ascii}
use Rattle.output.proofs.Writing.{wrote-append}
use Rattle.report.specs.Varlist.{summary_line}
use Rattle.report.proofs.put_summary.Goals as goal

pub returns : goal.returns
unfolding summary_line ascii
returns c =
    let size = c.put_field-next.ensures in
    let used = c.put_field-next-2.ensures in
    let live = c.put_field-next-3.ensures in
    let end = c.put_byte.ensures in (
      wrote-append (wrote-append (wrote-append size.0 used.0) live.0) end,
      omega (arith, size.1, used.1, live.1, end.place),
    )
