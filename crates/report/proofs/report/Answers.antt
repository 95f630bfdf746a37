-- `report::report` meets its contract: the check tells the rule that is broken, or the parts of the store, whose text is the summary and the lines.
-- Assumes nothing.
use Rattle.std.proofs.Common.{ℕ, List, ◌++◌, length, sym, ap, ◌∙◌, arith}
use Rattle.model.specs.Region.{entries_in, values}
use Rattle.output.proofs.Writing.{wrote_as}
use Rattle.report.specs.Varlist.{summary_line, value_lines, refused_line}
use Rattle.report.proofs.Accepted.{accepted, refused-text}
use Rattle.report.proofs.report.Goals as goal

pub overflow_mul-blocks : goal.overflow_mul-blocks
overflow_mul-blocks c =
    let x = accepted c.args.y c.args.image.now (sym c.check_call.ensures ∙ c.in-Ok.is) in
    record { fits = omega (arith, x.few) }

pub put_store-requires : goal.put_store-requires
put_store-requires c =
    let x = accepted c.args.y c.args.image.now (sym c.check_call.ensures ∙ c.in-Ok.is) in
    let n = ap length (c.cut.ensures ∙ x.cut) in
    (x.tail-low, omega (arith, x.few, x.long, n))

pub returns-in-Ok : goal.returns-in-Ok
returns-in-Ok c =
    let y = c.args.y in
    let x = accepted y c.args.image.now (sym c.check_call.ensures ∙ c.in-Ok.is) in
    let same = ap (λ (s : List ℕ). summary_line (length s) c.in-Ok.field-0.tail (length (values (entries_in y s))) ++ value_lines (values (entries_in y s)))
    (c.cut.ensures ∙ x.cut) in
    wrote_as (same ∙ x.text) c.put_store.ensures

pub returns-in-Err : goal.returns-in-Err
returns-in-Err c =
    let text = refused-text c.args.y c.args.image.now c.in-Err.rule (sym c.check_call.ensures ∙ c.in-Err.is) in
    wrote_as (ap refused_line c.from.ensures ∙ text) c.put_refused.ensures
