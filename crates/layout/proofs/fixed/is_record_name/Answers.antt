-- `layout::fixed::is_record_name` meets its contract: another length decides, then the form, then the vendor. Assumes nothing.
use mathlib.Core.Path.{sym, ◌∙◌}
use mathlib.Core.Bool.{false}
use Rattle.model.specs.Name.{keyed}
use Rattle.layout.proofs.Records.{record_length, record-form}
use Rattle.layout.proofs.fixed.is_record_name.Goals as goal
use Rattle.layout.proofs.fixed.is_record_name.Goals.{then-name-eq-RECORD_NAME, else-name-eq-RECORD_NAME}

pub returns-else-is_record_form : goal.returns-else-is_record_form
returns-else-is_record_form c =
    let k = keyed c.args.name.now c.args.vendor.now in
    let no = c.if-is_record_form.false in
    elim c.if-name-eq-RECORD_NAME.branch [
      | then-name-eq-RECORD_NAME w ↦ no ∙ sym (record-form k false (sym w.is_record_form.ensures ∙ sym w.value-is ∙ no))
      | else-name-eq-RECORD_NAME w ↦ no ∙ sym (record_length k w.if-name-eq-RECORD_NAME.false)
    ]
