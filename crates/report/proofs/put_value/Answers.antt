-- `report::put_value` meets its contract: GUID and name, the attributes' two digits, the size, the end of the line, one behind the other.
-- Assumes nothing.
use native.Mathlib.Omega.{arith}
use Rattle.output.specs.Text.{ascii}
use Rattle.output.proofs.Writing.{wrote-append}
use Rattle.report.specs.Varlist.{entry_line}
use Rattle.report.proofs.put_value.Goals as goal

pub returns : goal.returns
unfolding entry_line ascii
returns c =
    let key = c.put_key-next.ensures in
    let attributes = c.put_hex_byte-next.ensures in
    let size = c.put_field-next.ensures in
    let end = c.put_byte.ensures in (
      wrote-append (wrote-append (wrote-append key.0 attributes.0) size.0) end,
      omega (arith, key.1, attributes.1, size.1, end.place),
    )
