-- `report::put_key` meets its contract: the digits of the GUID and of the name, a space behind each.
-- Assumes nothing.
use native.Mathlib.Omega.{arith}
use Rattle.output.specs.Text.{ascii}
use Rattle.output.proofs.Writing.{wrote-append}
use Rattle.report.specs.Varlist.{key_text}
use Rattle.report.proofs.put_key.Goals as goal

pub returns : goal.returns
unfolding key_text ascii
returns c =
    let vendor = c.put_hex-next.ensures in
    let space = c.put_byte-next.ensures in
    let name = c.put_hex-next-2.ensures in
    let end = c.put_byte.ensures in (
      wrote-append (wrote-append (wrote-append vendor.0 space) name.0) end,
      omega (arith, vendor.1, space.place, name.1, end.place),
    )
