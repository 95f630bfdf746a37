-- `convert::put::put_entry` meets its contract: header, name, data and padding, one behind the other.
-- Assumes nothing.
use Prim.Native.Nat.{ℕ, ◌+◌, ◌-◌}
use mathlib.Core.Path.{ap}
use lib.ListN.{length, replicate}
use Rattle.model.specs.Entry.{rounded}
use Rattle.output.proofs.Writing.{wrote_as}
use Rattle.convert.proofs.Bare.{entry-wrote}
use Rattle.convert.proofs.put.put_entry.Goals as goal

pub returns : goal.returns
returns c =
    let a = c.args in
    let size = ap (λ (h : ℕ). replicate {A = ℕ} (rounded (h + length a.name.now + length a.bytes.now) -
    (h + length a.name.now + length a.bytes.now)) 0xFF) c.header.ensures.0 in
    entry-wrote a.y a.attributes a.name.now a.vendor.now a.bytes.now
    c.put_header-next.ensures.0
    c.put_bytes-next.ensures
    c.put_bytes-next-2.ensures (wrote_as size c.put_padding.ensures)
