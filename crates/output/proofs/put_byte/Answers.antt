-- `output::put_byte` meets its contract: past the end `set` does nothing, and neither does the code.
-- Assumes nothing.
use mathlib.Core.Path.{refl, sym}
use lib.Seq.{set_out}
use Rattle.output.proofs.put_byte.Goals as goal

pub returns-else-at-out : goal.returns-else-at-out
returns-else-at-out c = record { place = refl; buffer = sym (set_out _ _ _ c.if-at-out.false) }
