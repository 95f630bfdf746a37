-- `output::put_hex` meets its contract: after i turns the text of the first i bytes is written.
-- Assumes nothing.
use native.Mathlib.Omega.{arith}
use mathlib.Core.Path.{refl, ap, ◌∙◌}
use lib.Seq.{take_all}
use Rattle.output.specs.Text.{hex_of}
use Rattle.output.proofs.Writing.{wrote_none, wrote_as, wrote-hex}
use borrow.Author.Rules.{rules}
use Rattle.output.proofs.put_hex.Goals as goal

pub loop-b-init : goal.loop-b-init
unfolding hex_of
loop-b-init c = (omega arith, refl, wrote_none _ _)

pub loop-b-preserved : goal.loop-b-preserved
unfolding hex_of
loop-b-preserved c =
    let f = c.put_hex_byte-next in
    let s = c.args.src.now in (
      omega arith,
      f.auto.out ∙ c.loop-b.invariant.1,
      wrote-hex s c.loop-b.b-index (search rules) c.loop-b.invariant.2 f.ensures.0,
    )

pub returns : goal.returns
returns c = (wrote_as (ap hex_of (take_all _ _ c.loop-b-test.false)) c.loop-b.invariant.2, omega arith)
