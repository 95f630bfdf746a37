-- `image::blocks` meets its contract: the length decides b, since 8,192 divides what is left of it without the work block. Assumes nothing.
use Prim.Native.Nat.{◌/◌}
use native.Mathlib.Omega.{arith}
use mathlib.Core.Path.{sym}
use lib.ListN.{length}
use Rattle.image.proofs.Cut.{blocks-right, blocks-wrong}
use Rattle.image.proofs.blocks.Goals as goal
use Rattle.image.proofs.blocks.Goals.{else-b-ge1-via-then-b-ge1+then-b-le7+else-n-b, else-b-ge1-via-then-b-ge1+else-b-le7, else-b-ge1-via-else-b-ge1}

pub returns-then-n-b : goal.returns-then-n-b
returns-then-n-b c =
    let img = c.args.image.now in
    (sym (blocks-right img (length img / 8192) (omega arith) (omega arith) (omega (arith, c.if-n-b.true))), omega arith)

pub returns-else-b-ge1 : goal.returns-else-b-ge1
returns-else-b-ge1 c = (
  sym (blocks-wrong c.args.image.now (λ b l h n. elim c.else-b-ge1.branch [
    | else-b-ge1-via-then-b-ge1+then-b-le7+else-n-b w ↦ w.if-n-b.false (omega arith)
    | else-b-ge1-via-then-b-ge1+else-b-le7 w ↦ omega (arith, w.if-b-le7.false)
    | else-b-ge1-via-else-b-ge1 w ↦ omega (arith, w.if-b-ge1.false)
  ])),
  tt,
)
