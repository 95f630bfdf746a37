use Rattle.std.proofs.Common.{arith}
use Rattle.output.proofs.Writing.{wrote-places, wrote-past}
use Rattle.output.proofs.put_bytes.Goals as goal
use Rattle.output.proofs.put_bytes.Goals.{then-at-out, else-at-out}

pub returns : goal.returns
returns c =
    elim c.if-at-out.branch [
      | then-at-out w ↦ wrote-places c.args.src.now w.copy_from_slice.new.self w.min-n.result (omega (arith, w.if-at-out.true)) w.min-n.ensures w.copy_from_slice.ensures.after w.out-is
      | else-at-out w ↦ wrote-past c.args.src.now w.if-at-out.false w.out-is
    ]
