-- `compose::put_within` meets its contract: all bytes have a place. Assumes nothing.
use Rattle.std.proofs.Common.{length, arith, refl, sym, ◌∙◌}
use lib.Seq.{take_all}
use Rattle.output.proofs.Writing.{wrote-places}
use Rattle.compose.proofs.put_within.Goals as goal

pub returns : goal.returns
returns c =
    let src = c.args.src.now in
    wrote-places src c.copy_from_slice.new.self (length src) (omega arith) (omega arith) (c.copy_from_slice.ensures.after ∙ sym (take_all (length src) src (omega arith))) refl
