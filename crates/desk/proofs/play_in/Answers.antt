-- `desk::play_in` meets its contract: an image of b blocks has no more bytes than the largest. Assumes nothing.
use Prim.Native.Nat.{◌+◌, ◌*◌}
use native.Mathlib.Omega.{arith}
use mathlib.Core.Path.{sym}
use lib.Seq.{length-take-le}
use Rattle.model.specs.Image.{block}
use Rattle.desk.proofs.play_in.Goals as goal

pub slice_bounds-play_all-end-2 : goal.slice_bounds-play_all-end-2
slice_bounds-play_all-end-2 c =
    let a = c.args in
    let p = c.requires in
    sym (length-take-le (4096 * (2 * a.form.blocks + 1)) a.image.now (omega (arith, p.1.1, p.2)))

pub play_all-requires : goal.play_all-requires
unfolding block
play_all-requires c =
    let a = c.args in
    let p = c.requires in
    (p.0, p.1, length-take-le (4096 * (2 * a.form.blocks + 1)) a.image.now (omega (arith, p.1.1, p.2)))
