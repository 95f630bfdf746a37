-- `flash::clear` meets its contract: the block's bytes are FF. Assumes nothing.
use native.Mathlib.Omega.{arith}
use Rattle.model.specs.Image.{block}
use Rattle.flash.proofs.Turns.{blanked}
use Rattle.flash.proofs.clear.Goals as goal

pub overflow_mul-at : goal.overflow_mul-at
unfolding block
overflow_mul-at c = omega arith

pub overflow_add-at : goal.overflow_add-at
unfolding block
overflow_add-at c = omega arith

pub slice_bounds-fill-end : goal.slice_bounds-fill-end
unfolding block
slice_bounds-fill-end c = omega arith

pub returns : goal.returns
unfolding block
returns c = blanked c.args.b c.args.image.now c.fill.new.self c.requires (c.fill.ensures.after (λ y k. k))
