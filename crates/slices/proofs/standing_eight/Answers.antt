-- `slices::standing_eight` meets its contract. Assumes nothing.
use Rattle.slices.specs.Agree.{u64_at}
use Rattle.slices.proofs.standing_eight.Goals as goal

pub returns : goal.returns
unfolding u64_at
returns c = rw (c.word.ensures.0, c.word-2.ensures.0)
