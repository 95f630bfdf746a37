-- `slices::eight_nonzero` meets its contract: it asks both windows. Assumes nothing.
use Rattle.model.proofs.Tests.{and_split}
use Rattle.slices.proofs.eight_nonzero.Goals as goal

pub returns : goal.returns
returns c =
    λ t.
    let p = and_split c.four_nonzero.result c.four_nonzero-2.result t in
    (c.four_nonzero.ensures p.0, c.four_nonzero-2.ensures p.1)
