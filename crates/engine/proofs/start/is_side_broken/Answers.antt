-- `engine::start::is_side_broken` meets its contract: broken where they are not kept to.
-- Assumes nothing.
use mathlib.Core.Path.{ap}
use mathlib.Core.Bool.{not}
use Rattle.engine.proofs.start.is_side_broken.Goals as goal

pub returns : goal.returns
returns c = ap not c.is_allotted.ensures
