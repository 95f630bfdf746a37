-- `engine::read::is_foreign` meets its contract: a name is a side's own or foreign to it.
-- Assumes nothing.
use mathlib.Core.Path.{ap}
use mathlib.Core.Bool.{not}
use Rattle.model.specs.Rules.{rule22}
use Rattle.engine.proofs.read.is_foreign.Goals as goal

pub returns : goal.returns
unfolding rule22
returns c = ap not c.is_own.ensures
