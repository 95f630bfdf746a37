-- `desk::play::context` meets its contract: the definition, written out. Assumes nothing.
use mathlib.Core.Path.{refl}
use Rattle.desk.specs.Season.{desk_context}
use Rattle.desk.proofs.play.context.Goals as goal

pub returns : goal.returns
unfolding desk_context
returns c = refl
