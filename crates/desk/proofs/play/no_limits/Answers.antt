-- `desk::play::no_limits` meets its contract: the definition, written out. Assumes nothing.
use mathlib.Core.Path.{refl}
use Rattle.desk.specs.Season.{no_limits_def}
use Rattle.desk.proofs.play.no_limits.Goals as goal

pub returns : goal.returns
unfolding no_limits_def
returns c = refl
