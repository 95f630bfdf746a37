-- Shares kept to, by the numbers that a start-up is given.
-- Assumes nothing.
use Prim.Native.Nat.{ℕ}
use mathlib.Core.Path.{◌≡◌, refl}
use mathlib.Core.List.{List}
use Rattle.model.specs.declared.Setup.{Setup}
use Rattle.model.specs.Entry.{Value}
use Rattle.model.specs.Sides.{shares_fit, allotted}
use Rattle.values.specs.Allotted.{allotted_by}

pub allotted-by : (u : Setup) (size : ℕ) (vs : List Value) → allotted u size vs ≡ allotted_by u.modem.vendor u.share u.modem.share u.records size vs
unfolding allotted shares_fit allotted_by
allotted-by u size vs = refl
