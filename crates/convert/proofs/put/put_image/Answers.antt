-- `convert::put::put_image` meets its contract: header and values, then FF up to the end.
-- Assumes nothing.
use mathlib.Core.Path.{refl}
use Rattle.convert.proofs.Carried.{filled}
use Rattle.convert.proofs.put.put_image.Goals as goal

pub returns : goal.returns
returns c = filled _ c.put_region-next.ensures c.put_fill.ensures refl c.requires.1
