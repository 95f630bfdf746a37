-- `flash::put` meets its contract: the byte is stored where its store does not fail. Assumes nothing.
use mathlib.Core.Path.{refl, sym, ◌∙◌}
use Rattle.model.specs.Stores.{apply}
use Rattle.flash.proofs.put.Goals as goal

pub returns : goal.returns
unfolding apply
returns c = rw (sym c.is_worn.ensures ∙ c.if-is_worn.false) (refl, refl)
