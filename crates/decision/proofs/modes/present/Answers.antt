-- `decision::modes::present` meets its contract: the mode is by what is there of PK and PlatMode. Assumes nothing.
use mathlib.Core.Path.{◌∙◌}
use Rattle.decision.proofs.Old.{mode-found}
use Rattle.decision.proofs.modes.present.Goals as goal

pub mode_by-requires : goal.mode_by-requires
mode_by-requires c = (c.pk.ensures, c.platform.ensures)

pub returns : goal.returns
returns c =
    c.mode_by.ensures ∙ mode-found c.args.region.now c.requires
