-- `session::in_boot` meets its contract: a phase counts as 0 just if it is 0. Assumes nothing.
use mathlib.Core.Path.{sym}
use Rattle.session.proofs.Phases.{boot-test}
use Rattle.session.proofs.in_boot.Goals as goal

pub returns : goal.returns
returns c = sym (boot-test c.args.phase)
