-- `session::at_runtime` meets its contract: a phase counts as 2 just if it is 2 or above. Assumes nothing.
use mathlib.Core.Path.{sym}
use Rattle.session.proofs.Phases.{runtime-test}
use Rattle.session.proofs.at_runtime.Goals as goal

pub returns : goal.returns
returns c = sym (runtime-test c.args.phase)
