-- `session::view` meets its contract: it tells whether the phase is runtime, which side it is, and the modem's GUID. Assumes nothing.
use mathlib.Core.Path.{sym}
use Rattle.session.specs.Said.{view_by}
use Rattle.session.proofs.view.Goals as goal

pub returns : goal.returns
unfolding view_by
returns c = rw (sym c.at_runtime.ensures)
