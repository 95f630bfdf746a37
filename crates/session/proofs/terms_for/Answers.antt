-- `session::terms_for` meets its contract: each field is what its own function says. Assumes nothing.
use mathlib.Core.Path.{sym}
use Rattle.session.specs.Said.{terms_by}
use Rattle.session.proofs.terms_for.Goals as goal

pub returns : goal.returns
unfolding terms_by
returns c = rw (sym c.of_side-own.ensures, sym c.of_side.ensures, sym c.reserved.ensures.0, sym c.at_runtime.ensures)
