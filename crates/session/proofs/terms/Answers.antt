-- `session::terms` meets its contract: but for the two tests, all is as it is told. Assumes nothing.
use mathlib.Core.Path.{sym}
use Rattle.model.specs.Rules.{rule22}
use Rattle.session.specs.Said.{terms_with}
use Rattle.session.proofs.terms.Goals as goal

pub returns : goal.returns
unfolding terms_with rule22
returns c = rw (sym c.is_own.ensures)
