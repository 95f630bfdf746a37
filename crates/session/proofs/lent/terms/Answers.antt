-- `session::lent::terms` meets its contract: what it says to a call that names no name, with the two tests of the name. Assumes nothing.
use mathlib.Core.Path.{sym}
use Rattle.model.specs.Name.{keyed}
use Rattle.model.specs.Lent.{session_of}
use Rattle.session.proofs.Phases.{terms-with}
use Rattle.session.proofs.lent.terms.Goals as goal

pub returns : goal.returns
unfolding session_of
returns c =
    let a = c.args in
    rw (c.terms.ensures, c.terms_for-told.ensures, c.is_barred.ensures) (sym (terms-with a.modem (session_of a.s.now) (keyed a.name.now a.vendor.now)))
