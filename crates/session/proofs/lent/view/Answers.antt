-- `session::lent::view` meets its contract: the phase and the GUID are at their places. Assumes nothing.
use mathlib.Core.Path.{sym}
use Rattle.model.specs.Lent.{setup_of, session_of}
use Rattle.session.proofs.Phases.{view-said}
use Rattle.session.proofs.lent.view.Goals as goal

pub returns : goal.returns
unfolding session_of setup_of
returns c =
    let a = c.args in
    rw (c.view.ensures, c.guid-vendor.ensures, c.u32_at.ensures) (sym (view-said a.modem (session_of a.s.now)))
