-- `session::lent::terms_for` meets its contract: each number is the one at its place. Assumes nothing.
use mathlib.Core.Path.{sym}
use Rattle.model.specs.Lent.{setup_of, session_of}
use Rattle.session.proofs.Phases.{terms-for-said}
use Rattle.session.proofs.lent.terms_for.Goals as goal

pub returns : goal.returns
unfolding session_of setup_of
returns c =
    let a = c.args in
    rw (c.terms_for.ensures, c.tenant-tenant.ensures, c.u32_at.ensures, c.u32_at-2.ensures, c.u32_at-3.ensures, c.u32_at-4.ensures, c.u32_at-5.ensures, c.u32_at-6.ensures)
    (sym (terms-for-said a.modem (session_of a.s.now)))
