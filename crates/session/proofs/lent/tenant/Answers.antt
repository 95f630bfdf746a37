-- `session::lent::tenant` meets its contract: each part is at its place. Assumes nothing.
use mathlib.Core.Path.{refl}
use Rattle.model.specs.Lent.{setup_of, session_of}
use Rattle.session.proofs.lent.tenant.Goals as goal

pub returns : goal.returns
unfolding session_of setup_of
returns c = rw (c.guid-vendor.ensures, c.u32_at.ensures, c.u32_at-2.ensures) refl
