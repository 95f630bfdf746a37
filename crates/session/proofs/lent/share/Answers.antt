-- `session::lent::share` meets its contract: our share is the number at its place. Assumes nothing.
use Rattle.model.specs.Lent.{setup_of, session_of}
use Rattle.session.proofs.lent.share.Goals as goal

pub returns : goal.returns
unfolding session_of setup_of
returns c = c.u32_at.ensures
