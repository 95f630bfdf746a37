-- `cases::play::said` meets its contract: the parts of the session say what it says. Assumes nothing.
use Rattle.std.proofs.Common.{sym, ◌∙◌}
use Rattle.session.proofs.Phases.{terms-for-said}
use Rattle.cases.proofs.play.said.Goals as goal

pub returns : goal.returns
returns c = terms-for-said c.args.modem c.args.s ∙ sym c.terms_for.ensures
