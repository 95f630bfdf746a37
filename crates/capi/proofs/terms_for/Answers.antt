-- `capi::terms_for` meets its contract: the parts of the session say what it says. Assumes nothing.
use Rattle.model.specs.Session.{is_modem_def}
use Rattle.capi.proofs.Said.{for-told}
use Rattle.capi.proofs.terms_for.Goals as goal

pub returns : goal.returns
returns c = for-told (is_modem_def c.args.side) c.args.session.now c.is_modem.ensures c.terms_for.ensures
