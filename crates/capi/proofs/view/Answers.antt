-- `capi::view` meets its contract: the parts of the session say what it says. Assumes nothing.
use Rattle.model.specs.Session.{is_modem_def}
use Rattle.capi.proofs.Said.{view-told}
use Rattle.capi.proofs.view.Goals as goal

pub returns : goal.returns
returns c = view-told (is_modem_def c.args.side) c.args.session.now c.is_modem.ensures c.view.ensures
