-- `capi::terms` meets its contract: what the session says to a call, with whether the name is barred. Assumes nothing.
use Rattle.model.specs.Name.{keyed}
use Rattle.model.specs.Session.{is_modem_def}
use Rattle.capi.proofs.Said.{says-told}
use Rattle.capi.proofs.terms.Goals as goal

pub returns : goal.returns
returns c =
    let a = c.args in
    says-told (is_modem_def a.side) a.session.now (keyed a.name.now a.vendor.now) c.is_barred-barred.ensures c.terms_for-said.ensures c.terms.ensures
