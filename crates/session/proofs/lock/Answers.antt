-- `session::lock` meets its contract: what it comes to by the parts of the session is what it comes to in the session. Assumes nothing.
use mathlib.Core.Path.{◌∙◌}
use Rattle.model.specs.Name.{keyed}
use Rattle.session.proofs.Locking.{refused-by, done-by}
use Rattle.session.proofs.lock.Goals as goal

pub returns-in-Ok : goal.returns-in-Ok
returns-in-Ok c =
    let a = c.args in
    let e = done-by a.modem a.s (keyed a.name.now a.vendor.now) c.in-Ok.enters c.in-Ok.ensures in
    (e.0, c.entered.ensures ∙ e.1)

pub returns-in-Err : goal.returns-in-Err
returns-in-Err c =
    let a = c.args in
    refused-by a.modem a.s (keyed a.name.now a.vendor.now) c.in-Err.rule c.in-Err.ensures
