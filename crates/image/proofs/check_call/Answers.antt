-- `image::check_call` meets its contract: what `check_for` tells beside the sought name. Assumes nothing.
use mathlib.Core.Path.{sym}
use Rattle.std.proofs.lemmas.Result.{err_from_is_err_and}
use Rattle.image.proofs.Readiness.{checked_call, checked-broken}
use Rattle.image.proofs.check_call.Goals as goal

pub returns-in_err-check_for : goal.returns-in_err-check_for
returns-in_err-check_for c =
    let a = c.args in
    let p = err_from_is_err_and c.from_residual.result c.from_residual.ensures.1 in
    rw (p.1, p.2) (sym (checked-broken a.y a.image.now _ (sym c.in_err-check_for.ensures)))

pub returns : goal.returns
returns c =
    let a = c.args in
    sym (checked_call a.y a.image.now _ (sym c.in_ok-check_for.ensures)).0
