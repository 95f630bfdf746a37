-- `capi::vs_start_up_lent` meets its contract: a start_up with what the session's bytes give, and the session renewed. Assumes nothing.
use mathlib.Core.Path.{sym, ap, ◌∙◌}
use Rattle.model.specs.StartUp.{start_up_plan}
use Rattle.model.specs.Book.{plan_of}
use Rattle.model.specs.Lent.{session_of}
use Rattle.capi.specs.Numbers.{numbers_of}
use Rattle.capi.proofs.vs_start_up_lent.Goals as goal

pub returns : goal.returns
unfolding plan_of start_up_plan
returns c =
    let u = (session_of c.args.session.now).setup in
    let e = c.start_up-told.ensures u (sym c.share-share.ensures, sym c.records-records.ensures, sym c.tenant-tenant.ensures) in
    (c.from.ensures ∙ ap numbers_of e.0.0, c.renew.ensures, e.0.1, e.1)
