-- `capi::vs_get_lent` meets its contract: the side and what the session's bytes say to it, one call of the engine, its answer in numbers. Assumes nothing.
use mathlib.Core.Path.{sym, ap, ◌∙◌}
use mathlib.Core.Bool.{Bool}
use Rattle.model.specs.Rules.{view_of}
use Rattle.model.specs.Answers.{side_of}
use Rattle.model.specs.Lent.{session_of}
use Rattle.capi.specs.Numbers.{numbers_of}
use Rattle.capi.proofs.vs_get_lent.Goals as goal

pub returns : goal.returns
returns c =
    let a = c.args in
    let s = session_of a.session.now in
    let e = c.get-told.ensures (side_of a.context) s (sym (c.view-view.ensures ∙ ap (λ (m : Bool). view_of m s) c.is_modem.ensures)) in
    let r = c.from.ensures in (r.0 ∙ ap numbers_of e.0.0, rw (r.1, r.2, r.3) e.1)
