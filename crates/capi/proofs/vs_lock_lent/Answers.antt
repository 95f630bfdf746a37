-- `capi::vs_lock_lent` meets its contract: a lock of the side that asks, over the session's bytes, its answer in numbers. Assumes nothing.
use mathlib.Core.Path.{ap, ◌∙◌}
use mathlib.Core.Bool.{Bool}
use Rattle.model.specs.Name.{keyed}
use Rattle.model.specs.Answers.{lock_outcome, lock_session}
use Rattle.model.specs.Lent.{session_of}
use Rattle.capi.specs.Numbers.{numbers_of}
use Rattle.capi.proofs.vs_lock_lent.Goals as goal

pub returns : goal.returns
returns c =
    let a = c.args in
    let s = session_of a.session.now in
    let k = keyed a.name.now a.vendor.now in
    let i = c.is_modem.ensures in
    let e = c.lock-told.ensures in
    (c.from.ensures ∙ ap numbers_of (e.0 ∙ ap (λ (m : Bool). lock_outcome m s k) i), e.1 ∙ ap (λ (m : Bool). lock_session m s k) i)
