-- `capi::vs_lock` meets its contract: a lock of the side that asks, its answer in numbers. Assumes nothing.
use mathlib.Core.Path.{ap, ◌∙◌}
use mathlib.Core.Bool.{Bool}
use Rattle.model.specs.Name.{keyed}
use Rattle.model.specs.Answers.{lock_outcome, lock_session}
use Rattle.capi.specs.Numbers.{numbers_of}
use Rattle.capi.proofs.vs_lock.Goals as goal

pub returns : goal.returns
returns c =
    let a = c.args in
    let k = keyed a.name.now a.vendor.now in
    let i = c.is_modem.ensures in
    let e = c.lock-l.ensures in
    (c.from.ensures ∙ ap numbers_of (e.0 ∙ ap (λ (m : Bool). lock_outcome m a.session k) i), e.1 ∙ ap (λ (m : Bool). lock_session m a.session k) i)
