-- `decision::modes::is_barred` meets its contract: PlatMode, and PK if it is lost. Assumes nothing.
use mathlib.Core.Path.{sym, ap, ap₂, ◌∙◌}
use Rattle.model.specs.Name.{keyed}
use Rattle.model.specs.Request.{key_pk, key_mode}
use Rattle.decision.specs.Modes.{barring}
use Rattle.decision.proofs.modes.is_barred.Goals as goal

pub returns-then-is_barred : goal.returns-then-is_barred
unfolding key_mode
returns-then-is_barred c =
    let a = c.args in
    let vendor = c.global_vendor-vendor.ensures in
    let here = c.is_barred.ensures ∙ ap (barring a.held a.locks.now) (ap₂ keyed c.mode_name-name.ensures vendor) in
    rw (sym here ∙ c.if-is_barred.true) c.if-is_barred.true

pub returns-then-lost : goal.returns-then-lost
unfolding key_pk key_mode
returns-then-lost c =
    let a = c.args in
    let vendor = c.global_vendor-vendor.ensures in
    let here = c.is_barred.ensures ∙ ap (barring a.held a.locks.now) (ap₂ keyed c.mode_name-name.ensures vendor) in
    let key = c.is_barred-then-lost.ensures ∙ ap (barring a.held a.locks.now) (ap₂ keyed c.pk_name-key.ensures vendor) in
    rw (sym here ∙ c.if-is_barred.false, c.if-lost.true) key

pub returns-else-lost : goal.returns-else-lost
unfolding key_mode
returns-else-lost c =
    let a = c.args in
    let vendor = c.global_vendor-vendor.ensures in
    let here = c.is_barred.ensures ∙ ap (barring a.held a.locks.now) (ap₂ keyed c.mode_name-name.ensures vendor) in
    rw (sym here ∙ c.if-is_barred.false, c.if-lost.false)
