-- `session::is_barred` meets its contract: in the boot phase no lock bars a name. Assumes nothing.
use mathlib.Core.Path.{sym, ◌∙◌}
use mathlib.Core.Bool.{and-false, and-true}
use Rattle.model.specs.Name.{keyed}
use Rattle.session.specs.Places.{held_from}
use Rattle.session.specs.Said.{barred_by}
use Rattle.session.proofs.is_barred.Goals as goal

pub returns-then-in_boot : goal.returns-then-in_boot
unfolding barred_by
returns-then-in_boot c =
    let a = c.args in
    rw (sym c.in_boot.ensures ∙ c.if-in_boot.true) (sym (and-false (held_from a.sizes a.locks.now a.used (keyed a.name.now a.vendor.now) 0)))

pub returns : goal.returns
unfolding barred_by
returns c =
    let a = c.args in
    rw (sym c.in_boot.ensures ∙ c.if-in_boot.false)
    (c.is_locked.ensures ∙ sym (and-true (held_from a.sizes a.locks.now a.used (keyed a.name.now a.vendor.now) 0)))
