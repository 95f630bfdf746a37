-- `session::is_sides` meets its contract: a name that is not well formed is no side's; any other is its owner's. Assumes nothing.
use mathlib.Core.Path.{sym, ◌∙◌}
use Rattle.session.proofs.Places.{none_named, by-owner}
use Rattle.session.proofs.is_sides.Goals as goal

pub returns-then-not-is_named : goal.returns-then-not-is_named
returns-then-not-is_named c =
    let a = c.args in
    sym
    (none_named a.guid.now a.modem a.locks.now a.place a.size c.cut-name.ensures
    (sym c.is_named.ensures ∙ c.if-not-is_named.true))

pub returns : goal.returns
returns c =
    let a = c.args in
    c.is_own.ensures
    ∙ sym
    (by-owner a.guid.now a.modem a.locks.now a.place a.size c.cut-name.ensures c.cut-vendor.ensures
    (sym c.is_named.ensures ∙ c.if-not-is_named.false))
