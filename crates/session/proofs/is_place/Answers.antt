-- `session::is_place` meets its contract: its three looks are the three tests of the definition. Assumes nothing.
use mathlib.Core.Path.{sym, ◌∙◌}
use Rattle.model.specs.Name.{Key}
use Rattle.session.proofs.Places.{unnamed, differs, by-vendor}
use Rattle.session.proofs.is_place.Goals as goal

pub returns-then-not-is_named : goal.returns-then-not-is_named
returns-then-not-is_named c =
    let a = c.args in
    let k : Key = record { name = a.name.now; vendor = a.vendor.now } in
    sym (unnamed a.locks.now a.place a.size k c.cut-listed.ensures (sym c.is_named.ensures ∙ c.if-not-is_named.true))

pub returns-then-not-equal : goal.returns-then-not-equal
returns-then-not-equal c =
    let a = c.args in
    let k : Key = record { name = a.name.now; vendor = a.vendor.now } in
    sym (differs a.locks.now a.place a.size k c.cut-listed.ensures (sym c.equal.ensures ∙ c.if-not-equal.true))

pub returns : goal.returns
returns c =
    let b = c in
    let a = b.args in
    let k : Key = record { name = a.name.now; vendor = a.vendor.now } in
    c.equal-2.ensures
    ∙ sym (by-vendor a.locks.now a.place a.size k b.cut-listed.ensures c.cut-guid.ensures
    (sym c.is_named.ensures ∙ c.if-not-is_named.false)
    (sym c.equal.ensures ∙ c.if-not-equal.false))
