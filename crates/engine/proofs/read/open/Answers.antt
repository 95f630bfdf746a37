-- `engine::read::open` meets its contract: rules 1 and 2 as the image's check tells them, then the name and whose it is.
-- Assumes nothing.
use mathlib.Core.Path.{sym, ◌∙◌}
use Rattle.model.specs.Layout.{authenticated}
use Rattle.image.proofs.Readiness.{checked_call, checked-broken}
use Rattle.engine.proofs.Opened.{open-first, open-unnamed, open-foreign, open_own, its-key}
use Rattle.std.proofs.lemmas.Result.{err_from_is_err_and}
use Rattle.engine.proofs.read.open.Goals as goal

pub returns-in_err-check_call : goal.returns-in_err-check_call
returns-in_err-check_call c =
    let told = err_from_is_err_and c.from_residual.result c.from_residual.ensures.1 in
    rw (told.1, told.2) (record { kept = tt; broken = open-first c.args.image.now (sym c.in_err-check_call.ensures) c.args.named c.args.foreign })

pub returns-then-not-named : goal.returns-then-not-named
returns-then-not-named c =
    rw c.if-not-named.true
    (record { kept = tt; broken = open-unnamed c.args.image.now (sym c.in_ok-check_call.ensures) c.args.foreign })

pub check_name-requires : goal.check_name-requires
check_name-requires c = c.requires c.if-not-named.false

pub returns-in_err-checked : goal.returns-in_err-checked
returns-in_err-checked c =
    let a = c.args in
    let n = sym c.in_err-checked.ensures in
    let told = err_from_is_err_and c.from_residual-in_err-checked.result c.from_residual-in_err-checked.ensures.1 in
    rw (told.1, told.2) (record { kept = tt; broken = open-first a.image.now (checked-broken authenticated a.image.now _ n) a.named a.foreign })

pub returns-then-foreign : goal.returns-then-foreign
returns-then-foreign c =
    let a = c.args in
    let n = checked_call authenticated a.image.now _ (sym c.in_ok-checked.ensures) in
    rw (c.if-not-named.false, c.if-foreign.true) (record { kept = tt; broken = open-foreign a.image.now n.0 })

pub returns : goal.returns
returns c =
    let a = c.args in
    let n = checked_call authenticated a.image.now _ (sym c.in_ok-checked.ensures) in
    rw (c.if-not-named.false, c.if-foreign.false)
    (record { kept = (open_own a.image.now n.0, n.1 ∙ its-key a.image.now a.name.now a.vendor.now c.told-vendor); broken = tt })
