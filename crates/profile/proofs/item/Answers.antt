-- `profile::item` meets its contract: three numbers, each from where the one before it ends, and the item's body. Assumes nothing.
use Rattle.profile.proofs.Places.{no-first, no_second, no_third, all_three}
use Rattle.profile.proofs.item.Goals as goal

pub returns-in_err-attributes : goal.returns-in_err-attributes
returns-in_err-attributes c =
    let a = c.args in
    (rw c.from_residual.ensures (no-first a.s.now a.at c.in_err-attributes.ensures.0), rw c.from_residual.ensures tt)

pub returns-in_err-name : goal.returns-in_err-name
returns-in_err-name c =
    let a = c.args in
    let none = no_second a.s.now a.at _ c.in_ok-attributes.ensures.0 c.in_err-name.ensures.0 in
    (rw c.from_residual-in_err-name.ensures none, rw c.from_residual-in_err-name.ensures tt)

pub returns-in_err-size : goal.returns-in_err-size
returns-in_err-size c =
    let a = c.args in
    let none = no_third a.s.now a.at _ c.in_ok-attributes.ensures.0 _ c.in_ok-name.ensures.0 c.in_err-size.ensures.0 in
    (rw c.from_residual-in_err-size.ensures none, rw c.from_residual-in_err-size.ensures tt)

pub returns : goal.returns
returns c =
    let a = c.args in
    (all_three a.s.now a.at _ c.in_ok-attributes.ensures.0 _ c.in_ok-name.ensures.0 _ c.body.result c.in_ok-size.ensures.0 c.body.ensures.0, c.body.ensures.1)
