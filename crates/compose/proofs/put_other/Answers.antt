-- `compose::put_other` meets its contract: of the list of this one value nothing is left, or all of it.
-- Assumes nothing.
use native.Mathlib.Omega.{arith}
use mathlib.Core.Path.{sym, ◌∙◌}
use Rattle.output.proofs.Writing.{wrote_none, wrote_as}
use Rattle.compose.proofs.Carried.{left_out, carried-over}
use Rattle.compose.proofs.Leaving.{among-found}
use Rattle.compose.proofs.put_other.Goals as goal

pub returns-then-contains : goal.returns-then-contains
returns-then-contains c =
    let a = c.args in
    let p = a.placed in
    let none = left_out a.region.now p.at p.entry a.leave.now (sym (c.contains.ensures.value ∙ among-found a.leave.now p.at) ∙ c.if-contains.true) in
    (wrote_as (sym none) (wrote_none a.at a.out.now), omega arith)

pub returns : goal.returns
returns c =
    let a = c.args in
    let p = a.placed in
    let w = c.put_value.ensures in
    let all = carried-over a.region.now p.at p.entry a.leave.now (sym (c.contains.ensures.value ∙ among-found a.leave.now p.at) ∙ c.if-contains.false) in
    (wrote_as all w.0, w.1)
