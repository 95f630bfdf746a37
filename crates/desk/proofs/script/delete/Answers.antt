-- `desk::script::delete` meets its contract: the item that was read, if it has no data. Assumes nothing.
use Rattle.profile.specs.Reader.{item_of}
use Rattle.desk.specs.Reader.{step_of}
use Rattle.desk.proofs.Steps.{no-delete, without-data, with-data, found-ends}
use Rattle.desk.proofs.script.delete.Goals as goal

pub returns-in_err-item : goal.returns-in_err-item
returns-in_err-item c =
    let a = c.args in
    rw c.from_residual.ensures (no-delete a.s.now a.at c.item.result c.item.ensures.0 c.in_err-item.was, tt)

pub returns-then-item-ne0 : goal.returns-then-item-ne0
returns-then-item-ne0 c =
    let a = c.args in
    (with-data a.s.now a.at c.item.result c.item.ensures.0 _ _ c.in_ok-item.was c.if-item-ne0.true (found-ends c.in_ok-item.was c.item.ensures.1).1, tt)

pub returns : goal.returns
unfolding item_of step_of
returns c =
    let a = c.args in
    (without-data a.s.now a.at c.item.result c.item.ensures.0 _ _ c.in_ok-item.was c.if-item-ne0.false, found-ends c.in_ok-item.was c.item.ensures.1)
