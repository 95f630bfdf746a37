-- `desk::script::with_item` meets its contract: the item that was read at the place, or none. Assumes nothing.
use Rattle.profile.specs.Reader.{item_of}
use Rattle.desk.specs.Reader.{cut_at, step_of}
use Rattle.desk.proofs.Steps.{no_item, one-item, found-ends}
use Rattle.desk.proofs.script.with_item.Goals as goal

pub returns-in_err-item : goal.returns-in_err-item
returns-in_err-item c =
    let a = c.args in
    rw c.from_residual.ensures (no_item a.s.now a.at c.item.result c.item.ensures.0 (cut_at a.limit) c.in_err-item.was, tt)

pub returns : goal.returns
unfolding item_of step_of
returns c =
    let a = c.args in (
      one-item a.s.now a.at c.item.result c.item.ensures.0 (cut_at a.limit) _ _ c.in_ok-item.was,
      found-ends c.in_ok-item.was c.item.ensures.1,
    )
