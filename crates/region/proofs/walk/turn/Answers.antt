-- `region::walk::turn` meets its contract: the part that it lends to `read_head` is the rest of the region, and past the end nothing stands.
-- Assumes nothing.
use Rattle.std.proofs.Common.{◌≡◌, drop, sym, ap, ◌∙◌, arith}
use Rattle.std.specs.Prelude.{Some, None}
use Rattle.layout.specs.Head.{head_in}
use Rattle.region.specs.Walk.{turn_in}
use Rattle.region.proofs.Turns.{rest, past}
use Rattle.region.proofs.walk.turn.Goals as goal

pub returns-then-region-at : goal.returns-then-region-at
unfolding turn_in
returns-then-region-at c =
    let a = c.args in
    rw (past a.y a.region.now a.at (omega arith))

pub returns-in_err-e : goal.returns-in_err-e
unfolding turn_in
returns-in_err-e c =
    let a = c.args in
    let here : head_in a.y (drop a.at a.region.now) ≡ None = sym (c.read_head.ensures ∙ ap (head_in a.y) (rest a.region.now a.at)) ∙ c.in_err-e.was in
    rw here c.from_residual.ensures

pub returns : goal.returns
unfolding turn_in
returns c =
    let a = c.args in
    let here : head_in a.y (drop a.at a.region.now) ≡ Some c.in_ok-e.e =
    sym (c.read_head.ensures ∙ ap (head_in a.y) (rest a.region.now a.at)) ∙ c.in_ok-e.was in
    rw (here, c.stride.ensures.0)
