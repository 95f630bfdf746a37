-- `desk::script::cut_after` meets its contract: the item after the number that was read. Assumes nothing.
use Rattle.std.proofs.Common.{ℕ, List, ◌∙◌}
use Rattle.std.proofs.Math.Option.{some}
use Rattle.desk.specs.Script.{item_step, cut_step}
use Rattle.desk.proofs.Steps.{no-number-there, number-there}
use Rattle.desk.proofs.script.cut_after.Goals as goal

pub returns-in_err-value : goal.returns-in_err-value
unfolding cut_step
returns-in_err-value c =
    let a = c.args in
    let x = c.number in
    rw c.from_residual.ensures
    (no-number-there (λ (n : ℕ) (l : List ℕ). item_step (some n) l) a.s.now a.at x.result x.ensures.0 c.in_err-value.was, tt)

pub returns : goal.returns
unfolding cut_step
returns c =
    let a = c.args in
    let x = c.number in (
      c.with_item.ensures.0
          ∙ number-there (λ (n : ℕ) (l : List ℕ). item_step (some n) l) a.s.now a.at x.result x.ensures.0 _ c.in_ok-value.was,
      c.with_item.ensures.1,
    )
