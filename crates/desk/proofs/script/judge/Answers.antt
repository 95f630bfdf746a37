-- `desk::script::judge` meets its contract: each number is within its limit, or the script is none. Assumes nothing.
use Rattle.std.proofs.Common.{sym, ◌∙◌}
use Rattle.desk.proofs.Scripts.{too_long, no_blocks, too_few, too_large, no-count, too-many-steps, all_there, not_there}
use Rattle.desk.proofs.script.judge.Goals as goal
use Rattle.desk.proofs.script.judge.Goals.{then-blocks-lt1-via-then-blocks-lt1, then-blocks-lt1-via-else-blocks-lt1+then-blocks-gt-MOST_BLOCKS}
use Rattle.desk.proofs.script.judge.Goals.{then-count-gt-MOST_STEPS-via-then-count-gt-MOST_STEPS, then-count-gt-MOST_STEPS-via-else-count-gt-MOST_STEPS+then-not-are_steps}

pub returns-then-s-gt-LONGEST : goal.returns-then-s-gt-LONGEST
returns-then-s-gt-LONGEST c = (too_long _ c.if-s-gt-LONGEST.true, tt)

pub returns-in_err-first : goal.returns-in_err-first
returns-in_err-first c =
    let x = c.number in
    rw c.from_residual.ensures (no_blocks c.args.s.now c.if-s-gt-LONGEST.false x.result x.ensures.0 c.in_err-first.was, tt)

pub returns-then-blocks-lt1 : goal.returns-then-blocks-lt1
returns-then-blocks-lt1 c =
    let s = c.args.s.now in
    let short = c.if-s-gt-LONGEST.false in
    let x = c.number in
    elim c.then-blocks-lt1.branch [
      | then-blocks-lt1-via-then-blocks-lt1 w ↦ (too_few s short x.result x.ensures.0 _ _ c.in_ok-first.was w.if-blocks-lt1.true, tt)
      | then-blocks-lt1-via-else-blocks-lt1+then-blocks-gt-MOST_BLOCKS w ↦
          (too_large s short x.result x.ensures.0 _ _ c.in_ok-first.was w.if-blocks-lt1.false w.if-blocks-gt-MOST_BLOCKS.true, tt)
    ]

pub returns-in_err-second : goal.returns-in_err-second
returns-in_err-second c =
    let x = c.number in
    let y = c.number-2 in
    rw c.from_residual-in_err-second.ensures (
      no-count c.args.s.now c.if-s-gt-LONGEST.false x.result x.ensures.0 _ _ c.in_ok-first.was c.if-blocks-lt1.false c.if-blocks-gt-MOST_BLOCKS.false
          y.result y.ensures.0 c.in_err-second.was,
      tt,
    )

pub returns-then-count-gt-MOST_STEPS : goal.returns-then-count-gt-MOST_STEPS
returns-then-count-gt-MOST_STEPS c =
    let s = c.args.s.now in
    let short = c.if-s-gt-LONGEST.false in
    let x = c.number in
    let low = c.if-blocks-lt1.false in
    let high = c.if-blocks-gt-MOST_BLOCKS.false in
    let y = c.number-2 in
    elim c.then-count-gt-MOST_STEPS.branch [
      | then-count-gt-MOST_STEPS-via-then-count-gt-MOST_STEPS w ↦
          (too-many-steps s short x.result x.ensures.0 _ _ c.in_ok-first.was low high y.result y.ensures.0 _ _ c.in_ok-second.was w.if-count-gt-MOST_STEPS.true, tt)
      | then-count-gt-MOST_STEPS-via-else-count-gt-MOST_STEPS+then-not-are_steps w ↦ (
        not_there s short x.result x.ensures.0 _ _ c.in_ok-first.was low high y.result y.ensures.0 _ _ c.in_ok-second.was w.if-count-gt-MOST_STEPS.false
            (sym w.are_steps.ensures ∙ w.if-not-are_steps.true),
        tt,
      )
    ]

pub returns : goal.returns
returns c =
    let x = c.number in
    let low = c.if-blocks-lt1.false in
    let high = c.if-blocks-gt-MOST_BLOCKS.false in
    let y = c.number-2 in
    let few = c.if-count-gt-MOST_STEPS.false in (
      all_there c.args.s.now c.if-s-gt-LONGEST.false x.result x.ensures.0 _ _ c.in_ok-first.was low high y.result y.ensures.0 _ _ c.in_ok-second.was few,
      (low, high, few, sym c.are_steps.ensures ∙ c.if-not-are_steps.false),
    )
