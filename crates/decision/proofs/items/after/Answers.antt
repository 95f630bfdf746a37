-- `decision::items::after` meets its contract: of the side's own values what goes goes and what comes comes. Assumes nothing.
use native.Mathlib.Omega.{arith}
use Rattle.decision.specs.Profile.{folded_sums}
use Rattle.values.proofs.Counting.{told-sums}
use Rattle.decision.proofs.items.after.Goals as goal

pub overflow_sub-result : goal.overflow_sub-result
overflow_sub-result c =
    let s = told-sums c.args.said.vendor c.args.said.modem c.args.region.now c.tally-sums.ensures.0 in
    omega (arith, c.requires.2, s.own)

pub returns : goal.returns
unfolding folded_sums
returns c =
    let s = told-sums c.args.said.vendor c.args.said.modem c.args.region.now c.tally-sums.ensures.0 in
    (rw (s.records, s.own, s.others), omega (arith, c.requires.0, c.requires.1, c.tally-sums.ensures.1))
