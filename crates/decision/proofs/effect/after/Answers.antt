-- `decision::effect::after` meets its contract: in each class the old value's size goes and the new one's comes. Assumes nothing.
use native.Mathlib.Omega.{arith}
use mathlib.Core.Path.{ap}
use Rattle.decision.specs.declared.Sums.{Sums}
use Rattle.decision.specs.Parts.{sums_after}
use Rattle.decision.proofs.Classes.{classed-once}
use Rattle.values.proofs.Counting.{told-sums}
use Rattle.decision.proofs.effect.after.Goals as goal

pub overflow_sub-result : goal.overflow_sub-result
overflow_sub-result c =
    let s = told-sums c.args.t.vendor c.args.t.modem c.args.region.now c.tally-sums.ensures.0 in
    omega (arith, c.requires.2.records, s.records, ap (λ (x : Sums). x.records) c.freed-gone.ensures)

pub overflow_add-result : goal.overflow_add-result
overflow_add-result c =
    let one = classed-once c.args.error c.args.own c.args.size in
    record { fits = omega (arith, c.requires.0, c.requires.1, c.tally-sums.ensures.1, one, ap (λ (x : Sums). x.records) c.classed-new.ensures) }

pub overflow_sub-result-2 : goal.overflow_sub-result-2
overflow_sub-result-2 c =
    let s = told-sums c.args.t.vendor c.args.t.modem c.args.region.now c.tally-sums.ensures.0 in
    omega (arith, c.requires.2.own, s.own, ap (λ (x : Sums). x.own) c.freed-gone.ensures)

pub overflow_add-result-2 : goal.overflow_add-result-2
overflow_add-result-2 c =
    let one = classed-once c.args.error c.args.own c.args.size in
    record { fits = omega (arith, c.requires.0, c.requires.1, c.tally-sums.ensures.1, one, ap (λ (x : Sums). x.own) c.classed-new.ensures) }

pub overflow_sub-result-3 : goal.overflow_sub-result-3
overflow_sub-result-3 c =
    let s = told-sums c.args.t.vendor c.args.t.modem c.args.region.now c.tally-sums.ensures.0 in
    omega (arith, c.requires.2.others, s.others, ap (λ (x : Sums). x.others) c.freed-gone.ensures)

pub overflow_add-result-3 : goal.overflow_add-result-3
overflow_add-result-3 c =
    let one = classed-once c.args.error c.args.own c.args.size in
    record { fits = omega (arith, c.requires.0, c.requires.1, c.tally-sums.ensures.1, one, ap (λ (x : Sums). x.others) c.classed-new.ensures) }

pub returns : goal.returns
unfolding sums_after
returns c =
    let s = told-sums c.args.t.vendor c.args.t.modem c.args.region.now c.tally-sums.ensures.0 in
    let one = classed-once c.args.error c.args.own c.args.size in
    let new = c.classed-new.ensures in (
      rw (s.records, s.own, s.others, c.freed-gone.ensures, new),
      omega (arith, c.requires.0, c.requires.1, c.tally-sums.ensures.1, one, ap (λ (x : Sums). x.records) new, ap (λ (x : Sums). x.own) new, ap (λ (x : Sums). x.others) new),
    )
