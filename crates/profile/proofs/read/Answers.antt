-- `profile::read` meets its contract: a number of at most eight, and so many items. Assumes nothing.
use mathlib.Core.Path.{sym, subst}
use Rattle.profile.specs.Reader.{ReadsAs}
use Rattle.profile.proofs.Whole.{no-count, more-than-eight, all-items}
use Rattle.profile.proofs.read.Goals as goal

pub returns-in_err-count : goal.returns-in_err-count
returns-in_err-count c = rw c.from_residual.ensures (sym (no-count c.args.file.now c.in_err-count.ensures.0))

pub returns-then-count-gt-MOST : goal.returns-then-count-gt-MOST
returns-then-count-gt-MOST c = sym (more-than-eight c.args.file.now _ c.in_ok-count.ensures.0 c.if-count-gt-MOST.true)

pub returns : goal.returns
returns c =
    let file = c.args.file.now in
    subst (λ o. ReadsAs o file c.items.result) (all-items file _ c.in_ok-count.ensures.0 c.if-count-gt-MOST.false) c.items.ensures
