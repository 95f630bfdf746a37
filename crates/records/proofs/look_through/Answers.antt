use native.Mathlib.Omega.{arith}
use mathlib.Core.Path.{◌≡◌, refl, sym, ◌∙◌}
use lib.ListN.{length, get_or}
use Rattle.records.specs.Passed.{onward}
use Rattle.records.proofs.Passed.{onward-count, through-next, through-end}
use Rattle.records.proofs.look_through.Goals as goal

pub loop-i-init : goal.loop-i-init
loop-i-init c = (omega arith, refl)

pub loop-i-preserved : goal.loop-i-preserved
loop-i-preserved c =
    let a = c.args in
    let rs = a.records.now in
    let i = c.loop-i.i in
    let r = get_or rs i 0 in
    let e : c.after_record-l.result ≡ onward c.loop-i.l i r = c.after_record-l.ensures in
    (rw e (onward-count c.loop-i.l i r c.loop-i.invariant.0), c.loop-i.invariant.1 ∙ rw e (through-next c.loop-i.l i rs (omega arith)))

pub returns : goal.returns
returns c =
    let rs = c.args.records.now in
    let done : c.loop-i.i ≡ length rs = omega arith in
    sym (c.loop-i.invariant.1 ∙ rw done (through-end c.loop-i.l rs))
