use native.Mathlib.Omega.{arith}
use mathlib.Core.Path.{ap, ◌∙◌}
use lib.ListN.{length-set}
use Rattle.region.specs.Marks.{key_mark}
use Rattle.region.specs.declared.Mark.{Mark}
use Rattle.query.proofs.Several.{indexed-next}
use Rattle.query.proofs.many.index.Goals as goal

pub loop-k-preserved : goal.loop-k-preserved
loop-k-preserved c =
    let a = c.args in
    let m = c.mark_of_key-place in
    let room = m.ensures.1 in
    (length-set c.loop-k.noted m.result.place c.taken.result ∙ c.loop-k.invariant.0, indexed-next c.loop-k.invariant.1 m.result.place (omega arith) (ap (λ (x : Mark). x.place) (m.ensures.0 ∙ ap key_mark c.asked.ensures)) c.taken.ensures)
