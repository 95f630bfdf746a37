use native.Mathlib.Omega.{arith}
use mathlib.Core.Path.{sym, ap₂, ◌∙◌}
use mathlib.Core.Bool.{Bool}
use lib.ListN.{get_or, length-set}
use Rattle.query.specs.Many.{noted_at, unmet}
use Rattle.query.proofs.Several.{noted-none, noted-next, noted-pass, asked-named, asked-other}
use Rattle.query.proofs.many.note.Goals as goal
use Rattle.query.proofs.many.note.Goals.{then-is_asked, else-is_asked}

pub loop-k-init : goal.loop-k-init
loop-k-init c =
    let a = c.args in
    (c.requires.4, noted-none a.keys.now a.sizes.now a.region.now a.placed.at a.placed.entry a.names.start a.found.now)

pub loop-k-preserved : goal.loop-k-preserved
loop-k-preserved c =
    let a = c.args in
    let k = c.loop-k.k in
    elim c.if-is_asked.branch [
      | then-is_asked w ↦
          let named = asked-named a.keys.now a.sizes.now a.region.now a.placed.at a.placed.entry k (sym c.is_asked.ensures ∙ w.if-is_asked.true) in
          rw w.found-is (
            length-set c.loop-k.found k w.with.result ∙ c.loop-k.invariant.0,
            noted-next a.keys.now a.sizes.now a.region.now a.placed.at a.placed.entry c.loop-k.invariant.1 (omega arith) (omega arith)
                (w.with.ensures ∙ ap₂ (λ (t u : Bool). noted_at t u a.placed.at (get_or c.loop-k.found k unmet)) (sym (named 0x3F)) (sym (named 0x3E))),
          )
      | else-is_asked w ↦
          let other = asked-other a.keys.now a.sizes.now a.region.now a.placed.at a.placed.entry k (sym c.is_asked.ensures ∙ w.if-is_asked.false) in
          rw w.found-is (c.loop-k.invariant.0, noted-pass a.keys.now a.sizes.now a.region.now a.placed.at a.placed.entry c.loop-k.invariant.1 (omega arith) (other 0x3F) (other 0x3E))
    ]
