-- `decision::effect::freed` meets its contract: by the class of the entry found. Assumes nothing.
use Prim.Native.Nat.{ℕ}
use mathlib.Core.Path.{ap₂, ◌∙◌}
use mathlib.Core.Bool.{Bool}
use Rattle.decision.specs.Parts.{classed_by, old_sums}
use Rattle.decision.proofs.effect.freed.Goals as goal

pub returns-in-Some : goal.returns-in-Some
unfolding old_sums
returns-in-Some c =
    let a = c.args in
    rw c.in-Some.is
    (c.classed.ensures
    ∙ ap₂ (λ (e : Bool) (n : ℕ). classed_by e a.own n) c.is_error_record.ensures c.size_of-size.ensures)

pub returns-in-None : goal.returns-in-None
unfolding old_sums
returns-in-None c =
    let e = c.default.ensures in
    rw c.in-None.is (λ i. record { records = e.0 i; own = e.1.0 i; others = e.1.1 i })
