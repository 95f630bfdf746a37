-- `decision::joint::room` meets its contract: the sums after what goes and comes are judged. Assumes nothing.
use Prim.Native.Nat.{ℕ, ◌+◌}
use native.Mathlib.Omega.{arith}
use mathlib.Core.Path.{ap, ap₂, ◌∙◌}
use mathlib.Core.Bool.{false}
use lib.ListN.{length}
use Rattle.model.specs.Rules.{first_broken}
use Rattle.decision.specs.declared.Sums.{Sums}
use Rattle.decision.specs.Parts.{judged_of, room_by}
use Rattle.decision.specs.Profile.{folded_sums}
use Rattle.decision.proofs.Classes.{own-within}
use Rattle.decision.proofs.joint.room.Goals as goal

pub overflow_add-gone : goal.overflow_add-gone
overflow_add-gone c =
    record { fits = omega (arith, c.requires, own-within c.args.t.vendor c.args.t.modem c.args.region.now, c.taken-2.ensures, c.taken.ensures) }

pub returns : goal.returns
returns c =
    let a = c.args in
    let r = a.region.now in
    c.room.ensures
    ∙ ap (λ (s : Sums). judged_of (first_broken (room_by a.t (length r) false s)))
    (c.after-sums.ensures.0
    ∙ ap₂ (λ (m n : ℕ). folded_sums a.t r (m + n) a.comes) c.taken.ensures c.taken-2.ensures)
