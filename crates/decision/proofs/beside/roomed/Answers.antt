-- `decision::beside::roomed` meets its contract: where PK is put, the sums after both changes are judged. Assumes nothing.
use Prim.Native.Nat.{ℕ, ◌+◌}
use native.Mathlib.Omega.{arith}
use mathlib.Core.Path.{sym, ap, ◌∙◌}
use Rattle.model.specs.Entry.{header_size_def, rounded}
use Rattle.model.specs.Rules.{first_broken}
use Rattle.decision.specs.Parts.{judged_of, roomed_by}
use Rattle.decision.specs.Joint.{coming_by, joint_after}
use Rattle.decision.proofs.Broken.{kept-none, breaks-some}
use Rattle.std.proofs.lemmas.Result.{err_from_is_err_and}
use Rattle.decision.proofs.beside.roomed.Goals as goal

pub coming-requires : goal.coming-requires
coming-requires c = let p = c.requires.small_put c.in-Put.is in (p.0, p.1)

pub room-requires : goal.room-requires
room-requires c =
    let p = c.requires.small_put c.in-Put.is in
    (c.requires.short_region, c.coming.ensures.1, omega (arith, p.2))

pub returns-in_err-room-in-Put : goal.returns-in_err-room-in-Put
unfolding roomed_by joint_after
returns-in_err-room-in-Put c =
    let a = c.args in
    let full = first_broken (joint_after a.t a.region.now a.old a.there (coming_by a.deploys (rounded (header_size_def + a.name + a.size)))) in
    let all = ap (λ (n : ℕ). judged_of (first_broken (joint_after a.t a.region.now a.old a.there n))) c.coming.ensures.0 in
    let p = err_from_is_err_and c.from_residual.result c.from_residual.ensures.1 in
    rw (p.1, p.2, c.in-Put.is, breaks-some full c.in_err-room-in-Put.field-0.0 (sym all ∙ sym c.in_err-room-in-Put.ensures))

pub returns-in_ok-room-in-Put : goal.returns-in_ok-room-in-Put
unfolding roomed_by joint_after
returns-in_ok-room-in-Put c =
    let a = c.args in
    let full = first_broken (joint_after a.t a.region.now a.old a.there (coming_by a.deploys (rounded (header_size_def + a.name + a.size)))) in
    let all = ap (λ (n : ℕ). judged_of (first_broken (joint_after a.t a.region.now a.old a.there n))) c.coming.ensures.0 in
    rw (c.in-Put.is, kept-none full (sym all ∙ sym c.in_ok-room-in-Put.ensures))

pub returns-in-Remove : goal.returns-in-Remove
unfolding roomed_by
returns-in-Remove c = rw c.in-Remove.is

pub returns-in-Nothing : goal.returns-in-Nothing
unfolding roomed_by
returns-in-Nothing c = rw c.in-Nothing.is
