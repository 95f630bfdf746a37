-- `decision::items::weigh` meets its contract: the first rule that an item breaks is the answer; else room, by what goes and comes. Assumes nothing.
use Prim.Native.Nat.{ℕ}
use native.Mathlib.Omega.{arith}
use mathlib.Core.Path.{◌≡◌, sym, ap₂, ◌∙◌}
use Rattle.profile.specs.Reader.{requests_in}
use Rattle.decision.specs.Profile.{told_of, limits_of, roomed_of}
use Rattle.decision.proofs.RoomOfItems.{told-foreign, weighed-broken, gone-counts, weighed-kept}
use Rattle.decision.proofs.items.weigh.Goals as goal

pub roomed-requires : goal.roomed-requires
roomed-requires c =
    let a = c.args in
    let p = c.requires in
    let w = c.in-Ok.ensures in
    let counts = gone-counts a.said (told_of a.said a.held a.locks.now) (limits_of a.said a.limits.now) a.region.now (requests_in a.file.now a.p)
    (told-foreign a.said a.held a.locks.now) p.sounds p.formed p.apart w.0.kept in
    (p.small, omega (arith, w.1), omega (arith, counts, w.0.goes, w.0.come))

pub returns-in-Err : goal.returns-in-Err
returns-in-Err c =
    let a = c.args in (
      sym (weighed-broken a.said (told_of a.said a.held a.locks.now) (limits_of a.said a.limits.now) a.region.now (requests_in a.file.now a.p) c.in-Err.rule c.in-Err.ensures),
      λ e. let z : ◌≡◌ {A = ℕ} 0 1 = cc in absurd (omega arith),
    )

pub returns-in-Ok : goal.returns-in-Ok
returns-in-Ok c =
    let a = c.args in
    let p = c.requires in
    let pass = c.in-Ok.ensures.0 in (
      c.roomed.ensures
          ∙ ap₂ (λ (m n : ℕ). roomed_of a.said a.region.now m n) pass.goes pass.come
          ∙ weighed-kept a.said (told_of a.said a.held a.locks.now) (limits_of a.said a.limits.now) a.region.now (requests_in a.file.now a.p)
          (told-foreign a.said a.held a.locks.now) p.sounds p.formed p.apart pass.kept,
      λ e. pass.folds,
    )
