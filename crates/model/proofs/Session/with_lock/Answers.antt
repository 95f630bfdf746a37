-- Without a free place, or with too long a name, the session stays; else the two parts of the place are laid over the list one after the other.
use Prim.Native.Nat.{ℕ, ◌*◌, ◌+◌, ◌-◌, ◌≤◌, ◌<◌}
use native.Mathlib.Omega.{arith}
use mathlib.Core.Path.{◌≡◌, sym, ap, ◌∙◌}
use mathlib.Core.List.{◌++◌}
use mathlib.Core.Logic.{inl, inr}
use lib.ListN.{length, take, drop, replicate, length-drop}
use lib.Seq.{length-take-le}
use Rattle.model.specs.Name.{keyed}
use Rattle.model.specs.Session.{with_lock_def}
use Rattle.model.proofs.Locks.{no_place, too_long, lock-fits, place-laid}
use Rattle.model.proofs.Session.with_lock.Goals as goal

pub returns-then-self-ge16 : goal.returns-then-self-ge16
returns-then-self-ge16 c =
    let k = keyed c.args.name.now c.args.vendor.now in
    elim c.then-self-ge16.either [
      | inl full ↦ sym (no_place c.args.self k full)
      | inr long ↦ sym (too_long c.args.self k long.1)
    ]

pub returns : goal.returns
unfolding with_lock_def
returns c =
    let a = c.args in
    let at = 144 * a.self.count in
    let k = keyed a.name.now a.vendor.now in
    let all : length a.self.locks ≡ 2304 = omega arith in
    let free : a.self.count < 16 = omega arith in
    let fits : length a.name.now ≤ 128 = omega arith in
    let g : length a.vendor.now ≡ 16 = omega arith in
    let part : length (take (at + 128 - at) (drop at a.self.locks)) ≡ 128 = length-take-le (at + 128 - at) (drop at a.self.locks) (simp length-drop (omega arith)) ∙ omega arith in
    let named = c.put.ensures ∙ ap (λ (n : ℕ). a.name.now ++ replicate (n - length a.name.now) 0) part in
    rw (lock-fits a.self k free fits, named, c.copy_from_slice.ensures.after, place-laid at (at + 128 - at) (at + 144 - (at + 128)) a.name.now a.vendor.now a.self.locks (omega arith) (omega arith) fits g (omega arith))
