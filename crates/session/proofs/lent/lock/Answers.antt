-- `session::lent::lock` meets its contract: what it comes to by the parts is what it comes to in the session, and what it writes is one more lock. Assumes nothing.
use Prim.Native.Nat.{ℕ, ◌<◌}
use native.Mathlib.Omega.{arith}
use mathlib.Core.Path.{◌≡◌, sym, ap, subst, ◌∙◌}
use mathlib.Core.Bool.{true, false}
use mathlib.Core.List.{List}
use Rattle.std.specs.Prelude.{Ok}
use Rattle.model.specs.declared.Session.{Session}
use Rattle.model.specs.Lists.{part, u32_at, numbers_at}
use Rattle.model.specs.Name.{Key}
use Rattle.model.specs.Lent.{setup_of, session_of}
use Rattle.model.proofs.Locks.{lock-fits}
use Rattle.session.proofs.Locking.{enters-free, refused-by, done-by}
use Rattle.session.proofs.Enlisting.{listed}
use Rattle.session.proofs.lent.lock.Goals as goal

pub returns-in-Err : goal.returns-in-Err
unfolding session_of setup_of
returns-in-Err c =
    let a = c.args in
    refused-by a.modem (session_of a.s.now) (record { name = a.name.now; vendor = a.vendor.now }) c.in-Err.rule c.in-Err.ensures

pub enlist-requires : goal.enlist-requires
enlist-requires c =
    let a = c.args in
    let b : List ℕ = a.s.now in
    let k : Key = record { name = a.name.now; vendor = a.vendor.now } in
    let f = enters-free a.modem (u32_at b 0) (u32_at b 6960) (numbers_at b 6964 16) (part 7028 2304 b) (part 28 16 b) k (ap Ok (sym c.if-enters.true) ∙ c.in-Ok.ensures) in
    (subst (λ (m : ℕ). m < 16) (sym c.u32_at-place.ensures) f.1, f.0)

pub returns-then-enters : goal.returns-then-enters
unfolding session_of setup_of
returns-then-enters c =
    let a = c.args in
    let s : Session = session_of a.s.now in
    let k : Key = record { name = a.name.now; vendor = a.vendor.now } in
    let h = ap Ok (sym c.if-enters.true) ∙ c.in-Ok.ensures in
    let d = done-by a.modem s k true h in
    let f = enters-free a.modem s.phase s.count s.sizes s.locks s.setup.modem.vendor k h in
    let here : s.count ≡ c.u32_at-place.result = sym c.u32_at-place.ensures in (
      d.0,
      ap session_of c.enlist.ensures
          ∙ listed a.s.now (omega arith) k f.0 (omega arith) c.u32_at-place.result (subst (λ (m : ℕ). m < 16) here f.1) here
          ∙ sym (lock-fits s k f.1 f.0) ∙ d.1,
    )

pub returns-else-enters : goal.returns-else-enters
unfolding session_of setup_of
returns-else-enters c =
    let a = c.args in
    done-by a.modem (session_of a.s.now) (record { name = a.name.now; vendor = a.vendor.now }) false (ap Ok (sym c.if-enters.false) ∙ c.in-Ok.ensures)
