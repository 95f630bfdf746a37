-- `desk::play::terms` meets its contract: what the session says, by its parts. Assumes nothing.
use Prim.Native.Nat.{ℕ}
use mathlib.Core.Path.{ap₂, ◌∙◌}
use mathlib.Core.Bool.{false}
use Rattle.model.specs.declared.Tenant.{Tenant}
use Rattle.model.specs.Name.{keyed}
use Rattle.session.specs.Said.{terms_by}
use Rattle.desk.proofs.Desk.{desk-says}
use Rattle.desk.proofs.play.terms.Goals as goal

pub returns : goal.returns
returns c =
    let a = c.args in
    let parts = ap₂ (λ (x : ℕ) (t : Tenant). terms_by false 0 0 0 0 x t 0) c.share.ensures c.no_tenant-tenant.ensures in
    desk-says a.b (keyed a.name.now a.vendor.now) (c.terms_for-said.ensures ∙ parts) c.terms.ensures
