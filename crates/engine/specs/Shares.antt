-- What a start-up is judged by beside its image.
use Rattle.std.specs.Prelude.{ℕ, ◌≡◌}
use Rattle.model.specs.declared.Tenant.{Tenant}
use Rattle.model.specs.declared.Setup.{Setup}

-- a setup gives our share, H, and what is the modem's
abbrev pub GivesShares : Setup → ℕ → ℕ → Tenant → Type 0
GivesShares u share records tenant = (u.share ≡ share) × (u.records ≡ records) × (u.modem ≡ tenant)
