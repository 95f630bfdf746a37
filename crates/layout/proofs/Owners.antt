-- Whose a name is. Where the GUID is the modem's, the name is looked at under either.
-- Assumes nothing.
use Prim.Native.Nat.{ℕ}
use mathlib.Core.Path.{◌≡◌, refl, ap}
use mathlib.Core.Bool.{Bool, true, false, not, ◌&&◌}
use mathlib.Core.List.{List}
use Rattle.model.specs.Lists.{same}
use Rattle.model.specs.Name.{keyed, same_key_def, record_name}
use Rattle.model.specs.Request.{is_key_name_def, key_mode}
use Rattle.model.specs.Sides.{modem_name}
use Rattle.model.proofs.Tests.{same-eq}

module _ (guid name vendor : List ℕ) where
  pub modem-elsewhere : same vendor guid ≡ false → modem_name guid (keyed name vendor) ≡ false
  unfolding modem_name
  modem-elsewhere h = rw h

  -- what is asked of a name under a GUID
  abbrev asked : List ℕ → Bool → Bool
  asked v t = t && not (is_key_name_def (keyed name v)) && not (same_key_def (keyed name v) key_mode) && not (record_name (keyed name v))

  pub modem_as : modem_name guid (keyed name vendor)
      ≡ (same vendor guid && not (is_key_name_def (keyed name guid)) && not (same_key_def (keyed name guid) key_mode) && not (record_name (keyed name guid)))
  unfolding modem_name
  modem_as = go (same vendor guid) refl
    where
      go : (t : Bool) → same vendor guid ≡ t → asked vendor t ≡ asked guid t
      go true e = ap (λ v. asked v true) (same-eq vendor guid e)
      go false e = refl
