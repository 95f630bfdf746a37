-- In a sound region the value that a name has is that of the entry found, the 3F entry, else the 3E entry; and its entry has a whole header, so a whole
-- stamp. So the platform's mode is by what is found of PK and of PlatMode.
-- Assumes nothing.
use Prim.Native.Nat.{ℕ}
use mathlib.Core.Path.{◌≡◌, refl, sym, ap, ◌∙◌}
use mathlib.Core.Bool.{Bool, true, false, cond, ◌&&◌}
use mathlib.Core.List.{List, [], ◌∷◌}
use mathlib.Core.Option.{Option, none, some}
use lib.ListN.{length}
use lib.Dec.{eqb}
use Rattle.model.specs.declared.PlatMode.TheVariants as mode
use Rattle.model.specs.Layout.{authenticated}
use Rattle.model.specs.Lists.{same, is_some, on_some}
use Rattle.model.specs.Name.{Key}
use Rattle.model.specs.Entry.{Value, header_fields_in}
use Rattle.model.specs.Walk as walk
use Rattle.model.specs.Region.{sound, entries, values, standing, find}
use Rattle.model.specs.Request.{key_pk, key_mode, audit_mode, deployed_mode, user_mode_def, stores_mode, mode_of, as_user, is_deployed_def}
use Rattle.model.proofs.Chunks.{sound_entries, sound-parts}
use Rattle.model.proofs.Values.{find-standing}
use Rattle.layout.specs.declared.Entry as numbers
use Rattle.region.specs.Walk.{stamp_at, entry_as}
use Rattle.std.specs.Prelude.{Some, None}
use Rattle.std.specs.Option as code
use Rattle.values.specs.Found.{placed_at, found_of}
use Rattle.values.proofs.Stands.{standing-stands, nothing-first}
use Rattle.policy.specs.Descriptor.{stamp_in_def}
use Rattle.policy.proofs.Descriptor.{stamp-held}
use Rattle.decision.specs.Parts.{Found, value_at, stands, stores_by, found_pk, found_mode, mode_by_def}

-- the code's test
pub is-stands : (old : Found) → code.is_some old ≡ stands old
is-stands (Some p) = refl
is-stands None = refl

pub stands-some : (r : List ℕ) (old : Found) → stands old ≡ is_some (value_at r old)
stands-some r (Some p) = refl
stands-some r None = refl

stores-numbers : (r : List ℕ) (m : ℕ) (f : Found) → on_some (value_at r f) (λ v. eqb v.attributes 0x07 && same v.bytes (m ∷ [])) false ≡ stores_by r m f
unfolding stores_by entry_as walk.placed
stores-numbers r m (Some p) = refl
stores-numbers r m None = refl

-- the mode by what is found: whether it wants the verdicts of user mode, and whether it is deployed
module _ (r : List ℕ) where
  pub user-found : as_user (mode_by_def r) ≡ stands (found_pk r)
  unfolding mode_by_def
  user-found = go (stands (found_pk r)) (stores_by r deployed_mode (found_mode r)) (stores_by r audit_mode (found_mode r))
    where
      go : (u d a : Bool) → as_user (cond u (cond d mode.Deployed mode.User) (cond a mode.Audit mode.Setup)) ≡ u
      go true true a = refl
      go true false a = refl
      go false d true = refl
      go false d false = refl

  pub deployed-found : is_deployed_def (mode_by_def r) ≡ (stands (found_pk r) && stores_by r deployed_mode (found_mode r))
  unfolding mode_by_def
  deployed-found = go (stands (found_pk r)) (stores_by r deployed_mode (found_mode r)) (stores_by r audit_mode (found_mode r))
    where
      go : (u d a : Bool) → is_deployed_def (cond u (cond d mode.Deployed mode.User) (cond a mode.Audit mode.Setup)) ≡ (u && d)
      go true true a = refl
      go true false a = refl
      go false d true = refl
      go false d false = refl

module _ (r : List ℕ) (sounds : sound r ≡ true) where
  judged : sound_entries (length r) (entries r) ≡ true
  judged = (sound-parts authenticated r sounds).1

  pub old_value : (k : Key) (old : Found) → old ≡ found_of (standing k (entries r)) → value_at r old ≡ find k (values (entries r))
  old_value k (Some p) h =
      sym (find-standing (length r) (entries r) k judged
      ∙ ap (λ (o : Option walk.Entry). on_some o (λ x. some (walk.entry_value_def x)) none) (standing-stands authenticated r k p.at p.entry (sym h)).entry)
  old_value k None h =
      sym (find-standing (length r) (entries r) k judged
      ∙ ap (λ (o : Option walk.Entry). on_some o (λ x. some (walk.entry_value_def x)) none) (nothing-first (standing k (entries r)) (sym h)))

  -- what stands there, by what is found
  pub some-found : (k : Key) → stands (found_of (standing k (entries r))) ≡ is_some (find k (values (entries r)))
  some-found k =
      stands-some r (found_of (standing k (entries r))) ∙ ap is_some (old_value k (found_of (standing k (entries r))) refl)

  -- PlatMode's byte
  pub stores-found : (m : ℕ) → stores_by r m (found_mode r) ≡ stores_mode m (values (entries r))
  unfolding stores_mode
  stores-found m =
      sym (ap (λ (o : Option Value). on_some o (λ v. eqb v.attributes 0x07 && same v.bytes (m ∷ [])) false) (sym (old_value key_mode (found_mode r) refl)) ∙ go (found_mode r))
    where
      go : (f : Found) → on_some (value_at r f) (λ v. eqb v.attributes 0x07 && same v.bytes (m ∷ [])) false ≡ stores_by r m f
      go f = stores-numbers r m f

  -- the platform's mode
  pub mode-found : mode_by_def r ≡ mode_of (values (entries r))
  unfolding mode_by_def mode_of user_mode_def
  mode-found = rw (some-found key_pk, stores-found deployed_mode, stores-found audit_mode)

-- the stamp that is read of the entry that stands is its value's
pub stamp-read : (r : List ℕ) (k : Key) (at : ℕ) (e : numbers.Entry) → placed_at at e ≡ found_of (standing k (entries r)) → stamp_in_def (stamp_at r at) ≡ stamp_at r at
unfolding stamp_at header_fields_in
stamp-read r k at e h = stamp-held r at (standing-stands authenticated r k at e (sym h)).fits
