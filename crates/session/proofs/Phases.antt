-- What a session says by its parts: the definitions, written out; and the two tests of a phase, which counts as 2 where it is above.
-- Assumes nothing.
use Prim.Native.Nat.{ℕ, min}
use native.Mathlib.Omega.{arith}
use mathlib.Core.Path.{◌≡◌, refl, ap, ◌∙◌}
use mathlib.Core.Bool.{Bool, true, false}
use lib.Dec.{eqb, leb}
use borrow.Author.Tests.{eq-eqb, ne_eqb, eqb-true, eqb-false, leb-true, leb-false}
use Rattle.model.specs.declared.Session.{Session}
use Rattle.model.specs.declared.Terms.{Terms}
use Rattle.model.specs.Name.{Key}
use Rattle.model.specs.Session.{counted_phase, in_boot_def, at_runtime_def, custom_mode, reserved}
use Rattle.model.specs.Rules.{rule6, terms_for_def, terms_of, view_of}
use Rattle.session.specs.Said.{barred_by, terms_by, terms_with, view_by}
use Rattle.session.proofs.Places.{locked-held}

pub terms-for-said : (m : Bool) (s : Session)
    → terms_for_def m s ≡ terms_by m s.phase s.setup.custom s.setup.reserve s.setup.records s.setup.share s.setup.modem s.setup.rules
unfolding terms_for_def terms_by at_runtime_def custom_mode reserved
terms-for-said m s = refl

pub terms-with : (m : Bool) (s : Session) (k : Key) → terms_of m s k ≡ terms_with (terms_for_def m s) (barred_by s.phase s.count s.sizes s.locks k) k
unfolding terms_of terms_for_def terms_with barred_by rule6 in_boot_def
terms-with m s k = rw (locked-held s k)

pub terms-said : (m : Bool) (s : Session) (k : Key)
    → terms_of m s k
    ≡ terms_with (terms_by m s.phase s.setup.custom s.setup.reserve s.setup.records s.setup.share s.setup.modem s.setup.rules)
    (barred_by s.phase s.count s.sizes s.locks k) k
terms-said m s k =
    terms-with m s k ∙ ap (λ (t : Terms). terms_with t (barred_by s.phase s.count s.sizes s.locks k) k) (terms-for-said m s)

pub view-said : (m : Bool) (s : Session) → view_of m s ≡ view_by m s.phase s.setup.modem.vendor
unfolding view_of view_by at_runtime_def
view-said m s = refl

pub boot-test : (p : ℕ) → eqb (counted_phase p) 0 ≡ eqb p 0
boot-test p = go (eqb p 0) refl
  where
    go : (t : Bool) → eqb p 0 ≡ t → eqb (counted_phase p) 0 ≡ t
    go true e = rw (eqb-true p 0 e)
    go false e = ne_eqb (min p 2) 0 (λ z. eqb-false p 0 e (omega arith))

pub runtime-test : (p : ℕ) → eqb (counted_phase p) 2 ≡ leb 2 p
runtime-test p = go (leb 2 p) refl
  where
    go : (t : Bool) → leb 2 p ≡ t → eqb (counted_phase p) 2 ≡ t
    go true e = eq-eqb (min p 2) 2 (omega (arith, leb-true 2 p e))
    go false e = ne_eqb (min p 2) 2 (λ z. omega (arith, leb-false 2 p e))
