-- What a session says to a side's call, told by its parts, is what the session says.
-- Assumes nothing.
use Prim.Native.Nat.{ℕ}
use mathlib.Core.Path.{◌≡◌, refl, sym, ap, ap₂, ◌∙◌}
use mathlib.Core.Bool.{Bool}
use mathlib.Core.List.{List}
use Rattle.model.specs.declared.Session.{Session}
use Rattle.model.specs.declared.Terms.{Terms}
use Rattle.model.specs.declared.View.{View}
use Rattle.model.specs.Name.{Key}
use Rattle.model.specs.Rules.{view_of, terms_for_def, terms_of}
use Rattle.model.specs.Beside.{Says}
use Rattle.session.specs.Said.{barred_by, terms_by, terms_with, view_by}
use Rattle.session.specs.declared.Locks.{Locks}
use Rattle.session.proofs.Phases.{terms-for-said, terms-said, terms-with, view-said}
use Rattle.engine.specs.Profile.{SaysAll}
use Rattle.engine.specs.Modes.{SaysModes}

-- of a session, the terms by its parts
abbrev pub said_to : Bool → Session → Terms
said_to m s = terms_by m s.phase s.setup.custom s.setup.reserve s.setup.records s.setup.share s.setup.modem s.setup.rules

module _ (m : Bool) (s : Session) {n : Bool} (i : n ≡ m) where
  pub view-told : {v : View} → v ≡ view_by n s.phase s.setup.modem.vendor → view_of m s ≡ v
  view-told e = view-said m s ∙ sym (e ∙ ap (λ (x : Bool). view_by x s.phase s.setup.modem.vendor) i)

  pub for-told : {t : Terms} → t ≡ said_to n s → t ≡ terms_for_def m s
  for-told e = e ∙ ap (λ (x : Bool). said_to x s) i ∙ sym (terms-for-said m s)

-- to a set of a name: that, and whether a lock bars the name
pub says-told : (m : Bool) (s : Session) (k : Key) {barred : Bool} {said t : Terms} → barred ≡ barred_by s.phase s.count s.sizes s.locks k
    → said ≡ terms_for_def m s
    → t ≡ terms_with said barred k
    → Says m s k t s.setup.limits
says-told m s k b e f =
    (terms-said m s k ∙ sym (f ∙ ap₂ (λ (x : Terms) (y : Bool). terms_with x y k) (e ∙ terms-for-said m s) b), refl)

-- to a profile: the terms for no name, the lock list by its parts, and the table
pub all_told : (m : Bool) (s : Session) {t : Terms} {held : Locks} {locks table : List ℕ} → t ≡ terms_for_def m s
    → (held.phase ≡ s.phase) × (held.used ≡ s.count) × (held.sizes ≡ s.sizes)
    → locks ≡ s.locks
    → table ≡ s.setup.limits
    → SaysAll m s t held locks table
all_told m s {t} {held} {locks} e h l d =
    record {
      terms = sym e;
      each = λ k. terms-with m s k ∙ rw (sym e, sym h.0, sym h.1, sym h.2, sym l);
      limits = sym d;
    }

-- to a mode request: the terms for no name, and the lock list by its parts
pub modes-told : (m : Bool) (s : Session) {t : Terms} {held : Locks} {locks : List ℕ} → t ≡ terms_for_def m s
    → (held.phase ≡ s.phase) × (held.used ≡ s.count) × (held.sizes ≡ s.sizes)
    → locks ≡ s.locks
    → SaysModes m s t held locks
unfolding terms_of terms_with
modes-told m s {t} {held} {locks} e h l =
    record { terms = sym e; bars = λ k. ap (λ (y : Terms). y.barred) (terms-with m s k) ∙ rw (sym h.0, sym h.1, sym h.2, sym l) }
