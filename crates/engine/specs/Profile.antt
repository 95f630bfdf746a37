-- What a session says to a profile of a side.
use Rattle.std.specs.Prelude.{ℕ, ◌≡◌, Bool, List}
use Rattle.model.specs.declared.Session.{Session}
use Rattle.model.specs.declared.Terms.{Terms}
use Rattle.model.specs.Name.{Key}
use Rattle.model.specs.Rules.{terms_of, terms_for_def}
use Rattle.session.specs.declared.Locks.{Locks}
use Rattle.decision.specs.Profile.{told_of}

-- these terms to a call that names no name, with this lock list those to each name, and this table of rules for settings
pub record SaysAll (modem : Bool) (s : Session) (t : Terms) (held : Locks) (locks table : List ℕ) : Type 0 where
  pub terms : terms_for_def modem s ≡ t
  pub each : (k : Key) → terms_of modem s k ≡ told_of t held locks k
  pub limits : s.setup.limits ≡ table
