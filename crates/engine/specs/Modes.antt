-- What a session says to a mode request of a side, and the mode that an image is in.
use Rattle.std.specs.Prelude.{ℕ, ◌≡◌, Bool, List, [], Result, Ok, Err}
use Rattle.model.specs.declared.Session.{Session}
use Rattle.model.specs.declared.Terms.{Terms}
use Rattle.model.specs.Lists.{on_some}
use Rattle.model.specs.Name.{Key}
use Rattle.model.specs.Entry.{Value, no_stamp_def}
use Rattle.model.specs.Region.{values_of}
use Rattle.model.specs.Request.{mode_of}
use Rattle.model.specs.Rules.{first_broken, terms_for_def, image_rules, rule6}
use Rattle.session.specs.declared.Locks.{Locks}
use Rattle.decision.specs.Modes.{barring}
use Rattle.model.specs.declared.Rule.{Rule}
use Rattle.model.specs.declared.PlatMode.{PlatMode}

-- these terms to a call that names no name, and which names this lock list bars
pub record SaysModes (modem : Bool) (s : Session) (t : Terms) (held : Locks) (locks : List ℕ) : Type 0 where
  pub terms : terms_for_def modem s ≡ t
  pub bars : (k : Key) → rule6 s k ≡ barring held locks k

-- PK's value where it goes: none
abbrev pub no_value : Value
no_value = record { name = []; vendor = no_stamp_def; attributes = 0; stamp = no_stamp_def; bytes = [] }

-- the mode, or the first broken of rules 1 and 2
unfoldable pub platform_of : List ℕ → Result PlatMode Rule
platform_of img = on_some (first_broken (image_rules img)) Err (Ok (mode_of (values_of img)))
