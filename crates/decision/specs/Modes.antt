-- 02 (j), "Audit and deployed modes", for the code: what is decided of a mode request.
use Rattle.std.specs.Prelude.{ℕ, Bool, cond, ◌&&◌, ◌||◌, List, [], ◌∷◌, ◌++◌, eqb, Option, Some, None, Ok}
use Rattle.model.specs.declared.PlatMode.{PlatMode}
use Rattle.model.specs.declared.Terms.{Terms}
use Rattle.model.specs.declared.Rule.{Rule}
use Rattle.model.specs.declared.Rule.TheVariants.{Locked, Room, Side, Mode}
use Rattle.model.specs.Lists.{any}
use Rattle.model.specs.Name.{Key}
use Rattle.model.specs.Entry.{Value}
use Rattle.model.specs.Request.{key_pk, key_mode, audit_mode, deployed_mode, mode_value}
use Rattle.model.specs.Change.{Change, remove, put, transition, mode_changes}
use Rattle.model.specs.Rules.{first_broken, removes, rule13, rule22, rule24}
use Rattle.session.specs.Said.{barred_by}
use Rattle.session.specs.declared.Locks.{Locks}
use Rattle.decision.specs.declared.Change.TheVariants.{Put}
use Rattle.decision.specs.Decision.{Decision, decided}
use Rattle.decision.specs.Parts.{Found}

-- a lock bars this name
abbrev pub barring : Locks → List ℕ → Key → Bool
barring held locks k = barred_by held.phase held.used held.sizes locks k

-- rules 22, 6 and 24 on the changes of a request, by what is said to the call and by which names a lock bars
unfoldable pub transition_rules : Terms → (Key → Bool) → List Change → List (Rule × Bool)
transition_rules t barred cs =
    (Side, rule22 t.vendor t.modem key_mode)
    ∷ (Locked, barred key_mode || (any removes cs && barred key_pk))
    ∷ (Mode, rule24 cs)
    ∷ []

-- by these and 13, over a region of so many bytes with these values
unfoldable pub transition_of : Terms → (Key → Bool) → ℕ → ℕ → List Value → Decision
transition_of t barred to size vs =
    decided (first_broken (transition_rules t barred (mode_changes to vs) ++ ((Room, rule13 t size (mode_changes to vs) vs) ∷ []))) (Ok Put)

-- what is there of PK, if the request loses it
unfoldable pub lost_by : Found → PlatMode → ℕ → Found
lost_by pk m to = cond (any removes (transition m to)) pk None

-- the byte to store
unfoldable pub byte_of : ℕ → ℕ
byte_of to = cond (eqb to audit_mode) audit_mode deployed_mode

-- a request's changes by the offset of PK's entry if that goes, and the byte to store
unfoldable pub transition_by : Option ℕ → ℕ → List Change
transition_by None byte = put (mode_value byte) ∷ []
transition_by (Some at) byte = remove key_pk ∷ put (mode_value byte) ∷ []
