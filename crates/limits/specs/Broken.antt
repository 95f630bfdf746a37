-- Rule 21 as the code tries it: by whether data would stand, and which.
use Rattle.std.specs.Prelude.{ℕ, Bool, not, ◌&&◌, ◌||◌, List, length}
use Rattle.std.proofs.Math.Option.{Option}
use Rattle.model.specs.Lists.{any, is_some}
use Rattle.model.specs.Name.{Key}
use Rattle.model.specs.Entry.{Value}
use Rattle.model.specs.Session.{is_yes}
use Rattle.model.specs.Request.{Request, data_proper}
use Rattle.model.specs.Limits.{Limit, is_for_def, meets}
use Rattle.model.specs.Change.{deletes, empty_append_def}

-- a rule is broken by a set: it is read-only, or data would stand and do not meet it
abbrev pub breaks_it : Bool → List ℕ → Limit → Bool
breaks_it stands bytes t = is_yes t.fixed || (stands && not (meets t bytes))

-- one of several is
unfoldable pub broken_by : List Limit → Bool → List ℕ → Bool
broken_by ls stands bytes = any (breaks_it stands bytes) ls

-- a rule is for a name, and broken
unfoldable pub breaks_for : Key → Bool → List ℕ → Limit → Bool
breaks_for k stands bytes t = is_for_def t k && breaks_it stands bytes t

-- a value would stand after a set: it does not delete, and is not an empty append where none stands
unfoldable pub leaves_some : Request → Option Value → Bool
leaves_some r old =
    not (deletes r.attributes (length (data_proper r)))
    && (not (empty_append_def r.attributes (length (data_proper r))) || is_some old)
