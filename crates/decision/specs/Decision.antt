-- The decision on a set: the first broken of rules 3 to 13, 17, 18, 21, 22 and 24, or what the set does to the values.
use Rattle.std.specs.Prelude.{ℕ, Bool, cond, List, [], ◌∷◌, ◌++◌, Option, Some, None, Result, Ok, Err}
use Rattle.std.proofs.Math.Option.{Option as Maybe, none, some}
use Rattle.model.specs.declared.Terms.{Terms}
use Rattle.model.specs.declared.Rule.{Rule}
use Rattle.model.specs.Lists.{on_some}
use Rattle.model.specs.Entry.{Value}
use Rattle.model.specs.Region.{find}
use Rattle.model.specs.Request.{Request, request_key, key_mode, deployed_mode, mode_value}
use Rattle.model.specs.Change.{Change, nothing, remove, put, change_in, changes_of}
use Rattle.model.specs.Rules.{first_broken, item_rules, setting_rules, room_rules}
use Rattle.model.specs.Limits.{Limit}
use Rattle.decision.specs.declared.Change as told
use Rattle.decision.specs.declared.Change.TheVariants.{Nothing, Remove, Put}

-- the first broken rule, or what a set does
abbrev pub Decision : Type 0
Decision = Result told.Change Rule

-- a request by its arguments
abbrev pub request_of : List ℕ → List ℕ → ℕ → List ℕ → ℕ → ℕ → Request
request_of name vendor a bytes presence verdict = record {
  name = name;
  vendor = vendor;
  attributes = a;
  bytes = bytes;
  presence = presence;
  verdict = verdict;
}

-- what a change does, without the value
abbrev pub kind_of : Change → Decision
kind_of nothing = Ok Nothing
kind_of (remove k) = Ok Remove
kind_of (put v) = Ok Put

-- the first broken rule, or the change
abbrev pub decided : Maybe Rule → Decision → Decision
decided broken what = on_some broken (λ rule. Err rule) what

-- by rules 3 to 12, 17, 22 and 24, over these values
unfoldable pub item_of : Terms → Request → List Value → Decision
item_of t r vs = decided (first_broken (item_rules t r vs)) (kind_of (change_in r vs))

-- by these and 21, with these rules for its name: before room is asked
unfoldable pub tried_of : List Limit → Terms → Request → List Value → Decision
tried_of ls t r vs = decided (first_broken (item_rules t r vs ++ setting_rules ls r (find (request_key r) vs))) (kind_of (change_in r vs))

-- by these, 18 and 13, over a region of so many bytes with these values: of PlatMode's change too, where one goes with the set's
unfoldable pub decision_of : List Limit → Terms → Request → ℕ → List Value → Decision
decision_of ls t r size vs =
    decided
    (first_broken (item_rules t r vs ++ setting_rules ls r (find (request_key r) vs) ++ room_rules t size (changes_of r vs) vs))
    (kind_of (change_in r vs))

-- the rule that a decision names, if any
abbrev pub broken_of : Decision → Maybe Rule
broken_of (Err rule) = some rule
broken_of (Ok c) = none

-- PlatMode's change that goes with one of PK, by the offset of its entry, if there is one, and by whether a 3 comes in its place
unfoldable pub beside_by : Option ℕ → Bool → List Change
beside_by None deploys = []
beside_by (Some at) deploys = cond deploys (put (mode_value deployed_mode) ∷ []) (remove key_mode ∷ [])
