-- What a planning call tells a host, in the numbers that C sees: what the numbers write, and when they tell what the definitions plan.
use Rattle.std.specs.Prelude.{ℕ, ◌+◌, ◌-◌, ◌≡◌, cond, List, [], ◌∷◌, ◌++◌, take, drop, eqb}
use Rattle.model.specs.declared.Rule.{Rule}
use Rattle.model.specs.Lists.{part}
use Rattle.model.specs.Layout.{state_at}
use Rattle.model.specs.Entry.{header_size_def}
use Rattle.model.specs.Stores.{Write, header, run, mark, erases}
use Rattle.model.specs.Set as set
use Rattle.model.specs.Answers.{rule_number}
use Rattle.plan.specs.declared.HostOp.{HostOp}
use Rattle.plan.specs.declared.HostPlan.{HostPlan}
use Rattle.plan.specs.Planned.{up_to}

-- a header's 60 bytes, of which the state is the third, and 57 stand behind it: for a part that stores more than one byte at a time it is one piece of 60 bytes, "FF
-- in the place of its state", cut at page ends; else its bytes "in rising order without state"
unfoldable pub header_stores : ℕ → ℕ → List ℕ → List Write
header_stores at from content =
    header at (part from state_at content) (part (from + state_at + 1) (header_size_def - (state_at + 1)) content) ∷ []

-- *what an operation's numbers write*: 1 the byte at `at` becomes `from`; 2 `len` blocks erased from block `at` on; 3 `len` bytes of the content from `from` on,
-- stored from `at` on; 4 a header, of the content from `from` on, stored from `at` on; 0 nothing
unfoldable pub stores_of_numbers : List ℕ → HostOp → List Write
stores_of_numbers content h =
    cond (eqb h.kind 1) (mark h.at h.from)
    (cond (eqb h.kind 2) (erases h.at h.len)
    (cond (eqb h.kind 3) (run h.at (part h.from h.len content))
    (cond (eqb h.kind 4) (header_stores h.at h.from content) [])))

-- one operation after the other
unfoldable pub expand_numbers : List ℕ → List HostOp → List Write
expand_numbers content [] = []
expand_numbers content (h ∷ hs) = stores_of_numbers content h ++ expand_numbers content hs

-- an operation of kind 0, and the twelve of a refused call
abbrev pub none : HostOp
none = record { kind = 0; at = 0; from = 0; len = 0 }

unfoldable pub no_operations_def : List HostOp
no_operations_def = none ∷ none ∷ none ∷ none ∷ none ∷ none ∷ none ∷ none ∷ none ∷ none ∷ none ∷ none ∷ []

-- what is told of a refused call: its rule, no deciding operation, no operation; every field is fixed
unfoldable pub refusal_of : Rule → HostPlan
refusal_of rule = record { rule = rule_number rule; deciding = 12; ops = no_operations_def }

-- *these numbers, with this content, tell that plan*: its rule; or 0, and operations that write what the plan does, up to the deciding store and on from there. Open is
-- only which operations these are, as in `Plans`
abbrev pub Told : set.Plan → List ℕ → HostPlan → Type 0
Told (set.refuse rule) content h = h ≡ refusal_of rule
Told (set.make to on) content h =
    (h.rule ≡ 0)
    × (expand_numbers content (take (up_to h.deciding) h.ops) ≡ to)
    × (expand_numbers content (drop (up_to h.deciding) h.ops) ≡ on)
