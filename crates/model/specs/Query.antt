-- Not of document 01: what UEFI's QueryVariableInfo asks, as rules 13 and 18 have it. A class of values is the error records, or a side's others.
use Rattle.std.specs.Prelude.{ℕ, ◌+◌, ◌*◌, ◌-◌, ◌/◌, min, Bool, cond, ◌||◌, List, ◌++◌, [], ◌∷◌, eqb}
use Rattle.std.proofs.Math.Option.{Option}
use Rattle.model.specs.Lists.{on_some}
use Rattle.model.specs.declared.Rule.{Rule}
use Rattle.model.specs.declared.Rule.TheVariants.{Attributes}
use Rattle.model.specs.Image.{region_header_size}
use Rattle.model.specs.Entry.{Value, header_size_def}
use Rattle.model.specs.Region.{max_data}
use Rattle.model.specs.declared.Terms.{Terms}
use Rattle.model.specs.Session.{name_space}
use Rattle.model.specs.Change.{space_of, record_sizes}
use Rattle.model.specs.Sides.{side_sizes}
use Rattle.model.specs.Rules.{rule4, first_broken, image_rules}
use Rattle.model.specs.Answers.{Outcome, done, refused, rule_number}

-- the bytes for error records, which are always ours: H, and nothing for the modem
abbrev pub record_share_def : Terms → ℕ
record_share_def t = cond t.modem 0 t.records

-- "MaximumVariableStorageSize": the bytes that all values of the class may take, in a region of so many bytes
unfoldable pub storage_for : Terms → Bool → ℕ → ℕ
storage_for t error size = min (size - region_header_size) (cond error (record_share_def t) (t.share - t.reserve))

-- "RemainingVariableStorageSize": the bytes that a new value may take beside these, in whole words, as entries do
unfoldable pub remaining_for : Terms → Bool → ℕ → List Value → ℕ
remaining_for t error size vs =
    min
    (size - space_of vs)
    (cond error (record_share_def t - record_sizes vs) (t.share - (side_sizes t.vendor t.modem vs + t.reserve)))
    / 4
    * 4

-- "MaximumVariableSize": the bytes of name and data that it may have
unfoldable pub largest_for : ℕ → ℕ
largest_for remaining = min (name_space + max_data) (remaining - header_size_def)

-- a query meets 1, 2 and 4, the last also with attributes 0, which no value has: by whether the phase is runtime
unfoldable pub query_broken : Bool → ℕ → List ℕ → Option Rule
query_broken runtime a img = first_broken (image_rules img ++ ((Attributes, rule4 runtime a || eqb a 0) ∷ []))

-- what it answers: refused, or done with no stores; and of a number that it gives, 0 when refused
unfoldable pub query_outcome : Bool → ℕ → List ℕ → Outcome
query_outcome runtime a img = on_some (query_broken runtime a img) (λ rule. refused (rule_number rule)) (done 0)

unfoldable pub query_gives : Bool → ℕ → List ℕ → ℕ → ℕ
query_gives runtime a img n = on_some (query_broken runtime a img) (λ rule. 0) n
