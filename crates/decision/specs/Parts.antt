-- The parts in which a set is judged, by what each looks at: the value that stands is known by its entry's offset and numbers.
use Rattle.std.specs.Prelude.{ℕ, ◌+◌, ◌-◌, ◌≤◌, Bool, true, false, not, cond, ◌&&◌, ◌||◌, List, [], ◌∷◌, ◌++◌, ◌≡◌, length, drop, eqb, ltb, Option, Some, None, Result, Ok, Err}
use Rattle.std.proofs.Math.Option.{Option as Maybe, none, some}
use Rattle.model.specs.declared.PlatMode.{PlatMode}
use Rattle.model.specs.declared.PlatMode.TheVariants as mode
use Rattle.model.specs.declared.Rule.{Rule}
use Rattle.model.specs.declared.Terms.{Terms}
use Rattle.model.specs.declared.Rule.TheVariants.{Standing, Descriptor, Verdict, Mode, Stamp, Absent, DataSize, Room, RecordSpace, Setting}
use Rattle.model.specs.Lists.{is_empty, same, on_some}
use Rattle.model.specs.Name.{Key, same_key_def}
use Rattle.model.specs.Image.{region_header_size}
use Rattle.model.specs.Entry.{Value, entry_size_def}
use Rattle.model.specs.Walk.{entry_value_def}
use Rattle.model.specs.Region.{max_data, record_bit, entries, values, standing}
use Rattle.model.specs.Request.{key_pk, key_mode, audit_mode, deployed_mode, time_based_def, appends, later}
use Rattle.model.specs.Change.{deletes, empty_append_def, equal_to, later_of_def, record_sizes}
use Rattle.model.specs.Sides.{side_sizes}
use Rattle.model.specs.Rules.{rule7, rule8, rule9, rule24_set}
use Rattle.layout.specs.declared.Entry as numbers
use Rattle.region.specs.Walk.{entry_at, stamp_at}
use Rattle.values.specs.Found.{found_of, old_data_def}
use Rattle.region.specs.declared.Placed.{Placed}
use Rattle.policy.specs.Descriptor.{stamp_in_def}
use Rattle.decision.specs.declared.NewValue.{NewValue}
use Rattle.decision.specs.declared.Sums.{Sums}
use Rattle.decision.specs.declared.Tried.{Tried}
use Rattle.decision.specs.declared.Joined.{Joined}
use Rattle.decision.specs.declared.Change.TheVariants.{Nothing, Remove, Put}
use Rattle.decision.specs.Decision.{Decision, beside_by}
use Rattle.model.specs.Change as change

-- the first broken of some rules, if any
abbrev pub judged_of : Maybe Rule → Result (Unit {0}) Rule
judged_of none = Ok tt
judged_of (some rule) = Err rule

-- what was found: an entry at its place
abbrev pub Found : Type 0
Found = Option Placed

-- by what was found: f of it, or d
abbrev pub on_found : {A : Type 0} → Found → (ℕ → numbers.Entry → A) → A → A
on_found (Some p) f d = f p.at p.entry
on_found None f d = d

-- the value that was found, if any
abbrev pub value_at : List ℕ → Found → Maybe Value
value_at r old = on_found old (λ at e. some (entry_value_def (entry_at r at e))) none

-- a value stands
abbrev pub stands : Found → Bool
stands old = on_found old (λ at e. true) false

-- the byte that is stored under PlatMode is this one, by what was found there
unfoldable pub stores_by : List ℕ → ℕ → Found → Bool
stores_by r m there = on_found there (λ at e. eqb e.attributes 0x07 && same (entry_at r at e).bytes (m ∷ [])) false

-- what stands under PK and under PlatMode, and the platform's mode by these
abbrev pub found_pk : List ℕ → Found
found_pk r = found_of (standing key_pk (entries r))

abbrev pub found_mode : List ℕ → Found
found_mode r = found_of (standing key_mode (entries r))

unfoldable pub mode_by_def : List ℕ → PlatMode
mode_by_def r =
    cond
    (stands (found_pk r))
    (cond (stores_by r deployed_mode (found_mode r)) mode.Deployed mode.User)
    (cond (stores_by r audit_mode (found_mode r)) mode.Audit mode.Setup)

-- the offset of what was found
abbrev pub offset_of : Found → Option ℕ
offset_of there = on_found there (λ at e. Some at) None

-- a set takes out the value of its name, or puts one where none stands
abbrev pub moves_by : Decision → Found → Bool
moves_by (Err rule) old = false
moves_by (Ok Nothing) old = false
moves_by (Ok Remove) old = true
moves_by (Ok Put) old = not (stands old)

-- what was found of PlatMode that changes with it: where it is PK that comes or goes
unfoldable pub beside_found : List ℕ → Decision → Found → Key → Found
beside_found r what old k = cond (moves_by what old && same_key_def k key_pk) (found_mode r) None

-- a 3 comes in the place of what was found of PlatMode: PK comes in audit mode
abbrev pub deploys_by : List ℕ → Decision → Found → Bool
deploys_by r (Err rule) there = false
deploys_by r (Ok Nothing) there = false
deploys_by r (Ok Remove) there = false
deploys_by r (Ok Put) there = stores_by r audit_mode there

-- rules 7 and 8, by whether the phase is runtime, attributes, data and what stands
unfoldable pub standing_by : Bool → ℕ → List ℕ → Found → List (Rule × Bool)
standing_by runtime a bytes old =
    (Standing, on_found old (λ at e. rule7 runtime a e.attributes) false) ∷ (Descriptor, rule8 a bytes) ∷ []

-- the stamp is not later than that of the value that stands
unfoldable pub not_later_def : List ℕ → Found → List ℕ → Bool
not_later_def r old stamp = on_found old (λ at e. not (later stamp (stamp_in_def (stamp_at r at)))) false

-- rules 9, 24 and 10, by what stands, the name, attributes, the verdicts of which one is wanted, the verdict given and the stamp; 10 does not concern appends
unfoldable pub verdict_by : List ℕ → Found → Key → ℕ → List ℕ → ℕ → List ℕ → List (Rule × Bool)
verdict_by r old k a wanted verdict stamp =
    (Verdict, rule9 wanted verdict)
    ∷ (Mode, rule24_set k)
    ∷ (Stamp, not (appends a) && not (is_empty wanted) && not_later_def r old stamp)
    ∷ []

-- the value that stands is equal
unfoldable pub equal_by : List ℕ → Found → ℕ → List ℕ → Bool
equal_by r old a proper = on_found old (λ at e. equal_to a proper e.attributes (entry_at r at e).bytes) false

-- what a set asks for, by what stands, attributes and data proper
unfoldable pub kind_by : List ℕ → Found → ℕ → List ℕ → Decision
kind_by r old a proper =
    cond (deletes a (length proper)) (Ok Remove) (cond (empty_append_def a (length proper) || equal_by r old a proper) (Ok Nothing) (Ok Put))

-- the data that an append keeps
unfoldable pub kept_data_def : List ℕ → Found → ℕ → List ℕ
kept_data_def r old a = cond (appends a) (old_data_def r old) []

-- the stamp given over that of what stands, if anything does: the later of the two
unfoldable pub stamp_over_def : List ℕ → Found → List ℕ → List ℕ
stamp_over_def r old given = on_found old (λ at e. later_of_def given (stamp_in_def (stamp_at r at))) given

-- the stamp that a set stores: an append's with 0x20 is the later of the two
unfoldable pub stamp_kept : List ℕ → Found → ℕ → List ℕ → List ℕ
stamp_kept r old a given = cond (appends a && time_based_def a) (stamp_over_def r old given) given

-- the value that numbers put: of a name and GUID, with the data of what stands, if they are kept, and the caller's from an offset on
unfoldable pub value_by : List ℕ → List ℕ → List ℕ → List ℕ → Found → NewValue → Value
value_by r name vendor bytes old p = record {
  name = name;
  vendor = vendor;
  attributes = p.attributes;
  stamp = p.stamp;
  bytes = cond p.keeps (old_data_def r old) [] ++ drop p.own bytes;
}

-- a value would stand after a set, by what stands, attributes and the size of its data proper
unfoldable pub leaves_by : Found → ℕ → ℕ → Bool
leaves_by old a size = not (deletes a size) && (not (empty_append_def a size) || stands old)

-- the size of the data that a set would store
unfoldable pub new_size : List ℕ → Found → ℕ → ℕ → ℕ
new_size r old a size = length (kept_data_def r old a) + size

-- the size of a value in its class: by whether it is an error record, and whether its name is the side's own
unfoldable pub classed_by : Bool → Bool → ℕ → Sums
classed_by error own size = record {
  records = cond error size 0;
  own = cond (own && not error) size 0;
  others = cond (not own && not error) size 0;
}

-- that of the value that stands
unfoldable pub old_sums : List ℕ → Found → Bool → Sums
old_sums r old own =
    on_found old (λ at e. classed_by (record_bit e.attributes) own (entry_size_def (entry_value_def (entry_at r at e))))
    (record { records = 0; own = 0; others = 0 })

-- the value that stands counts among the values of its class
pub record OldCounts (t : Terms) (r : List ℕ) (old : Found) (mine : Bool) : Type 0 where
  pub records : (old_sums r old mine).records ≤ record_sizes (values (entries r))
  pub own : (old_sums r old mine).own ≤ side_sizes t.vendor t.modem (values (entries r))
  pub others : (old_sums r old mine).others ≤ side_sizes t.vendor (not t.modem) (values (entries r))

-- the sizes of each class after a value of a class and size has come in the place of the old one
unfoldable pub sums_after : Terms → List ℕ → Found → Bool → Bool → ℕ → Sums
sums_after t r old own error size = record {
  records = record_sizes (values (entries r)) - (old_sums r old own).records + (classed_by error own size).records;
  own = side_sizes t.vendor t.modem (values (entries r)) - (old_sums r old own).own + (classed_by error own size).own;
  others = side_sizes t.vendor (not t.modem) (values (entries r)) - (old_sums r old own).others + (classed_by error own size).others;
}

-- rules 18 and 13 by the sums after a set, in a region of so many bytes
unfoldable pub room_by : Terms → ℕ → Bool → Sums → List (Rule × Bool)
room_by t size error s =
    (RecordSpace, error && ltb t.records s.records)
    ∷ (Room, (not error && ltb t.share (s.own + t.reserve)) || ltb size (region_header_size + s.records + s.own + s.others))
    ∷ []

unfoldable pub room_after_def : Terms → List ℕ → Found → Bool → Bool → ℕ → List (Rule × Bool)
room_after_def t r old own error size = room_by t (length r) error (sums_after t r old own error size)

-- rule 11 on a delete, rule 12 on a value to put
unfoldable pub result_by : Bool → Decision → ℕ → Decision
result_by there (Err rule) size = Err rule
result_by there (Ok Nothing) size = Ok Nothing
result_by there (Ok Remove) size = cond there (Ok Remove) (Err Absent)
result_by there (Ok Put) size = cond (ltb max_data size) (Err DataSize) (Ok Put)

-- what a set that breaks none of rules 3 to 10 comes to: by what stands, attributes, data proper, and the size of the data that would stand
unfoldable pub outcome_by : List ℕ → Found → ℕ → List ℕ → ℕ → Decision
outcome_by r old a proper size = result_by (stands old) (kind_by r old a proper) size

-- rule 21, by whether one of the rules for the name is broken
unfoldable pub limited_by : Bool → Decision → Decision
limited_by forbidden (Err rule) = Err rule
limited_by forbidden (Ok c) = cond forbidden (Err Setting) (Ok c)

-- room for a value to put
unfoldable pub roomed_by : Decision → Maybe Rule → Decision
roomed_by (Err rule) full = Err rule
roomed_by (Ok Nothing) full = Ok Nothing
roomed_by (Ok Remove) full = Ok Remove
roomed_by (Ok Put) full = on_some full (λ rule. Err rule) (Ok Put)

-- what a set comes to before room is asked: the decision, and the size of the data that a value to put would have
abbrev pub TriedAs : Decision → ℕ → Result Tried Rule → Type 0
TriedAs d size (Err rule) = Err rule ≡ d
TriedAs d size (Ok t) = (Ok t.what ≡ d) × (t.size ≡ size) × (t.what ≡ Put → t.size ≤ 2048)

-- what it comes to in the end: the decision, PlatMode's change that goes with it, and the offset of what was found there
abbrev pub JoinedAs : Decision → List change.Change → Found → Result Joined Rule → Type 0
JoinedAs d beside mode (Err rule) = Err rule ≡ d
JoinedAs d beside mode (Ok j) = (Ok j.what ≡ d) × (beside_by j.beside j.deploys ≡ beside) × ((at : ℕ) → j.beside ≡ Some at → offset_of mode ≡ Some at)
