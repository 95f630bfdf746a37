-- How operations become numbers, exactly: what a host is told of what was planned.
use Rattle.std.specs.Prelude.{ℕ, ◌≡◌, Result, Ok, Err, unwrap_or, List, map}
use Rattle.model.specs.Entry.{header_size_def}
use Rattle.model.specs.Set as set
use Rattle.plan.specs.declared.Step.{Step}
use Rattle.plan.specs.declared.Step.TheVariants.{Nothing, Mark, Erase, Program, Header}
use Rattle.plan.specs.declared.HostOp.{HostOp}
use Rattle.model.specs.declared.Rule.{Rule}
use Rattle.plan.specs.declared.Planned.{Planned}
use Rattle.plan.specs.declared.HostPlan.{HostPlan}
use Rattle.plan.specs.Planned.{none_decides, Plans}
use Rattle.plan.specs.Told.{none, refusal_of}

abbrev pub operation_of : Step → HostOp
operation_of Nothing = none
operation_of (Mark at v) = record { kind = 1; at = at; from = v; len = 1 }
operation_of (Erase first count) = record { kind = 2; at = first; from = 0; len = count }
operation_of (Program at from len) = record { kind = 3; at = at; from = from; len = len }
operation_of (Header at from) = record { kind = 4; at = at; from = from; len = header_size_def }

unfoldable pub operations_of : List Step → List HostOp
operations_of steps = map operation_of steps

-- *what was planned, in numbers*: rule 0 with its operations, or the rule that the call breaks
unfoldable pub in_numbers_def : Result Planned Rule → HostPlan
in_numbers_def (Ok p) = record { rule = 0; deciding = unwrap_or p.deciding none_decides; ops = operations_of p.plan }
in_numbers_def (Err rule) = refusal_of rule

-- *every number is one of operations that were planned for this call*: so kind and length are as `operation_of` has them, each operation lies within content and
-- image, each mark clears one bit of what then stands there, and the one that decides is a mark
pub record Numbered (plan : set.Plan) (img before content : List ℕ) (h : HostPlan) : Type 0 where
  pub planned : Result Planned Rule
  pub plans : Plans plan img before content planned
  pub same : h ≡ in_numbers_def planned
