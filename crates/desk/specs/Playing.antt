-- What was played of a call or a step, by what the code gives back of it.
use Rattle.std.specs.Prelude.{ℕ, ◌+◌, ◌^◌, ◌≤◌, ◌<◌, ◌≡◌, Result, Ok, Err, List, length}
use Rattle.model.specs.declared.Answer.{Answer}
use Rattle.model.specs.declared.Answer.TheVariants.{Done, Stopped, Refused}
use Rattle.model.specs.Set.{Plan}
use Rattle.model.specs.Answers.{answer_of, stores_of}
use Rattle.model.specs.declared.Rule.{Rule}
use Rattle.plan.specs.declared.Step as plan
use Rattle.plan.specs.declared.Planned.{Planned}
use Rattle.plan.specs.Planned.{nothings}
use Rattle.output.specs.Text.{Wrote}
use Rattle.desk.specs.declared.Played.{Played}
use Rattle.desk.specs.declared.Lined.{Lined}
use Rattle.desk.specs.Script.{Step}
use Rattle.desk.specs.Season as season
use Rattle.desk.specs.Erasing.{erased_in}

-- the operations of what was planned: none of a call that is refused
abbrev pub operations_of : Result Planned Rule → List plan.Step
operations_of (Ok p) = p.plan
operations_of (Err rule) = nothings

-- what a call made of a plan's operations with n, by its answer: all of its stores, the first n, or none
abbrev pub counted_as : Answer → List plan.Step → ℕ → Played
counted_as (Done stores) ops n = record { answer = Done stores; stores = stores; erases = erased_in stores ops }
counted_as Stopped ops n = record { answer = Stopped; stores = n; erases = erased_in n ops }
counted_as (Refused rule) ops n = record { answer = Refused rule; stores = 0; erases = 0 }

-- answer, image, stores and erases are those of the definition, and there are few of them
pub record Plays (most : ℕ) (p : season.Played) (r : Played) (after : List ℕ) : Type 0 where
  pub answer : answer_of r.answer ≡ p.answer
  pub image : after ≡ p.image
  pub stores : r.stores ≡ p.stores
  pub erases : r.erases ≡ p.erases
  pub few : r.stores < most
  pub fewer : r.erases ≤ r.stores

-- so of a plan with n, whose list is short
pub record PlaysUpTo (n : ℕ) (plan : Plan) (img after : List ℕ) (r : Played) : Type 0 where
  pub plays : Plays (2 ^ 20) (season.played n plan img) r after
  pub short : length (stores_of 1 plan) < 2 ^ 20

-- and of a step after so many erases, with its line
pub record Steps (b : ℕ) (t : Step) (before : ℕ) (img after : List ℕ) (at : ℕ) (out out' : List ℕ) (r : Lined) : Type 0 where
  pub image : after ≡ (season.step_played b t img).image
  pub erases : r.erases ≡ before + (season.step_played b t img).erases
  pub line : Wrote (season.line_of before (season.step_played b t img)) at out out' r.next
  pub few : r.erases < before + 2 ^ 21
  pub short : r.next ≤ at + 92
