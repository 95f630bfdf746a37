-- Room after the tail: all values lie before it, so what fits after it fits beside the values, and what fits in the share beside all that lies before it fits there
-- beside the side's own.
-- Assumes nothing.
use Prim.Native.Nat.{ℕ, ◌+◌, ◌≤◌}
use native.Mathlib.Omega.{arith}
use mathlib.Core.Path.{◌≡◌, refl, ◌∙◌}
use mathlib.Core.Bool.{Bool, false}
use mathlib.Core.List.{List}
use mathlib.Core.Option.{none}
use lib.ListN.{length}
use borrow.Author.Tests.{le-ltb}
use Rattle.model.specs.declared.Terms.{Terms}
use Rattle.model.specs.Image.{region_header_size}
use Rattle.model.specs.Region.{tail_at}
use Rattle.model.specs.Rules.{first_broken}
use Rattle.std.specs.Prelude.{Ok, Err}
use Rattle.decision.specs.declared.Change.TheVariants.{Nothing, Remove, Put}
use Rattle.decision.specs.Decision.{Decision}
use Rattle.decision.specs.declared.Sums.{Sums}
use Rattle.decision.specs.Parts.{Found, sums_after, room_by, room_after_def, roomed_by}
use Rattle.decision.proofs.Broken.{kept_here, none_here}
use Rattle.decision.proofs.Classes.{classes-before-tail, classed-once}

-- whosever the name is
pub room-after-tail : (t : Terms) (r : List ℕ) (old : Found) (own : Bool) (size : ℕ)
    → tail_at r + size + t.reserve ≤ region_header_size + t.share → tail_at r + size ≤ length r
    → first_broken (room_after_def t r old own false size) ≡ none
unfolding room_after_def room_by sums_after
room-after-tail t r old own size h l =
    let n = classes-before-tail t.vendor t.modem r in
    let one = classed-once false own size in
    let s : Sums = sums_after t r old own false size in
    kept_here _ _ _ refl
    ∙ kept_here _ _ _ (rw (le-ltb t.share (s.own + t.reserve) (omega arith), le-ltb (length r) (region_header_size + s.records + s.own + s.others) (omega arith)))
    ∙ none_here

-- where no rule of room is broken, the decision stays
pub roomed-none : (d : Decision) → roomed_by d none ≡ d
unfolding roomed_by
roomed-none (Err rule) = refl
roomed-none (Ok Nothing) = refl
roomed-none (Ok Remove) = refl
roomed-none (Ok Put) = refl
