-- `planner::entries::retire` meets its contract. Assumes nothing.
use mathlib.Core.Path.{◌∙◌, ap, sym, subst}
use Prim.Native.Nat.{◌^◌}
use Rattle.std.specs.Prelude.{Option}
use Rattle.region.specs.declared.Placed.{Placed}
use Rattle.planner.specs.Entries.{Below, mark_found_def, retire_step}
use Rattle.planner.proofs.EntryPlans.{standing-below}
use Rattle.planner.proofs.entries.retire.Goals as goal

pub mark_found-requires : goal.mark_found-requires
mark_found-requires c =
    subst (λ (f : Option Placed). Below (2 ^ 62) f) (sym c.standing.ensures) (standing-below (2 ^ 62) c.args.places.added c.args.places.replacing c.requires.0 c.requires.1)

pub returns : goal.returns
unfolding retire_step
returns c = c.mark_found.ensures ∙ ap (λ (f : Option Placed). mark_found_def f 0x3C) c.standing.ensures
