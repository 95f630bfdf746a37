-- `engine::many::tell` meets its contract: four stores write four numbers. Assumes nothing.
use Prim.Native.Nat.{ℕ, ◌*◌}
use native.Mathlib.Omega.{arith}
use mathlib.Core.Path.{ap, ◌∙◌}
use mathlib.Core.List.{[], ◌∷◌}
use lib.ListN.{length-set}
use lib.Seq.{sets}
use Rattle.engine.proofs.Several.{told-four}
use Rattle.engine.proofs.many.tell.Goals as goal

pub bounds-told-at-2 : goal.bounds-told-at-2
bounds-told-at-2 c = simp length-set (omega arith)

pub bounds-told-at-3 : goal.bounds-told-at-3
bounds-told-at-3 c = simp length-set (omega arith)

pub bounds-told-at-4 : goal.bounds-told-at-4
bounds-told-at-4 c = simp length-set (omega arith)

pub returns : goal.returns
returns c =
    let a = c.args in
    told-four a.told.now (4 * a.k) c.rule_told.result a.g.size a.g.attributes a.g.needed
    ∙ ap (λ (n : ℕ). sets a.told.now (4 * a.k) (n ∷ a.g.size ∷ a.g.attributes ∷ a.g.needed ∷ [])) c.rule_told.ensures
