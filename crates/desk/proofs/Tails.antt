-- Where a walk ends: at an entry, where the walk from the next offset on does.
-- Assumes nothing.
use Prim.Native.Nat.{ℕ}
use mathlib.Core.Path.{◌≡◌, ap, ◌∙◌}
use mathlib.Core.List.{List}
use Rattle.model.specs.declared.Layout.{Layout}
use Rattle.model.specs.Walk.{walk_end_def}
use Rattle.model.specs.Beside.{from_in}
use Rattle.layout.specs.declared.Entry as numbers
use Rattle.region.proofs.Turns.{Turned}

pub tail-next : {y : Layout} {r : List ℕ} {at : ℕ} {e : numbers.Entry} {k : ℕ} → Turned y r at e k → walk_end_def at (from_in y r at) ≡ walk_end_def k (from_in y r k)
unfolding walk_end_def
tail-next {y} {r} {at} {k = k} t = ap (walk_end_def at) t.walk ∙ ap (λ (n : ℕ). walk_end_def n (from_in y r k)) t.next
