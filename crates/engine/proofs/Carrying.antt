-- How a call ends that was planned and carried out.
-- Assumes nothing.
use Prim.Native.Nat.{ℕ}
use mathlib.Core.Path.{◌≡◌, ap, ◌∙◌}
use mathlib.Core.List.{List}
use Rattle.model.specs.declared.Context.{Context}
use Rattle.model.specs.Set.{Plan}
use Rattle.model.specs.Answers.{Outcome, outcome, image_after}

-- what was planned is what the definitions plan
pub planned-end : (x : Context) (img : List ℕ) {p q : Plan} → p ≡ q → {o : Outcome} {img' : List ℕ} → (o ≡ outcome x p img) × (img' ≡ image_after x p img)
    → (o ≡ outcome x q img) × (img' ≡ image_after x q img)
planned-end x img e h = (h.0 ∙ ap (λ (r : Plan). outcome x r img) e, h.1 ∙ ap (λ (r : Plan). image_after x r img) e)
