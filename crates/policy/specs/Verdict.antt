-- The verdicts of which one is wanted.
use Rattle.std.specs.Prelude.{ℕ, List, [], ◌∷◌}
use Rattle.model.specs.Request.{by_pk, by_kek}
use Rattle.policy.specs.declared.Wanted.{Wanted}
use Rattle.policy.specs.declared.Wanted.TheVariants.{Free, One, Either}

-- none, one, or one of PK and KEK
abbrev pub verdicts_of : Wanted → List ℕ
verdicts_of Free = []
verdicts_of (One v) = v ∷ []
verdicts_of Either = by_pk ∷ by_kek ∷ []
