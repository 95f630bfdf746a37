-- The items of an array from one on, of which so many count: it, and those after it.
-- Assumes nothing.
use Prim.Native.Nat.{ℕ, suc, ◌+◌, ◌≤◌, ◌<◌}
use native.Mathlib.Omega.{arith}
use native.Mathlib.Numerals.{add-one}
use mathlib.Core.Path.{◌≡◌, ap, ◌∙◌}
use mathlib.Core.List.{List, [], ◌∷◌}
use lib.ListN.{length, take, drop, get_or, drop_of_length-le}
use lib.Seq.{drop-cons, get_or-take, length-take-le}
use Rattle.profile.specs.declared.Setting.{Setting}
use Rattle.profile.specs.Reader.{no_setting}

module _ (list : List Setting) (count : ℕ) (eight : length list ≡ 8) (few : count ≤ 8) where
  long : length (take count list) ≡ count
  long = length-take-le count list (omega arith)

  pub from-item : (j : ℕ) → j < count → drop j (take count list) ≡ get_or list j no_setting ∷ drop (j + 1) (take count list)
  from-item j h =
      let n = long in
      rw (add-one j)
      (drop-cons (take count list) j no_setting (omega arith) ∙ ap (λ (t : Setting). t ∷ drop (suc j) (take count list)) (get_or-take count list j no_setting h))

  pub none_left : (j : ℕ) → count ≤ j → drop j (take count list) ≡ []
  none_left j h =
      let n = long in
      let l : length (take count list) ≤ j = omega arith in
      drop_of_length-le (take count list) l
