-- Items that are compared one after another: an item, and those after it.
-- Assumes nothing.
use Prim.Native.Nat.{ℕ, zero, suc, ◌+◌, ◌-◌, ◌≤◌, ◌<◌}
use native.Mathlib.Omega.{arith}
use mathlib.Core.Path.{◌≡◌, refl, sym, ap}
use mathlib.Core.Bool.{Bool, false, ◌||◌}
use mathlib.Core.List.{List, [], ◌∷◌, map}
use Rattle.std.specs.List.{list_any, slice_range, range_with_len}
use Rattle.std.proofs.lemmas.List.{drop-take}
use lib.ListN.{length, take, drop, get_or}
use Rattle.model.specs.Lists.{any}
use Rattle.model.specs.Name.{same_key_def}
use Rattle.model.specs.Request.{Request, request_key}
use Rattle.model.specs.Profile.{shares_name_def}
use Rattle.profile.specs.declared.Setting.{Setting}
use Rattle.profile.specs.Reader.{request_in, no_setting}
use Rattle.profile.proofs.Listed.{from-item, none_left}

-- an item is of the name and GUID of another
abbrev pub alike : List ℕ → Setting → Request → Bool
alike file t q = same_key_def (request_key q) (request_key (request_in file t))

-- one of those after the i-th is
abbrev pub recurs_in : List ℕ → List Setting → ℕ → ℕ → Bool
recurs_in file list count i = list_any (λ t. alike file (get_or list i no_setting) (request_in file t)) (slice_range list (i + 1) count)

-- two of those from the i-th on share theirs
abbrev pub shares_from : List ℕ → List Setting → ℕ → ℕ → Bool
shares_from file list count i = shares_name_def (map (request_in file) (drop i (take count list)))

pub from_first : (file : List ℕ) (list : List Setting) (count : ℕ) → shares_name_def (map (request_in file) (take count list)) ≡ shares_from file list count 0
from_first file list count = refl

any-of : (f : Request → Bool) (file : List ℕ) (l : List Setting) → list_any (λ t. f (request_in file t)) l ≡ any f (map (request_in file) l)
any-of f file [] = refl
any-of f file (t ∷ l) = rw (any-of f file l)

module _ (file : List ℕ) (list : List Setting) (count : ℕ) (eight : length list ≡ 8) (few : count ≤ 8) (i : ℕ) where
  shares-split : i < count → shares_from file list count i ≡ recurs_in file list count i || shares_from file list count (i + 1)
  unfolding shares_name_def
  shares-split h =
      let n : (i + 1) + (count - (i + 1)) ≡ count = omega arith in
      let after : drop (i + 1) (take count list) ≡ slice_range list (i + 1) count = rw n at (drop-take (i + 1) (count - (i + 1)) list) in
      rw (any-of (alike file (get_or list i no_setting)) file (slice_range list (i + 1) count), ← after, from-item list count eight few i h)

shares-nowhere : (file : List ℕ) (list : List Setting) (count : ℕ) → length list ≡ 8 → count ≤ 8 → shares_from file list count count ≡ false
unfolding shares_name_def
shares-nowhere file list count eight few = rw (none_left list count eight few count (omega arith))

-- those from the i-th on, searched one after another
pub shares-searched : (file : List ℕ) (list : List Setting) (count : ℕ) → length list ≡ 8 → count ≤ 8 → (n i : ℕ) → i + n ≡ count
    → list_any (λ j. recurs_in file list count j) (range_with_len i n) ≡ shares_from file list count i
shares-searched file list count eight few zero i e = let all : i ≡ count = omega arith in rw all (sym (shares-nowhere file list count eight few))
shares-searched file list count eight few (suc n) i e =
    rw (shares-split file list count eight few i (omega arith)) (ap (λ (b : Bool). recurs_in file list count i || b) (shares-searched file list count eight few n (i + 1) (omega arith)))
