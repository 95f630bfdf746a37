-- An array of items that is filled one by one: those read stand before those still to be read.
-- Assumes nothing.
use Prim.Native.Nat.{ℕ, suc, ◌+◌, ◌-◌, ◌≤◌, ◌<◌}
use native.Mathlib.Omega.{arith}
use native.Mathlib.Numerals.{add-one}
use native.Mathlib.Nat.{sub-zero}
use mathlib.Core.Path.{◌≡◌, refl, sym, ap, ◌∙◌}
use mathlib.Core.Bool.{Bool, true, false}
use mathlib.Core.List.{List, [], ◌∷◌, ◌++◌, map, map-append, append_assoc, append-nil}
use mathlib.Core.Option.{Option, none, some}
use Rattle.std.specs.Prelude.{Some, None}
use lib.ListN.{length, take, drop, set, get_or, length-drop}
use lib.Seq.{drop-length, take-suc-set, get_or-set_same, get_or-set_other}
use lib.Dec.{eqb}
use borrow.Author.Tests.{eqb-true, eqb-false}
use Rattle.model.specs.Lists.{is_empty, on_some}
use Rattle.model.specs.Request.{Request}
use Rattle.model.specs.Profile.{Item, item_at, items_at}
use Rattle.profile.specs.declared.Setting.{Setting}
use Rattle.profile.specs.Reader.{request_in, item_of, Within, no_setting}

-- some items before those that follow, if they do
abbrev pub before : List Request → Option (List Request) → Option (List Request)
before xs o = on_some o (λ ys. some (xs ++ ys)) none

before-none : (o : Option (List Request)) → o ≡ before [] o
before-none none = refl
before-none (some l) = refl

before_more : (xs : List Request) (r : Request) (o : Option (List Request)) → before xs (on_some o (λ ys. some (r ∷ ys)) none) ≡ before (xs ++ (r ∷ [])) o
before_more xs r none = refl
before_more xs r (some l) = ap some (sym (append_assoc xs (r ∷ []) l))

-- what the first i of so many items, and the bytes from a place on, are
abbrev pub read_up_to : List ℕ → ℕ → List Setting → ℕ → ℕ → Option (List Request)
read_up_to s count list i at = before (map (request_in s) (take i list)) (items_at (count - i) (drop at s))

pub none_read : (s : List ℕ) (count : ℕ) (list : List Setting) (at : ℕ) → items_at count (drop at s) ≡ read_up_to s count list 0 at
none_read s count [] at = rw sub-zero (before-none (items_at count (drop at s)))
none_read s count (t ∷ l) at = rw sub-zero (before-none (items_at count (drop at s)))

-- every item up to the i-th ends within so many bytes
abbrev pub AllWithin : ℕ → List Setting → ℕ → Type 0
AllWithin size list i = (j : ℕ) → j < i → Within size (get_or list j no_setting)

module _ (s : List ℕ) (at count i : ℕ) (list : List Setting) (l : i < count) where
  abbrev rest : Option Item → Option (List Request)
  rest o = on_some o (λ t. on_some (items_at (count - (i + 1)) t.rest) (λ rs. some (t.asked ∷ rs)) none) none

  its-rest : items_at (count - i) (drop at s) ≡ rest (item_at (drop at s))
  unfolding items_at
  its-rest =
      let n : count - i ≡ suc (count - (i + 1)) = omega arith in
      rw n

  -- no item is there
  pub item-missing : item_of s None ≡ item_at (drop at s) → read_up_to s count list i at ≡ none
  unfolding item_of
  item-missing e = ap (before (map (request_in s) (take i list))) (its-rest ∙ ap rest (sym e))

  -- one more item
  pub item-more : (t : Setting) (next : ℕ) → item_of s (Some (t, next)) ≡ item_at (drop at s) → i < length list
      → read_up_to s count list i at ≡ read_up_to s count (set list i t) (i + 1) next
  unfolding item_of
  item-more t next e k =
      let xs = map (request_in s) (take i list) in
      let more : map (request_in s) (take (i + 1) (set list i t)) ≡ xs ++ (request_in s t ∷ []) =
      rw (add-one i, take-suc-set list i t k) (map-append (request_in s) (take i list) (t ∷ [])) in
      ap (before xs) (its-rest ∙ ap rest (sym e))
      ∙ before_more xs (request_in s t) (items_at (count - (i + 1)) (drop next s))
      ∙ ap (λ (l : List Request). before l (items_at (count - (i + 1)) (drop next s))) (sym more)

-- the items that are read end within the file, and so does one more
pub more_within : (size i : ℕ) (list : List Setting) (t : Setting) → i < length list → AllWithin size list i → Within size t → AllWithin size (set list i t) (i + 1)
more_within size i list t h all w j l = go (eqb j i) refl
  where
    go : (b : Bool) → eqb j i ≡ b → Within size (get_or (set list i t) j no_setting)
    go true e = rw (eqb-true j i e, get_or-set_same list i t no_setting h) w
    go false e = rw (get_or-set_other list i j t no_setting (eqb-false j i e)) (all j (let n = eqb-false j i e in omega arith))

-- ---- the answer

-- all were read, and nothing is left over
pub read_whole : (s : List ℕ) (count at : ℕ) (list : List Setting) → at ≡ length s → read_up_to s count list count at ≡ some (map (request_in s) (take count list))
unfolding items_at
read_whole s count at list e =
    let z : count - count ≡ 0 = omega arith in
    rw (z, e, drop-length s, append-nil (map (request_in s) (take count list)))

-- bytes are left over
pub read-over : (s : List ℕ) (count at : ℕ) (list : List Setting) → at ≤ length s → (at ≡ length s → ⊥) → read_up_to s count list count at ≡ none
unfolding items_at
read-over s count at list h e =
    let z : count - count ≡ 0 = omega arith in
    rw (z, some_left (drop at s) (length-drop at s))
  where
    some_left : (l : List ℕ) → length l ≡ length s - at → is_empty l ≡ false
    some_left [] k = absurd (e (omega arith))
    some_left (x ∷ l) k = refl
