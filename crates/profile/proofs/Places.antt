-- Items at places of a file.
-- Assumes nothing.
use Prim.Native.Nat.{ℕ, ◌+◌, ◌≤◌, ◌<◌}
use native.Mathlib.Omega.{arith}
use mathlib.Core.Path.{◌≡◌}
use mathlib.Core.Bool.{true, false}
use mathlib.Core.List.{List}
use Rattle.std.specs.Prelude.{Option, Some, None}
use lib.ListN.{length, drop, length-drop}
use lib.Seq.{drop-drop, length-take-le}
use borrow.Author.Tests.{le-leb, lt-leb}
use Rattle.model.specs.Lists.{among, part}
use Rattle.profile.specs.declared.Numeral.{Numeral}
use Rattle.profile.specs.declared.Setting.{Setting}
use Rattle.model.specs.Profile.{number, item_attributes, item_body, item_at}
use Rattle.profile.specs.Reader.{number_of, request_in, item_of}

pub body-here : (s : List ℕ) (a name size at : ℕ) → among item_attributes a ≡ true → at + 16 + name + size ≤ length s
    → item_of s (Some (record { attributes = a; at = at; name = name; size = size }, at + 16 + name + size))
    ≡ item_body a name size (drop at s)
unfolding item_of request_in item_body
body-here s a name size at e h =
    let long : 16 + name + size ≤ length (drop at s) = rw (length-drop at s) (omega arith) in
    let i : at + (16 + name) ≡ at + 16 + name = omega arith in
    let j : at + (16 + name + size) ≡ at + 16 + name + size = omega arith in
    rw (e, le-leb (16 + name + size) (length (drop at s)) long, drop-drop 16 at s, drop-drop (16 + name) at s, drop-drop (16 + name + size) at s, i, j)

pub body-other : (s : List ℕ) (a name size at : ℕ) → among item_attributes a ≡ false → item_of s None ≡ item_body a name size (drop at s)
unfolding item_of item_body
body-other s a name size at e = rw e

pub body-short : (s : List ℕ) (a name size at : ℕ) → among item_attributes a ≡ true → at ≤ length s → length s < at + 16 + name + size → item_of s None ≡ item_body a name size (drop at s)
unfolding item_of item_body
body-short s a name size at e k h =
    let long : length (drop at s) < 16 + name + size = rw (length-drop at s) (omega arith) in
    rw (e, lt-leb (16 + name + size) (length (drop at s)) long)

-- a GUID of the file is as long as one
pub guid-long : (s : List ℕ) (at : ℕ) → at + 16 ≤ length s → length (part at 16 s) ≡ 16
guid-long s at h = length-take-le 16 (drop at s) (rw (length-drop at s) (omega arith))

-- ---- an item's numbers, each from where the one before it ends

module _ (s : List ℕ) (at : ℕ) where
  pub no-first : number_of s None ≡ number 3 (drop at s) → item_of s None ≡ item_at (drop at s)
  unfolding item_at item_of number_of
  no-first e = rw (← e)

  module _ (a : Numeral) (e : number_of s (Some a) ≡ number 3 (drop at s)) where
    pub no_second : number_of s None ≡ number 3 (drop a.next s) → item_of s None ≡ item_at (drop at s)
    unfolding item_at item_of number_of
    no_second f = rw (← e, ← f)

    module _ (n : Numeral) (f : number_of s (Some n) ≡ number 3 (drop a.next s)) where
      pub no_third : number_of s None ≡ number 3 (drop n.next s) → item_of s None ≡ item_at (drop at s)
      unfolding item_at item_of number_of
      no_third g = rw (← e, ← f, ← g)

      pub all_three : (d : Numeral) (r : Option (Setting × ℕ)) → number_of s (Some d) ≡ number 3 (drop n.next s) → item_of s r ≡ item_body a.value n.value d.value (drop d.next s)
          → item_of s r ≡ item_at (drop at s)
      unfolding item_at number_of
      all_three d r g m = rw (← e, ← f, ← g) m
