-- A profile as a whole: the number of its items, and these.
-- Assumes nothing.
use Prim.Native.Nat.{ℕ, ◌≤◌, ◌<◌}
use mathlib.Core.Path.{◌≡◌}
use mathlib.Core.Bool.{true, false}
use mathlib.Core.List.{List}
use mathlib.Core.Option as math
use Rattle.std.specs.Prelude.{Some, None}
use lib.ListN.{drop}
use borrow.Author.Tests.{le-leb, lt-leb}
use Rattle.model.specs.Profile.{number_at, items_at, profile_of, items_in}
use Rattle.model.specs.Rules.{rule25}
use Rattle.profile.specs.declared.Numeral.{Numeral}
use Rattle.profile.specs.declared.Settings.{Settings}
use Rattle.profile.specs.Reader.{number_of, requests_in, Reads}

module _ (s : List ℕ) where
  pub no-count : number_of s None ≡ number_at (drop 0 s) → profile_of s ≡ math.none
  unfolding profile_of number_of
  no-count e = rw (← e)

  module _ (n : Numeral) (e : number_of s (Some n) ≡ number_at (drop 0 s)) where
    pub more-than-eight : 8 < n.value → profile_of s ≡ math.none
    unfolding profile_of number_of
    more-than-eight h = rw (← e, lt-leb n.value 8 h)

    pub all-items : n.value ≤ 8 → items_at n.value (drop n.next s) ≡ profile_of s
    unfolding profile_of number_of
    all-items h = rw (← e, le-leb n.value 8 h)

-- ---- what was read of a file, for the rules

-- rule 25
pub read-no-form : (file : List ℕ) → Reads file None → rule25 file ≡ true
unfolding rule25
read-no-form file r = rw (← r)

module _ {file : List ℕ} {p : Settings} (r : Reads file (Some p)) where
  pub read-form : rule25 file ≡ false
  unfolding rule25
  read-form = rw (← r.same)

  -- its items
  pub read-items : items_in file ≡ requests_in file p
  unfolding items_in
  read-items = rw (← r.same)
