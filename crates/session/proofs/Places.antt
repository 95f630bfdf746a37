-- One place of the lock list, looked at in parts, and all that are in use.
-- Assumes nothing.
use Prim.Native.Nat.{ℕ, suc, min, ◌+◌, ◌*◌, ◌-◌, ◌≤◌, ◌<◌}
use native.Mathlib.Nat.{sub-zero}
use native.Mathlib.Omega.{arith}
use mathlib.Core.Path.{◌≡◌, refl}
use mathlib.Core.Bool.{Bool, true, false, cond, and-false}
use mathlib.Core.List.{List, ◌∷◌}
use lib.ListN.{length, get_or}
use lib.Dec.{leb}
use borrow.Author.Tests.{leb-false}
use Rattle.model.specs.declared.Session.{Session}
use Rattle.model.specs.Lists.{same, part, keep, range}
use Rattle.model.specs.Name.{Key, keyed, well_named}
use Rattle.model.specs.Session.{lock_at, locked}
use Rattle.model.specs.Sides.{owns, locks_of_def}
use Rattle.model.proofs.Tests.{or_split}
use Rattle.model.proofs.Tables.{any_from}
use Rattle.session.specs.Places.{holds, held_from, sides, count_from, full}

-- one place, looked at in parts
module _ (locks : List ℕ) (place size : ℕ) (k : Key) {l : List ℕ} (cut : l ≡ part (144 * place) size locks) where
  pub unnamed : well_named l ≡ false → holds locks place size k ≡ false
  unfolding holds
  unnamed h = rw (← cut, h)

  pub differs : same l k.name ≡ false → holds locks place size k ≡ false
  unfolding holds
  differs h = rw (← cut, h) (and-false (well_named l))

  pub by-vendor : {g : List ℕ} → g ≡ part (144 * place + 128) 16 locks → well_named l ≡ true → same l k.name ≡ true → holds locks place size k ≡ same g k.vendor
  unfolding holds
  by-vendor guid h e = rw (← cut, ← guid, h, e)

-- the places in use, as the law of tables has them
pub held-places : (sizes locks : List ℕ) (count : ℕ) (k : Key)
    → held_from sizes locks count k 0 ≡ any_from (λ j. holds locks j (get_or sizes j 0) k) (min count 16) 0
unfolding held_from any_from
held-places sizes locks count k = refl

-- a name is locked if one of all of them holds it
pub locked-held : (s : Session) (k : Key) → locked s k ≡ held_from s.sizes s.locks s.count k 0
unfolding locked lock_at holds held_from
locked-held s k = rw sub-zero

-- ---- the places of a side

module _ (guid : List ℕ) (m : Bool) (locks : List ℕ) (place size : ℕ) {l : List ℕ} (cut : l ≡ part (144 * place) size locks) where
  pub none_named : well_named l ≡ false → sides guid m locks place size ≡ false
  unfolding sides
  none_named h = rw (← cut, h)

  pub by-owner : {v : List ℕ} → v ≡ part (144 * place + 128) 16 locks → well_named l ≡ true → sides guid m locks place size ≡ owns guid m (keyed l v)
  unfolding sides
  by-owner of h = rw (← cut, ← of, h)

keep-none : (f : ℕ → Bool) (i n : ℕ) → n ≡ 0 → length (keep f (range i n)) ≡ 0
keep-none f i n e = rw e

keep-next : (f : ℕ → Bool) (i n m : ℕ) → n ≡ suc m → length (keep f (range i n)) ≡ cond (f i) 1 0 + length (keep f (range (i + 1) m))
keep-next f i n m e = rw e (go (f i))
  where
    go : (t : Bool) → length (cond t (i ∷ keep f (range (i + 1) m)) (keep f (range (i + 1) m))) ≡ cond t 1 0 + length (keep f (range (i + 1) m))
    go true = omega arith
    go false = omega arith

module _ (guid : List ℕ) (m : Bool) (sizes locks : List ℕ) (count i : ℕ) where
  pub count-end : min count 16 ≤ i → count_from guid m sizes locks count i ≡ 0
  unfolding count_from
  count-end h = keep-none (λ j. sides guid m locks j (get_or sizes j 0)) i (min count 16 - i) (omega arith)

  count-step : i < min count 16
      → count_from guid m sizes locks count i ≡ cond (sides guid m locks i (get_or sizes i 0)) 1 0 + count_from guid m sizes locks count (i + 1)
  unfolding count_from
  count-step h = keep-next (λ j. sides guid m locks j (get_or sizes j 0)) i (min count 16 - i) (min count 16 - (i + 1)) (omega arith)

  pub count-here : (b : Bool) → i < min count 16 → b ≡ sides guid m locks i (get_or sizes i 0)
      → count_from guid m sizes locks count i ≡ cond b 1 0 + count_from guid m sizes locks count (i + 1)
  count-here b h e = rw e (count-step h)

pub locks-counted : (m : Bool) (s : Session) → locks_of_def m s ≡ count_from s.setup.modem.vendor m s.sizes s.locks s.count 0
unfolding locks_of_def lock_at sides count_from
locks-counted m s = rw sub-zero

-- where a side finds a place, one is free
pub place-free : (guid : List ℕ) (m : Bool) (sizes locks : List ℕ) (count : ℕ) → full guid m sizes locks count ≡ false → count < 16
unfolding full
place-free guid m sizes locks count h =
    let few = leb-false 16 (min count 16) (or_split (leb 8 (count_from guid m sizes locks count 0)) (leb 16 (min count 16)) h).1 in omega arith
