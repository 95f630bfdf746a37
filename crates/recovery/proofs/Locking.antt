-- The lock list of a session of a start-up: one more lock locks its own name and no other, the places before it stay, and it is one more of its side's.
-- Assumes nothing.
use Prim.Native.Nat.{ℕ, zero, suc, ◌+◌, ◌*◌, ◌-◌, ◌≤◌, ◌<◌}
use native.Mathlib.Omega.{arith}
use native.Mathlib.Numerals.{add-one}
use native.Mathlib.Nat.{add-zero, zero-add}
use mathlib.Core.Path.{◌≡◌, refl, sym, ap, ap₂, ◌∙◌}
use mathlib.Core.Bool.{Bool, true, false, cond, ◌&&◌, ◌||◌, or-false, or_assoc}
use mathlib.Core.List.{List, [], ◌∷◌, ◌++◌, append_assoc}
use lib.ListN.{length, take, drop, get_or, set, replicate, length-take, length-drop, length-append, length-replicate, length-set, take-append-drop}
use lib.Seq.{take_at, drop_at, take-append-le, drop-append-le, get_or-set_same, get_or-set_other}
use lib.Dec.{eqb}
use borrow.Author.Tests.{eqb-true, eqb-false}
use Rattle.model.specs.declared.Setup.{Setup}
use Rattle.model.specs.declared.Session.{Session}
use Rattle.model.specs.Lists.{part, range, any, keep}
use Rattle.model.specs.Name.{Key, same_key_def, well_named}
use Rattle.model.specs.Session.{counted_locks, lock_at, locked, place_bytes, with_lock_def, no_sizes_def, no_locks_def, fresh_session}
use Rattle.model.specs.Sides.{owns, locks_of_def}
use Rattle.model.proofs.Segments.{length-overlay}

part_left : (f n : ℕ) (a b : List ℕ) → f + n ≤ length a → part f n (a ++ b) ≡ part f n a
part_left f n a b h =
    let l = length-drop f a in
    ap (take n) (drop-append-le f a b (omega arith)) ∙ take-append-le n (drop f a) b (omega arith)

part-front : (f n at : ℕ) (s : List ℕ) → f + n ≤ at → at ≤ length s → part f n (take at s) ≡ part f n s
part-front f n at s h k =
    let l = length-take at s in
    sym (part_left f n (take at s) (drop at s) (omega arith)) ∙ ap (part f n) (take-append-drop at s)

part-behind : (f n : ℕ) (a b c : List ℕ) → length a ≡ f → length b ≡ n → part f n (a ++ b ++ c) ≡ b
part-behind f n a b c l m = ap (take n) (ap (drop f) (append_assoc a b c) ∙ drop_at a (b ++ c) f l) ∙ take_at b c n m

abbrev holds_at : Session → Key → ℕ → Bool
holds_at s k i = well_named (lock_at s i).name && same_key_def (lock_at s i) k

any-suc : (f : ℕ → Bool) (from n : ℕ) → any f (range from (suc n)) ≡ (any f (range from n) || f (from + n))
any-suc f from zero = rw (add-zero from) (or-false (f from))
any-suc f from (suc n) = ap (λ (b : Bool). f from || b) (any-suc f (from + 1) n) ∙ sym (or_assoc (f from) (any f (range (from + 1) n)) (f (from + 1 + n))) ∙ ap (λ (m : ℕ). (f from || any f (range (from + 1) n)) || f m) shift
  where
    shift : from + 1 + n ≡ from + suc n
    shift = omega arith

any_same : (f g : ℕ → Bool) (from n : ℕ) → ((i : ℕ) → from ≤ i → i < from + n → f i ≡ g i) → any f (range from n) ≡ any g (range from n)
any_same f g from zero h = refl
any_same f g from (suc n) h = ap₂ (λ (x y : Bool). x || y) (h from (omega arith) (omega arith)) (any_same f g (from + 1) n (λ i l m. h i (omega arith) (omega arith)))

keep_same : (f g : ℕ → Bool) (from n : ℕ) → ((i : ℕ) → from ≤ i → i < from + n → f i ≡ g i) → keep f (range from n) ≡ keep g (range from n)
keep_same f g from zero h = refl
keep_same f g from (suc n) h =
    ap₂ (λ (b : Bool) (l : List ℕ). cond b (from ∷ l) l) (h from (omega arith) (omega arith)) (keep_same f g (from + 1) n (λ i l m. h i (omega arith) (omega arith)))

count-suc : (f : ℕ → Bool) (from n : ℕ) → length (keep f (range from (suc n))) ≡ length (keep f (range from n)) + cond (f (from + n)) 1 0
count-suc f from zero = rw (add-zero from) (go (f from))
  where
    go : (t : Bool) → length (cond t (from ∷ []) []) ≡ 0 + cond t 1 0
    go true = refl
    go false = refl
count-suc f from (suc n) = go (f from) (count-suc f (from + 1) n)
  where
    shift : from + 1 + n ≡ from + suc n
    shift = omega arith

    go : (t : Bool) → length (keep f (range (from + 1) (suc n))) ≡ length (keep f (range (from + 1) n)) + cond (f (from + 1 + n)) 1 0
        → length (cond t (from ∷ keep f (range (from + 1) (suc n))) (keep f (range (from + 1) (suc n))))
        ≡ length (cond t (from ∷ keep f (range (from + 1) n)) (keep f (range (from + 1) n))) + cond (f (from + suc n)) 1 0
    go true i = let e = i ∙ ap (λ (k : ℕ). length (keep f (range (from + 1) n)) + cond (f k) 1 0) shift in omega (arith, e)
    go false i = i ∙ ap (λ (k : ℕ). length (keep f (range (from + 1) n)) + cond (f k) 1 0) shift

-- a lock list as a session of a start-up has it
pub record Listed (s : Session) : Type 0 where
  pub sizes-long : length s.sizes ≡ 16
  pub locks-long : length s.locks ≡ 2304
  pub few : s.count ≤ 16
  pub short : (i : ℕ) → i < s.count → get_or s.sizes i 0 ≤ 128

module _ (s : Session) (j : Key) (h : Listed s) (free : s.count < 16) (named : length j.name ≤ 128) (guid : length j.vendor ≡ 16) where
  abbrev c : ℕ
  c = s.count

  place-length : length (place_bytes j) ≡ 144
  unfolding place_bytes
  place-length =
      length-append (j.name ++ replicate (128 - length j.name) 0) j.vendor
      ∙ ap (λ (n : ℕ). n + length j.vendor) (length-append j.name (replicate (128 - length j.name) 0))
      ∙ ap (λ (n : ℕ). length j.name + n + length j.vendor) (length-replicate (128 - length j.name) 0)
      ∙ sums
    where
      sums : length j.name + (128 - length j.name) + length j.vendor ≡ 144
      sums = omega arith

  front_length : length (take (144 * c) s.locks) ≡ 144 * c
  front_length = let l = length-take (144 * c) s.locks in omega (arith, h.locks-long)

  -- an earlier place stays
  kept-part : (f n : ℕ) → f + n ≤ 144 * c → part f n (with_lock_def s j).locks ≡ part f n s.locks
  unfolding with_lock_def
  kept-part f n l =
      let a = take (144 * c) s.locks in
      let e = front_length in
      let g = length-append a (place_bytes j) in
      part_left f n (a ++ place_bytes j) (drop (144 * c + length (place_bytes j)) s.locks) (omega arith)
      ∙ part_left f n a (place_bytes j) (omega arith)
      ∙ part-front f n (144 * c) s.locks l (omega (arith, h.locks-long))

  pub place_kept : (i : ℕ) → i < c → lock_at (with_lock_def s j) i ≡ lock_at s i
  unfolding lock_at with_lock_def
  place_kept i l =
      let size : get_or (set s.sizes c (length j.name)) i 0 ≡ get_or s.sizes i 0 = get_or-set_other s.sizes c i (length j.name) 0 (λ e. let z : i ≡ c = e in omega arith) in
      let short = h.short i l in
      ap₂ (λ (a b : List ℕ). record { name = a; vendor = b })
      (ap (λ (n : ℕ). part (144 * i) n (with_lock_def s j).locks) size ∙ kept-part (144 * i) (get_or s.sizes i 0) (omega arith))
      (kept-part (144 * i + 128) 16 (omega arith))

  size-new : get_or (with_lock_def s j).sizes c 0 ≡ length j.name
  unfolding with_lock_def
  size-new = get_or-set_same s.sizes c (length j.name) 0 (omega (arith, h.sizes-long))

  count-more : counted_locks (with_lock_def s j) ≡ counted_locks s + 1
  unfolding with_lock_def
  count-more = omega arith

  -- the new place holds the name
  laid : (with_lock_def s j).locks ≡ take (144 * c) s.locks ++ (j.name ++ replicate (128 - length j.name) 0 ++ j.vendor) ++ drop (144 * c + length (place_bytes j)) s.locks
  unfolding with_lock_def place_bytes
  laid = refl

  pub place-new : lock_at (with_lock_def s j) c ≡ j
  unfolding lock_at
  place-new =
      let n = length j.name in
      let pad : List ℕ = replicate (128 - n) 0 in
      let a = take (144 * c) s.locks in
      let z = drop (144 * c + length (place_bytes j)) s.locks in
      let size : get_or (with_lock_def s j).sizes c 0 ≡ n = size-new in
      let whole : (with_lock_def s j).locks ≡ a ++ j.name ++ (pad ++ (j.vendor ++ z)) = laid ∙ simp append_assoc in
      let whole' : (with_lock_def s j).locks ≡ (a ++ j.name ++ pad) ++ j.vendor ++ z = laid ∙ simp append_assoc in
      let long : length (a ++ j.name ++ pad) ≡ 144 * c + 128 =
      length-append (a ++ j.name) pad ∙ ap₂ (λ (x y : ℕ). x + y) (length-append a j.name ∙ ap (λ (x : ℕ). x + n) front_length) (length-replicate (128 - n) 0) ∙ (omega arith) in
      ap₂ (λ (x y : List ℕ). record { name = x; vendor = y })
      (ap (λ (m : ℕ). part (144 * c) m (with_lock_def s j).locks) size ∙ ap (part (144 * c) n) whole ∙ part-behind (144 * c) n a j.name (pad ++ (j.vendor ++ z)) front_length refl)
      (ap (part (144 * c + 128) 16) whole' ∙ part-behind (144 * c + 128) 16 (a ++ j.name ++ pad) j.vendor z long guid)

  -- so it locks that name and no other
  any_last : (f : ℕ → Bool) (from n : ℕ) → any f (range from (n + 1)) ≡ (any f (range from n) || f (from + n))
  any_last f from n = rw (add-one n) (go f from n)
    where
      go : (f : ℕ → Bool) (from n : ℕ) → any f (range from (suc n)) ≡ (any f (range from n) || f (from + n))
      go f from n = any-suc f from n

  pub lock-more : well_named j.name ≡ true → (k : Key) → locked (with_lock_def s j) k ≡ (locked s k || same_key_def j k)
  unfolding locked
  lock-more right k =
      let more : counted_locks (with_lock_def s j) ≡ counted_locks s + 1 = count-more in
      let was : counted_locks s ≡ c = omega arith in
      ap (λ (n : ℕ). any (holds_at (with_lock_def s j) k) (range 0 n)) more
      ∙ any_last (holds_at (with_lock_def s j) k) 0 (counted_locks s)
      ∙ ap₂ (λ (x y : Bool). x || y)
      (any_same (holds_at (with_lock_def s j) k) (holds_at s k) 0 (counted_locks s) (λ i l m. ap (λ (p : Key). well_named p.name && same_key_def p k) (place_kept i (omega arith))))
      (ap (λ (n : ℕ). holds_at (with_lock_def s j) k n) (zero-add (counted_locks s) ∙ was) ∙ ap (λ (p : Key). well_named p.name && same_key_def p k) place-new ∙ rw right)

  -- and is one more of the names of its side
  count-last : (f : ℕ → Bool) (from n : ℕ) → length (keep f (range from (n + 1))) ≡ length (keep f (range from n)) + cond (f (from + n)) 1 0
  count-last f from n = rw (add-one n) (count-suc f from n)

  kept-vendor : (with_lock_def s j).setup.modem.vendor ≡ s.setup.modem.vendor
  unfolding with_lock_def
  kept-vendor = refl

  pub locks-more : (m : Bool) → well_named j.name ≡ true → locks_of_def m (with_lock_def s j) ≡ locks_of_def m s + cond (owns s.setup.modem.vendor m j) 1 0
  unfolding locks_of_def
  locks-more m right =
      let more : counted_locks (with_lock_def s j) ≡ counted_locks s + 1 = count-more in
      let was : counted_locks s ≡ c = omega arith in
      let g = s.setup.modem.vendor in
      let same-setup : (with_lock_def s j).setup.modem.vendor ≡ g = kept-vendor in
      let f : Session → ℕ → Bool = λ q i. well_named (lock_at q i).name && owns g m (lock_at q i) in
      ap (λ (h : List ℕ). length (keep (λ i. well_named (lock_at (with_lock_def s j) i).name && owns h m (lock_at (with_lock_def s j) i)) (range 0 (counted_locks (with_lock_def s j))))) same-setup
      ∙ ap (λ (n : ℕ). length (keep (f (with_lock_def s j)) (range 0 n))) more
      ∙ count-last (f (with_lock_def s j)) 0 (counted_locks s)
      ∙ ap₂ (λ (x y : ℕ). x + y)
      (ap length (keep_same (f (with_lock_def s j)) (f s) 0 (counted_locks s) (λ i l h. ap (λ (p : Key). well_named p.name && owns g m p) (place_kept i (omega arith)))))
      (ap (λ (n : ℕ). cond (f (with_lock_def s j) n) 1 0) (zero-add (counted_locks s) ∙ was) ∙ ap (λ (p : Key). cond (well_named p.name && owns g m p) 1 0) place-new ∙ rw right)

  -- the list stays such a list
  pub more-listed : Listed (with_lock_def s j)
  unfolding with_lock_def
  more-listed =
      let long = place-length in
      record {
        sizes-long = length-set s.sizes c (length j.name) ∙ h.sizes-long;
        locks-long = length-overlay (144 * c) (place_bytes j) s.locks (omega (arith, h.locks-long)) ∙ h.locks-long;
        few = omega arith;
        short = shorts;
      }
    where
      shorts : (i : ℕ) → i < s.count + 1 → get_or (set s.sizes s.count (length j.name)) i 0 ≤ 128
      shorts i l = go (eqb i s.count) refl
        where
          go : (t : Bool) → eqb i s.count ≡ t → get_or (set s.sizes s.count (length j.name)) i 0 ≤ 128
          go true e =
              let same : i ≡ s.count = eqb-true i s.count e in
              let at : get_or (set s.sizes s.count (length j.name)) s.count 0 ≡ length j.name = get_or-set_same s.sizes s.count (length j.name) 0 (omega (arith, h.sizes-long)) in
              rw (same, at) named
          go false e =
              let other = eqb-false i s.count e in
              rw (get_or-set_other s.sizes s.count i (length j.name) 0 other) (h.short i (omega arith))

-- a fresh session's
pub fresh-listed : (setup : Setup) → Listed (fresh_session setup)
unfolding fresh_session no_sizes_def no_locks_def
fresh-listed setup = record {
  sizes-long = length-replicate {A = ℕ} 16 0;
  locks-long = length-replicate {A = ℕ} 2304 0;
  few = omega arith;
  short = λ i l. absurd (omega arith);
}

pub fresh-none : (setup : Setup) (m : Bool) → locks_of_def m (fresh_session setup) ≡ 0
unfolding locks_of_def fresh_session
fresh-none setup m = refl
