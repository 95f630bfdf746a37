-- One more lock in place: the stores of its place, its size and the count are each within one field, so every other field is as it was.
-- Assumes nothing.
use Prim.Native.Nat.{ℕ, zero, suc, ◌+◌, ◌*◌, ◌-◌, ◌≤◌, ◌<◌}
use native.Mathlib.Omega.{arith}
use native.Mathlib.Nat.{add-zero, zero-add, le_of_suc-le-suc}
use mathlib.Core.Path.{◌≡◌, refl, sym, ap, ◌∙◌}
use mathlib.Core.List.{List, ◌∷◌, ◌++◌, map}
use lib.ListN.{length, drop, set, replicate, length-append, length-take, length-drop, length-replicate}
use lib.Seq.{sets, sets-eq, length-sets}
use Rattle.model.specs.Lists.{part, range, overlay, u32_at, numbers_at}
use Rattle.model.specs.Name.{Key}
use Rattle.model.specs.Session.{place_bytes, with_lock_def}
use Rattle.model.specs.Lent.{setup_of, session_of}
use Rattle.session.specs.Written.{number_bytes, enlisted}
use Rattle.session.proofs.Stored.{part-before, part-after, part-there, number-before, number-after, number-there}

-- one number of many is another
map_same : (f g : ℕ → ℕ) (from n : ℕ) → ((i : ℕ) → i < n → f (from + i) ≡ g (from + i)) → map f (range from n) ≡ map g (range from n)
map_same f g from zero h = refl
map_same f g from (suc n) h =
    let first : f from ≡ g from = ap f (sym (add-zero from)) ∙ h 0 (omega arith) ∙ ap g (add-zero from) in
    ap (λ (x : ℕ). x ∷ map f (range (from + 1) n)) first ∙ ap (λ (r : List ℕ). g from ∷ r) (map_same f g (from + 1) n (λ i l. shifted i l))
  where
    shifted : (i : ℕ) → i < n → f (from + 1 + i) ≡ g (from + 1 + i)
    shifted i l = let s : from + 1 + i ≡ from + suc i = omega arith in ap f s ∙ h (suc i) (omega arith) ∙ ap g (sym s)

map-but-one : (f g : ℕ → ℕ) (from n p v : ℕ) → p < n → f (from + p) ≡ v
    → ((i : ℕ) → i < p → f (from + i) ≡ g (from + i)) → ((i : ℕ) → p < i → i < n → f (from + i) ≡ g (from + i))
    → map f (range from n) ≡ set (map g (range from n)) p v
map-but-one f g from zero p v h e before after = absurd (omega arith)
map-but-one f g from (suc n) zero v h e before after =
    let first : f from ≡ v = ap f (sym (add-zero from)) ∙ e in
    ap (λ (x : ℕ). x ∷ map f (range (from + 1) n)) first ∙ ap (λ (r : List ℕ). v ∷ r) (map_same f g (from + 1) n (λ i l. shifted i l))
  where
    shifted : (i : ℕ) → i < n → f (from + 1 + i) ≡ g (from + 1 + i)
    shifted i l = let s : from + 1 + i ≡ from + suc i = omega arith in ap f s ∙ after (suc i) (omega arith) (omega arith) ∙ ap g (sym s)
map-but-one f g from (suc n) (suc p) v h e before after =
    let first : f from ≡ g from = ap f (sym (add-zero from)) ∙ before 0 (omega arith) ∙ ap g (add-zero from) in
    let s : from + 1 + p ≡ from + suc p = omega arith in
    ap (λ (x : ℕ). x ∷ map f (range (from + 1) n)) first
    ∙ ap (λ (r : List ℕ). g from ∷ r) (map-but-one f g (from + 1) n p v (le_of_suc-le-suc h) (ap f s ∙ e) (λ i l. sooner i l) (λ i l m. later i l m))
  where
    sooner : (i : ℕ) → i < p → f (from + 1 + i) ≡ g (from + 1 + i)
    sooner i l = let s : from + 1 + i ≡ from + suc i = omega arith in ap f s ∙ before (suc i) (omega arith) ∙ ap g (sym s)

    later : (i : ℕ) → p < i → i < n → f (from + 1 + i) ≡ g (from + 1 + i)
    later i l m = let s : from + 1 + i ≡ from + suc i = omega arith in ap f s ∙ after (suc i) (omega arith) (omega arith) ∙ ap g (sym s)

-- ---- one more lock

module _ (b : List ℕ) (long : length b ≡ 9332) (k : Key) (fits : length k.name ≤ 128) (guid : length k.vendor ≡ 16) (p : ℕ) (free : p < 16) where
  place-long : length (place_bytes k) ≡ 144
  unfolding place_bytes
  place-long =
      let zeros : List ℕ = replicate (128 - length k.name) 0 in
      let z : length zeros ≡ 128 - length k.name = length-replicate {A = ℕ} (128 - length k.name) 0 in
      let one = length-append k.name zeros in
      let two = length-append (k.name ++ zeros) k.vendor in
      omega (arith, z, one, two, fits, guid)

  abbrev placed : List ℕ
  placed = sets b (7028 + 144 * p) (place_bytes k)

  abbrev sized : List ℕ
  sized = sets placed (6964 + 4 * p) (number_bytes (length k.name))

  abbrev counted : List ℕ
  counted = sets sized 6960 (number_bytes (p + 1))

  sized-long : length sized ≡ 9332
  sized-long = length-sets placed (6964 + 4 * p) (number_bytes (length k.name)) ∙ length-sets b (7028 + 144 * p) (place_bytes k) ∙ long

  front-number : (i : ℕ) → i + 4 ≤ 6960 → u32_at counted i ≡ u32_at b i
  front-number i h =
      number-before sized (number_bytes (p + 1)) 6960 i h ∙ number-before placed (number_bytes (length k.name)) (6964 + 4 * p) i (omega arith)
      ∙ number-before b (place_bytes k) (7028 + 144 * p) i (omega arith)

  front-part : (i n : ℕ) → i + n ≤ 6960 → part i n counted ≡ part i n b
  front-part i n h =
      part-before sized (number_bytes (p + 1)) 6960 i n h ∙ part-before placed (number_bytes (length k.name)) (6964 + 4 * p) i n (omega arith)
      ∙ part-before b (place_bytes k) (7028 + 144 * p) i n (omega arith)

  new-count : u32_at counted 6960 ≡ p + 1
  new-count = let l = sized-long in number-there sized 6960 (p + 1) (omega (arith, l))

  new-size : u32_at counted (6964 + 4 * p) ≡ length k.name
  new-size =
      let l : length placed ≡ 9332 = length-sets b (7028 + 144 * p) (place_bytes k) ∙ long in
      number-after sized (number_bytes (p + 1)) 6960 (6964 + 4 * p) (omega arith) ∙ number-there placed (6964 + 4 * p) (length k.name) (omega (arith, l))

  old-size-before : (i : ℕ) → i < p → u32_at counted (6964 + 4 * i) ≡ u32_at b (6964 + 4 * i)
  old-size-before i h =
      number-after sized (number_bytes (p + 1)) 6960 (6964 + 4 * i) (omega arith)
      ∙ number-before placed (number_bytes (length k.name)) (6964 + 4 * p) (6964 + 4 * i) (omega arith)
      ∙ number-before b (place_bytes k) (7028 + 144 * p) (6964 + 4 * i) (omega arith)

  old-size-after : (i : ℕ) → p < i → i < 16 → u32_at counted (6964 + 4 * i) ≡ u32_at b (6964 + 4 * i)
  old-size-after i h l =
      number-after sized (number_bytes (p + 1)) 6960 (6964 + 4 * i) (omega arith)
      ∙ number-after placed (number_bytes (length k.name)) (6964 + 4 * p) (6964 + 4 * i) (omega arith)
      ∙ number-before b (place_bytes k) (7028 + 144 * p) (6964 + 4 * i) (omega arith)

  new-sizes : numbers_at counted 6964 16 ≡ set (numbers_at b 6964 16) p (length k.name)
  unfolding numbers_at
  new-sizes =
      map-but-one (λ i. u32_at counted (6964 + 4 * i)) (λ i. u32_at b (6964 + 4 * i)) 0 16 p (length k.name) free
      (ap (λ (i : ℕ). u32_at counted (6964 + 4 * i)) (zero-add p) ∙ new-size)
      (λ i h. ap (λ (j : ℕ). u32_at counted (6964 + 4 * j)) (zero-add i) ∙ old-size-before i h ∙ ap (λ (j : ℕ). u32_at b (6964 + 4 * j)) (sym (zero-add i)))
      (λ i h l. ap (λ (j : ℕ). u32_at counted (6964 + 4 * j)) (zero-add i) ∙ old-size-after i h l ∙ ap (λ (j : ℕ). u32_at b (6964 + 4 * j)) (sym (zero-add i)))

  new-locks : part 7028 2304 counted ≡ overlay (144 * p) (place_bytes k) (part 7028 2304 b)
  new-locks =
      let d = length-drop 7028 b in
      let t = length-take 2304 (drop 7028 b) in
      let m = place-long in
      part-after sized (number_bytes (p + 1)) 6960 7028 2304 (omega arith) ∙ part-after placed (number_bytes (length k.name)) (6964 + 4 * p) 7028 2304 (omega arith)
      ∙ part-there b (place_bytes k) 7028 (144 * p) 2304 (omega (arith, m)) ∙ sets-eq (place_bytes k) (part 7028 2304 b) (144 * p) (omega (arith, d, t, m, long))

  pub listed : u32_at b 6960 ≡ p → session_of (enlisted b p k) ≡ with_lock_def (session_of b) k
  unfolding session_of setup_of with_lock_def enlisted
  listed e =
      (λ i. record {
        phase = front-number 0 (omega arith) i;
        setup = record {
          custom = front-number 4 (omega arith) i;
          reserve = front-number 8 (omega arith) i;
          records = front-number 12 (omega arith) i;
          share = front-number 16 (omega arith) i;
          modem = record { share = front-number 20 (omega arith) i; reserve = front-number 24 (omega arith) i; vendor = front-part 28 16 (omega arith) i };
          rules = front-number 44 (omega arith) i;
          limits = front-part 48 6912 (omega arith) i;
        };
        count = (new-count ∙ ap (λ (n : ℕ). n + 1) (sym e)) i;
        sizes = (new-sizes ∙ ap (λ (n : ℕ). set (numbers_at b 6964 16) n (length k.name)) (sym e)) i;
        locks = (new-locks ∙ ap (λ (n : ℕ). overlay (144 * n) (place_bytes k) (part 7028 2304 b)) (sym e)) i;
      })
