-- A session that is renewed in place: of its bytes only the phase, custom mode and the two reserves, and those from the count of locks on are written, so every other
-- field is as it was; the count, the sizes and the lock list are zeros.
-- Assumes nothing.
use Prim.Native.Nat.{ℕ, ◌+◌, ◌*◌, ◌≤◌}
use native.Mathlib.Omega.{arith}
use mathlib.Core.Path.{◌≡◌, sym, ap, ◌∙◌, fun_ext}
use mathlib.Core.Bool.{cond}
use mathlib.Core.List.{List, map}
use lib.ListN.{length, take, drop, replicate, length-drop, length-replicate}
use lib.Seq.{sets, length-sets, drop-drop}
use Rattle.model.specs.Lists.{part, range, u32_at, numbers_at}
use Rattle.model.specs.Session.{is_yes, counted_reserve, kept, no_locks_def, no_sizes_def, fresh_session}
use Rattle.model.specs.Lent.{setup_of, session_of}
use Rattle.session.specs.Written.{number_bytes}
use Rattle.session.proofs.Stored.{drop-to, sets-all, part-before, part-after, number-before, number-after, number-there, number_past}

abbrev zeros : List ℕ
zeros = replicate 2372 0

-- by the list after each store
module _ (b : List ℕ) {p q r t w : List ℕ} (long : length b ≡ 9332)
    (phased : p ≡ sets b 0 (number_bytes 0))
    (flagged : q ≡ sets p 4 (number_bytes (cond (is_yes (u32_at p 4)) 1 0)))
    (ours : r ≡ sets q 8 (number_bytes (counted_reserve (u32_at q 8))))
    (theirs : t ≡ sets r 24 (number_bytes (counted_reserve (u32_at r 24))))
    (emptied : w ≡ sets t 6960 zeros) where
  p-long : length p ≡ 9332
  p-long = ap length phased ∙ length-sets b 0 (number_bytes 0) ∙ long

  q-long : length q ≡ 9332
  q-long = ap length flagged ∙ length-sets p 4 (number_bytes (cond (is_yes (u32_at p 4)) 1 0)) ∙ p-long

  r-long : length r ≡ 9332
  r-long = ap length ours ∙ length-sets q 8 (number_bytes (counted_reserve (u32_at q 8))) ∙ q-long

  t-long : length t ≡ 9332
  t-long = ap length theirs ∙ length-sets r 24 (number_bytes (counted_reserve (u32_at r 24))) ∙ r-long

  -- a number before what is emptied, and one before the modem's reserve
  low : (i : ℕ) → i + 4 ≤ 6960 → u32_at w i ≡ u32_at t i
  low i h = ap (λ (l : List ℕ). u32_at l i) emptied ∙ number-before t zeros 6960 i h

  lower : (i : ℕ) → i + 4 ≤ 24 → u32_at w i ≡ u32_at r i
  lower i h = low i (omega arith) ∙ ap (λ (l : List ℕ). u32_at l i) theirs ∙ number-before r (number_bytes (counted_reserve (u32_at r 24))) 24 i h

  -- what comes after our reserve is as it was, but for the modem's
  after-ours : (i : ℕ) → 12 ≤ i → u32_at r i ≡ u32_at b i
  after-ours i h =
      ap (λ (l : List ℕ). u32_at l i) ours ∙ number-after q (number_bytes (counted_reserve (u32_at q 8))) 8 i (omega arith)
      ∙ ap (λ (l : List ℕ). u32_at l i) flagged ∙ number-after p (number_bytes (cond (is_yes (u32_at p 4)) 1 0)) 4 i (omega arith)
      ∙ ap (λ (l : List ℕ). u32_at l i) phased ∙ number-after b (number_bytes 0) 0 i (omega arith)

  part_stays : (i n : ℕ) → 28 ≤ i → i + n ≤ 6960 → part i n w ≡ part i n b
  part_stays i n h m =
      ap (part i n) emptied ∙ part-before t zeros 6960 i n m
      ∙ ap (part i n) theirs ∙ part-after r (number_bytes (counted_reserve (u32_at r 24))) 24 i n (omega arith)
      ∙ ap (part i n) ours ∙ part-after q (number_bytes (counted_reserve (u32_at q 8))) 8 i n (omega arith)
      ∙ ap (part i n) flagged ∙ part-after p (number_bytes (cond (is_yes (u32_at p 4)) 1 0)) 4 i n (omega arith)
      ∙ ap (part i n) phased ∙ part-after b (number_bytes 0) 0 i n (omega arith)

  new-phase : u32_at w 0 ≡ 0
  new-phase =
      lower 0 (omega arith) ∙ ap (λ (l : List ℕ). u32_at l 0) ours ∙ number-before q (number_bytes (counted_reserve (u32_at q 8))) 8 0 (omega arith)
      ∙ ap (λ (l : List ℕ). u32_at l 0) flagged ∙ number-before p (number_bytes (cond (is_yes (u32_at p 4)) 1 0)) 4 0 (omega arith)
      ∙ ap (λ (l : List ℕ). u32_at l 0) phased ∙ number-there b 0 0 (omega (arith, long))

  new-custom : u32_at w 4 ≡ cond (is_yes (u32_at b 4)) 1 0
  new-custom =
      lower 4 (omega arith) ∙ ap (λ (l : List ℕ). u32_at l 4) ours ∙ number-before q (number_bytes (counted_reserve (u32_at q 8))) 8 4 (omega arith)
      ∙ ap (λ (l : List ℕ). u32_at l 4) flagged ∙ number-there p 4 (cond (is_yes (u32_at p 4)) 1 0) (omega (arith, p-long))
      ∙ ap (λ (n : ℕ). cond (is_yes n) 1 0) (ap (λ (l : List ℕ). u32_at l 4) phased ∙ number-after b (number_bytes 0) 0 4 (omega arith))

  new-reserve : u32_at w 8 ≡ counted_reserve (u32_at b 8)
  new-reserve =
      lower 8 (omega arith) ∙ ap (λ (l : List ℕ). u32_at l 8) ours ∙ number-there q 8 (counted_reserve (u32_at q 8)) (omega (arith, q-long))
      ∙ ap counted_reserve
      (ap (λ (l : List ℕ). u32_at l 8) flagged ∙ number-after p (number_bytes (cond (is_yes (u32_at p 4)) 1 0)) 4 8 (omega arith)
      ∙ ap (λ (l : List ℕ). u32_at l 8) phased ∙ number-after b (number_bytes 0) 0 8 (omega arith))

  new-modems : u32_at w 24 ≡ counted_reserve (u32_at b 24)
  new-modems =
      low 24 (omega arith) ∙ ap (λ (l : List ℕ). u32_at l 24) theirs ∙ number-there r 24 (counted_reserve (u32_at r 24)) (omega (arith, r-long))
      ∙ ap counted_reserve (after-ours 24 (omega arith))

  new-rules : u32_at w 44 ≡ u32_at b 44
  new-rules =
      low 44 (omega arith) ∙ ap (λ (l : List ℕ). u32_at l 44) theirs
      ∙ number-after r (number_bytes (counted_reserve (u32_at r 24))) 24 44 (omega arith) ∙ after-ours 44 (omega arith)

  rest : drop 6960 w ≡ zeros
  rest =
      let n : length zeros ≡ 2372 = length-replicate {A = ℕ} 2372 0 in
      let d = length-drop 6960 t in
      let l = t-long in
      ap (drop 6960) emptied ∙ drop-to zeros t 6960 0 ∙ sets-all (drop 6960 t) zeros (omega (arith, n, d, l))

  no-count : u32_at w 6960 ≡ 0
  no-count = number_past w 6960 0 ∙ ap (λ (l : List ℕ). u32_at l 0) rest

  no-sizes : numbers_at w 6964 16 ≡ no_sizes_def
  unfolding no_sizes_def numbers_at
  no-sizes =
      ap (λ (f : ℕ → ℕ). map f (range 0 16))
      (fun_ext (λ j. let e : 6964 + 4 * j ≡ 6960 + (4 + 4 * j) = omega arith in ap (u32_at w) e ∙ number_past w 6960 (4 + 4 * j)))
      ∙ ap (λ (l : List ℕ). map (λ j. u32_at l (4 + 4 * j)) (range 0 16)) rest

  no-locks : part 7028 2304 w ≡ no_locks_def
  unfolding no_locks_def
  no-locks = ap (take 2304) (sym (drop-drop 68 6960 w)) ∙ ap (part 68 2304) rest

  pub renewed : session_of w ≡ fresh_session (session_of b).setup
  unfolding session_of setup_of fresh_session kept
  renewed =
      (λ i. record {
        phase = new-phase i;
        setup = record {
          custom = new-custom i;
          reserve = new-reserve i;
          records = (lower 12 (omega arith) ∙ after-ours 12 (omega arith)) i;
          share = (lower 16 (omega arith) ∙ after-ours 16 (omega arith)) i;
          modem = record { share = (lower 20 (omega arith) ∙ after-ours 20 (omega arith)) i; reserve = new-modems i; vendor = part_stays 28 16 (omega arith) (omega arith) i };
          rules = new-rules i;
          limits = part_stays 48 6912 (omega arith) (omega arith) i;
        };
        count = no-count i;
        sizes = no-sizes i;
        locks = no-locks i;
      })
