-- Bytes joined by "and" are FF where every one is: "and" never exceeds either of its operands. A slice is blank where its parts are.
-- Assumes nothing.
use Prim.Native.Nat.{ℕ, zero, suc, ◌+◌, ◌*◌, ◌≤◌, ◌<◌}
use native.Mathlib.Numerals.{add-one}
use native.Mathlib.Omega.{arith}
use mathlib.Core.Path.{◌≡◌, refl, sym, ap, ◌∙◌}
use mathlib.Core.Bool.{Bool, true, false, ◌&&◌, and-true, and_assoc}
use mathlib.Core.List.{List, [], ◌∷◌}
use lib.ListN.{length, take, drop, get_or}
use lib.Seq.{drop-cons, drop-length, drop-drop}
use lib.Bits.{bit_and, and_le_l, and_le_r}
use lib.Dec.{eqb}
use borrow.Author.Tests.{eqb-true, eqb-false, ne_eqb}
use Rattle.std.specs.List.{list_all}
use Rattle.model.specs.Lists.{all_ff, part}

and-ff : (b x : ℕ) → b ≤ 0xFF → x ≤ 0xFF → eqb (bit_and b x) 0xFF ≡ (eqb b 0xFF && eqb 0xFF x)
and-ff b x hb hx = go (eqb b 0xFF) refl (eqb 0xFF x) refl
  where
    go : (s : Bool) → eqb b 0xFF ≡ s → (t : Bool) → eqb 0xFF x ≡ t → eqb (bit_and b x) 0xFF ≡ (s && t)
    go true p true q = rw (eqb-true b 0xFF p, ← eqb-true 0xFF x q)
    go true p false q = ne_eqb (bit_and b x) 0xFF (λ e. eqb-false 0xFF x q (omega (arith, and_le_r b x)))
    go false p t q = ne_eqb (bit_and b x) 0xFF (λ e. eqb-false b 0xFF p (omega (arith, and_le_l b x)))

blank-next : (s : List ℕ) (i b : ℕ) → i < length s → b ≤ 0xFF → get_or s i 0 ≤ 0xFF
    → (eqb b 0xFF && all_ff (drop i s)) ≡ (eqb (bit_and b (get_or s i 0)) 0xFF && all_ff (drop (i + 1) s))
unfolding all_ff
blank-next s i b h hb hx =
    rw (and-ff b (get_or s i 0) hb hx, add-one i, drop-cons s i 0 h, and_assoc (eqb b 0xFF) (eqb 0xFF (get_or s i 0)) (all_ff (drop (suc i) s)))

-- FF one by one
pub blank-each : (s : List ℕ) → list_all (λ b. eqb 0xFF b) s ≡ all_ff s
unfolding all_ff
blank-each [] = refl
blank-each (x ∷ s) = ap (λ (r : Bool). eqb 0xFF x && r) (blank-each s)

and_commutes : (a b : Bool) → (a && b) ≡ (b && a)
and_commutes true b = sym (and-true b)
and_commutes false true = refl
and_commutes false false = refl

-- a slice's next byte is joined, and what is left of it comes after the others: four turns restore the order
blank_turn : (s : List ℕ) (i b : ℕ) (r : Bool) → i < length s → b ≤ 0xFF → get_or s i 0 ≤ 0xFF
    → (eqb b 0xFF && (all_ff (drop i s) && r)) ≡ (eqb (bit_and b (get_or s i 0)) 0xFF && (r && all_ff (drop (i + 1) s)))
blank_turn s i b r h hb hx =
    sym (and_assoc (eqb b 0xFF) (all_ff (drop i s)) r)
    ∙ ap (λ (t : Bool). t && r) (blank-next s i b h hb hx)
    ∙ and_assoc (eqb (bit_and b (get_or s i 0)) 0xFF) (all_ff (drop (i + 1) s)) r
    ∙ ap (λ (t : Bool). eqb (bit_and b (get_or s i 0)) 0xFF && t) (and_commutes (all_ff (drop (i + 1) s)) r)

-- the next bytes of four slices
pub blank-four : (s t u v : List ℕ) (i b : ℕ) → i < length s → i < length t → i < length u → i < length v
    → b ≤ 0xFF → get_or s i 0 ≤ 0xFF → get_or t i 0 ≤ 0xFF → get_or u i 0 ≤ 0xFF → get_or v i 0 ≤ 0xFF
    → (eqb b 0xFF && (all_ff (drop i s) && (all_ff (drop i t) && (all_ff (drop i u) && all_ff (drop i v)))))
    ≡ (eqb (bit_and (bit_and (bit_and (bit_and b (get_or s i 0)) (get_or t i 0)) (get_or u i 0)) (get_or v i 0)) 0xFF
    && (all_ff (drop (i + 1) s) && (all_ff (drop (i + 1) t) && (all_ff (drop (i + 1) u) && all_ff (drop (i + 1) v)))))
blank-four s t u v i b ls lt lu lv hb hs ht hu hv =
    let b1 : ℕ = bit_and b (get_or s i 0) in
    let b2 : ℕ = bit_and b1 (get_or t i 0) in
    let b3 : ℕ = bit_and b2 (get_or u i 0) in
    let b4 : ℕ = bit_and b3 (get_or v i 0) in
    let h1 : b1 ≤ 0xFF = omega (arith, and_le_l b (get_or s i 0)) in
    let h2 : b2 ≤ 0xFF = omega (arith, and_le_l b1 (get_or t i 0)) in
    let h3 : b3 ≤ 0xFF = omega (arith, and_le_l b2 (get_or u i 0)) in
    let ft : Bool = all_ff (drop i t) in
    let fu : Bool = all_ff (drop i u) in
    let fv : Bool = all_ff (drop i v) in
    let ps : Bool = all_ff (drop (i + 1) s) in
    let pt : Bool = all_ff (drop (i + 1) t) in
    let pu : Bool = all_ff (drop (i + 1) u) in
    let pv : Bool = all_ff (drop (i + 1) v) in
    blank_turn s i b (ft && (fu && fv)) ls hb hs
    ∙ ap (λ (r : Bool). eqb b1 0xFF && r) (and_assoc ft (fu && fv) ps)
    ∙ blank_turn t i b1 ((fu && fv) && ps) lt h1 ht
    ∙ ap (λ (r : Bool). eqb b2 0xFF && r) (and_assoc (fu && fv) ps pt ∙ and_assoc fu fv (ps && pt))
    ∙ blank_turn u i b2 (fv && (ps && pt)) lu h2 hu
    ∙ ap (λ (r : Bool). eqb b3 0xFF && r) (and_assoc fv (ps && pt) pu)
    ∙ blank_turn v i b3 ((ps && pt) && pu) lv h3 hv
    ∙ ap (λ (r : Bool). eqb b4 0xFF && r) (and_assoc (ps && pt) pu pv ∙ and_assoc ps pt (pu && pv))

pub ended-four : (s t u v : List ℕ) (b : ℕ) → length t ≡ length s → length u ≡ length s → length v ≡ length s
    → (eqb b 0xFF && (all_ff (drop (length s) s) && (all_ff (drop (length s) t) && (all_ff (drop (length s) u) && all_ff (drop (length s) v))))) ≡ eqb b 0xFF
unfolding all_ff
ended-four s t u v b ht hu hv = rw (drop-length s, ← ht, drop-length t, ht, ← hu, drop-length u, hu, ← hv, drop-length v, and-true (eqb b 0xFF))

pub joined-bound : (b w x y z : ℕ) → b ≤ 0xFF → bit_and (bit_and (bit_and (bit_and b w) x) y) z ≤ 0xFF
joined-bound b w x y z h =
    omega (
      arith,
      and_le_l b w,
      and_le_l (bit_and b w) x,
      and_le_l (bit_and (bit_and b w) x) y,
      and_le_l (bit_and (bit_and (bit_and b w) x) y) z,
    )

blank_cut : (n : ℕ) (s : List ℕ) → all_ff s ≡ (all_ff (take n s) && all_ff (drop n s))
unfolding all_ff
blank_cut zero s = refl
blank_cut (suc n) [] = refl
blank_cut (suc n) (x ∷ s) = ap (λ (r : Bool). eqb 0xFF x && r) (blank_cut n s) ∙ sym (and_assoc (eqb 0xFF x) (all_ff (take n s)) (all_ff (drop n s)))

blank_part : (from n next : ℕ) (s : List ℕ) → from + n ≡ next → all_ff (drop from s) ≡ (all_ff (part from n s) && all_ff (drop next s))
blank_part from n next s h =
    blank_cut n (drop from s) ∙ ap (λ (l : List ℕ). all_ff (part from n s) && all_ff l) (drop-drop n from s ∙ ap (λ (k : ℕ). drop k s) h)

-- four quarters and the rest are the whole
blank-quarters : (s : List ℕ) (q : ℕ)
    → all_ff s
    ≡ ((all_ff (part 0 q s) && (all_ff (part q q s) && (all_ff (part (2 * q) q s) && all_ff (part (3 * q) q s)))) && all_ff (drop (4 * q) s))
blank-quarters s q =
    let a : Bool = all_ff (part 0 q s) in
    let b : Bool = all_ff (part q q s) in
    let c : Bool = all_ff (part (2 * q) q s) in
    let d : Bool = all_ff (part (3 * q) q s) in
    let r : Bool = all_ff (drop (4 * q) s) in
    blank_part 0 q q s (omega arith)
    ∙ ap (λ (t : Bool). a && t) (blank_part q q (2 * q) s (omega arith))
    ∙ ap (λ (t : Bool). a && (b && t)) (blank_part (2 * q) q (3 * q) s (omega arith))
    ∙ ap (λ (t : Bool). a && (b && (c && t))) (blank_part (3 * q) q (4 * q) s (omega arith))
    ∙ sym (and_assoc a (b && (c && d)) r
    ∙ ap (λ (t : Bool). a && t) (and_assoc b (c && d) r ∙ ap (λ (t : Bool). b && t) (and_assoc c d r)))

-- the same of slices that are the quarters
pub blank-cuts : (s a b c d : List ℕ) (q : ℕ) → a ≡ part 0 q s → b ≡ part q q s → c ≡ part (2 * q) q s → d ≡ part (3 * q) q s
    → all_ff s ≡ ((all_ff a && (all_ff b && (all_ff c && all_ff d))) && all_ff (drop (4 * q) s))
blank-cuts s a b c d q first second third fourth = rw (first, second, third, fourth) (blank-quarters s q)
