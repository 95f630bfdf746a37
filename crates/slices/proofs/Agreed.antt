-- Two lists compared from their ends: where anything of them differs they do, and where they agree from the first byte on they are equal. Numbers of
-- eight bytes are equal just if the bytes are.
-- Assumes nothing.
use Prim.Native.Nat.{ℕ, zero, suc, ◌+◌, ◌*◌, ◌-◌, ◌≤◌, ◌<◌}
use native.Mathlib.Nat.{add-zero}
use native.Mathlib.Omega.{arith}
use mathlib.Core.Path.{◌≡◌, refl, sym, ap, ◌∙◌}
use mathlib.Core.Bool.{Bool, true, false}
use mathlib.Core.List.{List}
use lib.ListN.{length, get_or, get_or-eq_default}
use lib.Seq.{ext_get_or}
use lib.Dec.{leb}
use borrow.Author.Tests.{leb-true, leb-false}
use Rattle.model.specs.Lists.{same, u32_at}
use Rattle.model.proofs.Tests.{same_refl, same-eq}
use Rattle.slices.specs.Agree.{Agree, u64_at}

-- ---- two lists

pub differ : (xs ys : List ℕ) (f : List ℕ → ℕ) → (f xs ≡ f ys → ⊥) → same xs ys ≡ false
differ xs ys f h = go (same xs ys) refl
  where
    go : (t : Bool) → same xs ys ≡ t → same xs ys ≡ false
    go true e = absurd (h (ap f (same-eq xs ys e)))
    go false e = e

pub agree-end : (xs ys : List ℕ) → length xs ≡ length ys → Agree xs ys (length xs)
agree-end xs ys h = record {
  long = h;
  on = λ j k. get_or-eq_default xs 0 k ∙ sym (get_or-eq_default ys 0 (rw h at k));
}

-- their fronts agree one byte further
pub agree-one : (xs ys : List ℕ) (k : ℕ) → ((j : ℕ) → j < k → get_or xs j 0 ≡ get_or ys j 0) → get_or xs k 0 ≡ get_or ys k 0
    → (j : ℕ) → j < k + 1 → get_or xs j 0 ≡ get_or ys j 0
agree-one xs ys k front e j h = go (leb k j) refl
  where
    go : (t : Bool) → leb k j ≡ t → get_or xs j 0 ≡ get_or ys j 0
    go true p =
        let l = leb-true k j p in
        let q : j ≡ k = omega arith in
        rw q e
    go false p = front j (leb-false k j p)

-- so they are equal if their fronts agree too
pub agree-whole : (xs ys : List ℕ) (i : ℕ) → Agree xs ys i → ((j : ℕ) → j < i → get_or xs j 0 ≡ get_or ys j 0) → same xs ys ≡ true
agree-whole xs ys i c front =
    let e : xs ≡ ys = ext_get_or 0 xs ys c.long (λ j k. go j (leb i j) refl) in
    rw e (same_refl ys)
  where
    go : (j : ℕ) → (t : Bool) → leb i j ≡ t → get_or xs j 0 ≡ get_or ys j 0
    go j true p = c.on j (leb-true i j p)
    go j false p = front j (leb-false i j p)

-- ---- numbers of bytes

two : (a b c d : ℕ) → a < 256 → c < 256 → a + 256 * b ≡ c + 256 * d → (a ≡ c) × (b ≡ d)
two a b c d h k e = (omega arith, omega arith)

four : (a b c d : ℕ) → a < 65536 → c < 65536 → a + 65536 * b ≡ c + 65536 * d → (a ≡ c) × (b ≡ d)
four a b c d h k e = (omega arith, omega arith)

all : (a b c d : ℕ) → a < 4294967296 → c < 4294967296 → a + 4294967296 * b ≡ c + 4294967296 * d → (a ≡ c) × (b ≡ d)
all a b c d h k e = (omega arith, omega arith)

module _ (xs ys : List ℕ) (hx : (k : ℕ) → get_or xs k 0 < 256) (hy : (k : ℕ) → get_or ys k 0 < 256) where
  word_bytes : (i : ℕ) → u32_at xs i ≡ u32_at ys i
      → (get_or xs i 0 ≡ get_or ys i 0)
      × (get_or xs (i + 1) 0 ≡ get_or ys (i + 1) 0)
      × (get_or xs (i + 2) 0 ≡ get_or ys (i + 2) 0)
      × (get_or xs (i + 2 + 1) 0 ≡ get_or ys (i + 2 + 1) 0)
  word_bytes i e =
      let x0 = hx i in let x1 = hx (i + 1) in let x2 = hx (i + 2) in
      let y0 = hy i in let y1 = hy (i + 1) in let y2 = hy (i + 2) in
      let p = four (get_or xs i 0 + 256 * get_or xs (i + 1) 0) (get_or xs (i + 2) 0 + 256 * get_or xs (i + 2 + 1) 0)
      (get_or ys i 0 + 256 * get_or ys (i + 1) 0) (get_or ys (i + 2) 0 + 256 * get_or ys (i + 2 + 1) 0) (omega arith) (omega arith) e in
      let q = two (get_or xs i 0) (get_or xs (i + 1) 0) (get_or ys i 0) (get_or ys (i + 1) 0) x0 y0 p.0 in
      let r = two (get_or xs (i + 2) 0) (get_or xs (i + 2 + 1) 0) (get_or ys (i + 2) 0) (get_or ys (i + 2 + 1) 0) x2 y2 p.1 in
      (q.0, q.1, r.0, r.1)

  word_at : (i : ℕ) → u32_at xs i ≡ u32_at ys i → (k : ℕ) → k < 4 → get_or xs (i + k) 0 ≡ get_or ys (i + k) 0
  word_at i e zero h = rw (add-zero i) (word_bytes i e).0
  word_at i e (suc zero) h = (word_bytes i e).1
  word_at i e (suc (suc zero)) h = (word_bytes i e).2
  word_at i e (suc (suc (suc zero))) h =
      let o : i + suc (suc (suc zero)) ≡ i + 2 + 1 = omega arith in
      rw o (word_bytes i e).3
  word_at i e (suc (suc (suc (suc k)))) h = absurd (omega arith)

  words : (i : ℕ) → u64_at xs i ≡ u64_at ys i → (u32_at xs i ≡ u32_at ys i) × (u32_at xs (i + 4) ≡ u32_at ys (i + 4))
  unfolding u64_at
  words i e =
      let x0 = hx i in let x1 = hx (i + 1) in let x2 = hx (i + 2) in let x3 = hx (i + 2 + 1) in
      let y0 = hy i in let y1 = hy (i + 1) in let y2 = hy (i + 2) in let y3 = hy (i + 2 + 1) in
      all (u32_at xs i) (u32_at xs (i + 4)) (u32_at ys i) (u32_at ys (i + 4)) (omega arith) (omega arith) e

  pub agree-eight : (i k : ℕ) → k ≡ i + 8 → Agree xs ys k → u64_at xs i ≡ u64_at ys i → Agree xs ys i
  agree-eight i k m c e = record { long = c.long; on = λ j h. go j h (leb k j) refl (leb (i + 4) j) refl }
    where
      go : (j : ℕ) → i ≤ j → (t : Bool) → leb k j ≡ t → (u : Bool) → leb (i + 4) j ≡ u → get_or xs j 0 ≡ get_or ys j 0
      go j h true p u q = c.on j (leb-true k j p)
      go j h false p true q =
          let l = leb-false k j p in
          let n = leb-true (i + 4) j q in
          let o : i + 4 + (j - (i + 4)) ≡ j = omega arith in
          rw o at (word_at (i + 4) (words i e).1 (j - (i + 4)) (omega arith))
      go j h false p false q =
          let n = leb-false (i + 4) j q in
          let o : i + (j - i) ≡ j = omega arith in
          rw o at (word_at i (words i e).0 (j - i) (omega arith))
