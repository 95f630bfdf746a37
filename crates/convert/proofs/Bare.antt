-- An entry with the zero stamp: what a form has more is all zeros, be it a stamp between zeros or not, so the fields written one behind the other are the
-- entry of the definitions; only the grouping differs.
-- Assumes nothing.
use Prim.Native.Nat.{ℕ, ◌+◌, ◌*◌, ◌-◌, ◌≤◌}
use native.Mathlib.Omega.{arith}
use mathlib.Core.Path.{◌≡◌, refl, sym, ap, ◌∙◌}
use mathlib.Core.Bool.{Bool, true, false, cond}
use mathlib.Core.List.{List, [], ◌∷◌, ◌++◌, append_assoc}
use lib.ListN.{length, replicate, length-append, length-replicate, replicate-append-replicate}
use borrow.Author.Tests.{leb-true}
use Rattle.model.specs.declared.Layout.{Layout}
use Rattle.model.specs.Layout.{is_stamped_def}
use Rattle.model.specs.Lists.{bytes32}
use Rattle.model.specs.Entry.{header_front, header_rest_in, extra_bytes, entry_bytes_in, entry_size_in, plain_size_in, no_stamp_def}
use Rattle.output.specs.Text.{Wrote}
use Rattle.output.proofs.Writing.{wrote-append, wrote_as}
use Rattle.convert.specs.Bare.{bare_front, bare_sizes, bare_header, bare}

pub length_front : (a : ℕ) → length (bare_front a) ≡ 8
unfolding bare_front header_front
length_front a = refl

pub length-sizes : (n d : ℕ) → length (bare_sizes n d) ≡ 8
unfolding bare_sizes
length-sizes n d = refl

module _ (y : Layout) where
  zeros : (a : ℕ) (n ve b : List ℕ) → extra_bytes y (bare a n ve b) ≡ replicate (4 * y.words) 0
  unfolding extra_bytes
  zeros a n ve b = go (is_stamped_def y) refl
    where
      go : (t : Bool) → is_stamped_def y ≡ t → cond t (replicate 8 0 ++ no_stamp_def ++ replicate (4 * y.words - 24) 0) (replicate (4 * y.words) 0) ≡ replicate
          (4 * y.words) 0
      go true e =
          let more = leb-true 7 y.words e in
          let k : 24 + (4 * y.words - 24) ≡ 4 * y.words = omega arith in
          replicate-append-replicate 24 (4 * y.words - 24) 0 ∙ ap (λ (i : ℕ). replicate i 0) k
      go false e = refl

  regroup : (f s z a x n d ve : List ℕ) → (f ++ (s ++ z) ++ a) ++ x ++ (n ++ d) ++ ve ≡ f ++ s ++ (z ++ a ++ x ++ n ++ d ++ ve)
  regroup f s z a x n d ve = simp append_assoc

  header-value : (a : ℕ) (n ve b : List ℕ) → bare_header y a (length n) (length b) ve ≡ header_front ++ (0x3F ∷ []) ++ header_rest_in y (bare a n ve b)
  unfolding bare_header bare_front bare_sizes header_rest_in
  header-value a n ve b =
      regroup header_front (0x3F ∷ []) (0 ∷ []) (bytes32 a) (replicate (4 * y.words) 0) (bytes32 (length n)) (bytes32 (length b)) ve
      ∙ ap (λ (x : List ℕ). header_front ++ (0x3F ∷ []) ++ ((0 ∷ []) ++ bytes32 a ++ x ++ bytes32 (length n) ++ bytes32 (length b) ++ ve)) (sym (zeros a n ve b))

  pub header-length : (a n d : ℕ) (ve : List ℕ) → length (bare_header y a n d ve) ≡ 16 + 4 * y.words + length ve
  unfolding bare_header
  header-length a n d ve = simp (length-append, length-replicate, length_front, length-sizes) (omega arith)

  pub header-wrote : (a n d : ℕ) {at n₁ n₂ n₃ n₄ : ℕ} {ve l l₁ l₂ l₃ l₄ : List ℕ}
      → Wrote (bare_front a) at l l₁ n₁ → Wrote (replicate (4 * y.words) 0) n₁ l₁ l₂ n₂ → Wrote (bare_sizes n d) n₂ l₂ l₃ n₃ → Wrote ve n₃ l₃ l₄ n₄
      → Wrote (bare_header y a n d ve) at l l₄ n₄ × (n₄ ≡ at + 16 + 4 * y.words + length ve)
  unfolding bare_header
  header-wrote a n d p q r t =
      let i = length_front a in
      let j = length-sizes n d in
      let k = length-replicate {A = ℕ} (4 * y.words) 0 in
      (wrote-append (wrote-append (wrote-append p q) r) t, omega (arith, p.place, q.place, r.place, t.place))

  entry-parts : (a : ℕ) (n ve b : List ℕ)
      → bare_header y a (length n) (length b) ve ++ n ++ b ++ replicate (entry_size_in y (bare a n ve b) - plain_size_in y (bare a n ve b)) 0xFF
      ≡ entry_bytes_in y 0x3F (bare a n ve b)
  unfolding entry_bytes_in
  entry-parts a n ve b =
      ap (λ (l : List ℕ). l ++ n ++ b ++ replicate (entry_size_in y (bare a n ve b) - plain_size_in y (bare a n ve b)) 0xFF) (header-value a n ve b)

  pub entry-wrote : (a : ℕ) (n ve b : List ℕ) {at n₁ n₂ n₃ n₄ : ℕ} {l l₁ l₂ l₃ l₄ : List ℕ}
      → Wrote (bare_header y a (length n) (length b) ve) at l l₁ n₁ → Wrote n n₁ l₁ l₂ n₂ → Wrote b n₂ l₂ l₃ n₃
      → Wrote (replicate (entry_size_in y (bare a n ve b) - plain_size_in y (bare a n ve b)) 0xFF) n₃ l₃ l₄ n₄
      → Wrote (entry_bytes_in y 0x3F (bare a n ve b)) at l l₄ n₄
  entry-wrote a n ve b h p q r = wrote_as (entry-parts a n ve b) (wrote-append (wrote-append (wrote-append h p) q) r)

  pub entry-short : (a : ℕ) (n ve b : List ℕ) → length ve ≤ 16 → length (entry_bytes_in y 0x3F (bare a n ve b)) ≤ entry_size_in y (bare a n ve b)
  entry-short a n ve b h =
      let l = header-length a (length n) (length b) ve in
      rw (← entry-parts a n ve b) (simp (length-append, length-replicate, l) (omega arith))
