-- `session::lent::sizes` meets its contract: each of its numbers is read at its own place. Assumes nothing.
use borrow.Author.Rules.{rules}
use Prim.Native.Nat.{ℕ, zero, suc, ◌+◌, ◌*◌, ◌<◌}
use native.Mathlib.Omega.{arith}
use native.Mathlib.Nat.{add-zero, zero-add}
use mathlib.Core.Path.{◌≡◌, refl, sym, ap, subst, ◌∙◌}
use mathlib.Core.List.{List, [], ◌∷◌, map}
use lib.ListN.{length, get_or}
use denote.Param.Members.{Mut, Called}
use Rattle.std.specs.Array.{IsFromFnResultFrom}
use Rattle.model.specs.Lists.{range, u32_at, numbers_at}
use Rattle.session.proofs.lent.sizes.Goals as goal

-- a list whose numbers are those of a function
as-mapped : (f : ℕ → ℕ) (ys : List ℕ) (from n : ℕ) → length ys ≡ n → ((i : ℕ) → i < n → get_or ys i 0 ≡ f (from + i)) → ys ≡ map f (range from n)
as-mapped f [] from zero e h = refl
as-mapped f [] from (suc n) e h = absurd (omega arith)
as-mapped f (y ∷ ys) from zero e h = absurd (omega arith)
as-mapped f (y ∷ ys) from (suc n) e h =
    let first : y ≡ f from = h 0 (omega arith) ∙ ap f (add-zero from) in
    let rest : ys ≡ map f (range (from + 1) n) =
    as-mapped f ys (from + 1) n (omega arith) (λ i l. let s : from + suc i ≡ from + 1 + i = omega arith in h (suc i) (omega arith) ∙ ap f s) in
    rw (first, rest)

-- what a closure gives that stays as it is
module _ {F : Type 0} (g : Mut F (ℕ × Unit {0}) ℕ) (f : F) (h : ℕ → ℕ) (step : (i y : ℕ) (q : F) → Called g f (i, tt) y q → (q ≡ f) × (y ≡ h i)) where
  built : (ys : List ℕ) (i n : ℕ) → IsFromFnResultFrom g f ys i n → (j : ℕ) → j < n → get_or ys (i + j) 0 ≡ h (i + j)
  built ys i zero e j l = absurd (omega arith)
  built ys i (suc n) e zero l =
      let here = e.2.1 0 ∙ (step i e.1 e.0 e.3).1 in
      rw add-zero here
  built ys i (suc n) e (suc j) l =
      let rest = subst (λ q. IsFromFnResultFrom g q ys (i + 1) n) (step i e.1 e.0 e.3).0 e.4 in
      let s : i + suc j ≡ i + 1 + j = omega arith in
      rw s (built ys (i + 1) n rest j (omega arith))

pub returns : goal.returns
unfolding numbers_at
returns c =
    let s = c.args.s.now in
    let items = c.from_fn.ensures.items in
    let f : ℕ → ℕ = λ i. u32_at s (6964 + 4 * i) in
    let each : (i : ℕ) → i < 16 → get_or c.from_fn.result (0 + i) 0 ≡ f (0 + i) = built _ _ f (λ i y q w. search rules) c.from_fn.result 0 16 items.each in
    as-mapped f c.from_fn.result 0 16 items.long (λ i l. ap (λ (k : ℕ). get_or c.from_fn.result k 0) (sym (zero-add i)) ∙ each i l)
