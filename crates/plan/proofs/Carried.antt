-- What the executor's loop goes by: of the call's list the first stores are made, and what is left is the rest of one operation and those behind it.
-- Assumes nothing.
use Prim.Native.Nat.{ℕ, zero, suc, ◌+◌, ◌≤◌, ◌<◌, min}
use native.Mathlib.Numerals.{add-one}
use native.Mathlib.Omega.{arith}
use mathlib.Core.Path.{◌≡◌, refl, sym, ap, ◌∙◌, subst}
use mathlib.Core.List.{List, [], ◌∷◌, ◌++◌, append_assoc}
use lib.ListN.{length, drop, length-append, length-drop, drop_of_length-le}
use lib.Seq.{drop-drop, drop-append_seam}
use Rattle.model.specs.Stores.{Store, stores, apply_all, after, fails, reach}
use Rattle.model.specs.Answers.{Outcome, done, stopped, refused, ended}
use Rattle.model.proofs.Stores.{apply_all-append}
use Rattle.model.proofs.Failing.{reach_few, after_more, reach-more, reach_here, ended-done, ended-stopped, ended-worn}
use Rattle.plan.specs.declared.Step.{Step}
use Rattle.plan.specs.declared.Step.TheVariants.{Nothing}
use Rattle.plan.specs.Plan.{expand, size_of, rest_of, OneBit, AllOneBit, Ready, FirstFails, Made, count_of, Turned}
use Rattle.plan.proofs.Stores.{after_none, step_at, expand-from, bits-from, fits-at, blank-at, rest-whole, rest_end, rest_some}

-- ---- lists

drop_more : (k : ℕ) (ss xs ys : List Store) → drop k ss ≡ xs ++ ys → drop (k + length xs) ss ≡ ys
drop_more k ss xs ys h = sym (drop-drop (length xs) k ss) ∙ ap (drop (length xs)) h ∙ drop-append_seam xs ys

drop-none : (k : ℕ) (ss : List Store) → drop k ss ≡ [] → length ss ≤ k
drop-none k ss h = let e = sym (length-drop k ss) ∙ ap length h in omega (arith, e)

drop-some : (k : ℕ) (ss : List Store) → 1 ≤ length (drop k ss) → k < length ss
drop-some k ss h = let e = length-drop k ss in omega (arith, e)

-- ---- a plan underway

-- with no store made the image is as it was
pub unchanged : {dead : List ℕ} {ss : List Store} {left : ℕ} {before after : List ℕ} {k : ℕ} {rest : List Store} → Made dead ss left before after k rest → k ≡ 0 → after ≡ before
unfolding apply_all
unchanged m z = go m.made (m.many ∙ z) m.image
  where
    go : {before after : List ℕ} (ss : List Store) → length ss ≡ 0 → after ≡ apply_all ss before → after ≡ before
    go [] e f = f
    go (s ∷ ss) e f = absurd (omega arith)

-- the first `made` stores of a plan are made, none of them failed, and what is left begins within an operation
pub record Underway (dead : List ℕ) (w : ℕ) (c : List ℕ) (ops : List Step) (img₀ : List ℕ) (k i : ℕ) (img : List ℕ) (made : ℕ) : Type 0 where
  pub left : drop made (stores w (expand c ops)) ≡ rest_of w c (step_at ops k) i ++ stores w (expand c (drop (suc k) ops))
  pub image : img ≡ after made (stores w (expand c ops)) img₀
  pub reached : made ≤ reach dead (stores w (expand c ops)) img₀
  pub bit : i ≡ 0 → OneBit (step_at ops k) img
  pub bits : AllOneBit w c (drop (suc k) ops) (apply_all (rest_of w c (step_at ops k) i) img)

module _ (dead : List ℕ) (w : ℕ) (c : List ℕ) (ops : List Step) (img₀ : List ℕ) (ready : Ready c ops img₀) where
  abbrev all : List Store
  all = stores w (expand c ops)

  abbrev later : ℕ → List Store
  later k = stores w (expand c (drop (suc k) ops))

  -- an operation begins
  begins : (k : ℕ) (img : List ℕ) (made : ℕ) → drop made all ≡ stores w (expand c (drop k ops)) → img ≡ after made all img₀
      → made ≤ reach dead all img₀ → AllOneBit w c (drop k ops) img → Underway dead w c ops img₀ k 0 img made
  begins k img made left image reached bits =
      let b = bits-from w c ops k img bits in
      let whole = rest-whole w c (length img₀) (step_at ops k) (fits-at (length c) (length img₀) ops k ready.fit) (blank-at c ops k ready.blank) in
      record {
        left = left ∙ expand-from w c ops k ∙ ap (λ (l : List Store). l ++ later k) (sym whole);
        image = image;
        reached = reached;
        bit = λ z. b.0;
        bits = subst (λ (l : List Store). AllOneBit w c (drop (suc k) ops) (apply_all l img)) (sym whole) b.1;
      }

  pub underway-begins : Underway dead w c ops img₀ 0 0 img₀ 0
  underway-begins = begins 0 img₀ 0 refl (sym (after_none all img₀)) (omega arith) (ready.bits w)

  -- some stores of it are made
  pub underway-turns : (k i : ℕ) (img : List ℕ) (made left : ℕ) (img' : List ℕ) (r : ℕ) → Underway dead w c ops img₀ k i img made
      → Turned dead w c (step_at ops k) i left img img' r → 1 ≤ r → Underway dead w c ops img₀ k (i + r) img' (made + count_of w r)
  unfolding apply_all
  underway-turns k i img made left img' r u t some =
      let m = t.1 in
      let n = count_of w r in
      let xs = m.made in
      let behind = rest_of w c (step_at ops k) (i + r) in
      let ys = behind ++ later k in
      let front : drop made all ≡ xs ++ ys = u.left ∙ ap (λ (l : List Store). l ++ later k) m.whole ∙ append_assoc xs behind (later k) in
      let few = reach_few dead all img₀ in
      let same : made + length xs ≡ made + n = ap (λ (x : ℕ). made + x) m.many in
      let spared : reach dead xs (after made all img₀) ≡ length xs =
      subst (λ (x : List ℕ). reach dead xs x ≡ length xs) u.image (m.spared ∙ sym m.many) in
      let far = reach-more dead made all xs ys img₀ front u.reached spared in
      record {
        left = ap (λ (x : ℕ). drop x all) (sym same) ∙ drop_more made all xs ys front;
        image =
            m.image
            ∙ ap (apply_all xs) u.image
            ∙ sym (after_more made all xs ys img₀ front (omega (arith, u.reached)))
            ∙ ap (λ (x : ℕ). after x all img₀) same;
        reached = subst (λ (x : ℕ). x ≤ reach dead all img₀) same far;
        bit = λ z. absurd (omega arith);
        bits =
            subst (λ (x : List ℕ). AllOneBit w c (drop (suc k) ops) (apply_all behind x)) (sym m.image)
            (subst (λ (x : List ℕ). AllOneBit w c (drop (suc k) ops) x) (ap (λ (l : List Store). apply_all l img) m.whole ∙ apply_all-append xs behind img) u.bits);
      }

  -- all of it are made: on to the next one
  pub underway-next : (k i : ℕ) (img : List ℕ) (made : ℕ) → Underway dead w c ops img₀ k i img made → i ≡ size_of w (step_at ops k)
      → Underway dead w c ops img₀ (k + 1) 0 img made
  unfolding apply_all
  underway-next k i img made u e =
      let none : rest_of w c (step_at ops k) i ≡ [] = ap (rest_of w c (step_at ops k)) e ∙ rest_end w c (step_at ops k) in
      subst (λ (x : ℕ). Underway dead w c ops img₀ x 0 img made) (sym (add-one k))
      (begins (suc k) img made
      (u.left ∙ ap (λ (l : List Store). l ++ later k) none)
      u.image
      u.reached
      (subst (λ (l : List Store). AllOneBit w c (drop (suc k) ops) (apply_all l img)) none u.bits))

  -- ---- how it ends

  abbrev Ends : Outcome → ℕ → List ℕ → Type 0
  Ends o n img = (o ≡ ended n (reach dead all img₀) (length all)) × (img ≡ after (min n (reach dead all img₀)) all img₀)

  -- no operation is left
  pub underway-done : (k i : ℕ) (img : List ℕ) (made n : ℕ) → Underway dead w c ops img₀ k i img made → length ops ≤ k → made ≤ n → Ends (done made) n img
  unfolding rest_of expand stores
  underway-done k i img made n u l h =
      let none : drop made all ≡ [] =
      u.left ∙ ap (λ (s : Step). rest_of w c s i ++ later k) (past ops k l) ∙ ap (λ (os : List Step). stores w (expand c os)) (drop_of_length-le ops {i = suc k} (omega arith)) in
      let last = drop-none made all none in
      let few = reach_few dead all img₀ in
      let whole : made ≡ length all = omega (arith, u.reached) in
      let same : made ≡ min n (reach dead all img₀) = omega (arith, u.reached) in (
        ap done whole ∙ sym (ended-done n (reach dead all img₀) (length all) (omega arith) (omega (arith, u.reached))),
        u.image ∙ ap (λ (x : ℕ). after x all img₀) same,
      )
    where
      past : (ops : List Step) (k : ℕ) → length ops ≤ k → step_at ops k ≡ Nothing
      past [] k h = refl
      past (o ∷ ops) zero h = absurd (omega arith)
      past (o ∷ ops) (suc k) h = past ops k (omega arith)

  some_left : (k i : ℕ) (img : List ℕ) (made : ℕ) → Underway dead w c ops img₀ k i img made → 1 ≤ length (rest_of w c (step_at ops k) i) → made < length all
  some_left k i img made u some =
      let e = ap length u.left ∙ length-append (rest_of w c (step_at ops k) i) (later k) in
      drop-some made all (omega (arith, e))

  -- n stores are made, and some are left
  pub underway-stopped : (k i : ℕ) (img : List ℕ) (made n : ℕ) → Underway dead w c ops img₀ k i img made → i < size_of w (step_at ops k) → made ≡ n → Ends stopped n img
  underway-stopped k i img made n u l e =
      let fits = fits-at (length c) (length img₀) ops k ready.fit in
      let some = some_left k i img made u (rest_some w c (length img₀) (step_at ops k) i fits l) in
      let same : made ≡ min n (reach dead all img₀) = omega (arith, u.reached) in (
        sym (ended-stopped n (reach dead all img₀) (length all) (omega arith) (omega (arith, u.reached))),
        u.image ∙ ap (λ (x : ℕ). after x all img₀) same,
      )

  -- the next one fails
  pub underway-worn : (k i : ℕ) (img : List ℕ) (made n : ℕ) → Underway dead w c ops img₀ k i img made → FirstFails dead (rest_of w c (step_at ops k) i) img → made < n
      → Ends (refused 23) n img
  underway-worn k i img made n u f l = go (rest_of w c (step_at ops k) i) refl f
    where
      go : (ss : List Store) → rest_of w c (step_at ops k) i ≡ ss → FirstFails dead ss img → Ends (refused 23) n img
      go [] e f = absurd f
      go (s ∷ ss) e f =
          let there : drop made all ≡ s ∷ (ss ++ later k) = u.left ∙ ap (λ (l : List Store). l ++ later k) e in
          let here = reach_here dead made all (ss ++ later k) s img₀ there u.reached (ap (fails dead s) (sym u.image) ∙ f) in
          let some = some_left k i img made u (subst (λ (l : List Store). 1 ≤ length l) (sym e) (omega arith)) in
          let same : made ≡ min n (reach dead all img₀) = omega arith in (
            sym (ended-worn n (reach dead all img₀) (length all) (omega arith) (omega arith)),
            u.image ∙ ap (λ (x : ℕ). after x all img₀) same,
          )
