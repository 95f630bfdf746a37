-- Places left out are names left out. The offsets of a walk rise, so an offset is that of one entry, and none is 0. In a sound region a name has one value,
-- that of its 3F entry, else of its 3E entry.
-- Assumes nothing.
use Prim.Native.Nat.{ℕ, zero, suc, ◌+◌, ◌-◌, ◌≤◌, ◌<◌}
use native.Mathlib.Omega.{arith}
use mathlib.Core.Path.{◌≡◌, refl, sym, ap, ap₂, ◌∙◌, subst, fun_ext}
use mathlib.Core.Bool.{Bool, true, false, not, cond, ◌||◌, or-true, or-false}
use mathlib.Core.List.{List, [], ◌∷◌, ◌++◌, map, map-append}
use mathlib.Core.Option.{Option, none, some}
use lib.ListN.{length, drop, replicate}
use lib.Dec.{eqb}
use Rattle.std.specs.List.{list_any}
use Rattle.std.proofs.lemmas.Bool.Decides.{nat_tests}
use borrow.Author.Tests.{eq-eqb, ne_eqb}
use Rattle.model.specs.Layout.{authenticated, header_length}
use Rattle.model.specs.Lists.{any, keep, first, or_else, on_some, among}
use Rattle.model.specs.Name.{Key, same_key_def}
use Rattle.model.specs.Entry.{Header, Value, key_of, read_header_in}
use Rattle.model.specs.Walk.{Entry, state_of, entry_key, entry_value_def, walk, placed, stride}
use Rattle.model.specs.Region.{entries, entries_in, is_entry_def, is_value, values, added, replacing, standing, sound, find}
use Rattle.model.specs.Change.{without}
use Rattle.model.specs.Beside.{without_all}
use Rattle.model.proofs.Tests.{and_split, or_split, key-refl, key-eq, key-sym}
use Rattle.model.proofs.Chunks.{sound-parts, judged-parts}
use Rattle.model.proofs.Values.{any_at, keep_append, found, find-standing}
use Rattle.model.proofs.Encode.{Distinct, values-distinct}
use Rattle.values.specs.Found.{found_of}
use Rattle.compose.specs.Compose.{leaving, values_but, leave_of}

-- ---- an offset looked for among others

turned : (m n : ℕ) → eqb m n ≡ eqb n m
turned m n = grind (arith, nat_tests)

pub among-found : (leave : List ℕ) (n : ℕ) → list_any (λ m. eqb m n) leave ≡ among leave n
among-found [] n = refl
among-found (m ∷ leave) n = ap₂ (λ (x y : Bool). x || y) (turned m n) (among-found leave n)

-- ---- the offsets of a walk rise

abbrev Rising : ℕ → List Entry → Type 0
Rising low [] = Unit {0}
Rising low (e ∷ es) = (low ≤ e.at) × Rising (e.at + 1) es

lower : (n low : ℕ) (es : List Entry) → n ≤ low → Rising low es → Rising n es
lower n low [] h r = tt
lower n low (e ∷ es) h r = (omega (arith, r.0), r.1)

module _ (size : ℕ) (read : List ℕ → Option Header) where
  walk-rises : (s : List ℕ) (skip at : ℕ) → Rising at (walk size read s skip at)
  unfolding walk placed
  walk-rises [] skip at = tt
  walk-rises (b ∷ s) zero at = go (read (b ∷ s)) (λ n. walk-rises s n (at + 1))
    where
      go : (o : Option Header) → ((n : ℕ) → Rising (at + 1) (walk size read s n (at + 1)))
          → Rising at (on_some o (λ h. placed size read at h (b ∷ s) ∷ walk size read s (stride size read h - 1) (at + 1)) [])
      go (some h) more = (omega arith, more (stride size read h - 1))
      go none more = tt
  walk-rises (b ∷ s) (suc skip) at = lower at (at + 1) (walk size read s skip (at + 1)) (omega arith) (walk-rises s skip (at + 1))

kept-rises : (f : Entry → Bool) (low : ℕ) (es : List Entry) → Rising low es → Rising low (keep f es)
kept-rises f low [] r = tt
kept-rises f low (e ∷ es) r = go (f e) (kept-rises f (e.at + 1) es r.1)
  where
    go : (t : Bool) → Rising (e.at + 1) (keep f es) → Rising low (cond t (e ∷ keep f es) (keep f es))
    go true k = (r.0, k)
    go false k = lower low (e.at + 1) (keep f es) (omega (arith, r.0)) k

-- an entry among others is above what they rise from
above : (low : ℕ) (xs ys : List Entry) (s : Entry) → Rising low (xs ++ (s ∷ ys)) → low ≤ s.at
above low [] ys s r = r.0
above low (x ∷ xs) ys s r = omega (arith, r.0, above (x.at + 1) xs ys s r.1)

-- ---- what holds of every entry

abbrev Each : (Entry → Type 0) → List Entry → Type 0
Each P [] = Unit {0}
Each P (e ∷ es) = P e × Each P es

each : {P : Entry → Type 0} (es : List Entry) → ((e : Entry) → P e) → Each P es
each [] f = tt
each (e ∷ es) f = (f e, each es f)

each-as : {P Q : Entry → Type 0} (es : List Entry) → ((e : Entry) → P e → Q e) → Each P es → Each Q es
each-as [] f p = tt
each-as (e ∷ es) f p = (f e p.0, each-as es f p.1)

each_both : {P Q R : Entry → Type 0} (es : List Entry) → ((e : Entry) → P e → Q e → R e) → Each P es → Each Q es → Each R es
each_both [] f p q = tt
each_both (e ∷ es) f p q = (f e p.0 q.0, each_both es f p.1 q.1)

-- ---- an offset is that of one name's value

-- the entries at an offset are those of a name
abbrev Marks : ℕ → Key → List Entry → Type 0
Marks a k es = Each (λ e. eqb e.at a ≡ same_key_def (entry_key e) k) es

abbrev named : Key → Value → Bool
named k w = same_key_def (key_of w) k

-- no entry is there, and none has the name
unmarked : (a : ℕ) (k : Key) (low : ℕ) (es : List Entry) → a < low → Rising low es → any (named k) (map entry_value_def es) ≡ false → Marks a k es
unmarked a k low [] h r n = tt
unmarked a k low (e ∷ es) h r n =
    let p = or_split (same_key_def (entry_key e) k) (any (named k) (map entry_value_def es)) n in
    (ne_eqb e.at a (λ f. omega (arith, r.0, f)) ∙ sym p.0, unmarked a k (e.at + 1) es (omega (arith, r.0)) r.1 p.1)

marked : (low : ℕ) (xs ys : List Entry) (s : Entry) → Rising low (xs ++ (s ∷ ys)) → Distinct (map entry_value_def (xs ++ (s ∷ ys)))
    → Marks s.at (entry_key s) (xs ++ (s ∷ ys))
marked low [] ys s r d =
    (eq-eqb s.at s.at refl ∙ sym (key-refl (entry_key s)), unmarked s.at (entry_key s) (s.at + 1) ys (omega arith) r.1 d.0)
marked low (x ∷ xs) ys s r d =
    let others : List Value = map entry_value_def xs ++ map entry_value_def ys in
    let a = above (x.at + 1) xs ys s r.1 in
    let n = sym (any_at (named (entry_key x)) (map entry_value_def xs) (map entry_value_def ys) (entry_value_def s))
    ∙ ap (any (named (entry_key x))) (sym (map-append entry_value_def xs (s ∷ ys))) ∙ d.0 in
    let p = or_split (same_key_def (entry_key s) (entry_key x)) (any (named (entry_key x)) others) n in
    (ne_eqb x.at s.at (λ f. omega (arith, a, f)) ∙ sym (key-sym (entry_key x) (entry_key s) ∙ p.0), marked (x.at + 1) xs ys s r.1 d.1)

-- ---- entries kept

kept-alike : (f g : Entry → Bool) (es : List Entry) → Each (λ e. f e ≡ g e) es → keep f es ≡ keep g es
kept-alike f g [] h = refl
kept-alike f g (e ∷ es) h = rw (h.0, kept-alike f g es h.1)

kept-values : (f : Value → Bool) (es : List Entry) → keep f (map entry_value_def es) ≡ map entry_value_def (keep (λ e. f (entry_value_def e)) es)
kept-values f [] = refl
kept-values f (e ∷ es) = go (f (entry_value_def e)) (kept-values f es)
  where
    go : (t : Bool) → keep f (map entry_value_def es) ≡ map entry_value_def (keep (λ e. f (entry_value_def e)) es)
        → cond t (entry_value_def e ∷ keep f (map entry_value_def es)) (keep f (map entry_value_def es))
        ≡ map entry_value_def (cond t (e ∷ keep (λ e. f (entry_value_def e)) es) (keep (λ e. f (entry_value_def e)) es))
    go true h = ap (λ (l : List Value). entry_value_def e ∷ l) h
    go false h = h

without-none : (vs : List Value) → without_all [] vs ≡ vs
unfolding without_all
without-none [] = refl
without-none (v ∷ vs) = ap (λ (l : List Value). v ∷ l) (without-none vs)

without-one : (k : Key) (vs : List Value) → without_all (k ∷ []) vs ≡ without k vs
unfolding without_all without
without-one k vs = ap (λ (f : Value → Bool). keep f vs) (fun_ext (λ v. ap not (or-false (same_key_def (key_of v) k))))

first_any : {A : Type 0} (f : A → Bool) (l : List A) → first f l ≡ none → any f l ≡ false
first_any f [] h = refl
first_any f (a ∷ l) h = go (f a) h (first_any f l)
  where
    go : (t : Bool) → cond t (some a) (first f l) ≡ none → (first f l ≡ none → any f l ≡ false) → (t || any f l) ≡ false
    go true h more = let z : ◌≡◌ {A = ℕ} 0 1 = cc in absurd (omega arith)
    go false h more = more h

-- ---- a name's 3F entry, else its 3E entry, is a value; where it is among the entries

record Stood (es : List Entry) (k : Key) (s : Entry) : Type 0 where
  key : entry_key s ≡ k
  value : is_value es s ≡ true
  before : List Entry
  behind : List Entry
  place : es ≡ before ++ (s ∷ behind)

stood : (es : List Entry) (k : Key) (s : Entry) → standing k es ≡ some s → Stood es k s
unfolding standing added replacing is_value
stood es k s h = go (first (is_entry_def 0x3F k) es) refl h
  where
    go : (o : Option Entry) → first (is_entry_def 0x3F k) es ≡ o → or_else o (first (is_entry_def 0x3E k) es) ≡ some s → Stood es k s
    go (some x) q h =
        let w = found (is_entry_def 0x3F k) es s (q ∙ h) in
        let p = and_split (eqb (state_of s) 0x3F) (same_key_def (entry_key s) k) w.passes in
        record { key = key-eq (entry_key s) k p.1; value = rw p.0; before = w.before; behind = w.behind; place = w.place }
    go none q h =
        let w = found (is_entry_def 0x3E k) es s h in
        let p = and_split (eqb (state_of s) 0x3E) (same_key_def (entry_key s) k) w.passes in
        let e = key-eq (entry_key s) k p.1 in
        let n : any (is_entry_def 0x3F (entry_key s)) es ≡ false = ap (λ (j : Key). any (is_entry_def 0x3F j) es) e ∙ first_any (is_entry_def 0x3F k) es q in
        record { key = e; value = rw (p.0, n) (or-true (eqb (state_of s) 0x3F)); before = w.before; behind = w.behind; place = w.place }

-- ---- a region's values

module _ (r : List ℕ) where
  abbrev held : List Entry
  held = keep (is_value (entries r)) (entries r)

  rises : Rising 28 held
  unfolding entries_in
  rises = kept-rises (is_value (entries r)) 28 (entries r) (walk-rises (header_length authenticated) (read_header_in authenticated) (drop 28 r) 0 28)

  -- of every value the offset is among some just if the name is among others
  abbrev pub Agreed : List ℕ → List Key → Type 0
  Agreed leave ks = Each (λ e. among leave e.at ≡ any (same_key_def (entry_key e)) ks) held

  pub agreed-none : Agreed [] []
  agreed-none = each held (λ e. refl)

  -- no entry is at 0
  pub agreed-zero : (leave : List ℕ) (ks : List Key) → Agreed leave ks → Agreed (0 ∷ leave) ks
  agreed-zero leave ks h = each_both held (λ e z p. rw z p) (nonzero 28 held (omega arith) rises) h
    where
      nonzero : (low : ℕ) (es : List Entry) → 1 ≤ low → Rising low es → Each (λ e. eqb e.at 0 ≡ false) es
      nonzero low [] h r = tt
      nonzero low (e ∷ es) h r = (ne_eqb e.at 0 (λ f. omega (arith, r.0, f)), nonzero (e.at + 1) es (omega arith) r.1)

  -- where a name stands, only its value is
  marks : sound r ≡ true → (k : Key) → Marks (on_some (standing k (entries r)) (λ e. e.at) 0) k held
  unfolding values find
  marks sounds k = go (standing k (entries r)) refl
    where
      go : (o : Option Entry) → standing k (entries r) ≡ o → Marks (on_some o (λ e. e.at) 0) k held
      go none q =
          let n = find-standing (length r) (entries r) k (sound-parts authenticated r sounds).1
          ∙ ap (λ (o : Option Entry). on_some o (λ e. some (entry_value_def e)) none) q in
          unmarked 0 k 28 held (omega arith) rises (first_any (named k) (values (entries r)) n)
      go (some s) q =
          let w = stood (entries r) k s q in
          let d = values-distinct (entries r) (judged-parts (length r) (entries r) (sound-parts authenticated r sounds).1).3 in
          let xs = keep (is_value (entries r)) w.before in
          let ys = keep (is_value (entries r)) w.behind in
          let p : held ≡ xs ++ (s ∷ ys) = ap (keep (is_value (entries r))) w.place ∙ keep_append (is_value (entries r)) w.before (s ∷ w.behind) ∙ rw w.value in
          let m = marked 28 xs ys s (subst (Rising 28) p rises) (subst (λ (es : List Entry). Distinct (map entry_value_def es)) p d) in
          subst (λ (j : Key). Marks s.at j held) w.key (subst (Marks s.at (entry_key s)) (sym p) m)

  -- the place of a name's value, and the name
  pub agreed-name : sound r ≡ true → (k : Key) (leave : List ℕ) (ks : List Key) → Agreed leave ks
      → Agreed (on_some (standing k (entries r)) (λ e. e.at) 0 ∷ leave) (k ∷ ks)
  agreed-name sounds k leave ks h =
      let a : ℕ = on_some (standing k (entries r)) (λ e. e.at) 0 in
      let more : (e : Entry) → eqb e.at a ≡ same_key_def (entry_key e) k → among leave e.at ≡ any (same_key_def (entry_key e)) ks
      → among (a ∷ leave) e.at ≡ any (same_key_def (entry_key e)) (k ∷ ks) = λ e m p. rw (m, p) in
      each_both held more (marks sounds k) h

  -- places left out are names left out
  pub leaving-agreed : (leave : List ℕ) (ks : List Key) → Agreed leave ks → values_but leave r ≡ without_all ks (values (entries r))
  unfolding values_but leaving values without_all
  leaving-agreed leave ks h =
      ap (map entry_value_def) (kept-alike (λ e. not (among leave e.at)) (λ e. not (any (same_key_def (entry_key e)) ks)) held (each-as held (λ e p. ap not p) h))
      ∙ sym (kept-values (λ v. not (any (same_key_def (key_of v)) ks)) held)

  agreed-zeros : (n : ℕ) → Agreed (replicate n 0) []
  agreed-zeros zero = agreed-none
  agreed-zeros (suc n) = agreed-zero (replicate n 0) [] (agreed-zeros n)

  -- with no place no value is left out
  pub leaving-none : values_but [] r ≡ values (entries r)
  leaving-none = leaving-agreed [] [] agreed-none ∙ without-none (values (entries r))

  -- with the place of a name's value that value alone is left out
  pub leaving-standing : sound r ≡ true → (k : Key) → values_but (leave_of (found_of (standing k (entries r)))) r ≡ without k (values (entries r))
  leaving-standing sounds k =
      ap (λ (l : List ℕ). values_but l r) (go (standing k (entries r)))
      ∙ leaving-agreed (on_some (standing k (entries r)) (λ e. e.at) 0 ∷ replicate 7 0) (k ∷ []) (agreed-name sounds k (replicate 7 0) [] (agreed-zeros 7))
      ∙ without-one k (values (entries r))
    where
      go : (o : Option Entry) → leave_of (found_of o) ≡ on_some o (λ e. e.at) 0 ∷ replicate 7 0
      go none = refl
      go (some e) = refl
