-- Items of a profile, one after another: what is said of those that were passed, with one more item is said of one more.
-- Assumes nothing.
use Prim.Native.Nat.{ℕ, suc, ◌+◌, ◌-◌, ◌<◌, ◌≤◌}
use native.Mathlib.Omega.{arith}
use native.Mathlib.Numerals.{add-one}
use mathlib.Core.Path.{◌≡◌, refl, sym, ap, ap₂, ◌∙◌}
use mathlib.Core.Bool.{Bool, true, false, not}
use mathlib.Core.List.{List, [], ◌∷◌, ◌++◌, map, map-append, append_assoc}
use mathlib.Core.Option.{Option, none, some}
use lib.ListN.{length, take, drop, set, get_or, replicate, length-map, length-append}
use lib.Seq.{set_at, append_snoc, split_at, take-suc, take-take, get_or-take, length-take-le}
use lib.Dec.{eqb}
use borrow.Author.Tests.{ne_eqb}
use Rattle.model.specs.declared.Terms.{Terms}
use Rattle.model.specs.declared.Rule.{Rule}
use Rattle.model.specs.Lists.{or_else}
use Rattle.model.specs.Name.{Key}
use Rattle.model.specs.Entry.{Value}
use Rattle.model.specs.Region.{entries, values, find}
use Rattle.model.specs.Request.{Request, request_key}
use Rattle.model.specs.Limits.{Limit}
use Rattle.model.specs.Change.{Change, nothing, remove, put, change_in}
use Rattle.model.specs.Rules.{first_broken, item_rules, setting_rules, puts}
use Rattle.model.specs.Beside.{items_alone, changes_alone}
use Rattle.model.proofs.Requests.{broken-append}
use Rattle.profile.specs.declared.Setting.{Setting}
use Rattle.profile.specs.Reader.{request_in, no_setting}
use Rattle.profile.specs.Folded.{leave_at, leaves_at, puts_at, eight}
use Rattle.std.specs.Prelude.{Err}
use Rattle.decision.specs.declared.Weight.{Weight}
use Rattle.decision.specs.Profile.{gone_size, comes_size, gone_sizes, comes_sizes, ItemPasses, ItemsPass, ItemsWeighed}
use Rattle.decision.proofs.Broken.{none_here}

-- ---- eight places

module _ {A : Type 0} (x : A) where
  pub eight-none : replicate 8 x ≡ eight x []
  eight-none = refl

  pub eight-next : (xs : List A) (y : A) (i : ℕ) → length xs ≡ i → i < 8 → set (eight x xs) i y ≡ eight x (xs ++ (y ∷ []))
  eight-next xs y i n h =
      let k : 8 - length xs ≡ suc (8 - length (xs ++ (y ∷ []))) = omega (arith, length-append xs (y ∷ [])) in
      ap (λ (m : ℕ). set (xs ++ replicate m x) i y) k
      ∙ set_at xs x (replicate (8 - length (xs ++ (y ∷ []))) x) y i n
      ∙ sym (append_snoc xs y (replicate (8 - length (xs ++ (y ∷ []))) x))

-- ---- items of a file: those passed and the next; all of them

module _ (file : List ℕ) (list : List Setting) (i : ℕ) where
  abbrev pub passed : List Request
  passed = map (request_in file) (take i list)

  abbrev pub next : Request
  next = request_in file (get_or list i no_setting)

  pub passed_length : i ≤ length list → length passed ≡ i
  passed_length h = length-map (take i list) (request_in file) ∙ length-take-le i list h

  pub passed-next : i < length list → map (request_in file) (take (i + 1) list) ≡ passed ++ (next ∷ [])
  passed-next h =
      rw (add-one i)
      (ap (map (request_in file)) (take-suc list i no_setting h) ∙ map-append (request_in file) (take i list) (get_or list i no_setting ∷ []))

  pub passed-all : (count : ℕ) → i < count → count ≤ length list
      → map (request_in file) (take count list) ≡ passed ++ (next ∷ map (request_in file) (drop (suc i) (take count list)))
  passed-all count h k =
      let n = length-take-le count list k in
      let rest : List Setting = drop (suc i) (take count list) in
      ap (map (request_in file))
      (split_at (take count list) i no_setting (omega arith)
      ∙ ap₂ (λ (xs : List Setting) (t : Setting). xs ++ (t ∷ rest)) (take-take i count list (omega arith)) (get_or-take count list i no_setting h))
      ∙ map-append (request_in file) (take i list) (get_or list i no_setting ∷ rest)

-- ---- the parts, with one more item

module _ (vs : List Value) where
  pub changes-append : (xs ys : List Request) → changes_alone (xs ++ ys) vs ≡ changes_alone xs vs ++ changes_alone ys vs
  unfolding changes_alone
  changes-append [] ys = refl
  changes-append (q ∷ xs) ys = ap (λ (l : List Change). change_in q vs ∷ l) (changes-append xs ys)

  changes-one : (q : Request) → changes_alone (q ∷ []) vs ≡ change_in q vs ∷ []
  unfolding changes_alone
  changes-one q = refl

  changes-length : (xs : List Request) → length (changes_alone xs vs) ≡ length xs
  unfolding changes_alone
  changes-length [] = refl
  changes-length (q ∷ xs) = omega (arith, changes-length xs)

  gone-next : (xs : List Request) (q : Request) → gone_sizes (xs ++ (q ∷ [])) vs ≡ gone_sizes xs vs + gone_size (change_in q vs) (find (request_key q) vs)
  unfolding gone_sizes
  gone-next [] q = omega arith
  gone-next (x ∷ xs) q = omega (arith, gone-next xs q)

  come-next : (xs : List Request) (q : Request) → comes_sizes (changes_alone (xs ++ (q ∷ [])) vs) ≡ comes_sizes (changes_alone xs vs) + comes_size (change_in q vs)
  unfolding comes_sizes changes_alone
  come-next [] q = omega arith
  come-next (x ∷ xs) q = omega (arith, come-next xs q)

-- an entry has a size
pub comes-none : (c : Change) → eqb (comes_size c) 0 ≡ not (puts (λ v. true) c)
unfolding comes_size
comes-none nothing = refl
comes-none (remove k) = refl
comes-none (put v) = ne_eqb (comes_size (put v)) 0 (λ e. absurd (omega arith))

comes-puts : (c : Change) → not (eqb (comes_size c) 0) ≡ puts (λ v. true) c
comes-puts c = ap not (comes-none c) ∙ go (puts (λ v. true) c)
  where
    go : (b : Bool) → not (not b) ≡ b
    go true = refl
    go false = refl

module _ (told : Key → Terms) (limits : Key → List Limit) (r : List ℕ) where
  abbrev vs : List Value
  vs = values (entries r)

  abbrev rules_of : Request → List (Rule × Bool)
  rules_of q = item_rules (told (request_key q)) q vs ++ setting_rules (limits (request_key q)) q (find (request_key q) vs)

  items-append : (xs ys : List Request) → items_alone told limits (xs ++ ys) vs ≡ items_alone told limits xs vs ++ items_alone told limits ys vs
  unfolding items_alone
  items-append [] ys = refl
  items-append (q ∷ xs) ys =
      ap (λ (l : List (Rule × Bool)). rules_of q ++ l) (items-append xs ys)
      ∙ sym (append_assoc (rules_of q) (items_alone told limits xs vs) (items_alone told limits ys vs))

  items-one : (q : Request) (ys : List Request) → items_alone told limits (q ∷ ys) vs ≡ rules_of q ++ items_alone told limits ys vs
  unfolding items_alone
  items-one q ys = refl

  items-end : first_broken (items_alone told limits [] vs) ≡ none
  unfolding items_alone
  items-end = none_here

  -- the rules of an item, after items that break none and before others
  broken-at : (xs : List Request) (q : Request) (ys : List Request) → first_broken (items_alone told limits xs vs) ≡ none
      → first_broken (items_alone told limits (xs ++ (q ∷ ys)) vs) ≡ or_else (first_broken (rules_of q)) (first_broken (items_alone told limits ys vs))
  broken-at xs q ys h =
      ap first_broken (items-append xs (q ∷ ys))
      ∙ broken-append (items_alone told limits xs vs) (items_alone told limits (q ∷ ys) vs)
      ∙ ap (λ (o : Option Rule). or_else o (first_broken (items_alone told limits (q ∷ ys) vs))) h
      ∙ ap first_broken (items-one q ys)
      ∙ broken-append (rules_of q) (items_alone told limits ys vs)

  -- ---- what is said of them

  pub pass-none : ItemsPass told limits [] r (replicate 8 0) (replicate 8 false) 0 0
  unfolding items_alone leaves_at puts_at changes_alone gone_sizes comes_sizes
  pass-none = record { kept = none_here; folds = record { left = refl; stored = refl }; goes = refl; come = refl }

  module _ (xs : List Request) (q : Request) where
    -- the first rule that is broken is that of the first item that breaks one
    pub items-break : (ys all : List Request) (rule : Rule) → all ≡ xs ++ (q ∷ ys) → first_broken (items_alone told limits xs vs) ≡ none → first_broken (rules_of q) ≡ some rule
        → ItemsWeighed told limits all r (Err rule)
    items-break ys all rule same h e =
        ap (λ (l : List Request). first_broken (items_alone told limits l vs)) same
        ∙ broken-at xs q ys h
        ∙ ap (λ (o : Option Rule). or_else o (first_broken (items_alone told limits ys vs))) e

    module _ (leave : List ℕ) (stores : List Bool) (gone comes i : ℕ) (pass : ItemsPass told limits xs r leave stores gone comes) (n : length xs ≡ i) (few : i < 8)
        (w : Weight) (weighed : ItemPasses q r w) (kept : first_broken (rules_of q) ≡ none) where
      left-next : set leave i w.at ≡ eight 0 (leaves_at r (xs ++ (q ∷ [])))
      unfolding leaves_at
      left-next =
          let f : Request → ℕ = λ x. leave_at (entries r) x (change_in x vs) in
          ap₂ (λ (l : List ℕ) (a : ℕ). set l i a) pass.folds.left weighed.left
          ∙ eight-next 0 (map f xs) (f q) i (length-map xs f ∙ n) few
          ∙ ap (eight 0) (sym (map-append f xs (q ∷ [])))

      stored_next : set stores i (not (eqb w.comes 0)) ≡ eight false (puts_at r (xs ++ (q ∷ [])))
      unfolding puts_at
      stored_next =
          let f : Change → Bool = puts (λ v. true) in
          let c : Change = change_in q vs in
          let cs : List Change = changes_alone xs vs in
          let here : not (eqb w.comes 0) ≡ f c = ap (λ (m : ℕ). not (eqb m 0)) weighed.comes ∙ comes-puts c in
          ap₂ (λ (l : List Bool) (b : Bool). set l i b) pass.folds.stored here
          ∙ eight-next false (map f cs) (f c) i (length-map cs f ∙ changes-length vs xs ∙ n) few
          ∙ ap (eight false) (sym (map-append f cs (c ∷ [])) ∙ ap (map f) (sym (changes-append vs xs (q ∷ []) ∙ ap (λ (l : List Change). cs ++ l) (changes-one vs q))))

      pub pass-next : ItemsPass told limits (xs ++ (q ∷ [])) r (set leave i w.at) (set stores i (not (eqb w.comes 0))) (gone + w.gone) (comes + w.comes)
      pass-next = record {
        kept = broken-at xs q [] pass.kept ∙ rw kept items-end;
        folds = record { left = left-next; stored = stored_next };
        goes = omega (arith, pass.goes, weighed.gone, gone-next vs xs q);
        come = omega (arith, pass.come, weighed.comes, come-next vs xs q);
      }
