-- The sets that a profile's file asks for: their attributes are those of the form and their GUIDs are of 16 bytes; names, GUIDs and data are pieces of the file.
-- Assumes nothing.
use Prim.Native.Nat.{ℕ, zero, suc, ◌+◌, ◌*◌, ◌-◌, ◌≤◌}
use native.Mathlib.Omega.{arith}
use mathlib.Core.Path.{◌≡◌, refl, subst}
use mathlib.Core.Bool.{Bool, true, false, cond, ◌&&◌}
use mathlib.Core.List.{List, [], ◌∷◌}
use mathlib.Core.Option.{Option, none, some}
use lib.ListN.{length, take, drop, length-take}
use lib.Dec.{eqb, leb, ltb}
use borrow.Author.Tests.{leb-true}
use Rattle.model.specs.Lists.{part, among, is_empty, on_some}
use Rattle.model.specs.Request.{Request}
use Rattle.model.specs.Profile.{Number, number, Item, item_attributes, item_body, item_at, item_space, items_at, profile_of, items_in}
use Rattle.model.specs.Beside.{EachItem}
use Rattle.model.proofs.Alone.{InForm}
use Rattle.model.proofs.Tests.{and_split}

-- an item of the form whose pieces are lists of some kind
pub record Formed (S : List ℕ → Type 0) (r : Request) : Type 0 where
  pub name : S r.name
  pub vendor : S r.vendor
  pub long : length r.vendor ≡ 16
  pub attributes : InForm r
  pub bytes : S r.bytes

pub each_item : {P Q : Request → Type 0} (rs : List Request) → ((r : Request) → P r → Q r) → EachItem P rs → EachItem Q rs
each_item [] f h = tt
each_item (r ∷ rs) f h = (f r h.0, each_item rs f h.1)

none-not : {A B : Type 0} {a : A} → none ≡ some a → B
none-not e = let z : ◌≡◌ {A = ℕ} 0 1 = cc in absurd (omega arith)

-- where the front and the rest of such a list are such
module _ (S : List ℕ → Type 0) (front : (n : ℕ) (s : List ℕ) → S s → S (take n s)) (behind : (n : ℕ) (s : List ℕ) → S s → S (drop n s)) where
  number-rest : (n : ℕ) (s : List ℕ) (m : Number) → number n s ≡ some m → S s → S m.rest
  unfolding number
  number-rest zero s m h p = none-not h
  number-rest (suc n) [] m h p = none-not h
  number-rest (suc n) (b ∷ s) m h p = go (ltb b 128) (number n s) refl h (λ k e. number-rest n s k e (behind 1 (b ∷ s) p))
    where
      last : (t : Bool) (x : Number) → cond t none (some x) ≡ some m → x ≡ m
      last true x h = none-not h
      last false x h = cc

      go : (t : Bool) (o : Option Number) → number n s ≡ o
          → cond t (some (record { value = b; rest = s }))
          (on_some o (λ k. cond (eqb k.value 0) none (some (record { value = b - 128 + 128 * k.value; rest = k.rest }))) none) ≡ some m
          → ((k : Number) → number n s ≡ some k → S k.rest)
          → S m.rest
      go true o e h more = let same : record { value = b; rest = s } ≡ m = cc in subst (λ (x : Number). S x.rest) same (behind 1 (b ∷ s) p)
      go false none e h more = none-not h
      go false (some k) e h more =
          subst (λ (x : Number). S x.rest) (last (eqb k.value 0) (record { value = b - 128 + 128 * k.value; rest = k.rest }) h) (more k e)

  -- an item, and what is behind it
  record Read (i : Item) : Type 0 where
    asked : Formed S i.asked
    rest : S i.rest

  body-read : (a name size : ℕ) (s : List ℕ) (i : Item) → item_body a name size s ≡ some i → S s → Read i
  unfolding item_body
  body-read a name size s i h p = go (among item_attributes a && leb (16 + name + size) (length s)) refl h
    where
      made : Item
      made = record {
        asked = record { name = part 16 name s; vendor = take 16 s; attributes = a; bytes = part (16 + name) size s; presence = 0; verdict = 0 };
        rest = drop (16 + name + size) s;
      }

      go : (t : Bool) → (among item_attributes a && leb (16 + name + size) (length s)) ≡ t → cond t (some made) none ≡ some i → Read i
      go true e h =
          let same : made ≡ i = cc in
          let both = and_split (among item_attributes a) (leb (16 + name + size) (length s)) e in
          let long : 16 + name + size ≤ length s = leb-true (16 + name + size) (length s) both.1 in
          subst Read same (record {
            asked = record {
              name = front name (drop 16 s) (behind 16 s p);
              vendor = front 16 s p;
              long = rw length-take (omega arith);
              attributes = both.0;
              bytes = front size (drop (16 + name) s) (behind (16 + name) s p);
            };
            rest = behind (16 + name + size) s p;
          })
      go false e h = none-not h

  item-read : (s : List ℕ) (i : Item) → item_at s ≡ some i → S s → Read i
  unfolding item_at
  item-read s i h p = attributes (number 3 s) refl h
    where
      then : Number → Number → Option Item
      then a n = on_some (number 3 n.rest) (λ d. item_body a.value n.value d.value d.rest) none

      size : (a n : Number) → S n.rest → (o : Option Number) → number 3 n.rest ≡ o
          → on_some o (λ d. item_body a.value n.value d.value d.rest) none ≡ some i → Read i
      size a n p none e h = none-not h
      size a n p (some d) e h = body-read a.value n.value d.value d.rest i h (number-rest 3 n.rest d e p)

      name : (a : Number) → S a.rest → (o : Option Number) → number 3 a.rest ≡ o → on_some o (then a) none ≡ some i → Read i
      name a p none e h = none-not h
      name a p (some n) e h = size a n (number-rest 3 a.rest n e p) (number 3 n.rest) refl h

      attributes : (o : Option Number) → number 3 s ≡ o → on_some o (λ a. on_some (number 3 a.rest) (then a) none) none ≡ some i → Read i
      attributes none e h = none-not h
      attributes (some a) e h = name a (number-rest 3 s a e p) (number 3 a.rest) refl h

  items-read : (n : ℕ) (s : List ℕ) (rs : List Request) → items_at n s ≡ some rs → S s → EachItem (Formed S) rs
  unfolding items_at
  items-read zero s rs h p = go (is_empty s) h
    where
      go : (t : Bool) → cond t (some []) none ≡ some rs → EachItem (Formed S) rs
      go true h = let same : [] ≡ rs = cc in subst (EachItem (Formed S)) same tt
      go false h = none-not h
  items-read (suc n) s rs h p = go (item_at s) refl h (λ i l e q. items-read n i.rest l e q)
    where
      More : Item → Type 0
      More i = (l : List Request) → items_at n i.rest ≡ some l → S i.rest → EachItem (Formed S) l

      others : (i : Item) → Read i → (o : Option (List Request)) → items_at n i.rest ≡ o → on_some o (λ l. some (i.asked ∷ l)) none ≡ some rs → More i
          → EachItem (Formed S) rs
      others i q none e h more = none-not h
      others i q (some l) e h more = let same : i.asked ∷ l ≡ rs = cc in subst (EachItem (Formed S)) same (q.asked, more l e q.rest)

      go : (o : Option Item) → item_at s ≡ o → on_some o (λ i. on_some (items_at n i.rest) (λ l. some (i.asked ∷ l)) none) none ≡ some rs
          → ((i : Item) → More i) → EachItem (Formed S) rs
      go none e h more = none-not h
      go (some i) e h more = others i (item-read s i e p) (items_at n i.rest) refl h (more i)

  -- every item of a file
  pub profile-read : (file : List ℕ) (rs : List Request) → profile_of file ≡ some rs → S file → EachItem (Formed S) rs
  unfolding profile_of
  profile-read file rs h p = go (number 3 file) refl h
    where
      within : (m : Number) → S m.rest → (t : Bool) → cond t (items_at m.value m.rest) none ≡ some rs → EachItem (Formed S) rs
      within m q true h = items-read m.value m.rest rs h q
      within m q false h = none-not h

      go : (o : Option Number) → number 3 file ≡ o → on_some o (λ n. cond (leb n.value item_space) (items_at n.value n.rest) none) none ≡ some rs
          → EachItem (Formed S) rs
      go none e h = none-not h
      go (some m) e h = within m (number-rest 3 file m e p) (leb m.value item_space) h

  pub file-read : (file : List ℕ) → S file → EachItem (Formed S) (items_in file)
  unfolding items_in
  file-read file p = go (profile_of file) refl
    where
      go : (o : Option (List Request)) → profile_of file ≡ o → EachItem (Formed S) (on_some o (λ rs. rs) [])
      go none e = tt
      go (some rs) e = profile-read file rs e p

-- ---- of any list

abbrev any-list : List ℕ → Type 0
any-list s = Unit {0}

pub form-attributes : (file : List ℕ) (rs : List Request) → profile_of file ≡ some rs → EachItem InForm rs
form-attributes file rs h = each_item rs (λ r f. f.attributes) (profile-read any-list (λ n s p. tt) (λ n s p. tt) file rs h tt)

pub file-form : (file : List ℕ) → EachItem InForm (items_in file)
file-form file = each_item (items_in file) (λ r f. f.attributes) (file-read any-list (λ n s p. tt) (λ n s p. tt) file tt)

pub file-vendors : (file : List ℕ) → EachItem (λ r. length r.vendor ≡ 16) (items_in file)
file-vendors file = each_item (items_in file) (λ r f. f.long) (file-read any-list (λ n s p. tt) (λ n s p. tt) file tt)
