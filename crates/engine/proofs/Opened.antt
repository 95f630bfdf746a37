-- Rules are checked in stages: the first rule broken of two lists is the first of the one list, else of the other. So where rules 1, 2, 3 and 22 are kept the later ones
-- decide, and where one of them is broken it is the answer, which is not rule 14.
-- Assumes nothing.
use Prim.Native.Nat.{ℕ, ◌+◌, ◌≤◌}
use native.Mathlib.Omega.{arith}
use mathlib.Core.Path.{◌≡◌, refl, sym, ap, ap₂, ◌∙◌}
use mathlib.Core.Bool.{Bool, true, false, not, cond, ◌&&◌, ◌||◌}
use mathlib.Core.List.{List, [], ◌∷◌, ◌++◌}
use mathlib.Core.Option.{Option, none, some}
use Rattle.std.specs.Prelude.{Ok, Err}
use lib.ListN.{length, take, drop, length-append}
use lib.Seq.{sets, length-sets, sets-eq, take_at, drop_at}
use lib.Dec.{eqb, leb}
use borrow.Author.Tests.{leb-true}
use Rattle.model.specs.Layout.{authenticated}
use Rattle.model.specs.Lists.{on_some, or_else, part, same}
use Rattle.model.specs.Image.{region}
use Rattle.model.specs.Name.{Key, keyed, well_named, zero_ended, empty_name}
use Rattle.model.specs.Region.{entries}
use Rattle.model.specs.Rules.{first_broken, rule1, rule2, image_rules, image_rules_in}
use Rattle.model.specs.Answers.{rule_number}
use Rattle.model.proofs.Tests.{and_split, same-eq}
use Rattle.model.proofs.Requests.{broken-append}
use Rattle.model.specs.declared.Rule.{Rule}
use Rattle.model.specs.declared.Rule.TheVariants.{Length, Unready, Name, Side}
use Rattle.region.specs.Met.{key_from, met_of}
use Rattle.image.specs.Check.{call_in, call_of, IsReady}
use Rattle.image.specs.declared.Ready.{Ready}
use Rattle.image.proofs.Readiness.{is-ready, refused-rule}
use Rattle.engine.specs.Read.{open_of}

-- ---- the key that is sought

pub named-short : (name : List ℕ) → well_named name ≡ true → length name ≤ 128
unfolding well_named
named-short name h =
    let p = and_split (leb 4 (length name) && leb (length name) 128) (zero_ended name) h in
    leb-true (length name) 128 (and_split (leb 4 (length name)) (leb (length name) 128) p.0).1

pub next-short : (name : List ℕ) → (well_named name || same name empty_name) ≡ true → length name ≤ 128
unfolding empty_name
next-short name h = go (well_named name) refl h
  where
    go : (t : Bool) → well_named name ≡ t → (t || same name empty_name) ≡ true → length name ≤ 128
    go true q h = named-short name q
    go false q h = let n = ap length (same-eq name empty_name h) in omega arith

pub joined_key : (key name vendor : List ℕ) → length key ≡ 144 → length vendor ≡ 16 → length name ≤ 128 → {after : List ℕ} → after ≡ sets key 0 (vendor ++ name)
    → part 0 (16 + length name) after ≡ vendor ++ name
joined_key key name vendor k v n e =
    let l = length-append vendor name in
    ap (take (16 + length name)) (e ∙ sets-eq (vendor ++ name) key 0 (omega arith))
    ∙ take_at (vendor ++ name) (drop (0 + length (vendor ++ name)) key) (16 + length name) (omega arith)

pub joined-long : (key name vendor : List ℕ) → length key ≡ 144 → {after : List ℕ} → after ≡ sets key 0 (vendor ++ name) → 144 ≡ length after
joined-long key name vendor k e = sym (ap length e ∙ length-sets key 0 (vendor ++ name) ∙ k)

-- ---- rules 1, 2, 3 and 22 as the code checks them

module _ (img : List ℕ) where
  with-name : (named foreign : Bool)
      → first_broken (image_rules img ++ ((Name, not named) ∷ (Side, foreign) ∷ [])) ≡ or_else (first_broken (image_rules img)) (cond (not named) (some Name) (cond foreign (some Side) none))
  unfolding first_broken
  with-name named foreign = broken-append (image_rules img) ((Name, not named) ∷ (Side, foreign) ∷ [])

  -- rule 1 or 2 is broken
  pub open-first : {rule : Rule} → call_of img ≡ Err rule → (named foreign : Bool) → open_of img named foreign ≡ Err rule
  unfolding open_of
  open-first {rule} p named foreign = rw (with-name named foreign, refused-rule authenticated img rule p)

  -- they are kept
  module _ {ready : Ready} (p : call_of img ≡ Ok ready) where
    open-ready : (named foreign : Bool) → open_of img named foreign ≡ on_some (cond (not named) (some Name) (cond foreign (some Side) none)) Err (call_of img)
    unfolding open_of call_in
    open-ready named foreign = rw (with-name named foreign, (is-ready authenticated p).unbroken)

    pub open-unnamed : (foreign : Bool) → open_of img false foreign ≡ Err Name
    open-unnamed foreign = open-ready false foreign

    pub open-foreign : open_of img true true ≡ Err Side
    open-foreign = open-ready true true

    pub open_own : open_of img true false ≡ Ok ready
    open_own = open-ready true false ∙ p

  -- the name is that of the key
  pub its-key : (name vendor : List ℕ) → length vendor ≡ 16 → met_of (key_from (vendor ++ name)) (entries (region img)) ≡ met_of (keyed name vendor) (entries (region img))
  its-key name vendor l =
      ap (λ (j : Key). met_of j (entries (region img))) (ap₂ keyed (drop_at vendor name 16 l) (take_at vendor name 16 l))

  -- ---- what they leave to the later rules

  early : (o : Option Rule) → first_broken (image_rules img) ≡ o → on_some o (λ rule. eqb (rule_number rule) 14) false ≡ false
  unfolding first_broken image_rules_in
  early o q = sym (ap (λ (x : Option Rule). on_some x (λ rule. eqb (rule_number rule) 14) false) q) ∙ go (rule1 img) (rule2 img)
    where
      go : (s t : Bool) → on_some (first_broken ((Length, s) ∷ (Unready, t) ∷ [])) (λ rule. eqb (rule_number rule) 14) false ≡ false
      go true t = refl
      go false true = refl
      go false false = refl

  pub record Opens (x : Ready) (named foreign : Bool) : Type 0 where
    pub ready : IsReady img x.blocks x.tail x.used
    pub later : (ts : List (Rule × Bool)) → first_broken (image_rules img ++ ((Name, not named) ∷ (Side, foreign) ∷ ts)) ≡ first_broken ts

  pub opens : {x : Ready} (named foreign : Bool) → open_of img named foreign ≡ Ok x → Opens x named foreign
  unfolding open_of call_in first_broken
  opens {x} named foreign p = go (first_broken (image_rules img)) refl named refl foreign refl
    where
      go : (o : Option Rule) → first_broken (image_rules img) ≡ o → (n : Bool) → named ≡ n → (f : Bool) → foreign ≡ f → Opens x named foreign
      go (some rule) q n m f e =
          let p' = rw (with-name named foreign, q) at p in
          let z : ◌≡◌ {A = ℕ} 0 1 = cc in
          absurd (omega arith)
      go none q false m f e =
          let p' = rw (with-name named foreign, q, m) at p in
          let z : ◌≡◌ {A = ℕ} 0 1 = cc in
          absurd (omega arith)
      go none q true m true e =
          let p' = rw (with-name named foreign, q, m, e) at p in
          let z : ◌≡◌ {A = ℕ} 0 1 = cc in
          absurd (omega arith)
      go none q true m false e = record {
        ready = is-ready authenticated (rw q (rw (with-name named foreign, q, m, e) at p));
        later = λ ts. broken-append (image_rules img) ((Name, not named) ∷ (Side, foreign) ∷ ts) ∙ rw (q, m, e);
      }

  pub record Refuses (rule : Rule) (named foreign : Bool) : Type 0 where
    pub before-14 : eqb (rule_number rule) 14 ≡ false
    pub broken : (ts : List (Rule × Bool)) → first_broken (image_rules img ++ ((Name, not named) ∷ (Side, foreign) ∷ ts)) ≡ some rule

  pub refuses : (rule : Rule) (named foreign : Bool) → open_of img named foreign ≡ Err rule → Refuses rule named foreign
  unfolding open_of first_broken
  refuses rule named foreign p = go (first_broken (image_rules img)) refl named refl foreign refl
    where
      go : (o : Option Rule) → first_broken (image_rules img) ≡ o → (n : Bool) → named ≡ n → (f : Bool) → foreign ≡ f → Refuses rule named foreign
      go (some x) q n m f e =
          let p' = rw (with-name named foreign, q) at p in
          let same : x ≡ rule = cc in
          record {
            before-14 = sym (ap (λ (y : Rule). eqb (rule_number y) 14) same) ∙ early (some x) q;
            broken = λ ts. broken-append (image_rules img) ((Name, not named) ∷ (Side, foreign) ∷ ts) ∙ rw (q, same);
          }
      go none q false m f e =
          let p' = rw (with-name named foreign, q, m) at p in
          let same : Name ≡ rule = cc in
          record {
            before-14 = ap (λ (y : Rule). eqb (rule_number y) 14) (sym same);
            broken = λ ts. broken-append (image_rules img) ((Name, not named) ∷ (Side, foreign) ∷ ts) ∙ rw (q, m, same);
          }
      go none q true m true e =
          let p' = rw (with-name named foreign, q, m, e) at p in
          let same : Side ≡ rule = cc in
          record {
            before-14 = ap (λ (y : Rule). eqb (rule_number y) 14) (sym same);
            broken = λ ts. broken-append (image_rules img) ((Name, not named) ∷ (Side, foreign) ∷ ts) ∙ rw (q, m, e, same);
          }
      go none q true m false e =
          let p' = rw (with-name named foreign, q, m, e) at p in
          let z : ◌≡◌ {A = ℕ} 0 1 = cc in
          absurd (omega arith)
