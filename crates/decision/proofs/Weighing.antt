-- The weight of an item of a profile: the entry that it leaves behind is that of the value that is there, and the entry that comes is that of its new value. Both are small: a
-- region holds the one, and rules 3 and 12 bound the other.
-- Assumes nothing.
use Prim.Native.Nat.{ℕ, ◌+◌, ◌≤◌}
use native.Mathlib.Omega.{arith}
use mathlib.Core.Path.{◌≡◌, refl, sym, ap, ◌∙◌, subst}
use mathlib.Core.Bool.{Bool, true}
use mathlib.Core.List.{List, ◌++◌}
use mathlib.Core.Option.{Option, none, some}
use lib.ListN.{length}
use Rattle.model.specs.Layout.{authenticated}
use Rattle.model.specs.declared.Terms.{Terms}
use Rattle.model.specs.declared.Rule.{Rule}
use Rattle.model.specs.Lists.{part, on_some}
use Rattle.model.specs.Name.{Key, keyed}
use Rattle.model.specs.Entry.{Value, header_size_def, rounded, entry_size_def}
use Rattle.model.specs.Walk as walk
use Rattle.model.specs.Region.{sound, entries, values, standing, find}
use Rattle.model.specs.Request.{Request, request_key, data_proper}
use Rattle.model.specs.Limits.{Limit}
use Rattle.model.specs.Change.{Change, nothing, remove, put, change_in}
use Rattle.model.specs.Rules.{first_broken, item_rules, setting_rules}
use Rattle.model.proofs.Encode as encode
use Rattle.model.proofs.Chunks.{sound-parts}
use Rattle.model.proofs.Space.{sizes-split, old-counts}
use Rattle.region.specs.Walk.{entry_at}
use Rattle.values.specs.Found.{found_of}
use Rattle.std.specs.Prelude.{Result, Some, None, Ok, Err}
use Rattle.values.proofs.Sizes.{sizes-within}
use Rattle.session.specs.Said.{terms_with}
use Rattle.profile.specs.declared.Setting.{Setting}
use Rattle.profile.specs.Reader.{request_in}
use Rattle.profile.specs.Folded.{leave_at}
use Rattle.session.specs.declared.Locks.{Locks}
use Rattle.decision.specs.declared.Weight.{Weight}
use Rattle.decision.specs.declared.Change as told
use Rattle.decision.specs.declared.Change.TheVariants.{Put}
use Rattle.decision.specs.Decision.{request_of, kind_of, decided, tried_of}
use Rattle.decision.specs.Parts.{Found, on_found, value_at, new_size}
use Rattle.decision.specs.Profile.{told_of, limits_of, gone_size, comes_size, leaving_by, weight_by, ItemWeighed}
use Rattle.decision.proofs.Old.{old_value}
use Rattle.decision.proofs.Assembled.{new-entry, puts-new}
use Rattle.decision.proofs.Accepted.{decided-none, tried-named}

-- the offset of what was found
place_found : (o : Option walk.Entry) → on_found (found_of o) (λ at e. at) 0 ≡ on_some o (λ e. e.at) 0
place_found (some e) = refl
place_found none = refl

-- and its size
size-found : (r : List ℕ) (old : Found) → on_found old (λ at e. entry_size_def (walk.entry_value_def (entry_at r at e))) 0 ≡ on_some (value_at r old) entry_size_def 0
size-found r (Some p) = refl
size-found r None = refl

-- a value of the region takes no more than the region
size_fits : (r : List ℕ) → sound r ≡ true → (q : Request) → on_some (find (request_key q) (values (entries r))) entry_size_def 0 ≤ length r
size_fits r sounds q =
    let vs : List Value = values (entries r) in
    let distinct = encode.values-distinct (entries r) (encode.sound-parts (length r) (entries r) (sound-parts authenticated r sounds).1).single in
    let here = old-counts (λ v. true) (request_key q) vs distinct in
    omega (arith, here, sizes-split authenticated (λ v. true) vs, sizes-within authenticated r)

-- what is said of an item by its change
record Weighs (r : List ℕ) (q : Request) (c : Change) (w : Weight) : Type 0 where
  left : w.at ≡ leave_at (entries r) q c
  gone : w.gone ≡ gone_size c (find (request_key q) (values (entries r)))
  comes : w.comes ≡ comes_size c
  few-gone : w.gone ≤ length r
  few-come : w.comes ≤ 2236

module _ (r : List ℕ) (sounds : sound r ≡ true) (q : Request) (old : Found) (h : old ≡ found_of (standing (request_key q) (entries r))) where
  abbrev at_once : ℕ
  at_once = on_found old (λ at e. at) 0

  place : at_once ≡ on_some (standing (request_key q) (entries r)) (λ e. e.at) 0
  place = ap (λ (f : Found). on_found f (λ at e. at) 0) h ∙ place_found (standing (request_key q) (entries r))

  size : on_found old (λ at e. entry_size_def (walk.entry_value_def (entry_at r at e))) 0 ≡ on_some (find (request_key q) (values (entries r))) entry_size_def 0
  size = size-found r old ∙ ap (λ (o : Option Value). on_some o entry_size_def 0) (old_value r sounds (request_key q) old h)

  weighs : (c : Change) (what : told.Change) (n : ℕ) → Ok what ≡ kind_of c → ((v : Value) → c ≡ put v → n ≡ entry_size_def v) → (what ≡ Put → n ≤ 2236)
      → Weighs r q c (weight_by r old what n)
  unfolding weight_by leaving_by leave_at gone_size comes_size
  weighs nothing what n k e f =
      let same : what ≡ told.TheVariants.Nothing = cc in
      rw same (record { left = refl; gone = refl; comes = refl; few-gone = omega arith; few-come = omega arith })
  weighs (remove j) what n k e f =
      let same : what ≡ told.TheVariants.Remove = cc in
      rw same (record { left = place; gone = size; comes = refl; few-gone = omega (arith, size, size_fits r sounds q); few-come = omega arith })
  weighs (put v) what n k e f =
      let same : what ≡ Put = cc in
      let few = f same in
      rw same (record { left = place; gone = size; comes = e v refl; few-gone = omega (arith, size, size_fits r sounds q); few-come = few })

  -- an item that breaks a rule
  pub item-breaks : (t : Terms) (ls : List Limit) (rule : Rule) → Err rule ≡ tried_of ls t q (values (entries r)) → ItemWeighed t ls q r (Err rule)
  unfolding tried_of
  item-breaks t ls rule d =
      let vs : List Value = values (entries r) in
      go (first_broken (item_rules t q vs ++ setting_rules ls q (find (request_key q) vs))) (change_in q vs) d
    where
      go : (o : Option Rule) (c : Change) → Err rule ≡ decided o (kind_of c) → o ≡ some rule
      go (some x) c e = let i : rule ≡ x = cc in ap some (sym i)
      go none nothing e = let z : ◌≡◌ {A = ℕ} 0 1 = cc in absurd (omega arith)
      go none (remove j) e = let z : ◌≡◌ {A = ℕ} 0 1 = cc in absurd (omega arith)
      go none (put v) e = let z : ◌≡◌ {A = ℕ} 0 1 = cc in absurd (omega arith)

  -- an item, by what it does and the size of the data that it would store
  pub item-weighed : length r ≤ 28672 → (t : Terms) (ls : List Limit) (what : told.Change) (n : ℕ) → Ok what ≡ tried_of ls t q (values (entries r))
      → n ≡ new_size r old q.attributes (length (data_proper q)) → (what ≡ Put → n ≤ 2048) → (w : Weight) → w ≡ weight_by r old what (rounded (header_size_def + length q.name + n))
      → ItemWeighed t ls q r (Ok w)
  unfolding tried_of
  item-weighed fits t ls what n d m small w e =
      let vs : List Value = values (entries r) in
      let rules : List (Rule × Bool) = item_rules t q vs ++ setting_rules ls q (find (request_key q) vs) in
      let size : ℕ = rounded (header_size_def + length q.name + n) in
      let p = decided-none (first_broken rules) (kind_of (change_in q vs)) (Ok what) (sym d) refl in
      let few : what ≡ Put → size ≤ 2236 = λ k. omega (arith, small k, tried-named ls t q vs (sym d ∙ ap Ok k)) in
      let new : (v : Value) → change_in q vs ≡ put v → size ≡ entry_size_def v =
      λ v k. ap (λ (x : ℕ). rounded (header_size_def + length q.name + x)) m ∙ new-entry t q r sounds old h ∙ ap entry_size_def (sym (puts-new t q r sounds old h v k)) in
      let all : Weighs r q (change_in q vs) w = rw e (weighs (change_in q vs) what size (sym p.1) new few) in (
        p.0,
        record { left = all.left; gone = all.gone; comes = all.comes; few-gone = omega (arith, all.few-gone); few-come = all.few-come },
      )

-- ---- an item of a file, read at its place

module _ (said : Terms) (held : Locks) (locks table file : List ℕ) (s : Setting) (name vendor bytes : List ℕ) (n : name ≡ part (s.at + 16) s.name file) (v : vendor ≡ part s.at 16 file)
    (b : bytes ≡ part (s.at + 16 + s.name) s.size file) where
  read-item : request_of name vendor s.attributes bytes 0 0 ≡ request_in file s
  unfolding request_in
  read-item = rw (n, v, b)

  pub item-read : (t : Terms) (r : List ℕ) (w : Result Weight Rule) → t ≡ told_of said held locks (keyed name vendor)
      → ItemWeighed t (limits_of t table (keyed name vendor)) (request_of name vendor s.attributes bytes 0 0) r w
      → ItemWeighed (told_of said held locks (request_key (request_in file s))) (limits_of said table (request_key (request_in file s))) (request_in file s) r w
  unfolding terms_with
  item-read t r w e h =
      let k : Key = keyed name vendor in
      subst (λ (q : Request). ItemWeighed (told_of said held locks (request_key q)) (limits_of said table (request_key q)) q r w) read-item
      (subst (λ (x : Terms). ItemWeighed x (limits_of x table k) (request_of name vendor s.attributes bytes 0 0) r w) e h)
