-- Room for the items of a profile. None of them shares its name with another, so each takes out what is there under its name and no more; where they break no rule, all that goes
-- and comes is the side's own, and no error record. So the sizes of each class after the last are those before the first, without what goes and with what comes; and 13 is judged
-- by these.
-- Assumes nothing.
use Prim.Native.Nat.{ℕ, ◌+◌, ◌≤◌}
use native.Mathlib.Omega.{arith}
use mathlib.Core.Path.{◌≡◌, refl, sym, ap, ap₂, ◌∙◌}
use mathlib.Core.Bool.{Bool, true, false, not, cond, ◌&&◌, ◌||◌, or-false, true≢false, false≢true}
use mathlib.Core.List.{List, [], ◌∷◌, ◌++◌}
use mathlib.Core.Option.{Option, none, some}
use lib.ListN.{length}
use lib.Dec.{eqb}
use borrow.Author.Tests.{eqb-true, eqb-false, eq-eqb, ne_eqb, not-false}
use Rattle.model.specs.Layout.{authenticated}
use Rattle.model.specs.declared.Terms.{Terms}
use Rattle.model.specs.declared.Rule.{Rule}
use Rattle.model.specs.declared.Rule.TheVariants.{Room}
use Rattle.model.specs.Lists.{any, all, among, is_some, on_some, or_else}
use Rattle.model.specs.Name.{Key, same_key_def}
use Rattle.model.specs.Entry.{Value, key_of, entry_size_def}
use Rattle.model.specs.Region.{record_bit, sound, entries, values, find}
use Rattle.model.specs.Request.{Request, request_key, without_append_def, runtime_access_def}
use Rattle.model.specs.Profile.{item_attributes, shares_name_def}
use Rattle.model.specs.Limits.{Limit}
use Rattle.model.specs.Change.{Change, nothing, remove, put, is_nothing, new_value, change_of, change_in, step, steps, is_error_record_def}
use Rattle.model.specs.Sides.{owns, side_sizes}
use Rattle.model.specs.Rules.{first_broken, rule7, rule11, rule13, rule22, unlike_stored, request_rules, standing_rules, result_rules, item_rules, setting_rules, puts}
use Rattle.model.specs.Beside.{EachItem, items_alone, changes_alone}
use Rattle.model.proofs.Tests.{or_split, key-eq, key-sym}
use Rattle.model.proofs.Alone.{InForm, form-cases, form-plain}
use Rattle.model.proofs.Changes.{steps-distinct}
use Rattle.model.proofs.Chunks.{sound-parts}
use Rattle.model.proofs.Encode as encode
use Rattle.model.proofs.Looking.{change-cases, change-own, find-step, other-change}
use Rattle.model.proofs.Requests.{none-append, broken-append, unbroken, record-append}
use Rattle.model.proofs.Space.{size_of, sizes}
use Rattle.model.proofs.Values as listing
use Rattle.session.specs.Said.{terms_with}
use Rattle.session.specs.declared.Locks.{Locks}
use Rattle.std.specs.Prelude.{Ok, Err}
use Rattle.decision.specs.declared.Change.TheVariants.{Nothing, Put}
use Rattle.decision.specs.Decision.{decided}
use Rattle.decision.specs.Parts.{room_by}
use Rattle.decision.specs.Profile.{told_of, weighed_of, gone_size, comes_size, gone_sizes, comes_sizes, folded_sums, roomed_of}
use Rattle.decision.proofs.Broken.{kept_here, none_here}
use Rattle.decision.proofs.Classes.{Class, records_class, own_class, others_class}
use Rattle.decision.proofs.Changing.{gone_if, comes_if, step-sizes, Moved, moved-room}
use Rattle.decision.proofs.Passing.{comes-none}

-- ---- the sizes of some values, after changes of different names

-- lists of values agree under the names of items; a change of another name leaves that so
abbrev Agree : List Request → List Value → List Value → Type 0
Agree rs ws vs = EachItem (λ q. find (request_key q) ws ≡ find (request_key q) vs) rs

agree-self : (rs : List Request) (vs : List Value) → Agree rs vs vs
agree-self [] vs = tt
agree-self (q ∷ rs) vs = (refl, agree-self rs vs)

agree-step : (q : Request) (rs : List Request) (ws vs : List Value) → any (λ x. same_key_def (request_key x) (request_key q)) rs ≡ false → Agree rs ws vs
    → Agree rs (step (change_in q vs) ws) vs
agree-step q [] ws vs h a = tt
agree-step q (x ∷ rs) ws vs h a =
    let s = or_split (same_key_def (request_key x) (request_key q)) (any (λ y. same_key_def (request_key y) (request_key q)) rs) h in
    let other = other-change (request_key x) q vs (key-sym (request_key q) (request_key x) ∙ s.0) in
    (find-step (request_key x) (change_in q vs) ws other ∙ a.0, agree-step q rs ws vs s.1 a.1)

module _ (p : Value → Bool) where
  -- of some values, what changes take out, and what they add
  abbrev all_gone : List Request → List Value → ℕ
  all_gone [] vs = 0
  all_gone (q ∷ rs) vs = gone_if p (change_in q vs) (find (request_key q) vs) + all_gone rs vs

  abbrev all_come_def : List Change → ℕ
  all_come_def [] = 0
  all_come_def (c ∷ cs) = comes_if p c + all_come_def cs

  change-sizes : (q : Request) (vs ws : List Value) → encode.Distinct ws → find (request_key q) ws ≡ find (request_key q) vs
      → sizes p (step (change_in q vs) ws) + gone_if p (change_in q vs) (find (request_key q) vs) ≡ sizes p ws + comes_if p (change_in q vs)
  unfolding change_in
  change-sizes q vs ws d e =
      rw (← e) (step-sizes p (request_key q) (change_of q (find (request_key q) ws)) ws (change-own q (find (request_key q) ws)) d)

  steps-sizes : (rs : List Request) (vs ws : List Value) → shares_name_def rs ≡ false → encode.Distinct ws → Agree rs ws vs
      → sizes p (steps (changes_alone rs vs) ws) + all_gone rs vs ≡ sizes p ws + all_come_def (changes_alone rs vs)
  unfolding changes_alone steps shares_name_def
  steps-sizes [] vs ws apart d a = refl
  steps-sizes (q ∷ rs) vs ws apart d a =
      let s = or_split (any (λ x. same_key_def (request_key x) (request_key q)) rs) (shares_name_def rs) apart in
      let c : Change = change_in q vs in
      let here = change-sizes q vs ws d a.0 in
      let rest = steps-sizes rs vs (step c ws) s.1 (steps-distinct (c ∷ []) ws d) (agree-step q rs ws vs s.0 a.1) in
      omega (arith, here, rest)

-- ---- items that break no rule

-- what is said of an item over values: its name is the side's own; neither it nor the value that is there is an error record; and what it deletes is there
record Fine (t : Terms) (vs : List Value) (q : Request) : Type 0 where
  owned : owns t.vendor t.modem (request_key q) ≡ true
  plain : record_bit q.attributes ≡ false
  like : (v : Value) → find (request_key q) vs ≡ some v → v.attributes ≡ q.attributes
  there : (k : Key) → change_in q vs ≡ remove k → is_some (find (request_key q) vs) ≡ true

-- by 7 the value that is there has the item's attributes
stored-like : (runtime : Bool) (a stored : ℕ) → among item_attributes a ≡ true → rule7 runtime a stored ≡ false → stored ≡ a
unfolding rule7 unlike_stored
stored-like runtime a stored h =
    form-cases (λ (n : ℕ). (unlike_stored (without_append_def n) stored || (runtime && not (runtime_access_def stored))) ≡ false → stored ≡ n) a h (like 0x03) (like 0x07)
  where
    like : (n : ℕ) → ((not (eqb n stored || false) || false) || (runtime && not (runtime_access_def stored))) ≡ false → stored ≡ n
    like n e = sym (eqb-true n stored (sym (or-false (eqb n stored)) ∙ not-false (eqb n stored || false) (or_split _ _ (or_split _ _ e).0).0))

module _ (t : Terms) (told : Key → Terms) (limits : Key → List Limit) (vs : List Value) (foreign : (k : Key) → (told k).foreign ≡ rule22 t.vendor t.modem k) where
  item-fine : (q : Request) → InForm q → first_broken (item_rules (told (request_key q)) q vs) ≡ none → Fine t vs q
  unfolding item_rules request_rules standing_rules result_rules rule11 rule22 change_in
  item-fine q form h =
      let k : Key = request_key q in
      let old : Option Value = find k vs in
      let own : not (owns t.vendor t.modem k) ≡ false = sym (foreign k) ∙ unbroken _ 22 h in
      let seven : on_some old (λ v. rule7 (told k).runtime q.attributes v.attributes) false ≡ false = unbroken _ 7 h in
      let eleven : rule11 (change_of q old) old ≡ false = unbroken _ 11 h in record {
        owned = not-false (owns t.vendor t.modem k) own;
        plain = form-plain q.attributes form;
        like = λ v e. stored-like (told k).runtime q.attributes v.attributes form (rw e at seven);
        there = λ j e. not-false (is_some old) (rw e at eleven);
      }

  items-fine : (rs : List Request) → EachItem InForm rs → first_broken (items_alone told limits rs vs) ≡ none → EachItem (Fine t vs) rs
  unfolding items_alone
  items-fine [] form h = tt
  items-fine (q ∷ rs) form h =
      let k : Key = request_key q in
      let a : List (Rule × Bool) = item_rules (told k) q vs in
      let b : List (Rule × Bool) = setting_rules (limits k) q (find k vs) in
      let s = none-append (a ++ b) (items_alone told limits rs vs) h in
      (item-fine q form.0 (none-append a b s.0).0, items-fine rs form.1 s.1)

-- ---- their sizes by class

cond-none : (b : Bool) → ◌≡◌ {A = ℕ} 0 (cond b 0 0)
cond-none true = refl
cond-none false = refl

cond-sum : (b : Bool) (m n : ℕ) → cond b m 0 + cond b n 0 ≡ cond b (m + n) 0
cond-sum true m n = refl
cond-sum false m n = refl

-- an entry has a size
sum-none : (m n : ℕ) → eqb (m + n) 0 ≡ (eqb m 0 && eqb n 0)
sum-none m n = go (eqb m 0) refl (eqb n 0) refl
  where
    go : (a : Bool) → eqb m 0 ≡ a → (b : Bool) → eqb n 0 ≡ b → eqb (m + n) 0 ≡ (a && b)
    go true e true f = eq-eqb (m + n) 0 (omega (arith, eqb-true m 0 e, eqb-true n 0 f))
    go true e false f = ne_eqb (m + n) 0 (λ z. eqb-false n 0 f (omega arith))
    go false e b f = ne_eqb (m + n) 0 (λ z. eqb-false m 0 e (omega arith))

none-comes : (cs : List Change) → eqb (comes_sizes cs) 0 ≡ not (any (puts (λ v. true)) cs)
unfolding comes_sizes
none-comes [] = refl
none-comes (c ∷ cs) =
    sum-none (comes_size c) (comes_sizes cs) ∙ ap₂ ◌&&◌ (comes-none c) (none-comes cs) ∙ neither (puts (λ v. true) c) (any (puts (λ v. true)) cs)
  where
    neither : (a b : Bool) → (not a && not b) ≡ not (a || b)
    neither true b = refl
    neither false b = refl

some-changes : (cs : List Change) → any (puts (λ v. true)) cs ≡ true → all is_nothing cs ≡ false
some-changes [] h = absurd (false≢true h)
some-changes (nothing ∷ cs) h = some-changes cs h
some-changes (remove k ∷ cs) h = refl
some-changes (put v ∷ cs) h = refl

module _ (t : Terms) (vs : List Value) where
  -- what is deleted is there
  one-gone : (q : Request) → Fine t vs q → (c : Change) → change_in q vs ≡ c → puts (λ v. true) c ≡ false
      → eqb (gone_size c (find (request_key q) vs)) 0 ≡ is_nothing c
  unfolding gone_size
  one-gone q fine nothing e h = refl
  one-gone q fine (remove k) e h = go (find (request_key q) vs) (fine.there k e)
    where
      go : (o : Option Value) → is_some o ≡ true → eqb (on_some o entry_size_def 0) 0 ≡ false
      go (some v) e = ne_eqb (entry_size_def v) 0 (λ z. absurd (omega arith))
      go none e = absurd (false≢true e)
  one-gone q fine (put v) e h = absurd (true≢false h)

  -- a new value is the side's own and no error record, and so is the value that is there
  module _ (q : Request) (fine : Fine t vs q) where
    abbrev new : Value
    new = new_value q (find (request_key q) vs)

    new-plain : is_error_record_def new ≡ false
    unfolding new_value
    new-plain = record-append q.attributes ∙ fine.plain

    new-owned : owns t.vendor t.modem (key_of new) ≡ true
    unfolding new_value
    new-owned = fine.owned

    old-plain : (v : Value) → find (request_key q) vs ≡ some v → is_error_record_def v ≡ false
    old-plain v e = ap record_bit (fine.like v e) ∙ fine.plain

    old-owned : (v : Value) → find (request_key q) vs ≡ some v → owns t.vendor t.modem (key_of v) ≡ true
    unfolding find
    old-owned v e =
        ap (owns t.vendor t.modem) (key-eq (key_of v) (request_key q) (listing.found (λ w. same_key_def (key_of w) (request_key q)) vs v e).passes) ∙ fine.owned

  module _ (x : Class t.vendor t.modem) where
    abbrev belongs : Value → Bool
    belongs v = x.holds (owns t.vendor t.modem (key_of v)) (is_error_record_def v)

    -- the class holds such values, or none of them
    abbrev theirs : Bool
    theirs = x.holds true false

    module _ (q : Request) (fine : Fine t vs q) where
      old-in : (o : Option Value) → find (request_key q) vs ≡ o → size_of belongs o ≡ cond theirs (on_some o entry_size_def 0) 0
      old-in none e = cond-none theirs
      old-in (some v) e = ap₂ (λ (a b : Bool). cond (x.holds a b) (entry_size_def v) 0) (old-owned q fine v e) (old-plain q fine v e)

      gone-in : gone_if belongs (change_in q vs) (find (request_key q) vs) ≡ cond theirs (gone_size (change_in q vs) (find (request_key q) vs)) 0
      unfolding gone_size
      gone-in = go (is_nothing (change_in q vs))
        where
          go : (b : Bool) → cond b 0 (size_of belongs (find (request_key q) vs)) ≡ cond theirs (cond b 0 (on_some (find (request_key q) vs) entry_size_def 0)) 0
          go true = cond-none theirs
          go false = old-in (find (request_key q) vs) refl

      comes-in : comes_if belongs (change_in q vs) ≡ cond theirs (comes_size (change_in q vs)) 0
      unfolding change_in comes_size
      comes-in =
          change-cases (λ (c : Change). comes_if belongs c ≡ cond theirs (comes_size c) 0) q (find (request_key q) vs)
          (cond-none theirs) (cond-none theirs)
          (ap₂ (λ (a b : Bool). cond (x.holds a b) (entry_size_def (new q fine)) 0) (new-owned q fine) (new-plain q fine))

    all-gone : (rs : List Request) → EachItem (Fine t vs) rs → all_gone belongs rs vs ≡ cond theirs (gone_sizes rs vs) 0
    unfolding gone_sizes
    all-gone [] fine = cond-none theirs
    all-gone (q ∷ rs) fine =
        ap₂ ◌+◌ (gone-in q fine.0) (all-gone rs fine.1) ∙ cond-sum theirs (gone_size (change_in q vs) (find (request_key q) vs)) (gone_sizes rs vs)

    all_come : (rs : List Request) → EachItem (Fine t vs) rs → all_come_def belongs (changes_alone rs vs) ≡ cond theirs (comes_sizes (changes_alone rs vs)) 0
    unfolding comes_sizes changes_alone
    all_come [] fine = cond-none theirs
    all_come (q ∷ rs) fine =
        ap₂ ◌+◌ (comes-in q fine.0) (all_come rs fine.1) ∙ cond-sum theirs (comes_size (change_in q vs)) (comes_sizes (changes_alone rs vs))

    class-after : encode.Distinct vs → (rs : List Request) → EachItem (Fine t vs) rs → shares_name_def rs ≡ false
        → x.total (steps (changes_alone rs vs) vs) + cond theirs (gone_sizes rs vs) 0 ≡ x.total vs + cond theirs (comes_sizes (changes_alone rs vs)) 0
    class-after d rs fine apart =
        let all = steps-sizes belongs rs vs vs apart d (agree-self rs vs) in
        omega (arith, all, all-gone rs fine, all_come rs fine, x.totals vs, x.totals (steps (changes_alone rs vs) vs))

  -- ---- what goes and comes, and whether anything changes

  any-plain : (rs : List Request) → EachItem (Fine t vs) rs
      → any (puts (λ v. not (is_error_record_def v))) (changes_alone rs vs) ≡ any (puts (λ v. true)) (changes_alone rs vs)
  unfolding changes_alone change_in
  any-plain [] fine = refl
  any-plain (q ∷ rs) fine =
      ap₂ ◌||◌
      (change-cases (λ (c : Change). puts (λ v. not (is_error_record_def v)) c ≡ puts (λ v. true) c) q (find (request_key q) vs) refl refl (ap not (new-plain q fine.0)))
      (any-plain rs fine.1)

  none-gone : (rs : List Request) → EachItem (Fine t vs) rs → any (puts (λ v. true)) (changes_alone rs vs) ≡ false
      → eqb (gone_sizes rs vs) 0 ≡ all is_nothing (changes_alone rs vs)
  unfolding changes_alone gone_sizes
  none-gone [] fine h = refl
  none-gone (q ∷ rs) fine h =
      let s = or_split (puts (λ v. true) (change_in q vs)) (any (puts (λ v. true)) (changes_alone rs vs)) h in
      sum-none (gone_size (change_in q vs) (find (request_key q) vs)) (gone_sizes rs vs)
      ∙ ap₂ ◌&&◌ (one-gone q fine.0 (change_in q vs) refl s.0) (none-gone rs fine.1 s.1)

-- ---- room for items that break no rule

-- what is said to an item tells whose its name is
pub told-foreign : (said : Terms) (held : Locks) (locks : List ℕ) (k : Key) → (told_of said held locks k).foreign ≡ rule22 said.vendor said.modem k
unfolding terms_with
told-foreign said held locks k = refl

module _ (t : Terms) (told : Key → Terms) (limits : Key → List Limit) (r : List ℕ) (rs : List Request) where
  abbrev vs : List Value
  vs = values (entries r)

  abbrev cs : List Change
  cs = changes_alone rs vs

  -- the first rule that an item breaks is the answer
  pub weighed-broken : (rule : Rule) → first_broken (items_alone told limits rs vs) ≡ some rule → weighed_of t told limits rs (length r) vs ≡ Err rule
  unfolding weighed_of
  weighed-broken rule h = rw (broken-append (items_alone told limits rs vs) ((Room, rule13 t (length r) cs vs) ∷ []), h)

  module _ (foreign : (k : Key) → (told k).foreign ≡ rule22 t.vendor t.modem k) (sounds : sound r ≡ true) (form : EachItem InForm rs) (apart : shares_name_def rs ≡ false)
      (kept : first_broken (items_alone told limits rs vs) ≡ none) where
    fine : EachItem (Fine t vs) rs
    fine = items-fine t told limits vs foreign rs form kept

    distinct : encode.Distinct vs
    distinct = encode.values-distinct (entries r) (encode.sound-parts (length r) (entries r) (sound-parts authenticated r sounds).1).single

    abbrev gone : ℕ
    gone = gone_sizes rs vs

    abbrev comes : ℕ
    comes = comes_sizes cs

    own-after : side_sizes t.vendor t.modem (steps cs vs) + gone ≡ side_sizes t.vendor t.modem vs + comes
    own-after = class-after t vs (own_class t.vendor t.modem) distinct rs fine apart

    -- what goes is there, or comes
    pub gone-counts : gone ≤ side_sizes t.vendor t.modem vs + comes
    gone-counts = omega (arith, own-after)

    moved : Moved t r cs gone comes
    moved = record {
      own = own-after;
      records = omega (arith, class-after t vs (records_class t.vendor t.modem) distinct rs fine apart);
      others = omega (arith, class-after t vs (others_class t.vendor t.modem) distinct rs fine apart);
    }

    room-unasked : any (puts (λ v. true)) cs ≡ false → rule13 t (length r) cs vs ≡ false
    unfolding rule13
    room-unasked e = rw (any-plain t vs rs fine, e)

    pub weighed-kept : roomed_of t r gone comes ≡ weighed_of t told limits rs (length r) vs
    unfolding roomed_of weighed_of
    weighed-kept = sym (ap (λ (o : Option Rule). decided o (cond (all is_nothing cs) (Ok Nothing) (Ok Put))) first ∙ sym (go (any (puts (λ v. true)) cs) refl))
      where
        first : first_broken (items_alone told limits rs vs ++ ((Room, rule13 t (length r) cs vs) ∷ [])) ≡ first_broken ((Room, rule13 t (length r) cs vs) ∷ [])
        first =
            broken-append (items_alone told limits rs vs) ((Room, rule13 t (length r) cs vs) ∷ [])
            ∙ ap (λ (o : Option Rule). or_else o (first_broken ((Room, rule13 t (length r) cs vs) ∷ []))) kept

        go : (b : Bool) → any (puts (λ v. true)) cs ≡ b
            → cond (eqb comes 0) (cond (eqb gone 0) (Ok Nothing) (Ok Put)) (decided (first_broken (room_by t (length r) false (folded_sums t r gone comes))) (Ok Put))
            ≡ decided (first_broken ((Room, rule13 t (length r) cs vs) ∷ [])) (cond (all is_nothing cs) (Ok Nothing) (Ok Put))
        go true e = rw (none-comes cs ∙ ap not e, some-changes cs e) (ap (λ (o : Option Rule). decided o (Ok Put)) (moved-room t r cs gone comes moved (any-plain t vs rs fine ∙ e) e))
        go false e =
            rw (none-comes cs ∙ ap not e, none-gone t vs rs fine e)
            (sym (ap (λ (o : Option Rule). decided o (cond (all is_nothing cs) (Ok Nothing) (Ok Put))) (kept_here Room (rule13 t (length r) cs vs) [] (room-unasked e) ∙ none_here)))
