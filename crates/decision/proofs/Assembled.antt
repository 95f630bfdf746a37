-- The decision by the parts in which it is judged. Rules 3, 22, 4, 5, 17 and 6 look at no more of a request than its name and attributes; rules 7 to 10 and 24 look at the
-- value that stands by its entry, and at the stamp only where rule 8 is kept; the rest goes by what the set asks for, by the
-- rules for its name, and by room last.
-- Assumes nothing.
use Prim.Native.Nat.{ℕ, ◌+◌, ◌-◌, ◌≤◌}
use native.Mathlib.Omega.{arith}
use mathlib.Core.Path.{◌≡◌, refl, sym, ap, ap₂, ◌∙◌}
use mathlib.Core.Bool.{Bool, true, false, not, cond, ◌&&◌, ◌||◌, or-false}
use mathlib.Core.List.{List, [], ◌∷◌, ◌++◌}
use mathlib.Core.Option.{Option, none, some}
use lib.ListN.{length, drop, length-append}
use lib.Dec.{ltb}
use Rattle.model.specs.Layout.{authenticated}
use Rattle.model.specs.declared.Terms.{Terms}
use Rattle.model.specs.declared.Rule.{Rule}
use Rattle.model.specs.declared.PlatMode.{PlatMode}
use Rattle.model.specs.declared.Rule.TheVariants.{Standing, Descriptor, Verdict, Mode, Stamp, Absent, DataSize, Setting}
use Rattle.model.specs.Lists.{is_empty, is_some, on_some, or_else}
use Rattle.model.specs.Name.{Key, same_key_def}
use Rattle.model.specs.Entry.{Value, key_of, header_size_def, rounded, entry_size_def}
use Rattle.model.specs.Walk as walk
use Rattle.model.specs.Region.{max_data, record_bit, sound, entries, values, standing, find}
use Rattle.model.specs.Request.{Request, request_key, time_based_def, appends, without_append_def, mode_of, wanted_verdicts, proper_at, data_proper, stamp_to_store, later}
use Rattle.model.specs.Change.{Change, nothing, remove, put, deletes, empty_append_def, equal_to, new_data, later_of_def, new_stamp, new_value, change_of, change_in, beside_pk, changes_of, step, steps, is_error_record_def, record_sizes}
use Rattle.model.specs.Sides.{owns, side_sizes}
use Rattle.model.specs.Rules.{first_broken, rule7, rule8, rule9, rule10, rule11, rule12, rule13, rule18, rule21, rule24_set, wanted_of, request_rules, standing_rules, result_rules, item_rules, setting_rules, room_rules}
use Rattle.model.specs.Limits.{Limit}
use Rattle.model.proofs.Looking.{change-cases}
use Rattle.model.proofs.Tests.{key-eq}
use Rattle.model.proofs.Values as listing
use Rattle.model.proofs.Requests.{broken-append, unbroken, record-append}
use Rattle.model.proofs.Chunks.{sound-parts}
use Rattle.model.proofs.Encode as encode
use Rattle.region.specs.Walk.{entry_at, stamp_at, entry_as}
use Rattle.std.specs.Prelude.{Some, None, Ok, Err}
use Rattle.values.specs.Found.{found_of, old_data_def}
use Rattle.limits.specs.Broken.{broken_by, leaves_some}
use Rattle.limits.proofs.Tried.{tried-as}
use Rattle.policy.specs.Descriptor.{stamp_of_def}
use Rattle.policy.proofs.Descriptor.{stamp-right, proper-drop}
use Rattle.decision.specs.declared.Change.TheVariants.{Nothing, Remove, Put}
use Rattle.decision.specs.Decision.{Decision, request_of, kind_of, decided, item_of, tried_of, decision_of, beside_by}
use Rattle.decision.specs.declared.NewValue.{NewValue}
use Rattle.decision.specs.declared.Sums.{Sums}
use Rattle.decision.specs.Parts.{Found, on_found, value_at, stands, mode_by_def, offset_of, beside_found, deploys_by, standing_by, not_later_def, verdict_by, equal_by, kind_by, kept_data_def, stamp_over_def, stamp_kept, value_by, leaves_by, new_size, classed_by, old_sums, OldCounts, sums_after, room_by, room_after_def, result_by, outcome_by, limited_by, roomed_by}
use Rattle.decision.proofs.Broken.{later-broken}
use Rattle.decision.proofs.Classes.{Class, records_class, own_class, others_class, all-classes}
use Rattle.decision.proofs.Old.{stands-some, old_value, mode-found, stamp-read}
use Rattle.decision.proofs.Together.{beside_none, beside-here}
use Rattle.model.proofs.Space.{size_if, size_of, old-counts, put-sizes}

-- rules 3, 22, 4, 5, 17 and 6
pub request-fields : (t : Terms) (q : Request) → request_rules t q ≡ request_rules t (request_of q.name q.vendor q.attributes [] 0 0)
unfolding request_rules
request-fields t q = refl

-- what is said of the value that stands, said of its entry's numbers
module _ (r : List ℕ) (q : Request) where
  standing-numbers : (runtime : Bool) (old : Found)
      → on_some (value_at r old) (λ v. rule7 runtime q.attributes v.attributes) false
      ≡ on_found old (λ at e. rule7 runtime q.attributes e.attributes) false
  unfolding entry_as walk.placed
  standing-numbers runtime (Some p) = refl
  standing-numbers runtime None = refl

  equal-numbers : (old : Found)
      → on_some (value_at r old) (λ v. equal_to q.attributes (data_proper q) v.attributes v.bytes) false
      ≡ equal_by r old q.attributes (data_proper q)
  unfolding equal_by entry_as walk.placed
  equal-numbers (Some p) = refl
  equal-numbers None = refl

  data-numbers : (old : Found) → new_data q (value_at r old) ≡ kept_data_def r old q.attributes ++ data_proper q
  unfolding new_data kept_data_def entry_as walk.placed
  data-numbers old = go (appends q.attributes) old
    where
      go : (t : Bool) (old : Found)
          → cond t (on_some (value_at r old) (λ v. v.bytes) [] ++ data_proper q) (data_proper q) ≡ cond t (old_data_def r old) [] ++ data_proper q
      go true (Some p) = refl
      go true None = refl
      go false old = refl

  size-numbers : (old : Found) → length (new_data q (value_at r old)) ≡ new_size r old q.attributes (length (data_proper q))
  unfolding new_size
  size-numbers old = ap length (data-numbers old) ∙ length-append (kept_data_def r old q.attributes) (data_proper q)

-- and of its stamp, where the descriptor's is whole
stamp-numbers : (r : List ℕ) (q : Request) → rule8 q.attributes q.bytes ≡ false → (old : Found) → old ≡ found_of (standing (request_key q) (entries r))
    → on_some (value_at r old) (λ v. not (later (stamp_to_store q) v.stamp)) false ≡ not_later_def r old (stamp_of_def q.attributes q.bytes)
unfolding not_later_def stamp_at entry_as walk.placed
stamp-numbers r q k (Some p) h = ap₂ (λ (a b : List ℕ). not (later a b)) (stamp-right q k) (sym (stamp-read r (request_key q) p.at p.entry h))
stamp-numbers r q k None h = refl

kept-numbers : (r : List ℕ) (q : Request) → rule8 q.attributes q.bytes ≡ false → (old : Found) → old ≡ found_of (standing (request_key q) (entries r))
    → new_stamp q (value_at r old) ≡ stamp_kept r old q.attributes (stamp_of_def q.attributes q.bytes)
unfolding new_stamp stamp_kept stamp_over_def stamp_at entry_as walk.placed
kept-numbers r q k (Some p) h =
    ap₂ (λ (a b : List ℕ). cond (appends q.attributes && time_based_def q.attributes) (later_of_def a b) a) (stamp-right q k) (sym (stamp-read r (request_key q) p.at p.entry h))
kept-numbers r q k None h = ap (λ (a : List ℕ). cond (appends q.attributes && time_based_def q.attributes) a a) (stamp-right q k)

-- what a change comes to: a delete by whether the value is there, a value to put by its size
outcome-cases : (d n : Bool) (k : Key) (v : Value) (old : Option Value)
    → decided
    (first_broken
    ((Absent, rule11 (cond d (remove k) (cond n nothing (put v))) old)
    ∷ (DataSize, rule12 (cond d (remove k) (cond n nothing (put v))))
    ∷ []))
    (kind_of (cond d (remove k) (cond n nothing (put v))))
    ≡ result_by (is_some old) (cond d (Ok Remove) (cond n (Ok Nothing) (Ok Put))) (length v.bytes)
unfolding first_broken rule11 rule12 result_by
outcome-cases true n k v (some w) = refl
outcome-cases true n k v none = refl
outcome-cases false true k v old = refl
outcome-cases false false k v old = go (ltb max_data (length v.bytes))
  where
    go : (a : Bool) → decided (cond a (some DataSize) none) (Ok Put) ≡ cond a (Err DataSize) (Ok Put)
    go true = refl
    go false = refl

decided-else : (a b : Option Rule) (d : Decision) → decided (or_else a b) d ≡ decided a (decided b d)
decided-else (some rule) b d = refl
decided-else none b d = refl

-- rule 21, over what was decided before it
limited-cases : (o : Option Rule) (forbidden : Bool) (c : Change)
    → decided (or_else o (first_broken ((Setting, forbidden) ∷ []))) (kind_of c) ≡ limited_by forbidden (decided o (kind_of c))
unfolding first_broken limited_by
limited-cases (some rule) forbidden c = refl
limited-cases none true nothing = refl
limited-cases none true (remove k) = refl
limited-cases none true (put v) = refl
limited-cases none false nothing = refl
limited-cases none false (remove k) = refl
limited-cases none false (put v) = refl

-- the sums of the values by class
abbrev pub sums_of : Terms → List Value → Sums
sums_of t vs = record {
  records = record_sizes vs;
  own = side_sizes t.vendor t.modem vs;
  others = side_sizes t.vendor (not t.modem) vs;
}

-- room is asked last, of a value to put
room-rules : (t : Terms) (size : ℕ) (v : Value) (vs : List Value)
    → room_rules t size (put v ∷ []) vs ≡ room_by t size (is_error_record_def v) (sums_of t (step (put v) vs))
unfolding room_rules rule18 rule13 steps room_by
room-rules t size v vs = rw (all-classes t.vendor t.modem (step (put v) vs), or-false (is_error_record_def v), or-false (not (is_error_record_def v)))

room-cases : (c : Change) (full : Option Rule) (t : Terms) (size : ℕ) (vs : List Value)
    → ((v : Value) → c ≡ put v → first_broken (room_rules t size (put v ∷ []) vs) ≡ full)
    → decided (first_broken (room_rules t size (c ∷ []) vs)) (kind_of c) ≡ roomed_by (kind_of c) full
unfolding first_broken room_rules rule18 rule13 steps roomed_by
room-cases nothing full t size vs h = refl
room-cases (remove k) full t size vs h = refl
room-cases (put v) full t size vs h = ap (λ (x : Option Rule). on_some x (λ rule. Err rule) (Ok Put)) (h v refl)

module _ (t : Terms) (q : Request) (r : List ℕ) (sounds : sound r ≡ true) (old : Found) (h : old ≡ found_of (standing (request_key q) (entries r))) where
  abbrev vs : List Value
  vs = values (entries r)

  value : value_at r old ≡ find (request_key q) vs
  value = old_value r sounds (request_key q) old h

  there : stands old ≡ is_some (find (request_key q) vs)
  there = stands-some r old ∙ ap is_some value

  abbrev wanted : List ℕ
  wanted = wanted_verdicts t.custom q.presence (mode_by_def r) (request_key q) q.attributes (stands old)

  wanted-here : wanted_of t q (mode_of vs) (find (request_key q) vs) ≡ wanted
  wanted-here =
      ap₂ (λ (m : PlatMode) (s : Bool). wanted_verdicts t.custom q.presence m (request_key q) q.attributes s) (sym (mode-found r sounds)) (sym there)

  later-here : rule8 q.attributes q.bytes ≡ false
      → on_some (find (request_key q) vs) (λ v. not (later (stamp_to_store q) v.stamp)) false ≡ not_later_def r old (stamp_of_def q.attributes q.bytes)
  later-here k = ap (λ (o : Option Value). on_some o (λ v. not (later (stamp_to_store q) v.stamp)) false) (sym value) ∙ stamp-numbers r q k old h

  -- rules 7 to 10 and 24, by the parts in which they are judged
  abbrev parts : List (Rule × Bool)
  parts =
      standing_by t.runtime q.attributes q.bytes old
      ++ verdict_by r old (request_key q) q.attributes wanted q.verdict (stamp_of_def q.attributes q.bytes)

  standing_here : first_broken (standing_rules t q (mode_of vs) (find (request_key q) vs)) ≡ first_broken parts
  unfolding standing_rules standing_by verdict_by rule10
  standing_here =
      let o : Option Value = find (request_key q) vs in
      let w : List ℕ = wanted_of t q (mode_of vs) o in
      let seven : on_some o (λ v. rule7 t.runtime q.attributes v.attributes) false ≡ on_found old (λ at e. rule7 t.runtime q.attributes e.attributes) false =
      ap (λ (x : Option Value). on_some x (λ v. rule7 t.runtime q.attributes v.attributes) false) (sym value) ∙ standing-numbers r q t.runtime old in
      let ten : rule8 q.attributes q.bytes ≡ false
      → rule10 q.attributes w (stamp_to_store q) o ≡ (not (appends q.attributes) && not (is_empty wanted) && not_later_def r old (stamp_of_def q.attributes q.bytes)) =
      (λ k. ap₂ (λ (x : List ℕ) (b : Bool). not (appends q.attributes) && not (is_empty x) && b) wanted-here (later-here k)) in
      later-broken
      ((Standing, on_some o (λ v. rule7 t.runtime q.attributes v.attributes) false) ∷ (Descriptor, rule8 q.attributes q.bytes) ∷ (Verdict, rule9 w q.verdict)
      ∷ (Mode, rule24_set (request_key q)) ∷ [])
      Stamp (rule10 q.attributes w (stamp_to_store q) o)
      (not (appends q.attributes) && not (is_empty wanted) && not_later_def r old (stamp_of_def q.attributes q.bytes)) (λ k. ten (unbroken _ 8 k))
      ∙ rw (seven, ap (λ (x : List ℕ). rule9 x q.verdict) wanted-here)

  -- rules 11 and 12, and the change
  abbrev new : Value
  new = new_value q (find (request_key q) vs)

  -- the size of its data
  abbrev its-size : ℕ
  its-size = new_size r old q.attributes (length (data_proper q))

  pub new-size : its-size ≡ length new.bytes
  unfolding new_value
  new-size = sym (ap (λ (o : Option Value). length (new_data q o)) (sym value) ∙ size-numbers r q old)

  result-here : decided (first_broken (result_rules q (find (request_key q) vs))) (kind_of (change_in q vs)) ≡ outcome_by r old q.attributes (data_proper q) its-size
  unfolding result_rules change_in change_of outcome_by kind_by
  result-here =
      let a : ℕ = q.attributes in
      let o : Option Value = find (request_key q) vs in
      let size : ℕ = length (data_proper q) in
      outcome-cases (deletes a size) (empty_append_def a size || on_some o (λ v. equal_to a (data_proper q) v.attributes v.bytes) false) (request_key q) new o
      ∙ ap₂ (λ (s n : Bool). result_by s (cond (deletes a size) (Ok Remove) (cond (empty_append_def a size || n) (Ok Nothing) (Ok Put))) (length new.bytes))
      (sym there)
      (ap (λ (x : Option Value). on_some x (λ v. equal_to a (data_proper q) v.attributes v.bytes) false) (sym value) ∙ equal-numbers r q old)
      ∙ ap (result_by (stands old) (kind_by r old a (data_proper q))) (sym new-size)

  -- rules 3 to 12, 17, 22 and 24, and the change
  item-here : item_of t q vs
      ≡ decided (first_broken (request_rules t q)) (decided (first_broken parts) (outcome_by r old q.attributes (data_proper q) its-size))
  unfolding item_of item_rules
  item-here =
      let a : List (Rule × Bool) = request_rules t q in
      let b : List (Rule × Bool) = standing_rules t q (mode_of vs) (find (request_key q) vs) in
      let c : List (Rule × Bool) = result_rules q (find (request_key q) vs) in
      let end : Decision = outcome_by r old q.attributes (data_proper q) its-size in
      ap (λ (o : Option Rule). decided o (kind_of (change_in q vs))) (broken-append (a ++ b) c)
      ∙ decided-else (first_broken (a ++ b)) (first_broken c) (kind_of (change_in q vs))
      ∙ ap₂ decided (broken-append a b) result-here
      ∙ decided-else (first_broken a) (first_broken b) end
      ∙ ap (λ (o : Option Rule). decided (first_broken a) (decided o end)) standing_here

  -- by the first part that is broken
  pub call-broken : (rule : Rule) → first_broken (request_rules t q) ≡ some rule → item_of t q vs ≡ Err rule
  call-broken rule a = item-here ∙ rw a

  module _ (kept : first_broken (request_rules t q) ≡ none) where
    pub standing-broken : (rule : Rule) → first_broken parts ≡ some rule → item_of t q vs ≡ Err rule
    standing-broken rule a = item-here ∙ rw (kept, a)

    pub none-broken : first_broken parts ≡ none → item_of t q vs ≡ outcome_by r old q.attributes (data_proper q) its-size
    none-broken a = item-here ∙ rw (kept, a)

  -- ---- the rules for its name

  -- one of them is broken, by what was found
  pub forbidden-here : (ls : List Limit)
      → broken_by ls (leaves_by old q.attributes (length (data_proper q))) (kept_data_def r old q.attributes ++ data_proper q)
      ≡ rule21 ls (change_in q vs) (find (request_key q) vs)
  unfolding change_in leaves_by leaves_some
  forbidden-here ls =
      ap₂ (λ (s : Bool) (bytes : List ℕ). broken_by ls (not (deletes q.attributes (length (data_proper q))) && (not (empty_append_def q.attributes (length (data_proper q))) || s)) bytes)
      there (sym (data-numbers r q old) ∙ ap (new_data q) value)
      ∙ sym (tried-as ls q (find (request_key q) vs))

  -- ---- room

  distinct : encode.Distinct vs
  distinct = encode.values-distinct (entries r) (encode.sound-parts (length r) (entries r) (sound-parts authenticated r sounds).1).single

  -- the size of the entry to write, and its class
  abbrev size : ℕ
  size = rounded (header_size_def + length q.name + its-size)

  pub new-entry : size ≡ entry_size_def new
  unfolding new_value
  new-entry = ap (λ (n : ℕ). rounded (header_size_def + length q.name + n)) new-size

  new-class : record_bit q.attributes ≡ is_error_record_def new
  unfolding new_value
  new-class = sym (record-append q.attributes)

  -- whose the name is
  abbrev mine : Bool
  mine = owns t.vendor t.modem (request_key q)

  owner : (v : Value) → find (request_key q) vs ≡ some v → owns t.vendor t.modem (key_of v) ≡ mine
  unfolding find
  owner v e = ap (owns t.vendor t.modem) (key-eq (key_of v) (request_key q) (listing.found (λ w. same_key_def (key_of w) (request_key q)) vs v e).passes)

  module _ (x : Class t.vendor t.modem) where
    -- the values of the class
    abbrev belongs : Value → Bool
    belongs v = x.holds (owns t.vendor t.modem (key_of v)) (is_error_record_def v)

    gone : x.part (old_sums r old mine) ≡ size_of belongs (find (request_key q) vs)
    unfolding old_sums entry_as walk.placed
    gone = go old value
      where
        go : (o : Found) → value_at r o ≡ find (request_key q) vs → x.part (old_sums r o mine) ≡ size_of belongs (find (request_key q) vs)
        go (Some f) p =
            let v : Value = walk.entry_value_def (entry_at r f.at f.entry) in
            x.classed (record_bit f.entry.attributes) mine (entry_size_def v)
            ∙ ap (λ (b : Bool). cond (x.holds b (record_bit f.entry.attributes)) (entry_size_def v) 0) (sym (owner v (sym p)))
            ∙ ap (size_of belongs) p
        go None p = x.none ∙ ap (size_of belongs) p

    -- the old value counts among its values
    counts : x.part (old_sums r old mine) ≤ x.total vs
    counts = omega (arith, gone, x.totals vs, old-counts belongs (request_key q) vs distinct)

    comes : x.part (classed_by (record_bit q.attributes) mine size) ≡ size_if belongs new
    unfolding new_value
    comes =
        x.classed (record_bit q.attributes) mine size
        ∙ ap₂ (λ (e : Bool) (n : ℕ). cond (x.holds mine e) n 0) new-class new-entry

    -- the sizes of its values after the set
    class-here : x.total vs - x.part (old_sums r old mine) + x.part (classed_by (record_bit q.attributes) mine size) ≡ x.total (step (put new) vs)
    unfolding new_value
    class-here = omega (arith, gone, comes, x.totals vs, x.totals (step (put new) vs), put-sizes belongs new vs distinct)

  pub counts-here : OldCounts t r old mine
  counts-here = record {
    records = counts (records_class t.vendor t.modem);
    own = counts (own_class t.vendor t.modem);
    others = counts (others_class t.vendor t.modem);
  }

  sums-here : sums_after t r old mine (record_bit q.attributes) size ≡ sums_of t (step (put new) vs)
  unfolding sums_after
  sums-here =
      rw (
        class-here (records_class t.vendor t.modem),
        class-here (own_class t.vendor t.modem),
        class-here (others_class t.vendor t.modem),
      )

  room-here : first_broken (room_after_def t r old mine (record_bit q.attributes) size) ≡ first_broken (room_rules t (length r) (put new ∷ []) vs)
  unfolding room_after_def
  room-here =
      ap first_broken
      (ap₂ (room_by t (length r)) new-class sums-here
      ∙ sym (room-rules t (length r) new vs))

  -- a change that puts, puts the new value
  pub puts-new : (v : Value) → change_in q vs ≡ put v → v ≡ new
  unfolding change_in
  puts-new v e =
      change-cases (λ (c : Change). c ≡ put v → v ≡ new) q (find (request_key q) vs)
      (λ e. let z : ◌≡◌ {A = ℕ} 0 1 = cc in absurd (omega arith)) (λ e. let z : ◌≡◌ {A = ℕ} 0 1 = cc in absurd (omega arith)) (λ e. cc) e

  pub tried_here : (ls : List Limit)
      → tried_of ls t q vs
      ≡ limited_by (broken_by ls (leaves_by old q.attributes (length (data_proper q))) (kept_data_def r old q.attributes ++ data_proper q)) (item_of t q vs)
  unfolding tried_of item_of setting_rules change_in
  tried_here ls =
      let c : Change = change_in q vs in
      let a : List (Rule × Bool) = item_rules t q vs in
      let b : Bool = rule21 ls c (find (request_key q) vs) in
      ap (λ (o : Option Rule). decided o (kind_of c)) (broken-append a ((Setting, b) ∷ []))
      ∙ limited-cases (first_broken a) b c
      ∙ ap (λ (f : Bool). limited_by f (decided (first_broken a) (kind_of c))) (sym (forbidden-here ls))

  -- what was decided before room, and room after it: of a rule broken before, nothing more is asked
  pub decision-cases : (ls : List Limit) (full : Option Rule)
      → (first_broken (item_rules t q vs ++ setting_rules ls q (find (request_key q) vs)) ≡ none → tried_of ls t q vs ≡ kind_of (change_in q vs)
      → decided (first_broken (room_rules t (length r) (changes_of q vs) vs)) (kind_of (change_in q vs)) ≡ roomed_by (kind_of (change_in q vs)) full)
      → decision_of ls t q (length r) vs ≡ roomed_by (tried_of ls t q vs) full
  unfolding decision_of tried_of roomed_by
  decision-cases ls full f =
      let a : List (Rule × Bool) = item_rules t q vs ++ setting_rules ls q (find (request_key q) vs) in
      ap (λ (o : Option Rule). decided o (kind_of (change_in q vs))) (broken-append a (room_rules t (length r) (changes_of q vs) vs)) ∙ go (first_broken a) refl
    where
      go : (o : Option Rule) → first_broken (item_rules t q vs ++ setting_rules ls q (find (request_key q) vs)) ≡ o
          → decided (or_else o (first_broken (room_rules t (length r) (changes_of q vs) vs))) (kind_of (change_in q vs)) ≡ roomed_by (decided o (kind_of (change_in q vs))) full
      go (some rule) e = refl
      go none e = f e (ap (λ (o : Option Rule). decided o (kind_of (change_in q vs))) e)

  -- with no change of PlatMode
  pub decision-alone : (ls : List Limit) → beside_found r (tried_of ls t q vs) old (request_key q) ≡ None
      → decision_of ls t q (length r) vs
      ≡ roomed_by (tried_of ls t q vs) (first_broken (room_after_def t r old mine (record_bit q.attributes) size))
  unfolding changes_of
  decision-alone ls h' =
      let c : Change = change_in q vs in
      let full : Option Rule = first_broken (room_after_def t r old mine (record_bit q.attributes) size) in
      decision-cases ls full
      (λ e k.
      let f = sym (ap (λ (d : Decision). beside_found r d old (request_key q)) k) ∙ h' in
      let alone : beside_pk c vs ≡ [] =
      sym (beside-here r sounds q old h) ∙ ap (λ (x : Found). beside_by (offset_of x) (deploys_by r (kind_of c) x)) f ∙ beside_none (deploys_by r (kind_of c) None) in
      rw alone
      (room-cases c full t (length r) vs
      (λ v e. ap (λ (w : Value). first_broken (room_rules t (length r) (put w ∷ []) vs)) (puts-new v e) ∙ sym room-here)))

  -- ---- the value to put

  pub value-here : rule8 q.attributes q.bytes ≡ false → (p : NewValue)
      → (p.attributes ≡ without_append_def q.attributes)
      × (p.stamp ≡ stamp_kept r old q.attributes (stamp_of_def q.attributes q.bytes))
      × (p.keeps ≡ appends q.attributes)
      × (p.own ≡ cond (time_based_def q.attributes) (proper_at q.bytes) 0)
      → value_by r q.name q.vendor q.bytes old p ≡ new
  unfolding value_by new_value kept_data_def
  value-here k p e =
      let stamp : p.stamp ≡ new_stamp q (find (request_key q) vs) = e.1 ∙ sym (kept-numbers r q k old h) ∙ ap (new_stamp q) value in
      let bytes : cond p.keeps (old_data_def r old) [] ++ drop p.own q.bytes ≡ new_data q (find (request_key q) vs) =
      ap₂ (λ (b : Bool) (n : ℕ). cond b (old_data_def r old) [] ++ drop n q.bytes) e.2 e.3
      ∙ ap (λ (l : List ℕ). cond (appends q.attributes) (old_data_def r old) [] ++ l) (proper-drop q.attributes q.bytes)
      ∙ sym (data-numbers r q old)
      ∙ ap (new_data q) value in
      rw (e.0, stamp, bytes)
