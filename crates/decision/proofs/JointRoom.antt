-- Room where PK and PlatMode change together, or PlatMode alone. The two names differ and are ours; no error record is found under them, and none is put. So what goes and comes is
-- the side's own, and rules 18 and 13 are judged by its sizes.
-- Assumes nothing.
use Prim.Native.Nat.{ℕ, ◌+◌, ◌≤◌}
use native.Mathlib.Omega.{arith}
use mathlib.Core.Path.{◌≡◌, refl, sym, ap, ap₂, ◌∙◌}
use mathlib.Core.Bool.{Bool, true, false, not, cond, ◌&&◌, ◌||◌, or-false, true≢false}
use mathlib.Core.List.{List, [], ◌∷◌, map}
use mathlib.Core.Option.{Option, none, some}
use lib.ListN.{length}
use lib.Dec.{leb}
use borrow.Author.Tests.{not-true}
use Rattle.model.specs.Layout.{authenticated}
use Rattle.model.specs.declared.Terms.{Terms}
use Rattle.model.specs.declared.Rule.TheVariants.{Room, RecordSpace}
use Rattle.model.specs.Lists.{any, all, among, keep, first, same, on_some}
use Rattle.model.specs.Name.{Key, same_key_def, well_named, record_front_def, record_name}
use Rattle.model.specs.Entry.{Value, key_of, entry_size_def}
use Rattle.model.specs.Walk as walk
use Rattle.model.specs.Region.{max_data, stored_attributes, sound, entries, values, standing, is_value, live, right_live_def, record_bit, find}
use Rattle.model.specs.Request.{global_vendor_def, key_pk, key_kek, keydb, keydbx, keydbt, key_mode, is_database_def, is_key_name_def}
use Rattle.model.specs.Change.{Change, nothing, remove, put, is_nothing, step, steps, is_error_record_def}
use Rattle.model.specs.Sides.{modem_name, owns, side_sizes}
use Rattle.model.specs.Rules.{first_broken, rule13, rule18, room_rules, puts}
use Rattle.model.proofs.Tests.{and_split, key-refl, key-eq}
use Rattle.model.proofs.Changes.{EachPut, steps-distinct}
use Rattle.model.proofs.Chunks.{sound-parts}
use Rattle.model.proofs.Encode as encode
use Rattle.model.proofs.Looking.{Own, Other, find-step}
use Rattle.model.proofs.Space.{size_of}
use Rattle.model.proofs.Values as listing
use Rattle.values.specs.Found.{found_of}
use Rattle.std.specs.Prelude.{Some, None}
use Rattle.decision.specs.Parts.{Found, value_at, room_by}
use Rattle.decision.specs.Profile.{comes_size, comes_sizes, folded_sums}
use Rattle.decision.specs.Joint.{taken_by}
use Rattle.decision.proofs.Broken.{kept_here}
use Rattle.decision.proofs.Classes.{Class, records_class, own_class, others_class}
use Rattle.decision.proofs.Changing.{gone_if, comes_if, step-sizes, Moved, moved-room}
use Rattle.decision.proofs.Old.{old_value}

-- ---- the two names

pub names-differ : same_key_def key_pk key_mode ≡ false
unfolding key_pk key_mode same
names-differ = refl

pk-plain : record_name key_pk ≡ false
unfolding key_pk record_name record_front_def same
pk-plain = refl

mode-plain : record_name key_mode ≡ false
unfolding key_mode record_name record_front_def same
mode-plain = refl

pub pk-key : is_key_name_def key_pk ≡ true
unfolding is_key_name_def key_pk global_vendor_def same
pk-key = refl

mode-key : is_key_name_def key_mode ≡ false
unfolding is_key_name_def key_pk key_kek is_database_def keydb keydbx keydbt key_mode same
mode-key = refl

module _ (guid : List ℕ) where
  pub owns-pk : owns guid false key_pk ≡ true
  unfolding owns modem_name
  owns-pk = rw pk-key (go (same key_pk.vendor guid))
    where
      go : (b : Bool) → not (b && false && not (same_key_def key_pk key_mode) && not (record_name key_pk)) ≡ true
      go true = refl
      go false = refl

  pub owns-mode : owns guid false key_mode ≡ true
  unfolding owns modem_name
  owns-mode = rw (mode-key, key-refl key_mode) (go (same key_mode.vendor guid))
    where
      go : (b : Bool) → not (b && true && false && not (record_name key_mode)) ≡ true
      go true = refl
      go false = refl

  -- who owns one of them is our side
  pub pk-ours : (m : Bool) → owns guid m key_pk ≡ true → m ≡ false
  unfolding owns
  pk-ours false h = refl
  pk-ours true h = absurd (true≢false (sym h ∙ not-true (modem_name guid key_pk) owns-pk))

  pub mode-ours : (m : Bool) → owns guid m key_mode ≡ true → m ≡ false
  unfolding owns
  mode-ours false h = refl
  mode-ours true h = absurd (true≢false (sym h ∙ not-true (modem_name guid key_mode) owns-mode))

-- ---- no error record is found under another name than theirs

module _ (k : Key) (n : record_name k ≡ false) where
  right-plain : (e : walk.Entry) → live e ≡ true → right_live_def e ≡ true → same_key_def (walk.entry_key e) k ≡ true → record_bit e.header.attributes ≡ false
  unfolding right_live_def
  right-plain e l h s =
      let a : Bool = well_named e.name && (leb 1 e.header.data_size_def && leb e.header.data_size_def max_data) && among stored_attributes e.header.attributes in
      let b : Bool = not (record_bit e.header.attributes) || record_name (walk.entry_key e) in
      let w : (a && b) ≡ true = rw l at h in
      let none : record_name (walk.entry_key e) ≡ false = ap record_name (key-eq (walk.entry_key e) k s) ∙ n in
      not-true (record_bit e.header.attributes) (sym (or-false (not (record_bit e.header.attributes))) ∙ (rw none at (and_split a b w).1))

  listed_plain : (p : walk.Entry → Bool) → ((e : walk.Entry) → p e ≡ true → live e ≡ true) → (es : List walk.Entry) → all right_live_def es ≡ true
      → (v : Value) → find k (map walk.entry_value_def (keep p es)) ≡ some v → is_error_record_def v ≡ false
  unfolding find
  listed_plain p l [] h v e = let z : ◌≡◌ {A = ℕ} 0 1 = cc in absurd (omega arith)
  listed_plain p l (x ∷ es) h v e =
      let r = and_split (right_live_def x) (all right_live_def es) h in
      go (p x) refl e (listed_plain p l es r.1 v) r.0
    where
      here : (t : Bool) → same_key_def (walk.entry_key x) k ≡ t → cond t (some (walk.entry_value_def x)) (first (λ w. same_key_def (key_of w) k) (map walk.entry_value_def (keep p es))) ≡ some v
          → (first (λ w. same_key_def (key_of w) k) (map walk.entry_value_def (keep p es)) ≡ some v → is_error_record_def v ≡ false) → live x ≡ true → right_live_def x ≡ true → is_error_record_def v ≡ false
      here true s e more lv r = let i : walk.entry_value_def x ≡ v = cc in rw (← i) (right-plain x lv r s)
      here false s e more lv r = more e

      go : (t : Bool) → p x ≡ t → first (λ w. same_key_def (key_of w) k) (map walk.entry_value_def (cond t (x ∷ keep p es) (keep p es))) ≡ some v
          → (first (λ w. same_key_def (key_of w) k) (map walk.entry_value_def (keep p es)) ≡ some v → is_error_record_def v ≡ false) → right_live_def x ≡ true → is_error_record_def v ≡ false
      go true q e more r = here (same_key_def (walk.entry_key x) k) refl e more (l x q) r
      go false q e more r = more e

  pub found_plain : (r : List ℕ) → sound r ≡ true → (v : Value) → find k (values (entries r)) ≡ some v → is_error_record_def v ≡ false
  unfolding values
  found_plain r s = listed_plain (is_value (entries r)) (encode.value-live (entries r)) (entries r) (encode.sound-parts (length r) (entries r) (sound-parts authenticated r s).1).right

-- ---- what goes and comes, by class

-- what was found has the size of the value
taken-found : (r : List ℕ) (old : Found) → taken_by r old ≡ on_some (value_at r old) entry_size_def 0
unfolding taken_by
taken-found r (Some p) = refl
taken-found r None = refl

cond-none : (b : Bool) → ◌≡◌ {A = ℕ} 0 (cond b 0 0)
cond-none true = refl
cond-none false = refl

abbrev pub plain : Value → Type 0
plain v = is_error_record_def v ≡ false

puts_plain : (cs : List Change) → EachPut plain cs → any (puts (λ v. not (is_error_record_def v))) cs ≡ any (puts (λ v. true)) cs
puts_plain [] p = refl
puts_plain (nothing ∷ cs) p = puts_plain cs p.1
puts_plain (remove k ∷ cs) p = puts_plain cs p.1
puts_plain (put v ∷ cs) p = rw (p.0 v refl)

puts-no-record : (cs : List Change) → EachPut plain cs → any (puts is_error_record_def) cs ≡ false
puts-no-record [] p = refl
puts-no-record (nothing ∷ cs) p = puts-no-record cs p.1
puts-no-record (remove k ∷ cs) p = puts-no-record cs p.1
puts-no-record (put v ∷ cs) p = rw (p.0 v refl) (puts-no-record cs p.1)

module _ (t : Terms) (r : List ℕ) (sounds : sound r ≡ true) (ours : t.modem ≡ false) where
  abbrev vs : List Value
  vs = values (entries r)

  distinct : encode.Distinct vs
  distinct = encode.values-distinct (entries r) (encode.sound-parts (length r) (entries r) (sound-parts authenticated r sounds).1).single

  module _ (k : Key) (own : owns t.vendor t.modem k ≡ true) (n : record_name k ≡ false) (x : Class t.vendor t.modem) where
    abbrev belongs : Value → Bool
    belongs v = x.holds (owns t.vendor t.modem (key_of v)) (is_error_record_def v)

    -- the class holds such values, or none of them
    abbrev theirs : Bool
    theirs = x.holds true false

    old-in : (o : Option Value) → find k vs ≡ o → size_of belongs o ≡ cond theirs (on_some o entry_size_def 0) 0
    unfolding find
    old-in none e = cond-none theirs
    old-in (some v) e =
        let named : key_of v ≡ k = key-eq (key_of v) k (listing.found (λ w. same_key_def (key_of w) k) vs v e).passes in
        ap₂ (λ (a b : Bool). cond (x.holds a b) (entry_size_def v) 0) (ap (owns t.vendor t.modem) named ∙ own) (found_plain k n r sounds v e)

    comes-in : (c : Change) → Own k c → ((v : Value) → c ≡ put v → plain v) → comes_if belongs c ≡ cond theirs (comes_size c) 0
    unfolding comes_size
    comes-in nothing o p = cond-none theirs
    comes-in (remove j) o p = cond-none theirs
    comes-in (put v) o p = ap₂ (λ (a b : Bool). cond (x.holds a b) (entry_size_def v) 0) (ap (owns t.vendor t.modem) o ∙ own) (p v refl)

    -- the sizes of its values after a change of the name, over values that agree with these there
    class-step : (ws : List Value) → encode.Distinct ws → find k ws ≡ find k vs → (c : Change) → Own k c → is_nothing c ≡ false → ((v : Value) → c ≡ put v → plain v)
        → x.total (step c ws) + cond theirs (on_some (find k vs) entry_size_def 0) 0 ≡ x.total ws + cond theirs (comes_size c) 0
    class-step ws d e c o i p =
        let gone : gone_if belongs c (find k ws) ≡ cond theirs (on_some (find k vs) entry_size_def 0) 0 = ap (λ (o : Option Value). gone_if belongs c o) e ∙ rw i (old-in (find k vs) refl) in
        omega (arith, step-sizes belongs k c ws o d, gone, comes-in c o p, x.totals ws, x.totals (step c ws))

  own-pk : owns t.vendor t.modem key_pk ≡ true
  own-pk = rw ours (owns-pk t.vendor)

  own-mode : owns t.vendor t.modem key_mode ≡ true
  own-mode = rw ours (owns-mode t.vendor)

  there : (k : Key) (old : Found) → old ≡ found_of (standing k (entries r)) → taken_by r old ≡ on_some (find k vs) entry_size_def 0
  there k old h = taken-found r old ∙ ap (λ (o : Option Value). on_some o entry_size_def 0) (old_value r sounds k old h)

  -- ---- both

  module _ (pk mode : Found) (p : pk ≡ found_of (standing key_pk (entries r))) (m : mode ≡ found_of (standing key_mode (entries r))) where
    module _ (c d : Change) (oc : Own key_pk c) (od : Own key_mode d) (ic : is_nothing c ≡ false) (id : is_nothing d ≡ false) (plains : EachPut plain (c ∷ d ∷ [])) where
      other : Other key_mode c
      other = go c oc
        where
          go : (c : Change) → Own key_pk c → Other key_mode c
          go nothing o = tt
          go (remove j) o = ap (λ (i : Key). same_key_def i key_mode) o ∙ names-differ
          go (put v) o = ap (λ (i : Key). same_key_def i key_mode) o ∙ names-differ

      -- the sizes of a class after both
      class-after : (x : Class t.vendor t.modem)
          → x.total (steps (c ∷ d ∷ []) vs) + cond (x.holds true false) (taken_by r pk + taken_by r mode) 0
          ≡ x.total vs + cond (x.holds true false) (comes_sizes (c ∷ d ∷ [])) 0
      unfolding steps comes_sizes
      class-after x =
          let one = class-step key_pk own-pk pk-plain x vs distinct refl c oc ic plains.0 in
          let two = class-step key_mode own-mode mode-plain x (step c vs) (steps-distinct (c ∷ []) vs distinct) (find-step key_mode c vs other) d od id plains.1.0 in
          go (x.holds true false) one two
        where
          go : (b : Bool)
              → x.total (step c vs) + cond b (on_some (find key_pk vs) entry_size_def 0) 0 ≡ x.total vs + cond b (comes_size c) 0
              → x.total (step d (step c vs)) + cond b (on_some (find key_mode vs) entry_size_def 0) 0 ≡ x.total (step c vs) + cond b (comes_size d) 0
              → x.total (step d (step c vs)) + cond b (taken_by r pk + taken_by r mode) 0 ≡ x.total vs + cond b (comes_size c + (comes_size d + 0)) 0
          go true one two = omega (arith, there key_pk pk p, there key_mode mode m)
          go false one two = omega arith

      -- what goes is there, or comes
      joint-moved : Moved t r (c ∷ d ∷ []) (taken_by r pk + taken_by r mode) (comes_sizes (c ∷ d ∷ []))
      joint-moved = record {
        own = class-after (own_class t.vendor t.modem);
        records = omega (arith, class-after (records_class t.vendor t.modem));
        others = omega (arith, class-after (others_class t.vendor t.modem));
      }

      -- rule 13 after both, and with 18, where one of them puts
      pub joint-thirteen : any (puts (λ v. true)) (c ∷ d ∷ []) ≡ true → (comes : ℕ) → comes ≡ comes_sizes (c ∷ d ∷ [])
          → first_broken (room_by t (length r) false (folded_sums t r (taken_by r pk + taken_by r mode) comes)) ≡ first_broken ((Room, rule13 t (length r) (c ∷ d ∷ []) vs) ∷ [])
      joint-thirteen e comes n =
          rw n (moved-room t r (c ∷ d ∷ []) (taken_by r pk + taken_by r mode) (comes_sizes (c ∷ d ∷ [])) joint-moved (puts_plain (c ∷ d ∷ []) plains ∙ e) e)

      pub joint-room : any (puts (λ v. true)) (c ∷ d ∷ []) ≡ true → (comes : ℕ) → comes ≡ comes_sizes (c ∷ d ∷ [])
          → first_broken (room_by t (length r) false (folded_sums t r (taken_by r pk + taken_by r mode) comes)) ≡ first_broken (room_rules t (length r) (c ∷ d ∷ []) vs)
      unfolding room_rules rule18
      joint-room e comes n =
          joint-thirteen e comes n
          ∙ sym (kept_here RecordSpace (rule18 t (c ∷ d ∷ []) vs) ((Room, rule13 t (length r) (c ∷ d ∷ []) vs) ∷ []) (rw (puts-no-record (c ∷ d ∷ []) plains)))

    -- what goes is there
    pub joint-counts : taken_by r pk + taken_by r mode ≤ side_sizes t.vendor t.modem vs
    unfolding comes_sizes comes_size
    joint-counts =
        omega (arith, (joint-moved (remove key_pk) (remove key_mode) refl refl refl refl (none-put, (none-put, tt))).own)
      where
        none-put : {k : Key} (v : Value) → remove k ≡ put v → plain v
        none-put v e = let z : ◌≡◌ {A = ℕ} 0 1 = cc in absurd (omega arith)

  -- ---- PlatMode alone

  module _ (mode : Found) (m : mode ≡ found_of (standing key_mode (entries r))) (d : Change) (od : Own key_mode d) (id : is_nothing d ≡ false) (plains : EachPut plain (d ∷ [])) where
    alone-after : (x : Class t.vendor t.modem)
        → x.total (steps (d ∷ []) vs) + cond (x.holds true false) (taken_by r None + taken_by r mode) 0 ≡ x.total vs + cond (x.holds true false) (comes_sizes (d ∷ [])) 0
    unfolding steps comes_sizes
    alone-after x = go (x.holds true false) (class-step key_mode own-mode mode-plain x vs distinct refl d od id plains.0)
      where
        go : (b : Bool)
            → x.total (step d vs) + cond b (on_some (find key_mode vs) entry_size_def 0) 0 ≡ x.total vs + cond b (comes_size d) 0
            → x.total (step d vs) + cond b (taken_by r None + taken_by r mode) 0 ≡ x.total vs + cond b (comes_size d + 0) 0
        go true one = omega (arith, there key_mode mode m, taken-found r None)
        go false one = omega arith

    alone-moved : Moved t r (d ∷ []) (taken_by r None + taken_by r mode) (comes_sizes (d ∷ []))
    alone-moved = record {
      own = alone-after (own_class t.vendor t.modem);
      records = omega (arith, alone-after (records_class t.vendor t.modem));
      others = omega (arith, alone-after (others_class t.vendor t.modem));
    }

    pub alone-thirteen : any (puts (λ v. true)) (d ∷ []) ≡ true → (comes : ℕ) → comes ≡ comes_sizes (d ∷ [])
        → first_broken (room_by t (length r) false (folded_sums t r (taken_by r None + taken_by r mode) comes)) ≡ first_broken ((Room, rule13 t (length r) (d ∷ []) vs) ∷ [])
    alone-thirteen e comes n =
        rw n (moved-room t r (d ∷ []) (taken_by r None + taken_by r mode) (comes_sizes (d ∷ [])) alone-moved (puts_plain (d ∷ []) plains ∙ e) e)

    pub alone-counts : taken_by r None + taken_by r mode ≤ side_sizes t.vendor t.modem vs + comes_sizes (d ∷ [])
    alone-counts = omega (arith, alone-moved.own)
