-- What a query tells is what a set meets: of a new value nothing is dropped, so the sums after it are those before and its own size, which is in whole words, as what
-- remains is. It is the side's own, so it is in the side's sum; and where it is an error record the side is ours, which has H.
-- Assumes nothing.
use Prim.Native.Nat.{ℕ, ◌+◌, ◌*◌, ◌-◌, ◌/◌, ◌≤◌, ◌<◌, min}
use native.Mathlib.Omega.{arith}
use mathlib.Core.Path.{◌≡◌, refl, sym, ap, ◌∙◌, subst}
use mathlib.Core.Bool.{Bool, true, false, not, cond, ◌&&◌, ◌||◌}
use mathlib.Core.List.{List, [], ◌∷◌, ◌++◌}
use mathlib.Core.Option.{Option, none, some}
use mathlib.Core.Logic.{◌⊎◌, inl, inr}
use lib.Dec.{ltb}
use borrow.Author.Tests.{ltb-false, le-ltb}
use Rattle.model.specs.declared.Terms.{Terms}
use Rattle.model.specs.declared.Rule.{Rule}
use Rattle.model.specs.declared.Rule.TheVariants.{Room, RecordSpace}
use Rattle.model.specs.Name.{Key, record_name}
use Rattle.model.specs.Image.{region_size}
use Rattle.model.specs.Entry.{Value, key_of, plain_size, entry_size_def}
use Rattle.model.specs.Region.{values_of, find}
use Rattle.model.specs.Request.{Request, request_key}
use Rattle.model.specs.Limits.{limits_for}
use Rattle.model.specs.Change.{Change, put, change_in, changes_of, step, steps, space_of, is_error_record_def, record_sizes, other_sizes}
use Rattle.model.specs.Sides.{owns, view, side_sizes}
use Rattle.model.specs.Rules.{first_broken, rule13, rule18, terms_of, terms_for_def, image_rules, item_rules, setting_rules, room_rules, set_broken}
use Rattle.model.specs.Query.{record_share_def, remaining_for}
use Rattle.model.proofs.Requests.{broken-append, none-append, put-named}
use Rattle.model.proofs.Space.{new-sizes, all-sizes}
use Rattle.recovery.specs.Claims.{QueryTellsRoom}
use Rattle.recovery.proofs.Owned.{item-own, item-recorded}
use Rattle.recovery.proofs.Views.{find-view, view-step, record-ours, ours-only}

module _ (t : Terms) (size : ℕ) (vs : List Value) (v : Value) (new : find (key_of v) vs ≡ none) (own : owns t.vendor t.modem (key_of v) ≡ true)
    (named : is_error_record_def v ≡ true → record_name (key_of v) ≡ true) where
  abbrev sum : List Value → ℕ
  sum ws = side_sizes t.vendor t.modem ws

  -- the sums after it
  records-after : record_sizes (step (put v) vs) ≡ record_sizes vs + cond (is_error_record_def v) (entry_size_def v) 0
  unfolding record_sizes
  records-after = new-sizes is_error_record_def v vs new

  others-after : (ws : List Value) → find (key_of v) ws ≡ none → other_sizes (step (put v) ws) ≡ other_sizes ws + cond (not (is_error_record_def v)) (entry_size_def v) 0
  unfolding other_sizes
  others-after ws absent = new-sizes (λ w. not (is_error_record_def w)) v ws absent

  side_after : sum (step (put v) vs) ≡ sum vs + cond (not (is_error_record_def v)) (entry_size_def v) 0
  unfolding side_sizes
  side_after =
      ap other_sizes (view-step t.vendor t.modem (put v) vs own)
      ∙ others-after (view t.vendor t.modem vs) (find-view t.vendor t.modem (key_of v) vs own ∙ new)

  all_after : space_of (step (put v) vs) ≡ space_of vs + entry_size_def v
  all_after = go (is_error_record_def v) records-after (others-after vs new)
    where
      go : (e : Bool) → record_sizes (step (put v) vs) ≡ record_sizes vs + cond e (entry_size_def v) 0
          → other_sizes (step (put v) vs) ≡ other_sizes vs + cond (not e) (entry_size_def v) 0
          → space_of (step (put v) vs) ≡ space_of vs + entry_size_def v
      go true a b = omega (arith, a, b, all-sizes vs, all-sizes (step (put v) vs))
      go false a b = omega (arith, a, b, all-sizes vs, all-sizes (step (put v) vs))

  -- what a value takes in whole words, by what its header, name and data take; it takes something
  words : (60 ≤ plain_size v) × (plain_size v ≤ entry_size_def v) × (entry_size_def v ≤ plain_size v + 3)
  words = (omega arith, omega arith, omega arith)

  -- an error record is ours, so H is there for it
  ours : is_error_record_def v ≡ true → record_share_def t ≡ t.records
  ours e = rw (ours-only t.vendor t.modem (key_of v) own (record-ours t.vendor (key_of v) (named e)))

  -- the sums after it, in the bytes that there are, by its class
  abbrev left : Bool → ℕ
  left e = min (size - space_of vs) (cond e (record_share_def t - record_sizes vs) (t.share - (sum vs + t.reserve))) / 4 * 4

  abbrev rules : List (Rule × Bool)
  rules =
      (RecordSpace, (is_error_record_def v || false) && ltb t.records (record_sizes (step (put v) vs)))
      ∷ (Room, ((not (is_error_record_def v) || false) && ltb t.share (sum (step (put v) vs) + t.reserve)) || ltb size (space_of (step (put v) vs)))
      ∷ []

  module _ (e : Bool) (class : is_error_record_def v ≡ e) where
    records-now : record_sizes (step (put v) vs) ≡ record_sizes vs + cond e (entry_size_def v) 0
    records-now = records-after ∙ ap (λ (x : Bool). record_sizes vs + cond x (entry_size_def v) 0) class

    side-now : sum (step (put v) vs) ≡ sum vs + cond (not e) (entry_size_def v) 0
    side-now = side_after ∙ ap (λ (x : Bool). sum vs + cond (not x) (entry_size_def v) 0) class

  fits : (e : Bool) → is_error_record_def v ≡ e → plain_size v ≤ left e → first_broken rules ≡ none
  unfolding first_broken
  fits true e h =
      let f : record_sizes (step (put v) vs) ≤ t.records = omega (arith, words, h, ours e, records-now true e) in
      let g : space_of (step (put v) vs) ≤ size = omega (arith, words, h, all_after) in
      rw (e, le-ltb t.records (record_sizes (step (put v) vs)) f, le-ltb size (space_of (step (put v) vs)) g)
  fits false e h =
      let f : sum (step (put v) vs) + t.reserve ≤ t.share = omega (arith, words, h, side-now false e) in
      let g : space_of (step (put v) vs) ≤ size = omega (arith, words, h, all_after) in
      rw (e, le-ltb t.share (sum (step (put v) vs) + t.reserve) f, le-ltb size (space_of (step (put v) vs)) g)

  lacks : (e : Bool) → is_error_record_def v ≡ e → left e < plain_size v → (first_broken rules ≡ some Room) ⊎ (first_broken rules ≡ some RecordSpace)
  unfolding first_broken
  lacks true e h = go (ltb t.records (record_sizes (step (put v) vs))) refl (ltb size (space_of (step (put v) vs))) refl
    where
      go : (p : Bool) → ltb t.records (record_sizes (step (put v) vs)) ≡ p → (q : Bool) → ltb size (space_of (step (put v) vs)) ≡ q
          → (first_broken rules ≡ some Room) ⊎ (first_broken rules ≡ some RecordSpace)
      go true p q g = inr (rw (e, p))
      go false p true g = inl (rw (e, p, g))
      go false p false g =
          let f = ltb-false t.records (record_sizes (step (put v) vs)) p in
          let k = ltb-false size (space_of (step (put v) vs)) g in
          absurd (omega (arith, words, h, f, k, ours e, records-now true e, all_after))
  lacks false e h = go (ltb t.share (sum (step (put v) vs) + t.reserve)) refl (ltb size (space_of (step (put v) vs))) refl
    where
      go : (p : Bool) → ltb t.share (sum (step (put v) vs) + t.reserve) ≡ p → (q : Bool) → ltb size (space_of (step (put v) vs)) ≡ q
          → (first_broken rules ≡ some Room) ⊎ (first_broken rules ≡ some RecordSpace)
      go true p q g = inl (rw (e, p))
      go false p true g = inl (rw (e, p, g))
      go false p false g =
          let f = ltb-false t.share (sum (step (put v) vs) + t.reserve) p in
          let k = ltb-false size (space_of (step (put v) vs)) g in
          absurd (omega (arith, words, h, f, k, side-now false e, all_after))

-- a set's only change is its own
only-put : (r : Request) (vs : List Value) (v : Value) → changes_of r vs ≡ put v ∷ [] → change_in r vs ≡ put v
unfolding changes_of
only-put r vs v h = first-of h
  where
    first-of : {c d : Change} {cs : List Change} → c ∷ cs ≡ d ∷ [] → c ≡ d
    first-of e = cc

pub query-tells-room : QueryTellsRoom
unfolding remaining_for change_in set_broken room_rules rule18 rule13 steps terms_of terms_for_def
query-tells-room m s r img v only new kept = (
  λ h. judged ∙ fits t (region_size img) vs v absent own named (is_error_record_def v) refl h,
  λ h. subst (λ (o : Option Rule). (o ≡ some Room) ⊎ (o ≡ some RecordSpace)) (sym judged) (lacks t (region_size img) vs v absent own named (is_error_record_def v) refl h),
)
  where
    t : Terms
    t = terms_of m s (request_key r)

    vs : List Value
    vs = values_of img

    asked : change_in r vs ≡ put v
    asked = only-put r vs v only

    key : key_of v ≡ request_key r
    key = put-named r (find (request_key r) vs) v asked

    absent : find (key_of v) vs ≡ none
    absent = ap (λ (k : Key). find k vs) key ∙ new

    item : first_broken (item_rules t r vs) ≡ none
    item =
        (none-append (image_rules img) (item_rules t r vs)
        (none-append (image_rules img ++ item_rules t r vs) (setting_rules (limits_for s.setup (request_key r)) r (find (request_key r) vs)) kept).0).1

    own : owns s.setup.modem.vendor m (key_of v) ≡ true
    own = ap (owns s.setup.modem.vendor m) key ∙ item-own m s r vs item

    named : is_error_record_def v ≡ true → record_name (key_of v) ≡ true
    named e = ap record_name key ∙ item-recorded t r vs item v asked e

    judged : set_broken m s r img ≡ first_broken (rules t (region_size img) vs v absent own named)
    judged =
        broken-append
        (image_rules img
        ++ item_rules t r vs
        ++ setting_rules (limits_for s.setup (request_key r)) r (find (request_key r) vs))
        (room_rules t (region_size img) (changes_of r vs) vs)
        ∙ rw (kept, only)
