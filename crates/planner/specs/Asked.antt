-- The value that a put stores, those that the items of a profile and a joint change of PK and PlatMode store, and what the checks of the call leave to them.
use Rattle.std.specs.Prelude.{ℕ, ◌≤◌, ◌≡◌, Bool, true, false, cond, Option, Some, None, Result, IfOk, List, [], ◌∷◌, ◌++◌, length, eqb}
use Rattle.model.specs.declared.Rule.{Rule}
use Rattle.model.specs.Image.{region_size, region}
use Rattle.model.specs.Lists.{among, on_some}
use Rattle.model.specs.Name.{Key}
use Rattle.model.specs.Entry.{Value, key_of, no_stamp_def}
use Rattle.model.specs.Region.{entries, values_of, added, replacing, standing}
use Rattle.model.specs.Request.{Request, key_pk, key_mode, mode_value}
use Rattle.model.specs.Profile.{item_attributes, shares_name_def}
use Rattle.model.specs.Change.{Change, remove, put, change_in, step, steps, space_of}
use Rattle.model.specs.Set.{fits_tail, compact_plan, put_plan}
use Rattle.model.specs.Answers.{stores_of}
use Rattle.model.specs.Book.{ClearsOne, is_state_def, is_record}
use Rattle.model.specs.Beside.{Valid, EachItem, changes_alone}
use Rattle.values.specs.Found.{found_of}
use Rattle.values.specs.declared.Places.{Places}
use Rattle.image.specs.Check.{IsReady}
use Rattle.profile.specs.Folded.{Folds}
use Rattle.plan.specs.declared.Planned.{Planned}
use Rattle.plan.specs.Plan.{Ready}
use Rattle.plan.specs.Planned.{planned_as, decides_right}

-- a value by its fields
abbrev pub valued : List ℕ → List ℕ → ℕ → List ℕ → List ℕ → Value
valued name vendor attributes stamp bytes =
    record { name = name; vendor = vendor; attributes = attributes; stamp = stamp; bytes = bytes }

-- before a value is put: the image is ready, of b blocks, with its tail at an offset and a number of used records, the places are those of the name's entries, and
-- the value is one that a region can hold (a GUID is 16 bytes by its type) and has room beside the others
pub record Asked (img : List ℕ) (b tail used : ℕ) (places : Places) (v : Value) : Type 0 where
  pub ready : IsReady img b tail used
  pub added : places.added ≡ found_of (added (key_of v) (entries (region img)))
  pub replacing : places.replacing ≡ found_of (replacing (key_of v) (entries (region img)))
  pub valid : length v.vendor ≡ 16 → Valid v
  pub room : space_of (step (put v) (values_of img)) ≤ region_size img

-- a put was planned over an image, with this content: it is what the definitions plan, its deciding operation is told rightly, and it is what the executor
-- asks, if every change of state and record clears one bit, whatever w is
pub record PutPlanned (img : List ℕ) (v : Value) (content : List ℕ) (planned : Result Planned Rule) : Type 0 where
  pub same : planned_as content planned ≡ put_plan img v
  pub decides : IfOk planned (λ p. decides_right (put_plan img v) p ≡ true)
  pub ready : (fits_tail (region img) v ≡ true → (w : ℕ) → ClearsOne (is_state_def img) (stores_of w (put_plan img v)) img)
      → ((w : ℕ) → ClearsOne (is_record img) (stores_of w (put_plan img v)) img)
      → IfOk planned (λ p. Ready content p.plan img)

-- a compaction was planned over an image that is to leave a list of values, with this content: as before; which operations make up the list is as open as in `Plans`
pub record CompactPlanned (img : List ℕ) (vs : List Value) (content : List ℕ) (planned : Result Planned Rule) : Type 0 where
  pub same : planned_as content planned ≡ compact_plan img vs
  pub decides : IfOk planned (λ p. decides_right (compact_plan img vs) p ≡ true)
  pub ready : ((w : ℕ) → ClearsOne (is_record img) (stores_of w (compact_plan img vs)) img) → IfOk planned (λ p. Ready content p.plan img)

-- 02 (l), "The whole profile is one compaction": changes one after another, all of them folded in
abbrev pub FoldPlanned : List ℕ → List Change → List ℕ → Result Planned Rule → Type 0
FoldPlanned img cs content planned = CompactPlanned img (steps cs (values_of img)) content planned

-- the value that an item stores, if it does: it has neither 0x20 nor 0x40, so its stamp is zeros
abbrev pub item_value : Request → Value
item_value r = valued r.name r.vendor r.attributes no_stamp_def r.bytes

abbrev pub stored_if : Bool → Request → List Value
stored_if b r = cond b (item_value r ∷ []) []

-- those of all items, in file order, by which of them store one
unfoldable pub stored_by : List Request → List Bool → List Value
stored_by [] bs = []
stored_by (r ∷ rs) [] = []
stored_by (r ∷ rs) (b ∷ bs) = stored_if b r ++ stored_by rs bs

-- before the items of a profile are folded in: the image is ready, the items are of the form and no two share a name, the numbers are theirs, and what they put is
-- what a region can hold and has room beside the other values
pub record Foldable (img : List ℕ) (b used : ℕ) (rs : List Request) (leave : List ℕ) (stores : List Bool) : Type 0 where
  pub tail : ℕ
  pub ready : IsReady img b tail used
  pub formed : EachItem (λ r. among item_attributes r.attributes ≡ true) rs
  pub apart : shares_name_def rs ≡ false
  pub places : Folds (region img) rs leave stores
  pub valid : EachItem (λ r. (v : Value) → change_in r (values_of img) ≡ put v → Valid v) rs
  pub room : space_of (steps (changes_alone rs (values_of img)) (values_of img)) ≤ region_size img

-- 02 (j), "where mode and PK change together it is one compaction, PlatMode last, PK before it": PK's value comes or goes; then PlatMode's comes with a byte, or goes, which is
-- said by 0
abbrev pub change_pk : Bool → Value → Change
change_pk comes v = cond comes (put v) (remove key_pk)

abbrev pub change_mode : ℕ → Change
change_mode byte = cond (eqb byte 0) (remove key_mode) (put (mode_value byte))

abbrev pub joint_changes : Bool → Value → ℕ → List Change
joint_changes comes v byte = change_pk comes v ∷ change_mode byte ∷ []

-- the values that come
abbrev pub stored_pk : Bool → Value → List Value
stored_pk comes v = cond comes (v ∷ []) []

abbrev pub stored_mode : ℕ → List Value
stored_mode byte = cond (eqb byte 0) [] (mode_value byte ∷ [])

-- the offset of the entry of what stands under a name
abbrev pub stands_at : Key → List ℕ → Option ℕ
stands_at k r = on_some (standing k (entries r)) (λ e. Some e.at) None

-- before a joint change is folded in: the image is ready, the offsets are those of what stands, and PK's value, if it comes, is what a region can hold; there is room for
-- what the changes leave
pub record Joinable (img : List ℕ) (b used : ℕ) (pk byte_at : Option ℕ) (comes : Bool) (v : Value) (byte : ℕ) : Type 0 where
  pub tail : ℕ
  pub ready : IsReady img b tail used
  pub first : pk ≡ stands_at key_pk (region img)
  pub second : byte_at ≡ stands_at key_mode (region img)
  pub named : comes ≡ true → key_of v ≡ key_pk
  pub valid : comes ≡ true → Valid v
  pub room : space_of (steps (joint_changes comes v byte) (values_of img)) ≤ region_size img
