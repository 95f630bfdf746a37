-- What a pass over values counts.
use Rattle.std.specs.Prelude.{ℕ, ◌+◌, ◌≡◌, Bool, not, cond, ◌&&◌, ◌||◌, List, length}
use Rattle.model.specs.declared.Layout.{Layout}
use Rattle.model.specs.Lists.{any, keep}
use Rattle.model.specs.Entry.{Value}
use Rattle.model.specs.Region.{record_bit}
use Rattle.model.specs.Request.{time_based_def}
use Rattle.model.specs.Change.{entry_sizes_in, is_error_record_def}
use Rattle.model.specs.Sides.{view}
use Rattle.values.specs.declared.Tally.{Tally}

-- the rounded entry sizes of the values of a class
abbrev pub sizes_in : Layout → (Value → Bool) → List Value → ℕ
sizes_in y p vs = entry_sizes_in y (keep p vs)

-- the values that are no error records
abbrev pub is_other : Value → Bool
is_other v = not (is_error_record_def v)

-- those with 0x20
abbrev pub is_stamped_def : Value → Bool
is_stamped_def v = time_based_def v.attributes

-- and of those a side's, by the modem's GUID
abbrev pub side_sizes_in : Layout → List ℕ → Bool → List Value → ℕ
side_sizes_in y guid modem vs = sizes_in y is_other (view guid modem vs)

-- what is counted of all values
pub record Tallied (y : Layout) (guid : List ℕ) (modem : Bool) (vs : List Value) (t : Tally) : Type 0 where
  pub number : t.number ≡ length vs
  pub records : t.records ≡ sizes_in y is_error_record_def vs
  pub own : t.own ≡ side_sizes_in y guid modem vs
  pub others : t.others ≡ side_sizes_in y guid (not modem) vs
  pub stamped : t.stamped ≡ any is_stamped_def vs

-- with one more value, of these attributes and this size, the side's own or not
unfoldable pub counted : Tally → ℕ → Bool → ℕ → Tally
counted t attributes own size =
    record {
      number = t.number + 1;
      records = t.records + cond (record_bit attributes) size 0;
      own = t.own + cond (own && not (record_bit attributes)) size 0;
      others = t.others + cond (not own && not (record_bit attributes)) size 0;
      stamped = t.stamped || time_based_def attributes;
    }
