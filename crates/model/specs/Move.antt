-- 02 (d), "a lent image moved to the new form or back into another lent image"; for any two forms.
use Rattle.std.specs.Prelude.{ℕ, ◌-◌, Bool, not, ◌&&◌, List, [], ◌∷◌, ◌++◌, map, length, replicate, ltb}
use Rattle.std.proofs.Math.Option.{Option}
use Rattle.model.specs.declared.Layout.{Layout}
use Rattle.model.specs.declared.Rule.{Rule}
use Rattle.model.specs.declared.Rule.TheVariants.{Length, Room, Source, TimeBased}
use Rattle.model.specs.Layout.{is_stamped_def}
use Rattle.model.specs.Lists.{any, on_some}
use Rattle.model.specs.Image.{region_size}
use Rattle.model.specs.Entry.{Value, no_stamp_def}
use Rattle.model.specs.Region.{values_in}
use Rattle.model.specs.Request.{time_based_def}
use Rattle.model.specs.Change.{space_in}
use Rattle.model.specs.Rules.{first_broken, rule1, rule2_in}
use Rattle.model.specs.Compact.{encode_in}
use Rattle.model.specs.Answers.{Outcome, done, refused, rule_number}

-- "Values, attributes and order are kept; stamps become zero in the new form"; the plain one has none
abbrev pub unstamped : Value → Value
unstamped v = record { name = v.name; vendor = v.vendor; attributes = v.attributes; stamp = no_stamp_def; bytes = v.bytes }

unfoldable pub moved_values : Layout → List ℕ → List Value
moved_values from img = map unstamped (values_in from img)

-- 19. "when the source breaks 2 in its form"
unfoldable pub rule19 : Layout → List ℕ → Bool
rule19 from img = rule2_in from img

-- 20. "when a value with 0x20 would go to the plain form"
unfoldable pub rule20 : Layout → List Value → Bool
rule20 to vs = not (is_stamped_def to) && any (λ v. time_based_def v.attributes) vs

-- 13. "without reserves, on the target"
unfoldable pub rule13_move : Layout → ℕ → List Value → Bool
rule13_move to size vs = ltb size (space_in to vs)

-- "1 is tried on both; 13 .. on the target; 19, in the place of 2 ..; 20 .. after 19"
unfoldable pub move_broken : Layout → Layout → List ℕ → List ℕ → Option Rule
move_broken from to img target =
    first_broken
    ((Length, rule1 img)
    ∷ (Length, rule1 target)
    ∷ (Source, rule19 from img)
    ∷ (TimeBased, rule20 to (values_in from img))
    ∷ (Room, rule13_move to (region_size target) (moved_values from img))
    ∷ [])

-- "which then holds header, values as 3F entries, and FF"
unfoldable pub moved : Layout → Layout → List ℕ → List ℕ → List ℕ
moved from to img target =
    encode_in to (region_size target) (moved_values from img) ++ replicate (length target - region_size target) 0xFF

-- refused, the target stays
unfoldable pub image_moved : Layout → Layout → List ℕ → List ℕ → List ℕ
image_moved from to img target = on_some (move_broken from to img target) (λ rule. target) (moved from to img target)

-- "A move counts 0 stores."
unfoldable pub move_answer : Layout → Layout → List ℕ → List ℕ → Outcome
move_answer from to img target = on_some (move_broken from to img target) (λ rule. refused (rule_number rule)) (done 0)
