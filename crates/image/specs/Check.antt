-- What rules 1 and 2 leave to a call and to a start-up.
use Rattle.std.specs.Prelude.{ℕ, ◌*◌, ◌≤◌, ◌≡◌, true, cond, List, [], ◌∷◌, length, Option, Some, None, Result, Ok, Err}
use Rattle.std.proofs.Math.Option.{none}
use Rattle.model.specs.declared.Layout.{Layout}
use Rattle.model.specs.Layout.{authenticated}
use Rattle.model.specs.Lists.{part, on_some}
use Rattle.model.specs.Image.{blocks, right_length, region, work}
use Rattle.model.specs.Region.{entries_in, tail_at_in, sound_in, clean}
use Rattle.model.specs.Work.{used_records, ready_in, pending}
use Rattle.model.specs.declared.Rule.{Rule}
use Rattle.model.specs.declared.Rule.TheVariants.{Length, Unready}
use Rattle.model.specs.Rules.{first_broken, rule1, rule2_start_up, image_rules_in}
use Rattle.records.specs.Look.{look_at_def}
use Rattle.region.specs.Met.{key_from, met_of}
use Rattle.image.specs.declared.Ready.{Ready}
use Rattle.image.specs.declared.Checked.{Checked}
use Rattle.image.specs.declared.Start.{Start}
use Rattle.image.specs.declared.Start.TheVariants as start

-- b, where rule 1 is kept
unfoldable pub blocks_of : List ℕ → Option ℕ
blocks_of img = cond (right_length img) (Some (blocks img)) None

-- b, the offset of the tail and the number of used records
abbrev pub ready_of : Layout → List ℕ → Ready
ready_of y img = record { blocks = blocks img; tail = tail_at_in y (region img); used = used_records (work img) }

-- of a call: the first of rules 1 and 2 broken, or these; in a form, and in the one in which calls store
unfoldable pub call_in : Layout → List ℕ → Result Ready Rule
call_in y img = on_some (first_broken (image_rules_in y img)) Err (Ok (ready_of y img))

abbrev pub call_of : List ℕ → Result Ready Rule
call_of = call_in authenticated

-- the same, and where a ready image has a sought name
unfoldable pub checked_in : Layout → List ℕ → List ℕ → Result Checked Rule
checked_in y img key =
    on_some (first_broken (image_rules_in y img)) Err (Ok (record { ready = ready_of y img; met = met_of (key_from key) (entries_in y (region img)) }))

-- of a start-up: the first of rules 1 and 2 broken (22, which comes after them, is asked with what the start-up is given), or b of what is pending, else of the sound
-- region, and what a look at the work block tells; of the region whether it is clean
unfoldable pub start_up_of : List ℕ → Result Start Rule
start_up_of img =
    on_some (first_broken ((Length, rule1 img) ∷ (Unready, rule2_start_up img) ∷ [])) Err
    (Ok (cond (pending img) (start.Pending (blocks img) (look_at_def (work img)))
    (start.Sound (blocks img) (look_at_def (work img)) (clean (region img)))))

-- an image that is ready in a form, of b blocks, with the tail at t and u used records
pub record IsReadyIn (y : Layout) (img : List ℕ) (b t u : ℕ) : Type 0 where
  pub unbroken : first_broken (image_rules_in y img) ≡ none
  pub right : right_length img ≡ true
  pub ready : ready_in y img ≡ true
  pub sounds : sound_in y (region img) ≡ true
  pub number : blocks img ≡ b
  pub few : b ≤ 7
  pub cut : part 0 (4096 * b) img ≡ region img
  pub long : length (region img) ≡ 4096 * b
  pub tail-at : tail_at_in y (region img) ≡ t
  pub tail_within : t ≤ length (region img)
  pub used : used_records (work img) ≡ u

abbrev pub IsReady : List ℕ → ℕ → ℕ → ℕ → Type 0
IsReady = IsReadyIn authenticated
