-- A compaction with changes folded in: that of a put, and those of a profile's items. The values after the changes take the space that was found for them, so what is
-- composed of them fits the buffer and the region.
-- Assumes nothing.
use Prim.Native.Nat.{ℕ, ◌+◌, ◌*◌, ◌-◌, ◌^◌, ◌≤◌, ◌<◌}
use native.Mathlib.Omega.{arith}
use mathlib.Core.Path.{◌≡◌, refl, sym, ap, ◌∙◌, subst}
use mathlib.Core.Bool.{Bool, true, false}
use mathlib.Core.List.{List, [], ◌++◌}
use lib.ListN.{length, replicate}
use Rattle.std.specs.Prelude.{Some, Ok}
use Rattle.model.specs.Layout.{authenticated}
use Rattle.model.specs.Lists.{part}
use Rattle.model.specs.Image.{block, region_size, region, work, region_header_def}
use Rattle.model.specs.Entry.{Value, key_of}
use Rattle.model.specs.Region.{entries, standing, sound, values, values_of, values_in}
use Rattle.model.specs.Work.{used_records}
use Rattle.model.specs.Request.{Request}
use Rattle.model.specs.Change.{put, step, steps, space_of}
use Rattle.model.specs.Compact.{joined, encode, next_record_def, fill_spare, finish, compact_to, compact_on}
use Rattle.model.specs.Stores.{Store}
use Rattle.model.specs.Set.{Plan, make, fits_tail, put_plan}
use Rattle.model.specs.Set as set
use Rattle.model.specs.Answers.{stores_of}
use Rattle.model.specs.Book.{ClearsOne, is_record}
use Rattle.model.specs.Beside.{changes_alone}
use Rattle.model.proofs.Encode.{AllValid, put-valid}
use Rattle.model.proofs.Changes.{steps-valid}
use Rattle.model.proofs.Requests.{image-valid}
use Rattle.values.specs.declared.Places.{Places}
use Rattle.values.specs.Found.{found_of, else_found}
use Rattle.image.specs.Check.{IsReady}
use Rattle.output.specs.Text.{Wrote}
use Rattle.output.proofs.Writing.{wrote_as, wrote-length}
use Rattle.compose.specs.Compose.{values_but}
use Rattle.plan.specs.declared.Step.TheVariants.{Nothing}
use Rattle.plan.specs.declared.Step.{Step}
use Rattle.plan.specs.Plan.{stores_of_step}
use Rattle.plan.specs.Planned.{accepted, decides_right}
use Rattle.plan.proofs.Parts.{mark-decides, accepted-as}
use Rattle.planner.specs.Compactions.{compact_plan}
use Rattle.planner.proofs.EntryPlans.{standing-is}
use Rattle.planner.proofs.CompactionPlans.{compact-to, compact-on}
use Rattle.planner.proofs.CompactionReady.{compact-ready}
use Rattle.planner.specs.Asked.{Asked, PutPlanned, CompactPlanned, FoldPlanned, stored_by, Foldable}
use Rattle.planner.proofs.Composed.{front-short, front_fits, composed}
use Rattle.planner.proofs.Changed.{items-after, each-put}
use Rattle.planner.proofs.Ready.{image-long, region-size, value-short}

-- ---- a compaction that leaves values for which there is room

module _ {img : List ℕ} {b at used : ℕ} (a : IsReady img b at used) (vs : List Value) (valid : AllValid authenticated vs) (room : space_of vs ≤ region_size img) where
  has_room : space_of vs ≤ 4096 * b
  has_room = omega (arith, room, region-size img b a.number)

  pub values-short : length (region_header_def (4096 * b) ++ joined vs) ≤ 4096 * b
  values-short = front-short vs valid has_room

  -- the region that it is to leave
  abbrev wanted : List ℕ
  wanted = encode (region_size img) vs

  is-plan : set.compact_plan img vs ≡ make (fill_spare b (work img) wanted) (finish b (next_record_def (work img)) wanted)
  unfolding compact_to compact_on
  is-plan = rw a.number

  module _ {l l₁ : List ℕ} {n : ℕ} (w : Wrote (region_header_def (4096 * b) ++ joined vs) 0 l l₁ n) (full : length l ≡ 28672) where
    -- what the compaction asks
    pub compact-asked : (n ≤ 4096 * b) × (b ≤ 7) × (length l₁ ≡ 28672)
    compact-asked = (front_fits vs valid has_room w, a.few, wrote-length w ∙ full)

    module _ {c : List ℕ} (x : Wrote (replicate (4096 * b - n) 0xFF) n l₁ c (4096 * b)) where
      -- what was composed
      is-composed : part 0 (block * b) c ≡ wanted
      unfolding block
      is-composed =
          composed vs valid has_room w x (omega (arith, a.few, full)) ∙ ap (λ (k : ℕ). encode k vs) (sym (region-size img b a.number))

      -- the record FC decides
      decides : {ops : List Step} → ops ≡ compact_plan Nothing Nothing b (used_records (work img))
          → decides_right (set.compact_plan img vs) (accepted ops (Some 5)) ≡ true
      unfolding compact_plan
      decides {ops} o =
          ap (λ (q : Plan). decides_right q (accepted ops (Some 5))) is-plan
          ∙ mark-decides c (compact_plan Nothing Nothing b (used_records (work img))) 5 (fill_spare b (work img) wanted) (finish b (next_record_def (work img)) wanted) o refl
          (compact-to c b (work img) wanted is-composed)

      -- *what was planned*
      pub compact-planned : {ops : List Step} → ops ≡ compact_plan Nothing Nothing b used → CompactPlanned img vs c (Ok (accepted ops (Some 5)))
      unfolding stores_of stores_of_step block
      compact-planned {ops} o =
          let ops' : List Step = compact_plan Nothing Nothing b (used_records (work img)) in
          let is : ops ≡ ops' = o ∙ ap (λ (k : ℕ). compact_plan Nothing Nothing b k) (sym a.used) in
          let size : region_size img ≡ 4096 * b = region-size img b a.number in
          let long : length img ≡ 4096 * (2 * b + 1) = (image-long img b a.right a.number).1 in
          let few = a.few in
          let held : 4096 * b ≤ length c = omega (arith, wrote-length x, wrote-length w) in
          record {
            same =
                accepted-as c ops' (Some 5) (fill_spare b (work img) wanted) (finish b (next_record_def (work img)) wanted) is (compact-to c b (work img) wanted is-composed)
                (compact-on c b (work img) wanted is-composed)
                ∙ sym is-plan;
            decides = decides is;
            ready = λ records.
                rw is
                (compact-ready c img Nothing Nothing b (work img) wanted is-composed size (omega arith) held (tt, tt, tt) (tt, tt, tt)
                (λ n. subst (λ (ss : List Store). ClearsOne (is_record img) ss img) (ap (stores_of n) is-plan) (records n)));
          }

-- ---- a put

-- what is composed, of a region's bytes and a value
abbrev after : List ℕ → Value → List ℕ
after r v = region_header_def (length r) ++ joined (step (put v) (values (entries r)))

module _ {img : List ℕ} {b at used : ℕ} {places : Places} {v : Value} (a : Asked img b at used places v) (vendor : length v.vendor ≡ 16) where
  abbrev ws : List Value
  ws = step (put v) (values_of img)

  put-is-valid : AllValid authenticated ws
  put-is-valid = put-valid authenticated v (values_of img) (a.valid vendor) (image-valid img a.ready.right a.ready.ready)

  its-front : {r : List ℕ} → r ≡ part 0 (4096 * b) img → after r v ≡ region_header_def (4096 * b) ++ joined ws
  unfolding values_in
  its-front e = ap (λ (x : List ℕ). after x v) (e ∙ a.ready.cut) ∙ ap (λ (k : ℕ). region_header_def k ++ joined (step (put v) (values (entries (region img))))) a.ready.long

  -- what the composing asks
  pub fold-room : {r : List ℕ} → r ≡ part 0 (4096 * b) img
      → (sound r ≡ true) × (else_found places.added places.replacing ≡ found_of (standing (key_of v) (entries r)))
      × (length r ≤ 28672) × (length v.name < 2 ^ 32) × (length v.bytes < 2 ^ 32) × (length v.vendor ≡ 16) × (length (after r v) ≤ 28672)
  fold-room {r} e =
      let few = a.ready.few in
      let h = value-short v a.ready a.room in
      let n = values-short a.ready ws put-is-valid a.room in
      let short : length (after r v) ≤ 28672 = rw (its-front e) (omega arith) in
      let is = standing-is [] places (key_of v) (entries (region img)) a.added a.replacing in
      let at = e ∙ a.ready.cut in
      (rw at a.ready.sounds, rw at is, rw at (omega (arith, a.ready.long)), omega arith, omega arith, vendor, short)

  module _ {r l l₁ : List ℕ} {n : ℕ} (e : r ≡ part 0 (4096 * b) img) (w : Wrote (after r v) 0 l l₁ n) (full : length l ≡ 28672) where
    pub fold-asked : (n ≤ 4096 * b) × (b ≤ 7) × (length l₁ ≡ 28672)
    fold-asked = compact-asked a.ready ws put-is-valid a.room (wrote_as (its-front e) w) full

    pub fold-planned : {c : List ℕ} {ops : List Step} → Wrote (replicate (4096 * b - n) 0xFF) n l₁ c (4096 * b) → fits_tail (region img) v ≡ false
        → ops ≡ compact_plan Nothing Nothing b used → PutPlanned img v c (Ok (accepted ops (Some 5)))
    unfolding put_plan
    fold-planned {c} {ops} x fit o =
        let k = compact-planned a.ready ws put-is-valid a.room (wrote_as (its-front e) w) full x o in
        let is : put_plan img v ≡ set.compact_plan img ws = rw fit in
        record {
          same = k.same ∙ sym is;
          decides = ap (λ (q : Plan). decides_right q (accepted ops (Some 5))) is ∙ k.decides;
          ready = λ states records. k.ready (λ n. subst (λ (ss : List Store). ClearsOne (is_record img) ss img) (ap (stores_of n) is) (records n));
        }

-- ---- the items of a profile

-- what is composed, of a region's bytes and what the items leave out and store
abbrev after_items : List ℕ → List ℕ → List Request → List Bool → List ℕ
after_items r leave rs stores = region_header_def (length r) ++ joined (values_but leave r ++ stored_by rs stores)

module _ {img : List ℕ} {b used : ℕ} {rs : List Request} {leave : List ℕ} {stores : List Bool} (a : Foldable img b used rs leave stores) where
  abbrev left : List Value
  left = steps (changes_alone rs (values_of img)) (values_of img)

  items-are-valid : AllValid authenticated left
  items-are-valid =
      steps-valid (changes_alone rs (values_of img)) (values_of img) (each-put rs (values_of img) a.valid) (image-valid img a.ready.right a.ready.ready)

  items-front : {r : List ℕ} → r ≡ part 0 (4096 * b) img → after_items r leave rs stores ≡ region_header_def (4096 * b) ++ joined left
  unfolding values_in
  items-front e =
      ap (λ (x : List ℕ). after_items x leave rs stores) (e ∙ a.ready.cut)
      ∙ ap (λ (k : ℕ). region_header_def k ++ joined (values_but leave (region img) ++ stored_by rs stores)) a.ready.long
      ∙ ap (λ (vs : List Value). region_header_def (4096 * b) ++ joined vs) (items-after (region img) a.ready.sounds a.formed a.apart a.places)

  pub items-room : {r : List ℕ} → r ≡ part 0 (4096 * b) img → (length r ≤ 28672) × (length (after_items r leave rs stores) ≤ 28672)
  items-room e =
      let few = a.ready.few in
      let n = values-short a.ready left items-are-valid a.room in
      (rw (e ∙ a.ready.cut) (omega (arith, a.ready.long)), rw (items-front e) (omega arith))

  module _ {r l l₁ : List ℕ} {n : ℕ} (e : r ≡ part 0 (4096 * b) img) (w : Wrote (after_items r leave rs stores) 0 l l₁ n) (full : length l ≡ 28672) where
    pub items-asked : (n ≤ 4096 * b) × (b ≤ 7) × (length l₁ ≡ 28672)
    items-asked = compact-asked a.ready left items-are-valid a.room (wrote_as (items-front e) w) full

    pub items-planned : {c : List ℕ} {ops : List Step} → Wrote (replicate (4096 * b - n) 0xFF) n l₁ c (4096 * b)
        → ops ≡ compact_plan Nothing Nothing b used → FoldPlanned img (changes_alone rs (values_of img)) c (Ok (accepted ops (Some 5)))
    items-planned x o = compact-planned a.ready left items-are-valid a.room (wrote_as (items-front e) w) full x o
