-- A compaction with a change of PK and one of PlatMode folded in: the values at neither's place, then those that come, PlatMode's last.
-- Assumes nothing.
use Prim.Native.Nat.{ℕ, ◌*◌, ◌-◌, ◌^◌, ◌≤◌, ◌<◌}
use native.Mathlib.Omega.{arith}
use mathlib.Core.Path.{◌≡◌, refl, sym, ap, ◌∙◌, subst}
use mathlib.Core.Bool.{Bool, true, false, cond}
use mathlib.Core.List.{List, [], ◌∷◌, ◌++◌}
use lib.ListN.{length, replicate, length-append}
use lib.Dec.{eqb}
use mathlib.Core.Option.{Option as Maybe, none, some}
use Rattle.std.specs.Prelude.{Option, Some, None, unwrap_or, Ok}
use Rattle.model.specs.Layout.{authenticated}
use Rattle.model.specs.Lists.{same, part, on_some}
use Rattle.model.specs.Image.{region, region_header_def}
use Rattle.model.specs.Name.{Key, same_key_def}
use Rattle.model.specs.Entry.{Value, key_of, no_stamp_def, entry_bytes}
use Rattle.model.specs.Region.{entries, standing, values, values_of, values_in, sound}
use Rattle.model.specs.Walk.{Entry}
use Rattle.model.specs.Request.{global_vendor_def, key_pk, key_mode, mode_value}
use Rattle.model.specs.Change.{remove, put, steps}
use Rattle.model.specs.Compact.{joined}
use Rattle.model.specs.Beside.{Valid, changed_keys, put_values_def, without_all}
use Rattle.model.proofs.Encode.{AllValid}
use Rattle.model.proofs.Changes.{EachPut, steps-valid}
use Rattle.model.proofs.Joint.{mode-valid}
use Rattle.model.proofs.Requests.{image-valid}
use Rattle.model.proofs.Folding.{Apart, steps-folded}
use Rattle.output.specs.Text.{Wrote}
use Rattle.output.proofs.Writing.{wrote-append, wrote_as}
use Rattle.compose.specs.Compose.{values_but}
use Rattle.compose.proofs.Carried.{joined-append}
use Rattle.compose.proofs.Leaving.{Agreed, agreed-none, agreed-name, leaving-agreed}
use Rattle.plan.specs.declared.Step.TheVariants.{Nothing}
use Rattle.plan.specs.declared.Step.{Step}
use Rattle.plan.specs.Planned.{accepted}
use Rattle.planner.specs.Compactions.{compact_plan}
use Rattle.planner.specs.Asked.{valued, joint_changes, stored_pk, stored_mode, stands_at, Joinable, FoldPlanned}
use Rattle.planner.proofs.Folded.{values-short, compact-asked, compact-planned}
use Rattle.planner.proofs.Stored.{entry-long, joined-one, after-asked, after-wrote}

-- ---- the changes

pk-not-mode : same_key_def key_pk key_mode ≡ false
unfolding key_pk key_mode same
pk-not-mode = refl

mode-key : (byte : ℕ) → key_of (mode_value byte) ≡ key_mode
unfolding mode_value
mode-key byte = refl

-- what they change, what they put, and that neither changes the other's name
module _ (v : Value) (byte : ℕ) where
  mode-keys : (t : Bool) → changed_keys (cond t (remove key_mode) (put (mode_value byte)) ∷ []) ≡ key_mode ∷ []
  mode-keys true = refl
  mode-keys false = ap (λ (k : Key). k ∷ []) (mode-key byte)

  mode-put : (t : Bool) → put_values_def (cond t (remove key_mode) (put (mode_value byte)) ∷ []) ≡ cond t [] (mode_value byte ∷ [])
  mode-put true = refl
  mode-put false = refl

  mode-apart : (t : Bool) → Apart (cond t (remove key_mode) (put (mode_value byte)) ∷ [])
  mode-apart true = tt
  mode-apart false = (refl, tt)

  joint-keys : (comes : Bool) → (comes ≡ true → key_of v ≡ key_pk) → changed_keys (joint_changes comes v byte) ≡ key_pk ∷ key_mode ∷ []
  joint-keys true n = rw (n refl) (ap (λ (ks : List Key). key_pk ∷ ks) (mode-keys (eqb byte 0)))
  joint-keys false n = ap (λ (ks : List Key). key_pk ∷ ks) (mode-keys (eqb byte 0))

  joint-put : (comes : Bool) → put_values_def (joint_changes comes v byte) ≡ stored_pk comes v ++ stored_mode byte
  joint-put true = ap (λ (vs : List Value). v ∷ vs) (mode-put (eqb byte 0))
  joint-put false = mode-put (eqb byte 0)

  joint-apart : (comes : Bool) → (comes ≡ true → key_of v ≡ key_pk) → Apart (joint_changes comes v byte)
  joint-apart true n = (rw (n refl, mode-keys (eqb byte 0), pk-not-mode), mode-apart (eqb byte 0))
  joint-apart false n = mode-apart (eqb byte 0)

  joint-valid : (comes : Bool) → (comes ≡ true → Valid v) → EachPut Valid (joint_changes comes v byte)
  joint-valid comes h = (first comes h, (second (eqb byte 0), tt))
    where
      first : (comes : Bool) → (comes ≡ true → Valid v) → (w : Value) → cond comes (put v) (remove key_pk) ≡ put w → Valid w
      first true h w e = let is : v ≡ w = cc in subst Valid is (h refl)
      first false h w e = let z : ◌≡◌ {A = ℕ} 0 1 = cc in absurd (omega arith)

      second : (t : Bool) (w : Value) → cond t (remove key_mode) (put (mode_value byte)) ≡ put w → Valid w
      second true w e = let z : ◌≡◌ {A = ℕ} 0 1 = cc in absurd (omega arith)
      second false w e = let is : mode_value byte ≡ w = cc in subst Valid is (mode-valid byte)

-- ---- the values after them

abbrev pub leaving : Option ℕ → Option ℕ → List ℕ
leaving pk mode = unwrap_or pk 0 ∷ unwrap_or mode 0 ∷ []

-- a place where there is one, else 0
agreed-place : (r : List ℕ) → sound r ≡ true → (k : Key) (leave : List ℕ) (ks : List Key) → Agreed r leave ks → Agreed r (unwrap_or (stands_at k r) 0 ∷ leave) (k ∷ ks)
agreed-place r sounds k leave ks h = subst (λ (a : ℕ). Agreed r (a ∷ leave) (k ∷ ks)) (go (standing k (entries r))) (agreed-name r sounds k leave ks h)
  where
    go : (o : Maybe Entry) → on_some o (λ e. e.at) 0 ≡ unwrap_or (on_some o (λ e. Some e.at) None) 0
    go (some e) = refl
    go none = refl

joint-after : (r : List ℕ) (comes : Bool) (v : Value) (byte : ℕ) → sound r ≡ true → (comes ≡ true → key_of v ≡ key_pk)
    → values_but (leaving (stands_at key_pk r) (stands_at key_mode r)) r ++ (stored_pk comes v ++ stored_mode byte)
    ≡ steps (joint_changes comes v byte) (values (entries r))
joint-after r comes v byte sounds n =
    let leave = leaving (stands_at key_pk r) (stands_at key_mode r) in
    let agreed : Agreed r leave (key_pk ∷ key_mode ∷ []) =
    agreed-place r sounds key_pk (unwrap_or (stands_at key_mode r) 0 ∷ []) (key_mode ∷ []) (agreed-place r sounds key_mode [] [] (agreed-none r)) in
    let kept : values_but leave r ≡ without_all (changed_keys (joint_changes comes v byte)) (values (entries r)) =
    leaving-agreed r leave (key_pk ∷ key_mode ∷ []) agreed ∙ ap (λ (ks : List Key). without_all ks (values (entries r))) (sym (joint-keys v byte comes n)) in
    rw (kept, ← joint-put v byte comes) (sym (steps-folded (joint_changes comes v byte) (values (entries r)) (joint-apart v byte comes n)))

-- ---- what is composed

abbrev pub after_both : List ℕ → List ℕ → Bool → Value → ℕ → List ℕ
after_both r leave comes v byte = region_header_def (length r) ++ joined (values_but leave r ++ (stored_pk comes v ++ stored_mode byte))

module _ {img : List ℕ} {b used byte : ℕ} {pk mode : Option ℕ} {comes : Bool} {v : Value} (a : Joinable img b used pk mode comes v byte) where
  abbrev left : List Value
  left = steps (joint_changes comes v byte) (values_of img)

  left-valid : AllValid authenticated left
  left-valid =
      steps-valid (joint_changes comes v byte) (values_of img) (joint-valid v byte comes a.valid) (image-valid img a.ready.right a.ready.ready)

  its-front : {r : List ℕ} → r ≡ part 0 (4096 * b) img → after_both r (leaving pk mode) comes v byte ≡ region_header_def (4096 * b) ++ joined left
  unfolding values_in
  its-front e =
      ap (λ (x : List ℕ). after_both x (leaving pk mode) comes v byte) (e ∙ a.ready.cut)
      ∙ ap (λ (k : ℕ). region_header_def k ++ joined (values_but (leaving pk mode) (region img) ++ (stored_pk comes v ++ stored_mode byte))) a.ready.long
      ∙ rw (a.first, a.second)
      (ap (λ (vs : List Value). region_header_def (4096 * b) ++ joined vs) (joint-after (region img) comes v byte a.ready.sounds a.named))

  pub joint-room : {r : List ℕ} → r ≡ part 0 (4096 * b) img → (length r ≤ 28672) × (length (after_both r (leaving pk mode) comes v byte) ≤ 28672)
  joint-room e =
      let few = a.ready.few in
      let n = values-short a.ready left left-valid a.room in
      (rw (e ∙ a.ready.cut) (omega (arith, a.ready.long)), rw (its-front e) (omega arith))

  module _ {r l l₁ : List ℕ} {n : ℕ} (e : r ≡ part 0 (4096 * b) img) (w : Wrote (after_both r (leaving pk mode) comes v byte) 0 l l₁ n) (full : length l ≡ 28672) where
    pub joint-asked : (n ≤ 4096 * b) × (b ≤ 7) × (length l₁ ≡ 28672)
    joint-asked = compact-asked a.ready left left-valid a.room (wrote_as (its-front e) w) full

    pub joint-planned : {c : List ℕ} {ops : List Step} → Wrote (replicate (4096 * b - n) 0xFF) n l₁ c (4096 * b)
        → ops ≡ compact_plan Nothing Nothing b used → FoldPlanned img (joint_changes comes v byte) c (Ok (accepted ops (Some 5)))
    joint-planned x o = compact-planned a.ready left left-valid a.room (wrote_as (its-front e) w) full x o

-- ---- entry by entry

-- what the writing of PK's entry asks, and what it gives
module _ (name vendor : List ℕ) (attributes : ℕ) (stamp old own : List ℕ) where
  pub pk-asked : length (joined (stored_pk true (valued name vendor attributes stamp (old ++ own)))) ≤ 28672
      → (length name < 2 ^ 32) × (length old < 2 ^ 32) × (length own < 2 ^ 32)
  pk-asked h =
      let l = entry-long (valued name vendor attributes stamp (old ++ own)) in
      let m = length-append old own in
      (omega arith, omega arith, omega arith)

  pub pk-wrote : {at n : ℕ} {l l' : List ℕ} → Wrote (entry_bytes 0x3F (valued name vendor attributes stamp (old ++ own))) at l l' n
      → Wrote (joined (stored_pk true (valued name vendor attributes stamp (old ++ own)))) at l l' n
  pk-wrote w = wrote_as (joined-one (valued name vendor attributes stamp (old ++ own))) w

pub mode-length : length key_mode.name ≡ 18
unfolding key_mode
mode-length = refl

pub vendor-length : length global_vendor_def ≡ 16
unfolding global_vendor_def
vendor-length = refl

pub mode-wrote : (byte : ℕ) {name vendor stamp : List ℕ} {at n : ℕ} {l l' : List ℕ} → name ≡ key_mode.name → vendor ≡ global_vendor_def → stamp ≡ no_stamp_def
    → eqb byte 0 ≡ false → Wrote (entry_bytes 0x3F (valued name vendor 0x07 stamp (byte ∷ []))) at l l' n → Wrote (joined (stored_mode byte)) at l l' n
unfolding mode_value key_mode
mode-wrote byte p q r h w =
    rw h (wrote_as (ap (entry_bytes 0x3F) (rw (p, q, r)) ∙ joined-one (mode_value byte)) w)

-- ---- one after the other

module _ (n : ℕ) (us vs ws : List Value) where
  pub both-asked : {m : ℕ} {l l' : List ℕ} → Wrote (region_header_def n ++ joined us) 0 l l' m → length (region_header_def n ++ joined (us ++ (vs ++ ws))) ≤ 28672
      → (m ≤ 28672) × (length (joined vs) ≤ 28672)
  both-asked w h =
      let k = after-asked n us (vs ++ ws) w h in
      let two = ap length (joined-append vs ws) ∙ length-append (joined vs) (joined ws) in
      (k.0, omega (arith, k.1))

  pub both-wrote : {m m' m'' : ℕ} {l l' l'' l''' : List ℕ} → Wrote (region_header_def n ++ joined us) 0 l l' m → Wrote (joined vs) m l' l'' m' → Wrote (joined ws) m' l'' l''' m''
      → Wrote (region_header_def n ++ joined (us ++ (vs ++ ws))) 0 l l''' m''
  both-wrote u v w = after-wrote n us (vs ++ ws) u (wrote_as (sym (joined-append vs ws)) (wrote-append v w))
