-- What the functions that look at the parts of an image tell of it: each told it of the part that was cut, which is the image's own.
-- Assumes nothing.
use Prim.Native.Nat.{ℕ}
use native.Mathlib.Omega.{arith}
use mathlib.Core.Path.{◌≡◌, refl, sym, ap, ◌∙◌}
use mathlib.Core.Bool.{Bool, true, false, cond, ◌&&◌}
use mathlib.Core.List.{List}
use Rattle.std.specs.Prelude.{Option, Some, None, Result, Err, ok_or}
use Rattle.std.specs.Option.{option_map}
use Rattle.std.proofs.lemmas.Option.{none-some, same_Some, cond_some}
use Rattle.model.specs.declared.Layout.{Layout}
use Rattle.model.specs.declared.Rule.{Rule}
use Rattle.model.specs.Lists.{all_ff}
use Rattle.model.specs.Region.{entries_in, tail_at_in, tail_in, sound_in, clean_in}
use Rattle.model.specs.Work.{well_formed, used_records, ends_in_fc_def, idle}
use Rattle.records.specs.Look.{look_at_def, idle_at, ends_at}
use Rattle.records.specs.declared.Look.{Look}
use Rattle.records.proofs.Block.{look-idle, look-closed}
use Rattle.region.specs.Judge.{sound_of, judged_in}
use Rattle.region.specs.Met.{key_from, met_of, searched_in}
use Rattle.region.specs.declared.Sound.{Sound}
use Rattle.region.specs.declared.Searched.{Searched}

-- the rule broken where nothing is found
pub rule-broken : {T : Type 0} {o : Option T} {e f : Rule} → ◌≡◌ {A = Result T Rule} (Err f) (ok_or o e) → o ≡ None → f ≡ e
rule-broken {T} {e = e} {f} v n = let q : ◌≡◌ {A = Result T Rule} (Err f) (Err e) = v ∙ ap (λ o. ok_or o e) n in cc

-- a sound region that is clean
abbrev pub is_clean : Option Sound → Bool
is_clean (Some s) = s.clean
is_clean None = false

-- cut from the image as w', which is its part w
module _ {w w' : List ℕ} (same : w' ≡ w) {l : Look} (looked : l ≡ look_at_def w') {t : Bool} where
  pub told-idle : t ≡ idle_at l → idle w ≡ t
  told-idle e = sym (look-idle w) ∙ ap (λ (x : List ℕ). idle_at (look_at_def x)) (sym same) ∙ ap idle_at (sym looked) ∙ sym e

  pub told-closed : t ≡ ends_at l → (well_formed w && ends_in_fc_def w) ≡ t
  told-closed e = sym (look-closed w) ∙ ap (λ (x : List ℕ). ends_at (look_at_def x)) (sym same) ∙ ap ends_at (sym looked) ∙ sym e

module _ {w w' : List ℕ} (same : w' ≡ w) {l : Look} (looked : l ≡ look_at_def w') where
  pub told-used : l.used ≡ used_records w
  unfolding look_at_def
  told-used = ap (λ (x : Look). x.used) looked ∙ ap used_records same

-- what is judged of the part
module _ (y : Layout) {r r' : List ℕ} (same : r' ≡ r) {o : Option Sound} (judged : o ≡ judged_in y r') where
  pub told-sound : {s : Sound} → o ≡ Some s → (sound_in y r ≡ true) × (s ≡ sound_of y r)
  unfolding judged_in
  told-sound {s} e =
      let t = cond_some (sound_in y r) (sound_of y r) s (sym (judged ∙ ap (judged_in y) same) ∙ e) in
      (t.0, sym t.1)

  pub told-unsound : o ≡ None → sound_in y r ≡ false
  unfolding judged_in
  told-unsound e = go (sound_in y r) (sym (judged ∙ ap (judged_in y) same) ∙ e)
    where
      go : (t : Bool) → cond t (Some (sound_of y r)) None ≡ None → t ≡ false
      go true q = let z : ◌≡◌ {A = ℕ} 0 1 = cc in absurd (omega arith)
      go false q = refl

  -- an unsound region is not clean
  pub told-clean : is_clean o ≡ clean_in y r
  unfolding judged_in clean_in
  told-clean = ap is_clean (judged ∙ ap (judged_in y) same) ∙ go (sound_in y r) (all_ff (tail_in y r))
    where
      go : (t u : Bool) → is_clean (cond t (Some (record { tail = tail_at_in y r; clean = t && u })) None) ≡ (t && u)
      go true u = refl
      go false u = refl

-- with a sought name
module _ (y : Layout) {r r' : List ℕ} (same : r' ≡ r) (key : List ℕ) {o : Option Searched} (searched : o ≡ searched_in y r' key) where
  pub told-judged : option_map (λ (s : Searched). s.sound) o ≡ judged_in y r'
  unfolding searched_in
  told-judged = ap (option_map (λ (s : Searched). s.sound)) searched ∙ go (judged_in y r')
    where
      go : (j : Option Sound) → option_map (λ (s : Searched). s.sound) (option_map (λ (s : Sound). record { sound = s; met = met_of (key_from key) (entries_in y r') }) j) ≡ j
      go (Some s) = refl
      go None = refl

  pub told-met : {s : Searched} → o ≡ Some s → s.met ≡ met_of (key_from key) (entries_in y r)
  unfolding searched_in
  told-met {s} e = go (judged_in y r) (sym (searched ∙ ap (λ (x : List ℕ). searched_in y x key) same) ∙ e)
    where
      go : (j : Option Sound) → option_map (λ (s : Sound). record { sound = s; met = met_of (key_from key) (entries_in y r) }) j ≡ Some s → s.met ≡ met_of (key_from key) (entries_in y r)
      go (Some j) q = sym (ap (λ (x : Searched). x.met) (same_Some _ _ q))
      go None q = absurd (none-some _ q)
