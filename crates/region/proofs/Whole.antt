-- The judgement of a whole region. *Sound* asks three things: the header, each entry by itself, and no doubled name; *clean* asks the tail too, which is
-- the part of the region from the scan's offset on.
-- Assumes nothing.
use Rattle.std.proofs.Common.{◌≡◌, ℕ, Bool, true, false, cond, ◌&&◌, List, length, drop, sym, refl, ◌∙◌, ap₂, arith, length-drop, take_all}
use mathlib.Core.Bool.{and_assoc, and-false}
use Rattle.model.specs.Lists.{part, all_ff}
use Rattle.model.specs.declared.Layout.{Layout}
use Rattle.model.specs.Region.{entries_in, tail_at_in, tail_in, right_header_in, undoubled, sound_in, clean_in}
use Rattle.region.specs.Judge.{entries_sound, all_sound, scan_of, sound_of, judged_in}
use Rattle.region.specs.Met.{key_from, met_of, surveyed, searched_in}
use Rattle.std.specs.Prelude.{Option, Some, None, option_map}
use Rattle.std.proofs.lemmas.Option.{none-some, same_Some}
use Rattle.region.specs.declared.Met.{Met}
use Rattle.region.specs.declared.Sound.{Sound}
use Rattle.region.specs.declared.Survey.{Survey}
use Rattle.region.specs.declared.Searched.{Searched}

module _ (y : Layout) (r : List ℕ) where
  sound-parts : sound_in y r ≡ (right_header_in y r && entries_sound y r && undoubled (entries_in y r))
  unfolding sound_in entries_sound
  sound-parts = simp and_assoc

  pub wrong-header : right_header_in y r ≡ false → sound_in y r ≡ false
  wrong-header h = rw (sound-parts, h)

  entries-parts : sound_in y r ≡ (right_header_in y r && all_sound y r)
  unfolding all_sound
  entries-parts = sound-parts ∙ and_assoc (right_header_in y r) (entries_sound y r) (undoubled (entries_in y r))

  pub wrong-entry : all_sound y r ≡ false → sound_in y r ≡ false
  wrong-entry s = rw (entries-parts, s, and-false (right_header_in y r))

  pub all_right : right_header_in y r ≡ true → all_sound y r ≡ true → sound_in y r ≡ true
  all_right h s = rw (entries-parts, h, s)

  -- ---- what is answered

  tail-part : part (tail_at_in y r) (length r) r ≡ tail_in y r
  unfolding tail_in
  tail-part = take_all (length r) (drop (tail_at_in y r) r) (simp length-drop (omega arith))

  pub sounds : sound_in y r ≡ true → {t : ℕ} → t ≡ tail_at_in y r → ◌≡◌ {A = Sound} (record { tail = t; clean = all_ff (part t (length r) r) }) (sound_of y r)
  unfolding clean_in
  sounds s e = rw (e, s, tail-part)

  module _ (key : List ℕ) where
    -- what the scan tells
    pub surveyed-none : None ≡ surveyed y r key → all_sound y r ≡ false
    unfolding surveyed scan_of
    surveyed-none e = go (all_sound y r) refl e
      where
        go : (t : Bool) → all_sound y r ≡ t
            → None ≡ option_map {U = Survey} (λ (n : ℕ). record { tail = n; met = met_of (key_from key) (entries_in y r) }) (cond t (Some (tail_at_in y r)) None)
            → t ≡ false
        go true q e = absurd (none-some _ e)
        go false q e = refl

    pub surveyed-some : (s : Survey) → Some s ≡ surveyed y r key
        → (all_sound y r ≡ true) × (s ≡ record { tail = tail_at_in y r; met = met_of (key_from key) (entries_in y r) })
    unfolding surveyed scan_of
    surveyed-some s e = go (all_sound y r) refl e
      where
        go : (t : Bool) → all_sound y r ≡ t
            → Some s ≡ option_map {U = Survey} (λ (n : ℕ). record { tail = n; met = met_of (key_from key) (entries_in y r) }) (cond t (Some (tail_at_in y r)) None)
            → (t ≡ true) × (s ≡ record { tail = tail_at_in y r; met = met_of (key_from key) (entries_in y r) })
        go true q e = (refl, same_Some _ _ e)
        go false q e = absurd (none-some s (sym e))

    -- what is told of the region with a sought name
    pub searched-sound : sound_in y r ≡ true → {s : Sound} {m : Met} → s ≡ sound_of y r → m ≡ met_of (key_from key) (entries_in y r)
        → ◌≡◌ {A = Option Searched} (Some (record { sound = s; met = m })) (searched_in y r key)
    unfolding searched_in judged_in
    searched-sound h p q = rw h (ap₂ (λ (s : Sound) (m : Met). Some (record { sound = s; met = m })) p q)

    pub searched-unsound : sound_in y r ≡ false → None ≡ searched_in y r key
    unfolding searched_in judged_in
    searched-unsound h = rw h

    pub searched-judged : (o : Option Searched) → o ≡ searched_in y r key → option_map (λ (s : Searched). s.sound) o ≡ judged_in y r
    unfolding searched_in
    searched-judged o e = rw e (go (judged_in y r))
      where
        go : (j : Option Sound) → option_map (λ (s : Searched). s.sound) (option_map {U = Searched} (λ (s : Sound). record { sound = s; met = met_of (key_from key) (entries_in y r) }) j) ≡ j
        go None = refl
        go (Some s) = refl
