-- The region that is composed where no value changes: with no place none is left out, and the values of a sound region fit.
-- Assumes nothing.
use Prim.Native.Nat.{ℕ, ◌+◌, ◌*◌, ◌-◌, ◌≤◌}
use native.Mathlib.Omega.{arith}
use mathlib.Core.Path.{◌≡◌, ap, ◌∙◌}
use mathlib.Core.Bool.{true}
use mathlib.Core.List.{List, [], ◌++◌}
use lib.ListN.{length, replicate}
use Rattle.model.specs.Layout.{authenticated}
use Rattle.model.specs.Lists.{part}
use Rattle.model.specs.Image.{block, region_header_def, region}
use Rattle.model.specs.Entry.{Value}
use Rattle.model.specs.Region.{entries, values, values_of, sound, values_in}
use Rattle.model.specs.Change.{space_of}
use Rattle.model.specs.Compact.{joined, encode}
use Rattle.model.proofs.Chunks.{Chunked, region-chunked}
use Rattle.model.proofs.Encode.{AllValid, sound-valid, sound-fits}
use Rattle.output.specs.Text.{Wrote}
use Rattle.output.proofs.Writing.{wrote_as, wrote-length}
use Rattle.compose.specs.Compose.{values_but}
use Rattle.compose.proofs.Leaving.{leaving-none}
use Rattle.planner.proofs.Composed.{front_fits, composed}
use Rattle.planner.proofs.Stages.{its-region, region-long}

module _ (img : List ℕ) (b : ℕ) (low : 1 ≤ b) (high : b ≤ 7) (long : length img ≡ block * (2 * b + 1)) (sounds : sound (region img) ≡ true) where
  chunked : Chunked authenticated (region img)
  chunked = region-chunked authenticated b (region-long img b low high long) sounds

  valid : AllValid authenticated (values_of img)
  unfolding values_in
  valid = sound-valid authenticated (region img) chunked

  room : space_of (values_of img) ≤ block * b
  unfolding values_in
  room = let m = region-long img b low high long in omega (arith, sound-fits authenticated (region img) chunked)

  module _ {s l l₁ : List ℕ} {n : ℕ} (e : s ≡ part 0 (block * b) img)
      (w : Wrote (region_header_def (length s) ++ joined (values_but [] s)) 0 l l₁ n) (full : length l ≡ 28672) where
    front : Wrote (region_header_def (block * b) ++ joined (values_of img)) 0 l l₁ n
    unfolding values_in
    front =
        wrote_as
        (ap (λ (x : List ℕ). region_header_def (length x) ++ joined (values_but [] x)) (e ∙ its-region img b low high long)
        ∙ ap (λ (k : ℕ). region_header_def k ++ joined (values_but [] (region img))) (region-long img b low high long)
        ∙ ap (λ (vs : List Value). region_header_def (block * b) ++ joined vs) (leaving-none (region img))) w

    -- what the compaction asks
    pub tidy-asked : (n ≤ 4096 * b) × (b ≤ 7) × (length l₁ ≡ 28672)
    unfolding block
    tidy-asked = (front_fits (values_of img) valid room front, high, wrote-length w ∙ full)

    -- what is composed
    pub tidy-composed : {c : List ℕ} → Wrote (replicate (4096 * b - n) 0xFF) n l₁ c (4096 * b)
        → (length c ≡ 28672) × (part 0 (block * b) c ≡ encode (block * b) (values (entries (region img))))
    unfolding block values_in
    tidy-composed x = (wrote-length x ∙ wrote-length w ∙ full, composed (values_of img) valid room front x (omega arith))
