-- What was found in a clean region lies below its tail.
-- Assumes nothing.
use Prim.Native.Nat.{ℕ, ◌+◌, ◌≤◌}
use native.Mathlib.Omega.{arith}
use mathlib.Core.Path.{◌≡◌, refl, sym, ap, ◌∙◌, subst}
use mathlib.Core.Bool.{true}
use mathlib.Core.List.{List}
use mathlib.Core.Option.{Option as Maybe, none, some}
use Rattle.std.specs.Prelude.{Option}
use lib.ListN.{length, length-append}
use Rattle.model.specs.Layout.{authenticated}
use Rattle.model.specs.Lists.{first, all_ff}
use Rattle.model.specs.Name.{Key}
use Rattle.model.specs.Image.{right_length, region}
use Rattle.model.specs.Entry.{header_size_def}
use Rattle.model.specs.Walk.{Entry}
use Rattle.model.specs.Region.{entries, tail, sound, clean, is_entry_def, added, replacing, clean_in}
use Rattle.model.proofs.Tests.{and_split}
use Rattle.model.proofs.Parts.{Image, right-parts, parts-region}
use Rattle.model.proofs.Chunks.{Made, made-entries, made-length, region-chunked, spot}
use Rattle.model.proofs.Values.{found}
use Rattle.values.specs.Found.{found_of}
use Rattle.region.specs.declared.Placed.{Placed}
use Rattle.planner.specs.Entries.{Below}

module _ {r t : List ℕ} {cs : List (List ℕ)} (m : Made authenticated r cs t) (state : ℕ) (k : Key) where
  entry-below : (e : Entry) → first (is_entry_def state k) (entries r) ≡ some e → e.at + header_size_def ≤ length r
  entry-below e h =
      let g = found (is_entry_def state k) (entries r) e h in
      let place = sym (made-entries authenticated m) ∙ g.place in
      let q = spot authenticated m g.before g.behind e place in
      omega (arith, simp length-append at (ap length q.bytes), simp length-append at q.place, q.here.long, made-length authenticated m)

  found_below : (end : ℕ) → length r ≤ end → (o : Maybe Entry) → first (is_entry_def state k) (entries r) ≡ o → Below end (found_of o)
  found_below end l (some e) p = let h = entry-below e p in omega arith
  found_below end l none p = tt

module _ (img : List ℕ) (right : right_length img ≡ true) (cleaned : clean (region img) ≡ true) where
  abbrev whole : Image img
  whole = right-parts img right

  its-region : region img ≡ whole.r
  its-region = ap region whole.whole ∙ parts-region whole.parts

  -- what was found of a name lies below an offset that the region does
  pub places-below : (x y : Option Placed) (k : Key) → x ≡ found_of (added k (entries (region img))) → y ≡ found_of (replacing k (entries (region img)))
      → (end : ℕ) → length (region img) ≤ end → Below end x × Below end y
  unfolding added replacing clean_in
  places-below x y k p q end l =
      let r = region img in
      let sounds = (and_split (sound r) (all_ff (tail r)) cleaned).0 in
      let m = (region-chunked authenticated whole.b (ap length its-region ∙ whole.parts.region-long) sounds).made in (
        subst (λ (f : Option Placed). Below end f) (sym p) (found_below m 0x3F k end l (first (is_entry_def 0x3F k) (entries r)) refl),
        subst (λ (f : Option Placed). Below end f) (sym q) (found_below m 0x3E k end l (first (is_entry_def 0x3E k) (entries r)) refl),
      )
