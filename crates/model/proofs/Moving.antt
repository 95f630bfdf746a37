-- A move that is accepted: the values of the source, their stamps zero, are valid and of distinct names in the target's form and fit there, so the target is
-- clean and holds just them. Out and home the list is the same but for stamps.
-- Assumes nothing.
use Prim.Native.Nat.{ℕ, ◌+◌, ◌*◌, ◌-◌, ◌≤◌}
use native.Mathlib.Omega.{arith}
use mathlib.Core.Path.{◌≡◌, refl, sym, ap, ◌∙◌}
use mathlib.Core.Bool.{Bool, true, ◌&&◌}
use mathlib.Core.List.{List, [], ◌∷◌, ◌++◌, map}
use mathlib.Core.Option.{none}
use lib.ListN.{length, replicate, length-append, length-replicate, replicate-append-replicate}
use borrow.Author.Tests.{ltb-false, not-false}
use Rattle.model.specs.declared.Layout.{Layout}
use Rattle.model.specs.declared.Rule.{Rule}
use Rattle.model.specs.declared.Rule.TheVariants.{Length, Room, Source, TimeBased}
use Rattle.model.specs.Lists.{any, all_ff}
use Rattle.model.specs.Name.{same_key_def}
use Rattle.model.specs.Image.{block, right_length, region_size, region, work, spare}
use Rattle.model.specs.Entry.{Value, key_of}
use Rattle.model.specs.Region.{clean_in, sound_in, tail_in, entries_in, values, values_in}
use Rattle.model.specs.Work.{idle, ready_in}
use Rattle.model.specs.Change.{space_in}
use Rattle.model.specs.Rules.{rule1, rule2_in}
use Rattle.model.specs.Compact.{encode_in}
use Rattle.model.specs.Move.{unstamped, moved_values, rule19, rule20, rule13_move, move_broken, moved}
use Rattle.model.specs.Stores.{blank}
use Rattle.model.proofs.Tests.{and_split, true-and}
use Rattle.model.proofs.Parts.{Parts, right-parts, parts-size, parts-right, parts-region, parts-work, parts-spare}
use Rattle.model.proofs.Chunks.{Chunked, region-chunked}
use Rattle.model.proofs.Encode.{AllValid, Distinct, sound-valid, sound-distinct, encode-length, encode-clean, encode-values, blank-all_ff}
use Rattle.model.proofs.WorkBlock.{blank-idle}
use Rattle.model.proofs.Requests.{none-append, unbroken}

-- stamps apart, valid in one form is valid in another
unstamp-valid : (y z : Layout) (vs : List Value) → AllValid y vs → AllValid z (map unstamped vs)
unstamp-valid y z [] h = tt
unstamp-valid y z (v ∷ vs) h = (
  record {
    named = h.0.named;
    vendor = h.0.vendor;
    stamp = refl;
    attributes = h.0.attributes;
    recorded = h.0.recorded;
    stampless = λ e. refl;
    some-data = h.0.some-data;
    few-data = h.0.few-data;
  },
  unstamp-valid y z vs h.1,
)

unstamp-any : (v : Value) (vs : List Value) → any (λ w. same_key_def (key_of w) (key_of v)) (map unstamped vs) ≡ any (λ w. same_key_def (key_of w) (key_of v)) vs
unstamp-any v [] = refl
unstamp-any v (w ∷ vs) = rw (unstamp-any v vs)

unstamp-distinct : (vs : List Value) → Distinct vs → Distinct (map unstamped vs)
unstamp-distinct [] h = tt
unstamp-distinct (v ∷ vs) h = (unstamp-any v vs ∙ h.0, unstamp-distinct vs h.1)

pub unstamp-twice : (vs : List Value) → map unstamped (map unstamped vs) ≡ map unstamped vs
unstamp-twice [] = refl
unstamp-twice (v ∷ vs) = ap (λ (l : List Value). unstamped v ∷ l) (unstamp-twice vs)

-- ---- a move that breaks no rule

module _ (y z : Layout) (img target : List ℕ) (accepted : move_broken y z img target ≡ none) where
  -- the rules as they are tried, from the target's length on
  abbrev tried : List (Rule × Bool)
  tried =
      (Length, rule1 target)
      ∷ (Source, rule19 y img)
      ∷ (TimeBased, rule20 z (values_in y img))
      ∷ (Room, rule13_move z (region_size target) (moved_values y img))
      ∷ []

  pub source-length : right_length img ≡ true
  unfolding move_broken rule1
  source-length = not-false (right_length img) (unbroken ((Length, rule1 img) ∷ tried) 1 accepted)

  pub target-length : right_length target ≡ true
  unfolding move_broken rule1
  target-length = not-false (right_length target) (unbroken tried 1 (none-append ((Length, rule1 img) ∷ []) tried accepted).1)

  pub source-ready : ready_in y img ≡ true
  unfolding move_broken rule19 rule2_in
  source-ready = not-false (ready_in y img) (unbroken ((Length, rule1 img) ∷ tried) 19 accepted)

  pub values-fit : space_in z (moved_values y img) ≤ region_size target
  unfolding move_broken rule13_move
  values-fit = ltb-false (region_size target) (space_in z (moved_values y img)) (unbroken ((Length, rule1 img) ∷ tried) 13 accepted)

-- ---- the values of a source of a right length that is ready in its form, their stamps zero

module _ (y z : Layout) (img : List ℕ) (right : right_length img ≡ true) (ready : ready_in y img ≡ true) where
  source : Chunked y (region img)
  unfolding ready_in clean_in
  source =
      let i = right-parts img right in
      let long = ap length (ap region i.whole ∙ parts-region i.parts) ∙ i.parts.region-long in
      let cleaned = (and_split (clean_in y (region img)) (all_ff (spare img)) (and_split (clean_in y (region img) && all_ff (spare img))
      (idle (work img)) ready).0).0 in
      region-chunked y i.b long (and_split (sound_in y (region img)) (all_ff (tail_in y (region img))) cleaned).0

  pub moved-valid : AllValid z (moved_values y img)
  unfolding moved_values values_in
  moved-valid = unstamp-valid y z (values (entries_in y (region img))) (sound-valid y (region img) source)

  pub moved-distinct : Distinct (moved_values y img)
  unfolding moved_values values_in
  moved-distinct = unstamp-distinct (values (entries_in y (region img))) (sound-distinct y (region img) source)

-- ---- what a done move leaves

module _ (y z : Layout) (img target : List ℕ) (accepted : move_broken y z img target ≡ none) where
  abbrev vs : List Value
  vs = moved_values y img

  valid : AllValid z vs
  valid = moved-valid y z img (source-length y z img target accepted) (source-ready y z img target accepted)

  distinct : Distinct vs
  distinct = moved-distinct y z img (source-length y z img target accepted) (source-ready y z img target accepted)

  fits : space_in z vs ≤ region_size target
  fits = values-fit y z img target accepted

  -- region, work block and spare of it
  pub record Left : Type 0 where
    pub b : ℕ
    pub parts : Parts b (encode_in z (region_size target) vs) blank (replicate (block * b) 0xFF)
    pub whole : moved y z img target ≡ encode_in z (region_size target) vs ++ (blank ++ replicate (block * b) 0xFF)

  pub left : Left
  unfolding moved blank
  left =
      let i = right-parts target (target-length y z img target accepted) in
      let p = i.parts in
      let size : region_size target ≡ block * i.b = ap region_size i.whole ∙ parts-size p in
      let long : length target ≡ block * i.b + (block + block * i.b) = ap length i.whole ∙ simp
      (length-append, p.region-long, p.work-long, p.spare-long) in
      let rest : length target - region_size target ≡ block + block * i.b = omega arith in
      record {
        b = i.b;
        parts = record {
          low = p.low;
          high = p.high;
          region-long = encode-length z (region_size target) vs valid fits ∙ size;
          work-long = length-replicate block 0xFF;
          spare-long = length-replicate (block * i.b) 0xFF;
        };
        whole = ap (λ (l : List ℕ). encode_in z (region_size target) vs ++ l)
            (ap (λ (k : ℕ). replicate k 0xFF) rest ∙ sym (replicate-append-replicate block (block * i.b) 0xFF));
      }

  -- it is of a right length and ready in its form
  pub moved_length : right_length (moved y z img target) ≡ true
  moved_length = ap right_length left.whole ∙ parts-right left.parts

  moved-region : region (moved y z img target) ≡ encode_in z (region_size target) vs
  moved-region = ap region left.whole ∙ parts-region left.parts

  pub moved_ready : ready_in z (moved y z img target) ≡ true
  unfolding ready_in
  moved_ready =
      true-and
      (true-and
      (ap (clean_in z) moved-region ∙ encode-clean z (region_size target) vs valid distinct fits)
      (ap all_ff (ap spare left.whole ∙ parts-spare left.parts) ∙ blank-all_ff (block * left.b)))
      (ap idle (ap work left.whole ∙ parts-work left.parts) ∙ blank-idle)

  -- it holds the values of the source in their order, with zero stamps
  pub moved_holds : values_in z (moved y z img target) ≡ vs
  unfolding values_in
  moved_holds = ap (λ (r : List ℕ). values (entries_in z r)) moved-region ∙ encode-values z (region_size target) vs valid distinct fits

-- out and home: the same list, stamps apart
pub out-and-home : (y z : Layout) (img target home : List ℕ) → move_broken y z img target ≡ none → move_broken z y (moved y z img target) home ≡ none
    → values_in y (moved z y (moved y z img target) home) ≡ moved_values y img
unfolding moved_values
out-and-home y z img target home out back =
    moved_holds z y (moved y z img target) home back
    ∙ ap (map unstamped) (moved_holds y z img target out)
    ∙ unstamp-twice (values_in y img)
