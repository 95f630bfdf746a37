-- What rules 1 and 2 tell of an image: of a refused one which of them is broken first, and of one that is ready that its region is sound and is the part that is
-- cut, with the tail within it, since the entries of a sound region end within it.
-- Assumes nothing.
use Prim.Native.Nat.{ℕ, ◌*◌, ◌%◌, ◌≤◌}
use native.Mathlib.Omega.{arith}
use mathlib.Core.Path.{◌≡◌, refl, sym, ap, ◌∙◌}
use mathlib.Core.Bool.{true, ◌&&◌}
use mathlib.Core.List.{List}
use mathlib.Core.Option.{Option as Maybe, none, some}
use Rattle.std.specs.Prelude.{Result, Ok, Err}
use lib.ListN.{length}
use borrow.Author.Tests.{not-false}
use Rattle.model.specs.declared.Layout.{Layout}
use Rattle.model.specs.Lists.{part, on_some, all_ff}
use Rattle.model.specs.Image.{block, blocks, right_length, region_size, region, spare, work}
use Rattle.model.specs.Region.{entries_in, tail_at_in, tail_in, sound_in, clean_in}
use Rattle.model.specs.Work.{idle, ready_in}
use Rattle.model.specs.Rules.{first_broken, rule1, rule2_in, image_rules_in}
use Rattle.model.specs.declared.Rule.{Rule}
use Rattle.model.proofs.Tests.{and_split}
use Rattle.model.proofs.Parts.{right-parts, parts-region, parts-size}
use Rattle.model.proofs.Chunks.{sound-chunked, made-length, made-tail_at}
use Rattle.model.proofs.Requests.{unbroken}
use Rattle.region.specs.Met.{key_from, met_of}
use Rattle.image.specs.Check.{ready_of, call_in, checked_in, IsReadyIn}
use Rattle.image.specs.declared.Ready.{Ready}
use Rattle.image.specs.declared.Checked.{Checked}

-- a refused image
pub refused-rule : (y : Layout) (img : List ℕ) (rule : Rule) → call_in y img ≡ Err rule → first_broken (image_rules_in y img) ≡ some rule
unfolding call_in
refused-rule y img rule p = go (first_broken (image_rules_in y img)) p
  where
    go : (o : Maybe Rule) → on_some {B = Result Ready Rule} o Err (Ok (ready_of y img)) ≡ Err rule → o ≡ some rule
    go (some x) p = let same : x ≡ rule = cc in ap some same
    go none p = let z : ◌≡◌ {A = ℕ} 0 1 = cc in absurd (omega arith)

ready-sound : (y : Layout) (img : List ℕ) → ready_in y img ≡ true → sound_in y (region img) ≡ true
unfolding ready_in clean_in
ready-sound y img h =
    (and_split (sound_in y (region img)) (all_ff (tail_in y (region img)))
    (and_split (clean_in y (region img)) (all_ff (spare img)) (and_split (clean_in y (region img) && all_ff (spare img)) (idle (work img)) h).0).0).0

-- the length of the region of an image of a right length
region-long : (img : List ℕ) → right_length img ≡ true → (blocks img ≤ 7) × (length (region img) ≡ 4096 * blocks img)
unfolding block region_size
region-long img h =
    let i = right-parts img h in
    let p = i.parts in
    let r : region img ≡ i.r = ap region i.whole ∙ parts-region p in
    let n : 4096 * blocks img ≡ 4096 * i.b = ap region_size i.whole ∙ parts-size p in
    let l = ap length r in
    (omega (arith, p.high), omega (arith, p.region-long))

sound-tail : (y : Layout) (r : List ℕ) → length r % 4 ≡ 0 → sound_in y r ≡ true → tail_at_in y r ≤ length r
sound-tail y r m s =
    let c = sound-chunked y r m s in
    let t = made-tail_at y c.made in
    let l = made-length y c.made in
    omega arith

pub is-ready : (y : Layout) {img : List ℕ} {ready : Ready} → call_in y img ≡ Ok ready → IsReadyIn y img ready.blocks ready.tail ready.used
unfolding call_in image_rules_in rule1 rule2_in region region_size block
is-ready y {img} {ready} p = go (first_broken (image_rules_in y img)) refl p
  where
    go : (o : Maybe Rule) → first_broken (image_rules_in y img) ≡ o → on_some {B = Result Ready Rule} o Err (Ok (ready_of y img)) ≡ Ok ready → IsReadyIn y img ready.blocks ready.tail ready.used
    go (some x) q p = let z : ◌≡◌ {A = ℕ} 0 1 = cc in absurd (omega arith)
    go none q p =
        let same : ready_of y img ≡ ready = cc in
        let n = ap (λ (x : Ready). x.blocks) same in
        let e = ap (λ (x : Ready). x.tail) same in
        let k = ap (λ (x : Ready). x.used) same in
        let right : right_length img ≡ true = not-false (right_length img) (unbroken (image_rules_in y img) 1 q) in
        let whole : ready_in y img ≡ true = not-false (ready_in y img) (unbroken (image_rules_in y img) 2 q) in
        let l = region-long img right in
        let w = sound-tail y (region img) (omega (arith, l.1)) (ready-sound y img whole) in
        record {
          unbroken = q;
          right = right;
          ready = whole;
          sounds = ready-sound y img whole;
          number = n;
          few = omega (arith, l.0);
          cut = ap (λ (k : ℕ). part 0 (4096 * k) img) (sym n);
          long = omega (arith, l.1);
          tail-at = e;
          tail_within = omega arith;
          used = k;
        }

-- with a sought name
module _ (y : Layout) (img key : List ℕ) where
  pub checked-ready : call_in y img ≡ Ok (ready_of y img) → checked_in y img key ≡ Ok (record { ready = ready_of y img; met = met_of (key_from key) (entries_in y (region img)) })
  unfolding checked_in
  checked-ready p = rw (is-ready y p).unbroken

  pub checked_refused : {rule : Rule} → call_in y img ≡ Err rule → checked_in y img key ≡ Err rule
  unfolding checked_in
  checked_refused {rule} p = rw (refused-rule y img rule p)

  pub checked_call : {c : Checked} → checked_in y img key ≡ Ok c → (call_in y img ≡ Ok c.ready) × (c.met ≡ met_of (key_from key) (entries_in y (region img)))
  unfolding checked_in call_in
  checked_call {c} p = go (first_broken (image_rules_in y img)) p
    where
      go : (o : Maybe Rule) → on_some {B = Result Checked Rule} o Err (Ok (record { ready = ready_of y img; met = met_of (key_from key) (entries_in y (region img)) })) ≡ Ok c
          → (on_some {B = Result Ready Rule} o Err (Ok (ready_of y img)) ≡ Ok c.ready) × (c.met ≡ met_of (key_from key) (entries_in y (region img)))
      go (some x) q = let z : ◌≡◌ {A = ℕ} 0 1 = cc in absurd (omega arith)
      go none q =
          let same : ◌≡◌ {A = Checked} (record { ready = ready_of y img; met = met_of (key_from key) (entries_in y (region img)) }) c = cc in
          (ap (λ (x : Checked). Ok x.ready) same, sym (ap (λ (x : Checked). x.met) same))

  pub checked-broken : {rule : Rule} → checked_in y img key ≡ Err rule → call_in y img ≡ Err rule
  unfolding checked_in call_in
  checked-broken {rule} p = go (first_broken (image_rules_in y img)) p
    where
      go : (o : Maybe Rule) → on_some {B = Result Checked Rule} o Err (Ok (record { ready = ready_of y img; met = met_of (key_from key) (entries_in y (region img)) })) ≡ Err rule
          → on_some {B = Result Ready Rule} o Err (Ok (ready_of y img)) ≡ Err rule
      go (some x) q = let same : x ≡ rule = cc in ap Err same
      go none q = let z : ◌≡◌ {A = ℕ} 0 1 = cc in absurd (omega arith)
