-- What the rules leave of a move: the first test that fails decides. Header and entries of valid values take just the space that is counted for them, and FF
-- bytes up to the region's end and those behind it are FF bytes up to the image's end.
-- Assumes nothing.
use Prim.Native.Nat.{ℕ, ◌+◌, ◌*◌, ◌-◌, ◌≤◌}
use native.Mathlib.Omega.{arith}
use mathlib.Core.Path.{◌≡◌, refl, sym, ap, ◌∙◌}
use mathlib.Core.Bool.{Bool, true, false, cond, false≢true}
use mathlib.Core.List.{List, ◌++◌, map, append_assoc}
use mathlib.Core.Option.{Option as Maybe, none, some}
use Rattle.std.specs.Prelude.{Some, None, Result, Ok, Err, is_err}
use lib.ListN.{length, replicate, length-append, replicate-append-replicate}
use lib.Dec.{ltb}
use Rattle.model.specs.declared.Layout.{Layout}
use Rattle.model.specs.declared.Rule.{Rule}
use Rattle.model.specs.declared.Rule.TheVariants.{Length, Room, Source, TimeBased}
use Rattle.model.specs.Lists.{part, on_some}
use Rattle.model.specs.Image.{block, blocks, right_length, region_size, region, region_header_in}
use Rattle.model.specs.Entry.{Value}
use Rattle.model.specs.Region.{entries_in, values, values_in}
use Rattle.model.specs.Rules.{first_broken, rule1, rule2_in, image_rules_in}
use Rattle.model.specs.Work.{ready_in}
use Rattle.model.specs.Answers.{done, refused, rule_number}
use Rattle.model.specs.Change.{space_in}
use Rattle.model.specs.Compact.{joined_in, encode_in}
use Rattle.model.specs.Move.{rule19, rule20, rule13_move, unstamped, moved_values, move_broken, moved, move_answer, image_moved}
use Rattle.model.proofs.Parts.{right-parts, parts-blocks}
use Rattle.model.proofs.Chunks.{header-length}
use Rattle.model.proofs.Encode.{AllValid, joined_length}
use Rattle.model.proofs.Moving.{moved-valid, source-length, target-length, source-ready, values-fit}
use Rattle.image.specs.Check.{blocks_of, call_in}
use Rattle.image.specs.declared.Ready.{Ready}
use Rattle.image.proofs.Readiness.{is-ready, refused-rule as image-rule}
use Rattle.convert.specs.Bare.{content_in, checked_of}

pub content-length : (z : Layout) (n : ℕ) (vs : List Value) → AllValid z vs → length (content_in z n vs) ≡ space_in z vs
unfolding content_in space_in
content-length z n vs h = simp (length-append, header-length z n, joined_length z vs h)

zero-wrong : (img : List ℕ) → blocks_of img ≡ None → right_length img ≡ false
unfolding blocks_of
zero-wrong img h = go (right_length img) refl h
  where
    go : (t : Bool) → right_length img ≡ t → cond t (Some (blocks img)) None ≡ None → right_length img ≡ false
    go true e f = let w : ◌≡◌ {A = ℕ} 0 1 = cc in absurd (omega arith)
    go false e f = e

-- of an image of a right length, a check that refuses it tells rule 2
told-broken : (y : Layout) (img : List ℕ) (rule : Rule) → right_length img ≡ true → call_in y img ≡ Err rule → ready_in y img ≡ false
unfolding first_broken image_rules_in rule1 rule2_in
told-broken y img rule r p = go (ready_in y img) refl
  where
    go : (t : Bool) → ready_in y img ≡ t → ready_in y img ≡ false
    go false e = e
    go true e =
        let some-rule : none ≡ some rule = rw (r, e) at (image-rule y img rule p) in
        let w : ◌≡◌ {A = ℕ} 0 1 = cc in
        absurd (omega arith)

pub told-unready : (y : Layout) (img : List ℕ) → right_length img ≡ true → is_err (call_in y img) ≡ true → ready_in y img ≡ false
told-unready y img r p = go (call_in y img) refl p
  where
    go : (o : Result Ready Rule) → call_in y img ≡ o → is_err o ≡ true → ready_in y img ≡ false
    go (Ok x) q e = absurd (false≢true e)
    go (Err rule) q e = told-broken y img rule r q

-- one that it does not refuse is ready
pub told-ready : (y : Layout) (img : List ℕ) → is_err (call_in y img) ≡ false → ready_in y img ≡ true
told-ready y img p = go (call_in y img) refl p
  where
    go : (o : Result Ready Rule) → call_in y img ≡ o → is_err o ≡ false → ready_in y img ≡ true
    go (Ok x) q e = (is-ready y q).ready
    go (Err rule) q e = absurd (false≢true (sym e))

module _ (y z : Layout) (img target : List ℕ) where
  pub source-wrong : blocks_of img ≡ None → checked_of y z img target ≡ Err Length
  unfolding checked_of move_broken first_broken rule1 rule19 rule2_in rule13_move
  source-wrong h = rw (zero-wrong img h)

  pub target-wrong : right_length img ≡ true → blocks_of target ≡ None → checked_of y z img target ≡ Err Length
  unfolding checked_of move_broken first_broken rule1 rule19 rule2_in rule13_move
  target-wrong r h = rw (r, zero-wrong target h)

  module _ (r : right_length img ≡ true) (t : right_length target ≡ true) where
    pub unready : ready_in y img ≡ false → checked_of y z img target ≡ Err Source
    unfolding checked_of move_broken first_broken rule1 rule19 rule2_in rule13_move
    unready h = rw (r, t, h)

    module _ (d : ready_in y img ≡ true) where
      pub too-stamped : rule20 z (values_in y img) ≡ true → checked_of y z img target ≡ Err TimeBased
      unfolding checked_of move_broken first_broken rule1 rule19 rule2_in rule13_move
      too-stamped h = rw (r, t, d, h)

      pub too_large : rule20 z (values_in y img) ≡ false → ltb (region_size target) (space_in z (moved_values y img)) ≡ true → checked_of y z img target
          ≡ Err Room
      unfolding checked_of move_broken first_broken rule1 rule19 rule2_in rule13_move
      too_large u h = rw (r, t, d, u, h)

      pub fitting : rule20 z (values_in y img) ≡ false → ltb (region_size target) (space_in z (moved_values y img)) ≡ false
          → checked_of y z img target ≡ Ok (blocks img, blocks target)
      unfolding checked_of move_broken first_broken rule1 rule19 rule2_in rule13_move
      fitting u h = rw (r, t, d, u, h)

-- header, values and FF up to the image's end are the region and FF behind it
pub whole-image : (z : Layout) (n : ℕ) (vs : List Value) (m : ℕ) → AllValid z vs → space_in z vs ≤ n → n ≤ m
    → content_in z n vs ++ replicate (m - length (content_in z n vs)) 0xFF ≡ encode_in z n vs ++ replicate (m - n) 0xFF
unfolding encode_in content_in
whole-image z n vs m h f g =
    let l = content-length z n vs h in
    let c = region_header_in z n ++ joined_in z vs in
    let k : m - length c ≡ (n - space_in z vs) + (m - n) = omega arith in
    ap (λ (i : ℕ). c ++ replicate i 0xFF) k
    ∙ ap (λ (x : List ℕ). c ++ x) (sym (replicate-append-replicate {A = ℕ} (n - space_in z vs) (m - n) 0xFF))
    ∙ sym (append_assoc c (replicate {A = ℕ} (n - space_in z vs) 0xFF) (replicate {A = ℕ} (m - n) 0xFF))

-- ---- of the part that is cut out

module _ (y z : Layout) (img : List ℕ) {r : List ℕ} (same : r ≡ region img) where
  pub cut-values : values (entries_in y r) ≡ values_in y img
  unfolding values_in
  cut-values = ap (λ (s : List ℕ). values (entries_in y s)) same

  pub cut_moved : map unstamped (values (entries_in y r)) ≡ moved_values y img
  unfolding moved_values
  cut_moved = ap (map unstamped) cut-values

  pub cut-space : (n : ℕ) → right_length img ≡ true → ready_in y img ≡ true → length (content_in z n (map unstamped (values (entries_in y r)))) ≡ space_in z
      (moved_values y img)
  cut-space n right ready = ap (λ (vs : List Value). length (content_in z n vs)) cut_moved ∙ content-length z n (moved_values y img)
      (moved-valid y z img right ready)

-- ---- a move that breaks no rule

module _ (y z : Layout) (img target : List ℕ) (b t : ℕ) where
  record Found : Type 0 where
    accepted : move_broken y z img target ≡ none
    source : blocks img ≡ b
    size : blocks target ≡ t

  found : checked_of y z img target ≡ Ok (b, t) → Found
  unfolding checked_of
  found p = go (move_broken y z img target) refl p
    where
      go : (o : Maybe Rule) → move_broken y z img target ≡ o → on_some {B = Result (ℕ × ℕ) Rule} o Err (Ok (blocks img, blocks target)) ≡ Ok (b, t) → Found
      go (some rule) q p = let w : ◌≡◌ {A = ℕ} 0 1 = cc in absurd (omega arith)
      go none q p =
          let same : ◌≡◌ {A = ℕ × ℕ} (blocks img, blocks target) (b, t) = cc in
          record { accepted = q; source = ap (λ (x : ℕ × ℕ). x.0) same; size = ap (λ (x : ℕ × ℕ). x.1) same }

  pub record Goes (r : List ℕ) : Type 0 where
    pub few : b ≤ 7
    pub few-target : t ≤ 7
    pub room : length (content_in z (4096 * t) (map unstamped (values (entries_in y r)))) ≤ length target
    pub answer : done 0 ≡ move_answer y z img target
    pub image : content_in z (4096 * t) (map unstamped (values (entries_in y r)))
        ++ replicate (length target - length (content_in z (4096 * t) (map unstamped (values (entries_in y r))))) 0xFF
        ≡ image_moved y z img target

  pub goes : checked_of y z img target ≡ Ok (b, t) → (r : List ℕ) → r ≡ part 0 (4096 * b) img → Goes r
  unfolding region region_size block move_answer image_moved moved
  goes p r cut =
      let f = found p in
      let right = source-length y z img target f.accepted in
      let ready = source-ready y z img target f.accepted in
      let space = values-fit y z img target f.accepted in
      let i = right-parts img right in
      let j = right-parts target (target-length y z img target f.accepted) in
      let bi : blocks img ≡ i.b = ap blocks i.whole ∙ parts-blocks i.parts in
      let bj : blocks target ≡ j.b = ap blocks j.whole ∙ parts-blocks j.parts in
      let long : length target ≡ 4096 * j.b + (4096 + 4096 * j.b) = ap length j.whole ∙ simp
      (length-append, j.parts.region-long, j.parts.work-long, j.parts.spare-long) in
      let same : r ≡ region img = cut ∙ ap (λ (k : ℕ). part 0 (4096 * k) img) (sym f.source) in
      let used = cut-space y z img same (4096 * t) right ready in
      let vs = moved_values y img in
      let its = ap (λ (l : List Value). content_in z (4096 * t) l ++ replicate (length target - length (content_in z (4096 * t) l)) 0xFF)
      (cut_moved y z img same) in
      record {
        few = omega (arith, i.parts.high, f.source);
        few-target = omega (arith, j.parts.high, f.size);
        room = omega (arith, used, space, f.size, long);
        answer = sym (rw f.accepted);
        image = its
            ∙ whole-image z (4096 * t) vs (length target) (moved-valid y z img right ready) (omega (arith, space, f.size)) (omega (arith, long, bj, f.size))
            ∙ rw f.accepted (ap (λ (k : ℕ). encode_in z (4096 * k) vs ++ replicate (length target - 4096 * k) 0xFF) (sym f.size));
      }

pub refused-rule : (y z : Layout) (img target : List ℕ) (rule : Rule) → checked_of y z img target ≡ Err rule
    → (move_answer y z img target ≡ refused (rule_number rule)) × (image_moved y z img target ≡ target)
unfolding checked_of move_answer image_moved
refused-rule y z img target rule p = go (move_broken y z img target) refl p
  where
    go : (o : Maybe Rule) → move_broken y z img target ≡ o → on_some {B = Result (ℕ × ℕ) Rule} o Err (Ok (blocks img, blocks target)) ≡ Err rule
        → (move_answer y z img target ≡ refused (rule_number rule)) × (image_moved y z img target ≡ target)
    go (some x) q p = let same : x ≡ rule = cc in rw q (ap (λ (u : Rule). refused (rule_number u)) same, refl)
    go none q p = let w : ◌≡◌ {A = ℕ} 0 1 = cc in absurd (omega arith)
