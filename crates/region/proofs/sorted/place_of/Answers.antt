use Rattle.std.proofs.Common.{◌≡◌, ℕ, suc, ◌+◌, ◌-◌, ◌/◌, ◌<◌, Bool, cond, List, length, get_or, sym, refl, ap, ◌∙◌, arith, le-leb}
use Rattle.model.specs.declared.Layout.{Layout}
use Rattle.region.specs.Sorted.{is_before_def, halving, place_of_def}
use Rattle.region.proofs.sorted.place_of.Goals as goal
use Rattle.region.proofs.sorted.place_of.Goals.{then-is_before, else-is_before}

abbrev before : Layout → List ℕ → List ℕ → ℕ → List ℕ → ℕ → Bool
before y r table state key i = is_before_def y r (get_or table i 65535) state key

module _ (f : ℕ → Bool) where
  no_more : (left step low : ℕ) → left ≡ 0 → halving f left step low ≡ low
  unfolding halving
  no_more left step low h = rw h

  one_more : (n i step low : ℕ) → i < n → halving f (n - i) step low ≡ halving f (n - (i + 1)) (step / 2) (cond (f (low + step)) (low + step + 1) low)
  unfolding halving
  one_more n i step low h = let left : n - i ≡ suc (n - (i + 1)) = omega arith in rw left

pub loop-init : goal.loop-init
loop-init c = (omega arith, omega arith, refl)

pub loop-preserved : goal.loop-preserved
loop-preserved c =
    let a = c.args in
    let l = c.loop in
    let f = before a.y a.region.now a.table.now a.state a.key.now in
    let asked = c.is_before.ensures ∙ ap (λ (o : ℕ). is_before_def a.y a.region.now o a.state a.key.now) c.offset_at.ensures in
    let on = l.invariant.2 ∙ one_more f 10 l.counter l.step l.low (omega arith) in
    elim c.if-is_before.branch [
      | then-is_before w ↦ (omega arith, omega arith, on ∙ ap (halving f (10 - (l.counter + 1)) (l.step / 2)) (rw (sym asked ∙ w.if-is_before.true) (omega (arith, w.low-is))))
      | else-is_before w ↦ (omega arith, omega arith, on ∙ ap (halving f (10 - (l.counter + 1)) (l.step / 2)) (rw (sym asked ∙ w.if-is_before.false) (sym w.low-is)))
    ]

pub returns : goal.returns
unfolding place_of_def
returns c =
    let a = c.args in
    let l = c.loop in
    let f = before a.y a.region.now a.table.now a.state a.key.now in
    rw (le-leb 16 (length a.key.now) c.if-key-lt16.false, le-leb (length a.key.now) 65536 c.if-key-gt65536.false)
    (sym (l.invariant.2 ∙ no_more f (10 - l.counter) l.step l.low (omega arith)))
