use Rattle.std.proofs.Common.{◌≡◌, ℕ, suc, ◌+◌, ◌-◌, ◌*◌, ◌/◌, ◌<◌, ltb, ◌≢◌, List, length, sym, ap, ◌∙◌, ap₂, arith, eq-eqb, ne_eqb}
use Rattle.slices.specs.Agree.{u64_at}
use Rattle.region.specs.Sorted.{words_before, key_before_def}
use Rattle.region.proofs.sorted.key_before.Goals as goal

module _ (a b : List ℕ) where
  last_word : (left i : ℕ) → left ≡ 0 → words_before a b left i ≡ ltb (u64_at a (length b - 8)) (u64_at b (length b - 8))
  unfolding words_before
  last_word left i h = rw h

  module _ (n i : ℕ) (h : i < n) where
    left_one : n - i ≡ suc (n - (i + 1))
    left_one = omega arith

    same_word : u64_at a (8 * i) ≡ u64_at b (8 * i) → words_before a b (n - i) (8 * i) ≡ words_before a b (n - (i + 1)) (8 * (i + 1))
    unfolding words_before
    same_word e =
        let next : 8 * i + 8 ≡ 8 * (i + 1) = omega arith in
        rw (left_one, eq-eqb (u64_at a (8 * i)) (u64_at b (8 * i)) e) (ap (words_before a b (n - (i + 1))) next)

    other_word : u64_at a (8 * i) ≢ u64_at b (8 * i) → words_before a b (n - i) (8 * i) ≡ ltb (u64_at a (8 * i)) (u64_at b (8 * i))
    unfolding words_before
    other_word e = rw (left_one, ne_eqb (u64_at a (8 * i)) (u64_at b (8 * i)) e)

pub loop-i-init : goal.loop-i-init
unfolding key_before_def
loop-i-init c =
    let n = length c.args.b.now / 8 in
    let all : n - 0 ≡ n = omega arith in
    rw all

pub returns-then-x-y : goal.returns-then-x-y
returns-then-x-y c =
    let a = c.args in
    ap₂ ltb c.standing_eight-x.ensures c.standing_eight-y.ensures
    ∙ sym (c.loop-i.invariant ∙ other_word a.a.now a.b.now _ c.loop-i.i (omega arith)
    (λ e. c.if-x-y.true (c.standing_eight-x.ensures ∙ e ∙ sym c.standing_eight-y.ensures)))

pub loop-i-preserved : goal.loop-i-preserved
loop-i-preserved c =
    let a = c.args in
    c.loop-i.invariant ∙ same_word a.a.now a.b.now _ c.loop-i.i (omega arith) (sym c.standing_eight-x.ensures ∙ c.if-x-y.false ∙ c.standing_eight-y.ensures)

pub returns : goal.returns
returns c =
    let a = c.args in
    ap₂ ltb c.standing_eight.ensures c.standing_eight-2.ensures ∙ sym (c.loop-i.invariant ∙ last_word a.a.now a.b.now _ _ (omega arith))
