use Rattle.std.proofs.Common.{◌≡◌, ℕ, suc, ◌+◌, ◌-◌, ◌*◌, ◌<◌, ◌/◌, List, length, sym, ap, ◌∙◌, arith}
use Rattle.slices.specs.Agree.{u64_at}
use Rattle.region.specs.Marks.{plus, words_from, middle_words_def}
use Rattle.region.proofs.marks.middle_words.Goals as goal

none : (key : List ℕ) (left at sum : ℕ) → left ≡ 0 → words_from key left at sum ≡ sum
unfolding words_from
none key left at sum h = rw h

one : (key : List ℕ) (n i sum : ℕ) → i < n
    → words_from key (n - i) (22 + 7 * i) sum ≡ words_from key (n - (i + 1)) (22 + 7 * (i + 1)) (plus sum (u64_at key (22 + 7 * i)))
unfolding words_from
one key n i sum h =
    let left : n - i ≡ suc (n - (i + 1)) = omega arith in
    let next : 22 + 7 * i + 7 ≡ 22 + 7 * (i + 1) = omega arith in
    rw left (ap (λ k. words_from key (n - (i + 1)) k (plus sum (u64_at key (22 + 7 * i)))) next)

pub loop-i-init : goal.loop-i-init
unfolding middle_words_def
loop-i-init c =
    let key = c.args.key.now in
    let n = (length key - 38) / 7 in
    let all : n - 0 ≡ n = omega arith in
    rw all

pub loop-i-preserved : goal.loop-i-preserved
unfolding plus
loop-i-preserved c =
    let l = c.loop-i in
    let key = c.args.key.now in
    let n = (length key - 38) / 7 in
    l.invariant ∙ one key n l.i l.sum (omega arith)
    ∙ ap (λ (v : ℕ). words_from key (n - (l.i + 1)) (22 + 7 * (l.i + 1)) (plus l.sum v)) (sym c.standing_eight-sum.ensures)

pub returns : goal.returns
returns c = sym (c.loop-i.invariant ∙ none c.args.key.now _ _ c.loop-i.sum (omega arith))
