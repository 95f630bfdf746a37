-- `region::sorted::is_before` meets its contract: it asks what the definition asks, of the rest of the region from the offset on. Assumes nothing.
use Rattle.std.proofs.Common.{◌≡◌, ℕ, ◌+◌, ◌-◌, ◌<◌, ◌≤◌, false, ltb, ◌≢◌, List, length, get_or, take, drop, sym, ap, ◌∙◌, ap₂, arith, eq-eqb, ne_eqb, le-leb}
use borrow.Author.Tests.{lt-leb}
use Rattle.model.specs.declared.Layout.{Layout}
use Rattle.model.specs.Lists.{u32_at}
use Rattle.model.specs.Layout.{state_at, name_size_at, vendor_at}
use Rattle.region.specs.Sorted.{key_before_def, front_before, is_before_def}
use Rattle.region.proofs.Turns.{rest}
use Rattle.region.proofs.sorted.is_before.Goals as goal

module _ (y : Layout) (r : List ℕ) (at state : ℕ) (key : List ℕ) where
  no_room : length r < at + (vendor_at y + length key) → is_before_def y r at state key ≡ false
  unfolding is_before_def
  no_room h = rw (lt-leb (at + (vendor_at y + length key)) (length r) h)

  module _ (h : at + (vendor_at y + length key) ≤ length r) where
    room : is_before_def y r at state key ≡ front_before y (drop at r) state key
    unfolding is_before_def
    room = rw (le-leb (at + (vendor_at y + length key)) (length r) h)

    by_size : u32_at (drop at r) (name_size_at y) ≢ length key - 16
        → is_before_def y r at state key ≡ ltb (length key - 16) (u32_at (drop at r) (name_size_at y))
    unfolding front_before
    by_size d = room ∙ rw (ne_eqb (u32_at (drop at r) (name_size_at y)) (length key - 16) d)

    module _ (s : u32_at (drop at r) (name_size_at y) ≡ length key - 16) where
      by_state : get_or (drop at r) state_at 0 ≢ state → is_before_def y r at state key ≡ ltb (get_or (drop at r) state_at 0) state
      unfolding front_before
      by_state d = room ∙ rw (eq-eqb (u32_at (drop at r) (name_size_at y)) (length key - 16) s, ne_eqb (get_or (drop at r) state_at 0) state d)

      by_bytes : get_or (drop at r) state_at 0 ≡ state → is_before_def y r at state key ≡ key_before_def (drop (vendor_at y) (drop at r)) key
      unfolding front_before
      by_bytes e = room ∙ rw (eq-eqb (u32_at (drop at r) (name_size_at y)) (length key - 16) s, eq-eqb (get_or (drop at r) state_at 0) state e)

pub returns-then-region-from : goal.returns-then-region-from
returns-then-region-from c =
    let a = c.args in
    sym (no_room a.y a.region.now a.at a.state a.key.now (omega (arith, c.vendor.ensures.0)))

pub returns-then-size-n : goal.returns-then-size-n
returns-then-size-n c =
    let a = c.args in
    let r = a.region.now in
    let from = c.from-from.result in
    let lent : take (length r - from) (drop from r) ≡ drop a.at r = rest r from ∙ ap (λ (k : ℕ). drop k r) c.from-from.ensures in
    let size = c.word-size.ensures.0 ∙ ap₂ u32_at lent c.name_size.ensures.0 in
    ap (ltb (length a.key.now - 16)) size
    ∙ sym (by_size a.y r a.at a.state a.key.now (omega (arith, c.vendor.ensures.0)) (λ q. c.if-size-n.true (size ∙ q)))

pub returns-then-own-state : goal.returns-then-own-state
returns-then-own-state c =
    let a = c.args in
    let r = a.region.now in
    let from = c.from-from.result in
    let lent : take (length r - from) (drop from r) ≡ drop a.at r = rest r from ∙ ap (λ (k : ℕ). drop k r) c.from-from.ensures in
    let size = c.word-size.ensures.0 ∙ ap₂ u32_at lent c.name_size.ensures.0 in
    let own = ap (λ (l : List ℕ). get_or l 2 0) lent in
    ap (λ (s : ℕ). ltb s a.state) own
    ∙ sym (by_state a.y r a.at a.state a.key.now (omega (arith, c.vendor.ensures.0)) (sym size ∙ c.if-size-n.false) (λ q. c.if-own-state.true (own ∙ q)))

pub returns : goal.returns
returns c =
    let a = c.args in
    let r = a.region.now in
    let from = c.from-from.result in
    let lent : take (length r - from) (drop from r) ≡ drop a.at r = rest r from ∙ ap (λ (k : ℕ). drop k r) c.from-from.ensures in
    let size = c.word-size.ensures.0 ∙ ap₂ u32_at lent c.name_size.ensures.0 in
    let own = ap (λ (l : List ℕ). get_or l 2 0) lent in
    c.key_before.ensures
    ∙ ap (λ (l : List ℕ). key_before_def l a.key.now) (rest (take (length r - from) (drop from r)) c.vendor-v.result ∙ ap₂ drop c.vendor-v.ensures.0 lent)
    ∙ sym (by_bytes a.y r a.at a.state a.key.now (omega (arith, c.vendor.ensures.0)) (sym size ∙ c.if-size-n.false) (sym own ∙ c.if-own-state.false))
