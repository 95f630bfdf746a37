-- `region::sorted::scan_by_table` meets its contract. The loop's invariant: what the whole walk tells of each entry by itself is what the walk from here on tells; while all
-- are settled, every entry passed is at its place; no name is doubled in the whole walk just if none from here on is, neither among themselves nor with those passed.
-- Assumes nothing.
use Rattle.std.proofs.Common.{◌≡◌, ℕ, List, Bool, not, ◌&&◌, length, sym, ap, ◌∙◌, arith}
use Rattle.model.specs.declared.Layout.{Layout}
use Rattle.model.specs.Walk.{walk_end_def}
use Rattle.model.specs.Beside.{from_in}
use Rattle.model.proofs.Walking.{entries_from}
use Rattle.region.specs.Stored.{left}
use Rattle.region.proofs.Judging.{front-sound}
use Rattle.region.proofs.Passing.{Passing, start, ended, doubled}
use Rattle.region.proofs.Scanning.{singly, scanned, scan-begin, scan-next, scan-stop, scan-right, scan-wrong, scan-doubled}
use Rattle.region.proofs.Settled.{Settled, next}
use Rattle.region.proofs.Standing.{here}
use Rattle.region.proofs.Turns.{Ended}
use Rattle.region.proofs.sorted.scan_by_table.Goals as goal

abbrev Known : Layout → List ℕ → List ℕ → Bool → ℕ → Type 0
Known y r table settled a = (singly y r ≡ scanned (length r) a (from_in y r a)) × Passing y r (Settled y r table settled) a

pub loop-e-init : goal.loop-e-init
loop-e-init c =
    let a = c.args in
    let all = ap left c.into_iter-e-iterator.ensures.into_iter_gives ∙ c.entries-e-items.ensures in
    (tt, tt, sym (all ∙ entries_from a.y a.region.now), scan-begin a.y a.region.now, start a.y a.region.now _)

pub slice_bounds-entry_sound-count : goal.slice_bounds-entry_sound-count
slice_bounds-entry_sound-count c = let w = (here (c.loop-e.invariant.2 ∙ c.in-Some.ensures.steps) (λ _. Unit {0}) tt).turn in w.inside

pub slice_bounds-entry_sound-start : goal.slice_bounds-entry_sound-start
slice_bounds-entry_sound-start c = let w = (here (c.loop-e.invariant.2 ∙ c.in-Some.ensures.steps) (λ _. Unit {0}) tt).turn in omega arith

pub returns-then-not-entry_sound : goal.returns-then-not-entry_sound
returns-then-not-entry_sound c =
    let a = c.args in
    let h = here (c.loop-e.invariant.2 ∙ c.in-Some.ensures.steps) (Known a.y a.region.now a.table.now c.loop-e.settled) (c.loop-e.invariant.3, c.loop-e.invariant.4) in
    let own = sym (front-sound h.turn) ∙ sym c.entry_sound.ensures in
    sym (scan-wrong a.y a.region.now (h.known.0 ∙ scan-stop h.turn.walk _ _ (own ∙ c.if-not-entry_sound.true)))

pub returns-then-is_doubled : goal.returns-then-is_doubled
returns-then-is_doubled c =
    let a = c.args in
    let h = here (c.loop-e.invariant.2 ∙ c.in-Some.ensures.steps) (Known a.y a.region.now a.table.now c.loop-e.settled) (c.loop-e.invariant.3, c.loop-e.invariant.4) in
    sym (scan-doubled a.y a.region.now
    (doubled h.known.1 h.turn (not (c.loop-e.settled && c.owns_place-settled.result)) (sym c.is_doubled.ensures ∙ c.if-is_doubled.true)))

pub loop-e-preserved : goal.loop-e-preserved
loop-e-preserved c =
    let a = c.args in
    let h = here (c.loop-e.invariant.2 ∙ c.in-Some.ensures.steps) (Known a.y a.region.now a.table.now c.loop-e.settled) (c.loop-e.invariant.3, c.loop-e.invariant.4) in
    let own = sym (front-sound h.turn) ∙ sym c.entry_sound.ensures in (
      tt,
      tt,
      sym h.rest,
      h.known.0 ∙ scan-next h.turn.walk _ _ _ (own ∙ c.if-not-entry_sound.false) h.turn.next,
      next a.table.now c.loop-e.settled h.known.1 h.turn _ (ap (λ (b : Bool). c.loop-e.settled && b) c.owns_place-settled.ensures)
          (sym c.is_doubled.ensures ∙ c.if-is_doubled.false),
    )

pub returns : goal.returns
unfolding walk_end_def
returns c =
    let z : Ended c.args.y c.args.region.now c.loop-e.tail = record { walk = c.loop-e.invariant.2 ∙ c.in-None.ensures.steps.0 } in
    sym (scan-right c.args.y c.args.region.now _ (c.loop-e.invariant.3 ∙ ap (scanned _ _) z.walk) (ended c.loop-e.invariant.4 z))
