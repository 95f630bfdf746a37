use Rattle.std.proofs.Common.{ℕ, ◌+◌, true, sym, ap, ◌∙◌, arith}
use Rattle.model.specs.Walk.{walk_end_def}
use Rattle.model.proofs.Tests.{and_split}
use Rattle.region.specs.Walk.{entry_as}
use Rattle.region.specs.Met.{key_from, is_sought_def}
use Rattle.region.proofs.Judging.{front-sound}
use Rattle.region.proofs.Passing.{ended, doubled}
use Rattle.region.proofs.Meetings.{meets-end, met-doubled, surveys-right, surveys-wrong}
use Rattle.region.proofs.Marked.{here-mark, begin, next, next-first, next-sought}
use Rattle.region.proofs.Scanning.{scanned, scan-begin, scan-next, scan-stop, scan-right, scan-wrong, scan-doubled}
use Rattle.region.proofs.Turns.{at_entry, at-end}
use Rattle.region.proofs.Usuals.{turned-usual, sound-usual, room-usual, mark-usual}
use Rattle.region.proofs.judge.scan_by_marks.Goals as goal

pub loop-u-init : goal.loop-u-init
loop-u-init c =
    let a = c.args in
    let m = c.mark_of_key-own in
    (scan-begin a.y a.region.now, rw c.no_marks-noted.ensures (begin a.y a.region.now a.key.now m.result m.ensures.0 m.ensures.1))

pub loop-u-2-init : goal.loop-u-2-init
loop-u-2-init c = (c.loop-u.invariant.0, c.loop-u.invariant.1, omega arith)

pub overflow_add-v : goal.overflow_add-v
overflow_add-v c =
    let a = c.args in
    let m = room-usual a.region.now c.loop-u-2.at c.in-Some.ensures in
    omega (arith, m.0, c.vendor.ensures.0, c.well_formed.1.0)

pub overflow_add-v-in-Some : goal.overflow_add-v-in-Some
overflow_add-v-in-Some c =
    let a = c.args in
    let m = room-usual a.region.now c.loop-u-2.at c.in-Some.ensures in
    omega (arith, m.0, c.vendor.ensures.0, c.well_formed.1.0)

pub overflow_add-u : goal.overflow_add-u
overflow_add-u c =
    let a = c.args in
    let m = room-usual a.region.now c.loop-u-2.at c.in-Some.ensures in
    omega (arith, m.0, c.vendor.ensures.0, c.well_formed.1.0)

pub slice_bounds-mark_of_key-start : goal.slice_bounds-mark_of_key-start
slice_bounds-mark_of_key-start c =
    let a = c.args in
    let m = room-usual a.region.now c.loop-u-2.at c.in-Some.ensures in
    omega (arith, m.0, c.vendor.ensures.0, c.well_formed.1.0)

pub slice_bounds-mark_of_key-end : goal.slice_bounds-mark_of_key-end
slice_bounds-mark_of_key-end c =
    let a = c.args in
    let m = room-usual a.region.now c.loop-u-2.at c.in-Some.ensures in
    omega (arith, m.0, c.vendor.ensures.0, c.well_formed.1.0)

pub rounded-at-requires : goal.rounded-at-requires
rounded-at-requires c =
    let a = c.args in
    let m = room-usual a.region.now c.loop-u-2.at c.in-Some.ensures in
    omega (arith, m.1, c.well_formed.1.0)

pub overflow_add-at : goal.overflow_add-at
overflow_add-at c =
    let a = c.args in
    let m = room-usual a.region.now c.loop-u-2.at c.in-Some.ensures in
    omega (arith, m.1, c.rounded-at.ensures, c.well_formed.1.0)

pub loop-u-2-smaller-then-old-eq0 : goal.loop-u-2-smaller-then-old-eq0
loop-u-2-smaller-then-old-eq0 c =
    let a = c.args in
    let w = turned-usual a.region.now c.loop-u-2.at c.in-Some.ensures in
    rw c.rounded-at.ensures w.less

pub loop-u-2-preserved-then-old-eq0 : goal.loop-u-2-preserved-then-old-eq0
loop-u-2-preserved-then-old-eq0 c =
    let a = c.args in
    let w = turned-usual a.region.now c.loop-u-2.at c.in-Some.ensures in
    let e = c.mark_of_key-m.ensures in
    let q = e.0 ∙ mark-usual a.region.now c.loop-u-2.at c.in-Some.ensures _ (ap (λ (v : ℕ). c.loop-u-2.at + v) c.vendor.ensures.0) in
    let own = sound-usual a.region.now c.loop-u-2.at c.in-Some.ensures in
    let less = w.less in
    let here = c.loop-u-2.invariant.2 in
    rw c.rounded-at.ensures (c.loop-u-2.invariant.0 ∙ scan-next w.walk _ _ _ own w.next, next-first c.loop-u-2.invariant.1 w _ q e.1 c.if-old-eq0.true, omega arith)

pub rounded-at-requires-in-Some : goal.rounded-at-requires-in-Some
rounded-at-requires-in-Some c =
    let a = c.args in
    let m = room-usual a.region.now c.loop-u-2.at c.in-Some.ensures in
    omega (arith, m.1, c.well_formed.1.0)

pub overflow_add-at-in-Some : goal.overflow_add-at-in-Some
overflow_add-at-in-Some c =
    let a = c.args in
    let m = room-usual a.region.now c.loop-u-2.at c.in-Some.ensures in
    omega (arith, m.1, c.rounded-at-in-Some.ensures, c.well_formed.1.0)

pub loop-u-2-smaller : goal.loop-u-2-smaller
loop-u-2-smaller c =
    let a = c.args in
    let w = turned-usual a.region.now c.loop-u-2.at c.in-Some.ensures in
    rw c.rounded-at-in-Some.ensures w.less

pub loop-u-2-preserved : goal.loop-u-2-preserved
loop-u-2-preserved c =
    let a = c.args in
    let w = turned-usual a.region.now c.loop-u-2.at c.in-Some.ensures in
    let e = c.mark_of_key-m.ensures in
    let q = e.0 ∙ mark-usual a.region.now c.loop-u-2.at c.in-Some.ensures _ (ap (λ (v : ℕ). c.loop-u-2.at + v) c.vendor.ensures.0) in
    let own = sound-usual a.region.now c.loop-u-2.at c.in-Some.ensures in
    let less = w.less in
    let here = c.loop-u-2.invariant.2 in
    let new = sym c.is_noted.ensures ∙ c.if-is_noted.false in
    rw (c.rounded-at-in-Some.ensures, c.note.ensures) (c.loop-u-2.invariant.0 ∙ scan-next w.walk _ _ _ own w.next, next c.loop-u-2.invariant.1 w _ q e.1 (rw new) (rw new), omega arith)

pub returns-in_default-turn : goal.returns-in_default-turn
unfolding walk_end_def
returns-in_default-turn c =
    let a = c.args in
    let z = at-end c.turn.ensures c.in_default-turn.is in
    let i = c.loop-u-2.invariant in
    surveys-right a.y a.region.now a.key.now (sym (scan-right a.y a.region.now _ (i.0 ∙ ap (scanned _ _) z.walk) (ended i.1.passing z))) (meets-end i.1.passing i.1.meets z)

pub slice_bounds-entry_sound-count : goal.slice_bounds-entry_sound-count
slice_bounds-entry_sound-count c = (at_entry c.turn.ensures c.in-Some-turn.is).inside

pub slice_bounds-entry_sound-start : goal.slice_bounds-entry_sound-start
slice_bounds-entry_sound-start c = let w = at_entry c.turn.ensures c.in-Some-turn.is in omega arith

pub slice_bounds-entry_sound-end : goal.slice_bounds-entry_sound-end
slice_bounds-entry_sound-end c = let w = at_entry c.turn.ensures c.in-Some-turn.is in omega arith

pub returns-then-not-entry_sound : goal.returns-then-not-entry_sound
returns-then-not-entry_sound c =
    let a = c.args in
    let w = at_entry c.turn.ensures c.in-Some-turn.is in
    let own = sym (front-sound w) ∙ sym c.entry_sound.ensures in
    surveys-wrong a.y a.region.now a.key.now (sym (scan-wrong a.y a.region.now (c.loop-u-2.invariant.0 ∙ scan-stop w.walk _ _ (own ∙ c.if-not-entry_sound.true))))

pub slice_bounds-mark_of-count : goal.slice_bounds-mark_of-count
slice_bounds-mark_of-count c = (at_entry c.turn.ensures c.in-Some-turn.is).inside

pub slice_bounds-mark_of-start : goal.slice_bounds-mark_of-start
slice_bounds-mark_of-start c = let w = at_entry c.turn.ensures c.in-Some-turn.is in omega arith

pub slice_bounds-mark_of-end : goal.slice_bounds-mark_of-end
slice_bounds-mark_of-end c = let w = at_entry c.turn.ensures c.in-Some-turn.is in omega arith

pub is_sought-requires : goal.is_sought-requires
is_sought-requires c = (at_entry c.turn.ensures c.in-Some-turn.is).fits

pub returns-then-is_met : goal.returns-then-is_met
returns-then-is_met c =
    let a = c.args in
    let w = at_entry c.turn.ensures c.in-Some-turn.is in
    let x = entry_as a.y a.region.now c.loop-u-2.at c.in-Some-turn.e in
    let sought = and_split c.is_noted-suspect.result (is_sought_def (key_from a.key.now) x) (sym c.is_sought.ensures ∙ c.if-is_sought.true) in
    let twice = met-doubled c.loop-u-2.invariant.1.meets c.in-Some-turn.e sought.1 ∙ sym c.is_met.ensures ∙ c.if-is_met.true in
    surveys-wrong a.y a.region.now a.key.now (sym (scan-doubled a.y a.region.now (doubled c.loop-u-2.invariant.1.passing w true twice)))

pub loop-u-smaller-then-is_sought : goal.loop-u-smaller-then-is_sought
loop-u-smaller-then-is_sought c =
    let less = (at_entry c.turn.ensures c.in-Some-turn.is).less in
    let here = c.loop-u-2.invariant.2 in
    omega arith

pub loop-u-preserved-then-is_sought : goal.loop-u-preserved-then-is_sought
loop-u-preserved-then-is_sought c =
    let a = c.args in
    let w = at_entry c.turn.ensures c.in-Some-turn.is in
    let own = sym (front-sound w) ∙ sym c.entry_sound.ensures in
    let q = c.mark_of-m.ensures.0 ∙ here-mark a.y a.region.now c.loop-u-2.at c.in-Some-turn.e in
    let x = entry_as a.y a.region.now c.loop-u-2.at c.in-Some-turn.e in
    let noted = c.is_noted-suspect in
    let sought = and_split noted.result (is_sought_def (key_from a.key.now) x) (sym c.is_sought.ensures ∙ c.if-is_sought.true) in (
      c.loop-u-2.invariant.0 ∙ scan-next w.walk _ _ _ (own ∙ c.if-not-entry_sound.false) w.next,
      rw c.met_at-met.ensures (next-sought c.loop-u-2.invariant.1 w _ q (sym noted.ensures ∙ sought.0) sought.1 (sym c.is_met.ensures ∙ c.if-is_met.false)),
    )

pub returns-then-is_doubled : goal.returns-then-is_doubled
returns-then-is_doubled c =
    let a = c.args in
    let w = at_entry c.turn.ensures c.in-Some-turn.is in
    surveys-wrong a.y a.region.now a.key.now (sym (scan-doubled a.y a.region.now (doubled c.loop-u-2.invariant.1.passing w c.is_noted-suspect.result (sym c.is_doubled.ensures ∙ c.if-is_doubled.true))))

pub loop-u-smaller : goal.loop-u-smaller
loop-u-smaller c =
    let less = (at_entry c.turn.ensures c.in-Some-turn.is).less in
    let here = c.loop-u-2.invariant.2 in
    omega arith

pub loop-u-preserved : goal.loop-u-preserved
loop-u-preserved c =
    let a = c.args in
    let w = at_entry c.turn.ensures c.in-Some-turn.is in
    let own = sym (front-sound w) ∙ sym c.entry_sound.ensures in
    let e = c.mark_of-m.ensures in
    let q = e.0 ∙ here-mark a.y a.region.now c.loop-u-2.at c.in-Some-turn.e in
    let noted = c.is_noted-suspect in (
      c.loop-u-2.invariant.0 ∙ scan-next w.walk _ _ _ (own ∙ c.if-not-entry_sound.false) w.next,
      rw c.note-in-loop-u.ensures (next c.loop-u-2.invariant.1 w _ q e.1 (rw (← noted.ensures) (sym c.is_doubled.ensures ∙ c.if-is_doubled.false)) (rw (← noted.ensures) (sym c.is_sought.ensures ∙ c.if-is_sought.false))),
    )
