use Rattle.std.proofs.Common.{length, sym, ap, ◌∙◌, arith}
use Rattle.model.specs.Layout.{authenticated}
use Rattle.model.proofs.Walking.{entries_from}
use Rattle.region.specs.Stored.{left}
use Rattle.region.proofs.Standing.{turned}
use Rattle.region.proofs.Marked.{here-mark}
use Rattle.query.proofs.Several.{none-long, ahead-begin, ahead-next, ahead-end, sought-leads, noted-nowhere}
use Rattle.query.proofs.many.find.Goals as goal

pub loop-e-init : goal.loop-e-init
loop-e-init c =
    let a = c.args in
    let p = c.requires in
    let all = ap left c.into_iter-e-iterator.ensures.into_iter_gives ∙ c.entries-e-items.ensures ∙ entries_from authenticated a.region.now in
    (tt, tt, ap length p.2 ∙ none-long, record { from = 28; rest = all; known = ahead-begin a.keys.now a.sizes.now a.region.now p.2 p.1 })

pub returns : goal.returns
returns c = let i = c.loop-e.invariant.3 in ahead-end i.known (record { walk = sym i.rest ∙ c.in-None.ensures.steps.0 })

pub slice_bounds-mark_of-count : goal.slice_bounds-mark_of-count
slice_bounds-mark_of-count c = (turned c.loop-e.invariant.3 c.in-Some.ensures.steps).turn.inside

pub slice_bounds-mark_of-start : goal.slice_bounds-mark_of-start
slice_bounds-mark_of-start c = let w = (turned c.loop-e.invariant.3 c.in-Some.ensures.steps).turn in omega arith

pub note_entry-requires : goal.note_entry-requires
note_entry-requires c =
    let a = c.args in
    let w = (turned c.loop-e.invariant.3 c.in-Some.ensures.steps).turn in
    let e = c.in-Some.e in
    let m = c.mark_of-mark in (
      omega (arith, w.fits, c.requires.0),
      c.requires.1,
      c.loop-e.invariant.2,
      w.fits,
      sought-leads a.keys.now a.sizes.now _ a.region.now e.at e.entry m.result (m.ensures.0 ∙ here-mark authenticated a.region.now e.at e.entry) c.index.ensures,
    )

pub loop-e-preserved-then-told-ne0 : goal.loop-e-preserved-then-told-ne0
loop-e-preserved-then-told-ne0 c =
    let h = turned c.loop-e.invariant.3 c.in-Some.ensures.steps in
    let n = c.note_entry in
    (tt, tt, n.auto.found ∙ c.loop-e.invariant.2, record { from = c.in-Some.e.next; rest = h.rest; known = ahead-next h.known h.turn n.ensures })

pub loop-e-preserved : goal.loop-e-preserved
loop-e-preserved c =
    let a = c.args in
    let h = turned c.loop-e.invariant.3 c.in-Some.ensures.steps in
    let e = c.in-Some.e in
    let m = c.mark_of-mark in
    let led = sought-leads a.keys.now a.sizes.now _ a.region.now e.at e.entry m.result (m.ensures.0 ∙ here-mark authenticated a.region.now e.at e.entry) c.index.ensures in (
      tt,
      tt,
      c.loop-e.invariant.2,
      record {
        from = e.next;
        rest = h.rest;
        known = ahead-next h.known h.turn (noted-nowhere a.keys.now a.sizes.now a.region.now e.at e.entry _ led c.if-told-ne0.false c.loop-e.found);
      },
    )
