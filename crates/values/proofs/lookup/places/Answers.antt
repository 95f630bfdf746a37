use native.Mathlib.Omega.{arith}
use mathlib.Core.Path.{refl, sym, ◌∙◌}
use Rattle.model.specs.Region.{entries_in, is_entry_def, added, replacing}
use Rattle.model.specs.Name.{keyed}
use Rattle.model.specs.Beside.{from_in}
use Rattle.region.proofs.Turns.{at_entry, at-end}
use Rattle.values.proofs.Finds.{found-later, found-hit, found-miss, else-none, one_state}
use Rattle.values.proofs.lookup.places.Goals as goal

pub loop-entry-init : goal.loop-entry-init
unfolding added replacing entries_in from_in
loop-entry-init c = (refl, refl)

pub returns-in_default : goal.returns-in_default
returns-in_default c =
    let likely = found-later c.loop-entry.added c.loop-entry.invariant.0 (c.like_from-here.ensures.0 0x3F c.args.vendor.now) in
    let old = found-later c.loop-entry.replacing c.loop-entry.invariant.1 (c.like_from-here.ensures.0 0x3E c.args.vendor.now) in
    let z = at-end c.turn.ensures c.in_default.is in
    (sym (likely ∙ else-none z _ _), sym (old ∙ else-none z _ _))

pub loop-entry-smaller-then-is_entry : goal.loop-entry-smaller-then-is_entry
loop-entry-smaller-then-is_entry c =
    omega (arith, (at_entry c.turn.ensures c.in-Some.is).less, c.like_from-here.ensures.1)

pub loop-entry-preserved-then-is_entry : goal.loop-entry-preserved-then-is_entry
loop-entry-preserved-then-is_entry c =
    let likely = found-later c.loop-entry.added c.loop-entry.invariant.0 (c.like_from-here.ensures.0 0x3F c.args.vendor.now) in
    let old = found-later c.loop-entry.replacing c.loop-entry.invariant.1 (c.like_from-here.ensures.0 0x3E c.args.vendor.now) in
    let w = at_entry c.turn.ensures c.in-Some.is in
    let hit = sym c.is_entry.ensures ∙ c.if-is_entry.true in (
      likely ∙ found-hit w (is_entry_def 0x3F (keyed c.args.name.now c.args.vendor.now)) c.loop-entry.added c.or-added.ensures hit,
      old ∙ found-miss w (is_entry_def 0x3E (keyed c.args.name.now c.args.vendor.now)) c.loop-entry.replacing (one_state w 0x3F 0x3E (keyed c.args.name.now c.args.vendor.now) (λ q. omega arith) hit),
    )

pub loop-entry-smaller-then-is_entry-2 : goal.loop-entry-smaller-then-is_entry-2
loop-entry-smaller-then-is_entry-2 c =
    omega (arith, (at_entry c.turn.ensures c.in-Some.is).less, c.like_from-here.ensures.1)

pub loop-entry-preserved-then-is_entry-2 : goal.loop-entry-preserved-then-is_entry-2
loop-entry-preserved-then-is_entry-2 c =
    let likely = found-later c.loop-entry.added c.loop-entry.invariant.0 (c.like_from-here.ensures.0 0x3F c.args.vendor.now) in
    let old = found-later c.loop-entry.replacing c.loop-entry.invariant.1 (c.like_from-here.ensures.0 0x3E c.args.vendor.now) in
    let w = at_entry c.turn.ensures c.in-Some.is in (
      likely ∙ found-miss w (is_entry_def 0x3F (keyed c.args.name.now c.args.vendor.now)) c.loop-entry.added
          (sym c.is_entry.ensures ∙ c.if-is_entry.false),
      old ∙ found-hit w (is_entry_def 0x3E (keyed c.args.name.now c.args.vendor.now)) c.loop-entry.replacing c.or-replacing.ensures
          (sym c.is_entry-else-is_entry.ensures ∙ c.if-is_entry-2.true),
    )

pub loop-entry-smaller : goal.loop-entry-smaller
loop-entry-smaller c =
    omega (arith, (at_entry c.turn.ensures c.in-Some.is).less, c.like_from-here.ensures.1)

pub loop-entry-preserved : goal.loop-entry-preserved
loop-entry-preserved c =
    let likely = found-later c.loop-entry.added c.loop-entry.invariant.0 (c.like_from-here.ensures.0 0x3F c.args.vendor.now) in
    let old = found-later c.loop-entry.replacing c.loop-entry.invariant.1 (c.like_from-here.ensures.0 0x3E c.args.vendor.now) in
    let w = at_entry c.turn.ensures c.in-Some.is in (
      likely ∙ found-miss w (is_entry_def 0x3F (keyed c.args.name.now c.args.vendor.now)) c.loop-entry.added (sym c.is_entry.ensures ∙ c.if-is_entry.false),
      old ∙ found-miss w (is_entry_def 0x3E (keyed c.args.name.now c.args.vendor.now)) c.loop-entry.replacing (sym c.is_entry-else-is_entry.ensures ∙ c.if-is_entry-2.false),
    )
