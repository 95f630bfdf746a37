-- `decision::effect::roomed` meets its contract: what fits after the tail breaks no rule of room. Assumes nothing.
use Prim.Native.Nat.{◌+◌}
use native.Mathlib.Omega.{arith}
use mathlib.Core.Path.{sym, ap, ◌∙◌}
use mathlib.Core.Bool.{Bool}
use lib.ListN.{length}
use Rattle.model.specs.Name.{keyed}
use Rattle.model.specs.Entry.{header_size_def, rounded}
use Rattle.model.specs.Rules.{first_broken}
use Rattle.model.specs.Sides.{owns}
use Rattle.decision.specs.Parts.{room_after_def, roomed_by}
use Rattle.decision.proofs.AfterTail.{room-after-tail, roomed-none}
use borrow.Author.Rules.{rules}
use Rattle.std.specs.Prelude.{Ok}
use Rattle.decision.proofs.effect.roomed.Goals as goal

pub fits_after_tail-requires : goal.fits_after_tail-requires
fits_after_tail-requires c = let p = c.requires in (search rules, omega (arith, p.short_region.0, p.right_tail.1))

pub returns-then-fits_after_tail : goal.returns-then-fits_after_tail
returns-then-fits_after_tail c =
    let a = c.args in
    let p = c.requires in
    let own = owns a.t.vendor a.t.modem (keyed a.name.now a.vendor.now) in
    let size = rounded (header_size_def + length a.name.now + a.size) in
    let f = c.fits_after_tail.ensures c.if-fits_after_tail.true in
    let room = room-after-tail a.t a.region.now a.old own size (omega (arith, f.1, p.right_tail.0)) (omega (arith, f.2, p.right_tail.0)) in
    sym (ap (λ (b : Bool). roomed_by (Ok a.what) (first_broken (room_after_def a.t a.region.now a.old own b size))) f.0
    ∙ ap (roomed_by (Ok a.what)) room
    ∙ roomed-none (Ok a.what))

pub returns : goal.returns
returns c = c.roomed_by_sums.ensures
