-- `engine::room::room_in` meets its contract: by the sums of the region's values.
-- Assumes nothing.
use native.Mathlib.Omega.{arith}
use mathlib.Core.Path.{◌≡◌, ap, ◌∙◌}
use lib.ListN.{length}
use Rattle.model.specs.Region.{entries, values}
use Rattle.model.specs.Query.{remaining_for, largest_for}
use Rattle.values.proofs.Counting.{told-sums}
use Rattle.engine.proofs.Rooms.{remaining-by}
use Rattle.engine.proofs.room.room_in.Goals as goal

pub remaining-remaining-requires : goal.remaining-remaining-requires
remaining-remaining-requires c = omega (arith, c.tally-sums.ensures.1, c.requires)

pub returns : goal.returns
returns c =
    let a = c.args in
    let s = told-sums a.t.vendor a.t.modem a.region.now c.tally-sums.ensures.0 in
    let m = c.remaining-remaining.ensures in
    let g = c.storage.ensures in
    let l = c.largest.ensures in
    let vs = values (entries a.region.now) in
    let left : c.remaining-remaining.result ≡ remaining_for a.t a.error (length a.region.now) vs =
    (rw (s.records, s.own, s.others) at m).0 ∙ remaining-by a.t a.error (length a.region.now) vs in
    let most = c.requires in
    (g.0, left, l.0 ∙ ap largest_for left, omega (arith, g.1, most), omega (arith, m.1, most), omega (arith, l.1, m.1, most))
