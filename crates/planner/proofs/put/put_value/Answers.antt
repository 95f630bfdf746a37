-- `planner::put::put_value` meets its contract: the rounded entry fits the tail, or the change is folded into a compaction. Assumes nothing.
use Prim.Native.Nat.{ℕ, ◌+◌, ◌*◌, ◌≤◌, ◌<◌}
use native.Mathlib.Omega.{arith}
use mathlib.Core.Path.{subst, ◌∙◌}
use lib.ListN.{length-append}
use Rattle.planner.proofs.Ready.{value-short}
use Rattle.planner.proofs.Tail.{size_is, fits, fits_not}
use Rattle.planner.proofs.put.put_value.Goals as goal

pub overflow_add-old : goal.overflow_add-old
overflow_add-old c =
    let h = value-short _ c.requires.0.ready c.requires.0.room in
    omega (arith, length-append c.args.old.now c.args.own.now)

pub entry_size-size-requires : goal.entry_size-size-requires
entry_size-size-requires c =
    let h = value-short _ c.requires.0.ready c.requires.0.room in
    omega (arith, length-append c.args.old.now c.args.own.now)

pub overflow_add-standing : goal.overflow_add-standing
overflow_add-standing c =
    let r = c.requires.0.ready in
    let h = value-short _ r c.requires.0.room in
    omega (arith, length-append c.args.old.now c.args.own.now, r.tail_within, r.long, r.few)

pub in_tail-requires : goal.in_tail-requires
in_tail-requires c =
    let e = c.entry_size-size.ensures ∙ size_is c.args.name.now c.args.old.now c.args.own.now in
    (c.requires.0, fits c.requires.0 (subst (λ (k : ℕ). c.args.standing.ready.tail + k ≤ 4096 * c.args.standing.ready.blocks) e c.if-standing-size.true), c.requires.1)

pub fold-requires : goal.fold-requires
fold-requires c =
    let e = c.entry_size-size.ensures ∙ size_is c.args.name.now c.args.old.now c.args.own.now in
    (c.requires.0, fits_not c.requires.0 (subst (λ (k : ℕ). 4096 * c.args.standing.ready.blocks < c.args.standing.ready.tail + k) e c.if-standing-size.false), c.requires.1)
