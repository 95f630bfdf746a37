-- `decision::effect::room` meets its contract: each test is one of the sums. Assumes nothing.
use mathlib.Core.Path.{sym, ap, ◌∙◌}
use borrow.Author.Tests.{lt-ltb, le-ltb}
use Rattle.decision.specs.Parts.{judged_of, room_by}
use Rattle.decision.proofs.Broken.{broken-here, kept_here, none_here}
use Rattle.decision.proofs.effect.room.Goals as goal

pub returns-then-t-s : goal.returns-then-t-s
unfolding room_by
returns-then-t-s c = ap judged_of (sym (broken-here _ _ _ (rw c.if-error.true (lt-ltb _ _ c.if-t-s.true))))

pub returns-then-size-all : goal.returns-then-size-all
unfolding room_by
returns-then-size-all c =
    ap judged_of
    (sym
    (kept_here _ _ _ (rw c.if-error.true (le-ltb _ _ c.if-t-s.false))
    ∙ broken-here _ _ _ (rw c.if-error.true (lt-ltb _ _ c.if-size-all.true))))

pub returns-then-error : goal.returns-then-error
unfolding room_by
returns-then-error c =
    ap judged_of
    (sym
    (kept_here _ _ _ (rw c.if-error.true (le-ltb _ _ c.if-t-s.false))
    ∙ kept_here _ _ _ (rw c.if-error.true (le-ltb _ _ c.if-size-all.false))
    ∙ none_here))

pub returns-then-t-s-2 : goal.returns-then-t-s-2
unfolding room_by
returns-then-t-s-2 c =
    ap judged_of
    (sym
    (kept_here _ _ _ (rw c.if-error.false)
    ∙ broken-here _ _ _ (rw (c.if-error.false, lt-ltb _ _ c.if-t-s-2.true))))

pub returns-then-size-all-2 : goal.returns-then-size-all-2
unfolding room_by
returns-then-size-all-2 c =
    ap judged_of
    (sym
    (kept_here _ _ _ (rw c.if-error.false)
    ∙ broken-here _ _ _ (rw (c.if-error.false, le-ltb _ _ c.if-t-s-2.false, lt-ltb _ _ c.if-size-all-2.true))))

pub returns : goal.returns
unfolding room_by
returns c =
    ap judged_of
    (sym
    (kept_here _ _ _ (rw c.if-error.false)
    ∙ kept_here _ _ _ (rw (c.if-error.false, le-ltb _ _ c.if-t-s-2.false, le-ltb _ _ c.if-size-all-2.false))
    ∙ none_here))
