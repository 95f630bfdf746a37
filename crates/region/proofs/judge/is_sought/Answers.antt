-- `region::judge::is_sought` meets its contract: of a live entry that may be sought its GUID and name decide, which stand one behind the other. Assumes nothing.
use Rattle.std.proofs.Common.{ℕ, List, ◌++◌, sym, ap, ◌∙◌}
use Rattle.model.specs.Lists.{same}
use Rattle.model.specs.Entry.{header_fields_in}
use Rattle.layout.specs.Head.{name_in}
use Rattle.region.specs.Met.{key_from}
use Rattle.region.proofs.Meetings.{sought-named, sought-dead}
use Rattle.region.proofs.judge.is_sought.Goals as goal
use Rattle.region.proofs.judge.is_sought.Goals.{else-suspect-via-then-suspect+else-is_live, else-suspect-via-else-suspect}

pub returns-then-is_live : goal.returns-then-is_live
returns-then-is_live c =
    let a = c.args in
    rw c.if-suspect.true
    (c.equal.ensures
    ∙ ap (λ (x : List ℕ). same x a.key.now) c.key_of.ensures
    ∙ ap (λ (x : List ℕ). same ((header_fields_in a.y x).vendor ++ name_in a.y x a.e) a.key.now) c.from.ensures
    ∙ sought-named a.y a.region.now a.at a.e a.key.now c.requires (sym c.is_live.ensures ∙ c.if-is_live.true))

pub returns : goal.returns
returns c =
    let a = c.args in
    elim c.else-suspect.branch [
      | else-suspect-via-then-suspect+else-is_live w ↦
          rw w.if-suspect.true (sym (sought-dead a.y a.region.now a.at a.e (key_from a.key.now) (sym w.is_live.ensures ∙ w.if-is_live.false)))
      | else-suspect-via-else-suspect w ↦ rw w.if-suspect.false
    ]
