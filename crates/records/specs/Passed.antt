-- The records of a work block passed one at a time: what a look has told after each.
use Rattle.std.specs.Prelude.{ℕ, ◌+◌, true, not, cond, ◌&&◌, List, [], ◌∷◌, eqb}
use Rattle.model.specs.Lists.{among}
use Rattle.model.specs.Work.{record_states, used}
use Rattle.records.specs.declared.Look.{Look}

-- before the first record
abbrev pub unread : Look
unread = record { formed = true; used = 0; last = 0xFF }

-- after a used record with i records before it: all of them must be used, and none FC
abbrev pub with_used : Look → ℕ → ℕ → Look
with_used l i r = record {
  formed = l.formed && eqb l.used i && not (eqb l.last 0xFC) && among record_states r;
  used = l.used + 1;
  last = r;
}

-- after one more record with i before it
unfoldable pub onward : Look → ℕ → ℕ → Look
onward l i r = cond (used r) (with_used l i r) l

-- after all of some records with i before them
unfoldable pub through : Look → ℕ → List ℕ → Look
through l i [] = l
through l i (r ∷ rs) = through (onward l i r) (i + 1) rs
