-- The line of an entry's value, by what is read of the entry; and at each turn of a loop that writes a line for each value, what is written and what is still to come.
-- Assumes nothing.
use Prim.Native.Nat.{ℕ, ◌+◌, ◌*◌, ◌≤◌}
use mathlib.Core.Path.{◌≡◌, ap}
use mathlib.Core.List.{List, ◌++◌}
use lib.ListN.{length}
use Rattle.model.specs.declared.Layout.{Layout}
use Rattle.model.specs.Region.{entries_in, values}
use Rattle.model.specs.Walk as walk
use Rattle.region.specs.Stored.{entry_of}
use Rattle.region.specs.declared.walk.Stored.{Stored}
use Rattle.values.proofs.Listed.{value_entries, listed_in}
use Rattle.values.proofs.Next.{Next}
use Rattle.output.proofs.Writing.{Partly}
use Rattle.report.specs.Varlist.{entry_line, value_line, value_lines}

pub entry-line : (e : Stored) {name vendor bytes : List ℕ}
    → name ≡ (entry_of e).name → vendor ≡ (entry_of e).header.vendor → bytes ≡ (entry_of e).bytes
    → entry_line vendor name e.entry.attributes (length bytes) ≡ value_line (walk.entry_value_def (entry_of e))
unfolding value_line
entry-line e n v b = rw (v, n, b)

-- at a value, what is to come is its line and the lines after it
pub next-lines : {y : Layout} {r : List ℕ} {here : ℕ} {x : walk.Entry} {es : List walk.Entry} → Next y r here x es
    → value_lines (listed_in y r here) ≡ value_line (walk.entry_value_def x) ++ value_lines (listed_in y r x.next)
unfolding value_lines
next-lines n = ap value_lines n.list

-- the lines of the values before an offset are written, in no more than two bytes for each byte passed; those from there on are left
pub record Written (y : Layout) (r : List ℕ) (left : List walk.Entry) (at : ℕ) (before after : List ℕ) (next : ℕ) : Type 0 where
  pub here : ℕ
  pub rest : left ≡ value_entries y r here
  pub within : next ≤ at + 2 * here
  pub lines : Partly (value_lines (values (entries_in y r))) (value_lines (listed_in y r here)) at before after next
