-- How long what is read of an entry where it stands can be.
-- Assumes nothing.
use Prim.Native.Nat.{ℕ, ◌+◌, ◌≤◌}
use native.Mathlib.Omega.{arith}
use native.Mathlib.Nat.{min-le_left}
use mathlib.Core.Bool.{Bool, true, false, cond}
use mathlib.Core.List.{List, []}
use lib.ListN.{length, drop, length-take}
use Rattle.model.specs.Layout.{header_length, vendor_at}
use Rattle.model.specs.Lists.{part}
use Rattle.model.specs.Entry.{header_fields_in}
use Rattle.model.specs.Walk as walk
use Rattle.region.specs.Stored.{entry_of}
use Rattle.region.specs.declared.walk.Stored.{Stored}

part-short : (i n : ℕ) (l : List ℕ) → length (part i n l) ≤ n
part-short i n l = rw (length-take n (drop i l)) (min-le_left n (length (drop i l)))

none_or : (t : Bool) (i n : ℕ) (l : List ℕ) → length (cond t [] (part i n l)) ≤ n
none_or true i n l = omega arith
none_or false i n l = part-short i n l

pub record Short (s : Stored) : Type 0 where
  pub name : length (entry_of s).name ≤ s.entry.name
  pub bytes : length (entry_of s).bytes ≤ s.entry.size
  pub vendor : length (entry_of s).header.vendor ≤ 16

pub short : (s : Stored) → Short s
unfolding walk.placed header_fields_in
short s =
    let h = header_length s.form in
    record { name = none_or _ h _ s.bytes.now; bytes = none_or _ (h + s.entry.name) _ s.bytes.now; vendor = part-short (vendor_at s.form) 16 s.bytes.now }
