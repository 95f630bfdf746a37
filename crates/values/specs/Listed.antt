-- The entries that hold values.
use Rattle.std.specs.Prelude.{List}
use Rattle.model.specs.Lists.{keep}
use Rattle.model.specs.Walk as walk
use Rattle.model.specs.Region.{entries_in, is_value}
use Rattle.region.specs.Stored.{left}
use Rattle.values.specs.declared.list.Listed.{Listed}

-- of a region's entries those that hold its values
abbrev pub value_entries : List walk.Entry → List walk.Entry
value_entries es = keep (is_value es) es

-- those that a pass over the values has left
abbrev pub values_left : Listed → List walk.Entry
values_left v = keep (is_value (entries_in v.form v.region.now)) (left v.walk)
