use Prim.Native.Nat.{◌≤◌}
use mathlib.Core.Path.{◌≡◌}
use lib.ListN.{length, drop}
use Rattle.model.specs.Profile.{items_at}
use Rattle.profile.proofs.Filled.{read_up_to, AllWithin}
use Rattle.profile.proofs.items.Given as goal

abbrev pub invariant-loop-i : goal.invariant-loop-i
invariant-loop-i l =
    (l.at ≤ length l.file) × (length l.list ≡ 8) × AllWithin (length l.file) l.list l.i × (items_at l.count (drop l.from l.file) ≡ read_up_to l.file l.count l.list l.i l.at)
