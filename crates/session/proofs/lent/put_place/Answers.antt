-- `session::lent::put_place` meets its contract: what its three stores write is the bytes of the place, one part after the other. Assumes nothing.
use Prim.Native.Nat.{ℕ, ◌-◌}
use mathlib.Core.Path.{◌≡◌}
use mathlib.Core.List.{List}
use lib.ListN.{length, replicate, length-replicate}
use Rattle.model.specs.Session.{place_bytes}
use Rattle.output.proofs.Writing.{wrote-append}
use borrow.Author.Rules.{rules}
use Rattle.session.proofs.lent.put_place.Goals as goal

pub put_bytes-requires : goal.put_bytes-requires
put_bytes-requires c =
    let n : ℕ = 128 - length c.args.name.now in
    let zeros : List ℕ = replicate n 0 in
    let z : length zeros ≡ n = length-replicate {A = ℕ} n 0 in
    search (rules, z, c.put_fill-next.ensures.place, c.put_bytes-next.ensures.place)

pub returns : goal.returns
unfolding place_bytes
returns c = (wrote-append (wrote-append c.put_bytes-next.ensures c.put_fill-next.ensures) c.put_bytes.ensures).buffer
