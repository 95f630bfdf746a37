use Rattle.std.proofs.Common.{rules}
use Rattle.output.proofs.Writing.{partly_none, partly-next, partly-all}
use Rattle.profile.specs.Reader.{requests_in}
use Rattle.planner.proofs.Stored.{all-to-store, next-to-store, none-to-store, next-asked}
use Rattle.planner.proofs.items.put_items.Goals as goal

pub loop-i-init : goal.loop-i-init
unfolding requests_in
loop-i-init c =
    let p = c.args.p in
    (search rules, search rules, partly_none _ _ (all-to-store c.args.file.now p.list p.count c.args.stores))

pub put_item-next-requires : goal.put_item-next-requires
put_item-next-requires c =
    let p = c.args.p in
    let v = c.loop-i.invariant in
    next-asked c.args.file.now p.list p.count c.args.stores v.0 c.requires.1 c.loop-i.i v.1 c.loop-i-test.true v.2 c.requires.0 c.requires.2

pub loop-i-preserved : goal.loop-i-preserved
loop-i-preserved c =
    let p = c.args.p in
    let v = c.loop-i.invariant in
    let more = next-to-store c.args.file.now p.list p.count c.args.stores v.0 c.requires.1 c.loop-i.i v.1 c.loop-i-test.true in
    (v.0, v.1, partly-next v.2 more c.put_item-next.ensures)

pub returns : goal.returns
returns c =
    let p = c.args.p in
    let v = c.loop-i.invariant in
    partly-all v.2 (none-to-store c.args.file.now p.list p.count c.args.stores v.0 c.requires.1 c.loop-i.i c.loop-i-test.false)
