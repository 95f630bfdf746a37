-- `region::judge::usual_at` meets its contract: what is lent is the rest of the region, from the offset on. Assumes nothing.
use Rattle.std.proofs.Common.{ℕ, List, subst, arith}
use Rattle.std.proofs.lemmas.Option.{IfSome_then}
use Rattle.region.specs.Judge.{UsualOf}
use Rattle.region.proofs.Turns.{rest}
use Rattle.region.proofs.judge.usual_at.Goals as goal

pub returns : goal.returns
returns c =
    let r = c.args.region.now in
    let at = c.args.at in
    IfSome_then c.usual_of.result c.usual_of.ensures (λ u h. (omega arith, subst (λ (s : List ℕ). UsualOf c.args.y s u.name u.end) (rest r at) h))
