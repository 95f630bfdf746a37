-- `region::judge::usual_front` meets its contract: the word of eight bytes at the front tells each of the fields in it. Assumes nothing.
use Rattle.std.proofs.Common.{◌≡◌, sym, ◌∙◌, true≢false, arith}
use Rattle.region.proofs.Usuals.{front-fields}
use Rattle.region.proofs.judge.usual_front.Goals as goal

pub returns-then-front-eq30068921770 : goal.returns-then-front-eq30068921770
returns-then-front-eq30068921770 c =
    let s = c.args.s.now in
    let is : c.standing_eight-front.result ≡ 0x7003F55AA = c.if-front-eq30068921770.true in
    λ t. front-fields s (λ i. omega (arith, c.type_inv.s i)) c.standing_eight-front.result c.standing_eight-front.ensures (omega arith) (rw is)

pub returns-then-front-ne4150698 : goal.returns-then-front-ne4150698
returns-then-front-ne4150698 c = λ e. absurd (true≢false (sym e))

pub returns : goal.returns
returns c =
    let s = c.args.s.now in
    λ t.
    front-fields s (λ i. omega (arith, c.type_inv.s i)) c.standing_eight-front.result c.standing_eight-front.ensures (omega arith)
    (sym c.plain_attributes.ensures ∙ t)
