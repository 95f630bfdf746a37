use Rattle.std.proofs.Common.{ℕ, ◌+◌, ◌-◌, ◌≤◌, ◌≡◌, arith, replicate, drop, length, length-drop, sym, ap, ◌∙◌}
use Rattle.std.proofs.lemmas.List.{take-replicate}
use lib.ListN.{length-replicate}
use lib.Seq.{length-take-le}
use Rattle.output.proofs.Writing.{wrote-places, wrote-past}
use Rattle.output.proofs.put_fill.Goals as goal
use Rattle.output.proofs.put_fill.Goals.{then-at-out, else-at-out}

pub returns : goal.returns
returns c =
    let src = replicate c.args.count c.args.b in
    let long = length-replicate c.args.count c.args.b in
    elim c.if-at-out.branch [
      | then-at-out w ↦
          let n = w.min-n.result in
          let few : n ≤ length c.args.out.now - c.args.at = omega (arith, w.min-n.ensures) in
          let span : c.args.at + n - c.args.at ≡ n = omega arith in
          let many = length-take-le (c.args.at + n - c.args.at) (drop c.args.at c.args.out.now) (simp length-drop (omega arith)) ∙ span in
          let filled = w.fill.ensures.after (λ y e. e) ∙ ap (λ (k : ℕ). replicate k c.args.b) many in
          let put = filled ∙ sym (take-replicate n c.args.count c.args.b (omega (arith, w.min-n.ensures))) in
          let p = wrote-places src w.fill.new.self n (omega (arith, w.if-at-out.true)) (w.min-n.ensures ∙ rw long) put w.out-is in
          record { place = rw long; buffer = p.buffer }
      | else-at-out w ↦ let p = wrote-past src w.if-at-out.false w.out-is in record { place = rw long; buffer = p.buffer }
    ]
