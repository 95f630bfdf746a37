-- `cases::play::terms` meets its contract: the parts of the session say what it says. Assumes nothing.
use Rattle.std.proofs.Common.{Bool, sym, ap₂, ◌∙◌}
use Rattle.model.specs.declared.Terms.{Terms}
use Rattle.model.specs.Name.{keyed}
use Rattle.session.specs.Said.{terms_with}
use Rattle.session.proofs.Phases.{terms-with}
use Rattle.cases.proofs.play.terms.Goals as goal

pub returns : goal.returns
returns c =
    let k = keyed c.args.name.now c.args.vendor.now in
    terms-with c.args.modem c.args.s k
    ∙ sym (c.terms.ensures ∙ ap₂ (λ (x : Terms) (y : Bool). terms_with x y k) (sym c.said-said.ensures) c.is_barred-barred.ensures)
