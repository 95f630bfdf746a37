-- `cases::play::profile` is safe: what it gives to a profile is what its session says to every item. Assumes nothing.
use Rattle.std.proofs.Common.{refl, ap, ◌∙◌}
use Rattle.model.specs.declared.Terms.{Terms}
use Rattle.session.specs.Said.{barred_by, terms_with}
use Rattle.session.proofs.Phases.{terms-with}
use Rattle.cases.proofs.play.profile.Goals as goal

pub profile-answer-requires : goal.profile-answer-requires
profile-answer-requires g c =
    let s = c.args.s in
    let told = c.said-said.ensures in (
      _,
      s,
      record {
        terms = told;
        each = λ k. terms-with _ s k ∙ ap (λ (t : Terms). terms_with t (barred_by s.phase s.count s.sizes s.locks k) k) told;
        limits = refl;
      },
    )
