-- `cases::play::mode` is safe: what it gives to a mode request is what its session says to it. Assumes nothing.
use Rattle.std.proofs.Common.{◌≡◌, ap, false}
use Rattle.model.specs.declared.Session.{Session}
use Rattle.model.specs.declared.Terms.{Terms}
use Rattle.model.specs.Name.{Key}
use Rattle.model.specs.Rules.{rule6, terms_of}
use Rattle.session.specs.Said.{barred_by, terms_with}
use Rattle.session.proofs.Phases.{terms-with}
use Rattle.cases.proofs.play.mode.Goals as goal

-- whether a lock bars a name, by the parts of the session
bars-by : (s : Session) (k : Key) → rule6 s k ≡ barred_by s.phase s.count s.sizes s.locks k
unfolding terms_of terms_with
bars-by s k = ap (λ (t : Terms). t.barred) (terms-with false s k)

pub mode-answer-requires : goal.mode-answer-requires
mode-answer-requires g c = (_, c.args.s, record { terms = c.said-said.ensures; bars = bars-by c.args.s })
