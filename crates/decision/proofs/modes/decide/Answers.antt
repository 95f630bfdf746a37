-- `decision::modes::decide` meets its contract: by what is there of PK and PlatMode. Assumes nothing.
use mathlib.Core.Path.{sym, ap, ap₂, ◌∙◌}
use Rattle.model.specs.declared.PlatMode.{PlatMode}
use Rattle.model.specs.Region.{entries, added, replacing, standing}
use Rattle.model.specs.Request.{key_mode}
use Rattle.values.specs.Found.{else_found}
use Rattle.values.proofs.Finds.{found-else}
use Rattle.decision.specs.Parts.{Found, offset_of}
use Rattle.decision.specs.Modes.{barring, lost_by, transition_by}
use Rattle.decision.proofs.Transitions.{transition-changes, gone-offset}
use Rattle.decision.proofs.modes.decide.Goals as goal

pub mode_by-m-requires : goal.mode_by-m-requires
unfolding standing
mode_by-m-requires c =
    let es = entries c.args.region.now in
    let l = c.places-places.ensures in
    (c.pk-pk.ensures, c.standing-there.ensures ∙ ap₂ else_found l.0 l.1 ∙ sym (found-else (added key_mode es) (replacing key_mode es)))

pub roomed-what-requires : goal.roomed-what-requires
unfolding standing
roomed-what-requires c =
    let es = entries c.args.region.now in
    let l = c.places-places.ensures in
    let gone = c.lost-gone.ensures ∙ ap (λ (f : Found). lost_by f c.mode_by-m.result c.args.to) c.pk-pk.ensures in (
      c.requires.0,
      c.requires.1,
      c.mode_by-m.ensures,
      gone,
      c.standing-there.ensures ∙ ap₂ else_found l.0 l.1 ∙ sym (found-else (added key_mode es) (replacing key_mode es)),
    )

pub returns : goal.returns
returns c =
    let a = c.args in
    let r = a.region.now in
    let b = barring a.held a.locks.now in
    let l = c.places-places.ensures in
    let what = c.roomed-what.ensures in
    let gone = c.lost-gone.ensures
    ∙ ap₂ (λ (f : Found) (m : PlatMode). lost_by f m a.to) c.pk-pk.ensures c.mode_by-m.ensures in
    let pk = c.offset.ensures ∙ ap offset_of gone in (
      what,
      l.0,
      l.1,
      λ h. ap₂ transition_by pk c.byte.ensures ∙ transition-changes r c.requires.0 a.said b a.to (sym what ∙ h),
      rw pk (gone-offset r c.requires.0 a.said b a.to),
      c.byte.ensures,
    )
