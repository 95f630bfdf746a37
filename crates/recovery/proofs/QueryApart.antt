-- What a query tells a side is not altered by the other: where shares fit and are kept to, what is left of the side's share is there, and so is what is left of H, which is ours.
-- Assumes nothing.
use Prim.Native.Nat.{ℕ, ◌+◌, ◌*◌, ◌-◌, ◌/◌, min}
use native.Mathlib.Omega.{arith}
use mathlib.Core.Path.{◌≡◌, sym, ap, ap₂, ◌∙◌}
use mathlib.Core.Bool.{Bool, true, false, cond, ◌||◌}
use mathlib.Core.List.{List, [], ◌∷◌}
use mathlib.Core.Option.{Option}
use lib.Dec.{eqb}
use Rattle.model.specs.declared.Setup.{Setup}
use Rattle.model.specs.declared.Session.{Session}
use Rattle.model.specs.declared.Terms.{Terms}
use Rattle.model.specs.declared.Rule.{Rule}
use Rattle.model.specs.declared.Rule.TheVariants.{Attributes}
use Rattle.model.specs.Lists.{on_some}
use Rattle.model.specs.Image.{region_header_size, region_size}
use Rattle.model.specs.Entry.{Value}
use Rattle.model.specs.Region.{record_bit, values_of}
use Rattle.model.specs.Session.{at_runtime_def, kept}
use Rattle.model.specs.Change.{space_of, space_in, record_sizes, other_sizes}
use Rattle.model.specs.Sides.{side_sizes}
use Rattle.model.specs.Rules.{first_broken, rule4, terms_if, terms_for_def}
use Rattle.model.specs.Query.{record_share_def, storage_for, remaining_for, largest_for, query_broken, query_outcome, query_gives}
use Rattle.model.specs.Answers.{Outcome, done, refused, rule_number}
use Rattle.recovery.specs.Tenants.{World, finished_start_up, queried, QueryNoInterference}
use Rattle.recovery.proofs.Shares.{Within, split}
use Rattle.recovery.proofs.Judging.{image-passed, ready-named, records-seen}
use Rattle.recovery.proofs.Isolation.{Good, Alike, runtime-alike, views-alike, room-alike, same_asked, good-history, begins-good}

-- what a session says to a side that names no name
abbrev said : Bool → Session → Terms
said m s = terms_if m s false false

-- the side's part, of error records or of others
abbrev its : Terms → Bool → ℕ → ℕ → ℕ
its t e records sum = cond e (record_share_def t - records) (t.share - (sum + t.reserve))

abbrev room : Bool → Bool → Session → List Value → ℕ
room m e s vs = its (said m s) e (record_sizes vs) (side_sizes s.setup.modem.vendor m vs)

-- it is there
room-there : (m e : Bool) (s : Session) (size : ℕ) (vs : List Value) → Within s.setup size vs → min (size - space_of vs) (room m e s vs) ≡ room m e s vs
unfolding space_in
room-there true true s size vs w = omega arith
room-there false true s size vs w = omega (arith, split s.setup.modem.vendor vs, w.fit, w.side false, w.side true, w.records)
room-there true false s size vs w = omega (arith, split s.setup.modem.vendor vs, w.fit, w.side false, w.side true, w.records)
room-there false false s size vs w = omega (arith, split s.setup.modem.vendor vs, w.fit, w.side false, w.side true, w.records)

-- so is the whole of it
abbrev whole : Terms → Bool → ℕ
whole t e = cond e (record_share_def t) (t.share - t.reserve)

whole-there : (m e : Bool) (s : Session) (size : ℕ) (vs : List Value) → Within s.setup size vs
    → min (size - region_header_size) (whole (said m s) e) ≡ whole (said m s) e
whole-there true true s size vs w = omega arith
whole-there false true s size vs w = omega (arith, w.fit)
whole-there true false s size vs w = omega (arith, w.fit)
whole-there false false s size vs w = omega (arith, w.fit)

-- what it answers, by the rule that is broken, and the numbers
abbrev answers : Option Rule → ℕ → ℕ → Outcome × ℕ × ℕ × ℕ
answers o storage remaining = (
  on_some o (λ rule. refused (rule_number rule)) (done 0),
  on_some o (λ rule. 0) storage,
  on_some o (λ rule. 0) remaining,
  on_some o (λ rule. 0) (largest_for remaining),
)

module _ (u : Setup) (modem : Bool) (v w : World) (a : Good u v) (b : Good u w) (l : Alike u modem v w) where
  sums-alike : side_sizes v.session.setup.modem.vendor modem (values_of v.image) ≡ side_sizes w.session.setup.modem.vendor modem (values_of w.image)
  unfolding side_sizes
  sums-alike = ap other_sizes (views-alike u modem v w a b l)

  storage-alike : (e : Bool) → storage_for (terms_for_def modem v.session) e (region_size v.image) ≡ storage_for (terms_for_def modem w.session) e (region_size w.image)
  unfolding storage_for terms_for_def
  storage-alike e =
      whole-there modem e v.session (region_size v.image) (values_of v.image) a.within
      ∙ ap (λ (t : Terms). whole t e) (room-alike u modem v w a b l false false)
      ∙ sym (whole-there modem e w.session (region_size w.image) (values_of w.image) b.within)

  broken-alike : (n : ℕ) → query_broken (at_runtime_def v.session) n v.image ≡ query_broken (at_runtime_def w.session) n w.image
  unfolding query_broken
  broken-alike n =
      let rest : Bool → List (Rule × Bool) = λ runtime. (Attributes, rule4 runtime n || eqb n 0) ∷ [] in
      image-passed v.image a.ready (rest (at_runtime_def v.session))
      ∙ ap (λ (t : Bool). first_broken (rest t)) (runtime-alike u modem v w a b l)
      ∙ sym (image-passed w.image b.ready (rest (at_runtime_def w.session)))

-- error records are ours, and we see them all
part-alike : (modem e : Bool) (u : Setup) (v w : World) → Good u v → Good u w → Alike u modem v w
    → room modem e v.session (values_of v.image) ≡ room modem e w.session (values_of w.image)
part-alike true true u v w a b l = omega arith
part-alike false true u v w a b l =
    ap₂ (λ (t : Terms) (n : ℕ). record_share_def t - n) (room-alike u false v w a b l false false)
    (sym (records-seen v.session.setup.modem.vendor (values_of v.image) (ready-named v.image a.ready))
    ∙ ap record_sizes (views-alike u false v w a b l)
    ∙ records-seen w.session.setup.modem.vendor (values_of w.image) (ready-named w.image b.ready))
part-alike modem false u v w a b l =
    ap₂ (λ (t : Terms) (n : ℕ). t.share - (n + t.reserve)) (room-alike u modem v w a b l false false) (sums-alike u modem v w a b l)

module _ (u : Setup) (modem : Bool) (v w : World) (a : Good u v) (b : Good u w) (l : Alike u modem v w) where
  remaining-alike : (e : Bool) → remaining_for (terms_for_def modem v.session) e (region_size v.image) (values_of v.image)
      ≡ remaining_for (terms_for_def modem w.session) e (region_size w.image) (values_of w.image)
  unfolding remaining_for terms_for_def
  remaining-alike e =
      ap (λ (n : ℕ). n / 4 * 4)
      (room-there modem e v.session (region_size v.image) (values_of v.image) a.within
      ∙ part-alike modem e u v w a b l
      ∙ sym (room-there modem e w.session (region_size w.image) (values_of w.image) b.within))

  queried-alike : (n : ℕ) → queried modem n v ≡ queried modem n w
  unfolding query_outcome query_gives
  queried-alike n =
      ap (λ (o : Option Rule). answers o (storage_for (terms_for_def modem v.session) (record_bit n) (region_size v.image))
      (remaining_for (terms_for_def modem v.session) (record_bit n) (region_size v.image) (values_of v.image))) (broken-alike u modem v w a b l n)
      ∙ ap₂ (λ (s r : ℕ). answers (query_broken (at_runtime_def w.session) n w.image) s r) (storage-alike u modem v w a b l (record_bit n)) (remaining-alike (record_bit n))

pub query-no-interference : QueryNoInterference
query-no-interference setup before x count h modem v w p q same n =
    let begin = finished_start_up setup x before in
    let fine = begins-good setup before x count h in
    queried-alike (kept setup) modem v w (good-history (kept setup) modem begin fine p) (good-history (kept setup) modem begin fine q)
    (same_asked (kept setup) modem begin fine p w q same).alike n
