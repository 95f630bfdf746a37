-- The sizes of some values after a change of a name: what is there under it goes, and what is put comes. Where all that goes and comes is the side's own, 13 is judged by its sizes.
-- Assumes nothing.
use Prim.Native.Nat.{ℕ, ◌+◌, ◌-◌}
use native.Mathlib.Omega.{arith}
use mathlib.Core.Path.{◌≡◌, refl, sym, ap, ◌∙◌}
use mathlib.Core.Bool.{Bool, true, false, not, cond, ◌||◌}
use mathlib.Core.List.{List, [], ◌∷◌}
use mathlib.Core.Option.{Option}
use lib.ListN.{length}
use lib.Dec.{ltb}
use Rattle.model.specs.declared.Terms.{Terms}
use Rattle.model.specs.declared.Rule.TheVariants.{Room, RecordSpace}
use Rattle.model.specs.Lists.{any}
use Rattle.model.specs.Image.{region_header_size}
use Rattle.model.specs.Name.{Key}
use Rattle.model.specs.Entry.{Value, key_of}
use Rattle.model.specs.Region.{entries, values, find}
use Rattle.model.specs.Change.{Change, nothing, remove, put, is_nothing, step, steps, is_error_record_def, record_sizes}
use Rattle.model.specs.Sides.{side_sizes}
use Rattle.model.specs.Rules.{first_broken, rule13, puts}
use Rattle.model.proofs.Encode.{Distinct}
use Rattle.model.proofs.Looking.{Own}
use Rattle.model.proofs.Space.{size_if, size_of, sizes, without-sizes, old-counts, put-sizes}
use Rattle.decision.specs.Parts.{room_by}
use Rattle.decision.specs.Profile.{folded_sums}
use Rattle.decision.proofs.Broken.{kept_here}
use Rattle.decision.proofs.Classes.{all-classes}

module _ (p : Value → Bool) where
  -- of these, what a change takes out by what is there, and what it adds
  abbrev pub gone_if : Change → Option Value → ℕ
  gone_if c old = cond (is_nothing c) 0 (size_of p old)

  abbrev pub comes_if : Change → ℕ
  comes_if nothing = 0
  comes_if (remove k) = 0
  comes_if (put v) = size_if p v

  pub step-sizes : (k : Key) (c : Change) (ws : List Value) → Own k c → Distinct ws → sizes p (step c ws) + gone_if c (find k ws) ≡ sizes p ws + comes_if c
  unfolding step
  step-sizes k nothing ws o d = refl
  step-sizes k (remove j) ws o d = rw o (omega (arith, without-sizes p k ws d))
  step-sizes k (put v) ws o d = rw (← o) (omega (arith, put-sizes p v ws d, old-counts p (key_of v) ws d))

-- ---- 13 by the sizes of the side's own

module _ (t : Terms) (r : List ℕ) (cs : List Change) (gone comes : ℕ) where
  abbrev vs : List Value
  vs = values (entries r)

  -- over the values after the changes: all that goes and comes is the side's own
  pub record Moved : Type 0 where
    pub own : side_sizes t.vendor t.modem (steps cs vs) + gone ≡ side_sizes t.vendor t.modem vs + comes
    pub records : record_sizes vs ≡ record_sizes (steps cs vs)
    pub others : side_sizes t.vendor (not t.modem) vs ≡ side_sizes t.vendor (not t.modem) (steps cs vs)

  pub moved-room : Moved → any (puts (λ v. not (is_error_record_def v))) cs ≡ true → any (puts (λ v. true)) cs ≡ true
      → first_broken (room_by t (length r) false (folded_sums t r gone comes)) ≡ first_broken ((Room, rule13 t (length r) cs vs) ∷ [])
  unfolding room_by rule13 folded_sums
  moved-room m p e =
      let own : side_sizes t.vendor t.modem vs + comes - gone ≡ side_sizes t.vendor t.modem (steps cs vs) = omega (arith, m.own) in
      rw (own, m.records, m.others)
      (kept_here RecordSpace false ((Room, full) ∷ []) refl
      ∙ ap (λ (b : Bool). first_broken ((Room, b) ∷ [])) (sym (rw (p, e, all-classes t.vendor t.modem (steps cs vs)))))
    where
      full : Bool
      full =
          ltb t.share (side_sizes t.vendor t.modem (steps cs vs) + t.reserve)
          || ltb (length r) (region_header_size + record_sizes (steps cs vs) + side_sizes t.vendor t.modem (steps cs vs) + side_sizes t.vendor (not t.modem) (steps cs vs))
