-- What a set puts beside PK, and what a mode request puts and removes: PlatMode's value, which a region can hold.
-- Assumes nothing.
use Prim.Native.Nat.{ℕ}
use native.Mathlib.Omega.{arith}
use mathlib.Core.Path.{◌≡◌, refl, subst}
use mathlib.Core.Bool.{Bool, true, false, not, cond, ◌&&◌, true≢false}
use mathlib.Core.List.{List, [], ◌∷◌}
use lib.Dec.{eqb}
use Rattle.model.specs.declared.PlatMode.{PlatMode}
use Rattle.model.specs.declared.PlatMode.TheVariants as mode
use Rattle.model.specs.Lists.{same, is_some}
use Rattle.model.specs.Name.{Key, same_key_def, zero_ended, well_named, record_name}
use Rattle.model.specs.Entry.{Value, key_of}
use Rattle.model.specs.Region.{find}
use Rattle.model.specs.Request.{global_vendor_def, key_pk, key_mode, audit_mode, deployed_mode, mode_value, user_mode_def, stores_mode, mode_of}
use Rattle.model.specs.Change.{Change, nothing, remove, put, without_mode, beside_pk, transition, mode_changes}
use Rattle.model.specs.Beside.{Valid}
use Rattle.model.proofs.Changes.{EachPut}

pub mode-valid : (m : ℕ) → Valid (mode_value m)
unfolding mode_value key_mode global_vendor_def well_named zero_ended record_name same
mode-valid m = record {
  named = refl;
  vendor = refl;
  stamp = refl;
  stampless = λ e. absurd (true≢false e);
  attributes = refl;
  recorded = refl;
  some-data = omega arith;
  few-data = omega arith;
}

-- changes by what they put
module _ (P : Value → Type 0) where
  put_one : (v : Value) → P v → EachPut P (put v ∷ [])
  put_one v p = (λ w e. subst P (same-put w e) p, tt)
    where
      same-put : (w : Value) → put v ≡ put w → v ≡ w
      same-put w e = cc

  put-none : (k : Key) (cs : List Change) → EachPut P cs → EachPut P (remove k ∷ cs)
  put-none k cs rest = (λ v e. absurd (not-put v e), rest)
    where
      not-put : (v : Value) → remove k ≡ put v → ⊥
      not-put v e = let z : ◌≡◌ {A = ℕ} 0 1 = cc in omega arith

  -- beside a change of PK only the 3
  pub beside-puts : P (mode_value deployed_mode) → (c : Change) (vs : List Value) → EachPut P (beside_pk c vs)
  unfolding beside_pk
  beside-puts p c vs = by-change c
    where
      gone : (t : Bool) → EachPut P (cond t (remove key_mode ∷ []) [])
      gone true = put-none key_mode [] tt
      gone false = tt

      removed : (t : Bool) → EachPut P (cond t (without_mode vs) [])
      removed true = gone (is_some (find key_mode vs))
      removed false = tt

      come : (t a : Bool) → EachPut P (cond t (cond a (put (mode_value deployed_mode) ∷ []) (without_mode vs)) [])
      come true true = put_one (mode_value deployed_mode) p
      come true false = gone (is_some (find key_mode vs))
      come false a = tt

      by-change : (c : Change) → EachPut P (beside_pk c vs)
      by-change nothing = tt
      by-change (remove k) = removed (same_key_def k key_pk)
      by-change (put v) = come (same_key_def (key_of v) key_pk && not (user_mode_def vs)) (stores_mode audit_mode vs)

  -- a mode request the 2 or the 3
  pub mode-puts : P (mode_value audit_mode) → P (mode_value deployed_mode) → (m : ℕ) (vs : List Value) → EachPut P (mode_changes m vs)
  unfolding mode_changes
  mode-puts p q m vs = by_mode (mode_of vs)
    where
      audit : EachPut P (put (mode_value audit_mode) ∷ [])
      audit = put_one (mode_value audit_mode) p

      from-setup : (t : Bool) → EachPut P (cond t (put (mode_value audit_mode) ∷ []) [])
      from-setup true = audit
      from-setup false = tt

      from-user : (t u : Bool) → EachPut P (cond t (remove key_pk ∷ put (mode_value audit_mode) ∷ []) (cond u (put (mode_value deployed_mode) ∷ []) []))
      from-user true u = put-none key_pk (put (mode_value audit_mode) ∷ []) audit
      from-user false true = put_one (mode_value deployed_mode) q
      from-user false false = tt

      by_mode : (o : PlatMode) → EachPut P (transition o m)
      by_mode mode.Setup = from-setup (eqb m audit_mode)
      by_mode mode.Audit = tt
      by_mode mode.User = from-user (eqb m audit_mode) (eqb m deployed_mode)
      by_mode mode.Deployed = tt

-- a mode request never removes alone
pub mode-removes : (m : ℕ) (vs : List Value) (k : Key) → mode_changes m vs ≡ remove k ∷ [] → is_some (find k vs) ≡ true
unfolding mode_changes
mode-removes m vs k h = by_mode (mode_of vs) h
  where
    none_at_all : {j : Key} {A : Type 0} → [] ≡ remove j ∷ [] → A
    none_at_all e = let z : ◌≡◌ {A = ℕ} 0 1 = cc in absurd (omega arith)

    puts_one : {v : Value} {A : Type 0} → put v ∷ [] ≡ remove k ∷ [] → A
    puts_one e = let z : ◌≡◌ {A = ℕ} 0 1 = cc in absurd (omega arith)

    two : {c d : Change} {A : Type 0} → c ∷ d ∷ [] ≡ remove k ∷ [] → A
    two e = let z : ◌≡◌ {A = ℕ} 0 1 = cc in absurd (omega arith)

    from-setup : (t : Bool) → cond t (put (mode_value audit_mode) ∷ []) [] ≡ remove k ∷ [] → is_some (find k vs) ≡ true
    from-setup true e = puts_one e
    from-setup false e = none_at_all e

    from-user : (t u : Bool) → cond t (remove key_pk ∷ put (mode_value audit_mode) ∷ []) (cond u (put (mode_value deployed_mode) ∷ []) []) ≡ remove k ∷ []
        → is_some (find k vs) ≡ true
    from-user true u e = two e
    from-user false true e = puts_one e
    from-user false false e = none_at_all e

    by_mode : (o : PlatMode) → transition o m ≡ remove k ∷ [] → is_some (find k vs) ≡ true
    by_mode mode.Setup e = from-setup (eqb m audit_mode) e
    by_mode mode.Audit e = none_at_all e
    by_mode mode.User e = from-user (eqb m audit_mode) (eqb m deployed_mode) e
    by_mode mode.Deployed e = none_at_all e
