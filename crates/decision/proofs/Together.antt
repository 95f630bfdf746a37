-- PlatMode's change that goes with one of PK, by what was found: where it is PK that comes or goes, what stands under PlatMode is what was found there, and no entry is at
-- offset 0. With any other change none goes.
-- Assumes nothing.
use Prim.Native.Nat.{ℕ}
use native.Mathlib.Omega.{arith}
use mathlib.Core.Path.{◌≡◌, refl, sym, ap, ◌∙◌}
use mathlib.Core.Bool.{Bool, true, false, not, cond, ◌&&◌, and-false}
use mathlib.Core.List.{List, [], ◌∷◌}
use Rattle.model.specs.Lists.{is_some}
use Rattle.model.specs.Name.{Key, same_key_def}
use Rattle.model.specs.Entry.{Value}
use Rattle.model.specs.Region.{sound, entries, values, standing, find}
use Rattle.model.specs.Request.{Request, request_key, key_pk, key_mode, audit_mode, deployed_mode, mode_value, user_mode_def, stores_mode}
use Rattle.model.specs.Change.{Change, remove, put, new_value, change_in, without_mode, beside_pk}
use Rattle.model.proofs.Looking.{change-cases}
use Rattle.model.proofs.Tests.{key-eq}
use Rattle.layout.specs.declared.Entry as numbers
use Rattle.std.specs.Prelude.{Some, None}
use Rattle.values.specs.Found.{placed_at, found_of}
use Rattle.decision.specs.Decision.{Decision, kind_of, beside_by}
use Rattle.decision.specs.Parts.{Found, stands, stores_by, found_mode, offset_of, moves_by, beside_found, deploys_by}
use Rattle.decision.proofs.Old.{some-found, stores-found}

-- by numbers, where there is none and where there is one
pub beside_none : (b : Bool) → beside_by None b ≡ []
unfolding beside_by
beside_none b = refl

pub beside-some : (at : ℕ) (b : Bool) → beside_by (Some at) b ≡ cond b (put (mode_value deployed_mode) ∷ []) (remove key_mode ∷ [])
unfolding beside_by
beside-some at b = refl

-- where some of it changes, it is PK that comes or goes
pub record Moves (r : List ℕ) (what : Decision) (old : Found) (k : Key) (at : ℕ) (e : numbers.Entry) : Type 0 where
  pub moves : moves_by what old ≡ true
  pub named : k ≡ key_pk
  pub found : placed_at at e ≡ found_mode r

pub beside-moves : (r : List ℕ) (what : Decision) (old : Found) (k : Key) (at : ℕ) (e : numbers.Entry) → beside_found r what old k ≡ placed_at at e → Moves r what old k at e
unfolding beside_found
beside-moves r what old k at e h = go (moves_by what old) refl (same_key_def k key_pk) refl h
  where
    not_found : {A : Type 0} → None ≡ placed_at at e → A
    not_found p = let z : ◌≡◌ {A = ℕ} 0 1 = cc in absurd (omega arith)

    go : (b : Bool) → moves_by what old ≡ b → (n : Bool) → same_key_def k key_pk ≡ n → cond (b && n) (found_mode r) None ≡ placed_at at e → Moves r what old k at e
    go true m true n h = record { moves = m; named = key-eq k key_pk n; found = sym h }
    go true m false n h = not_found h
    go false m n p h = not_found h

module _ (r : List ℕ) (sounds : sound r ≡ true) where
  abbrev vs : List Value
  vs = values (entries r)

  -- what goes, and what comes in audit mode
  there : (f : Found) → found_mode r ≡ f → is_some (find key_mode vs) ≡ stands f
  there f h = sym (some-found r sounds key_mode) ∙ ap stands h

  mode-goes : (f : Found) → found_mode r ≡ f → beside_by (offset_of f) false ≡ without_mode vs
  mode-goes (Some p) h = beside-some p.at false ∙ rw (there (Some p) h)
  mode-goes None h = beside_none false ∙ rw (there None h)

  stored : (f : Found) → found_mode r ≡ f → stores_mode audit_mode vs ≡ stores_by r audit_mode f
  stored f h = sym (stores-found r sounds audit_mode) ∙ ap (stores_by r audit_mode) h

  mode-comes : (f : Found) → found_mode r ≡ f → beside_by (offset_of f) (stores_by r audit_mode f) ≡ cond (stores_mode audit_mode vs) (put (mode_value deployed_mode) ∷ []) (without_mode vs)
  unfolding stores_by
  mode-comes (Some p) h = beside-some p.at (stores_by r audit_mode (Some p)) ∙ rw (stored (Some p) h, there (Some p) h)
  mode-comes None h = beside_none false ∙ rw (stored None h, there None h)

  module _ (q : Request) (old : Found) (h : old ≡ found_of (standing (request_key q) (entries r))) where
    user : request_key q ≡ key_pk → user_mode_def vs ≡ stands old
    unfolding user_mode_def
    user e = sym (ap stands (h ∙ ap (λ (k : Key). found_of (standing k (entries r))) e) ∙ some-found r sounds key_pk)

    -- *the change that goes with a set's*
    pub beside-here : beside_by (offset_of (beside_found r (kind_of (change_in q vs)) old (request_key q))) (deploys_by r (kind_of (change_in q vs)) (beside_found r (kind_of (change_in q vs)) old (request_key q)))
        ≡ beside_pk (change_in q vs) vs
    unfolding change_in beside_found beside_pk new_value stores_by
    beside-here =
        change-cases
        (λ (c : Change). beside_by (offset_of (beside_found r (kind_of c) old (request_key q))) (deploys_by r (kind_of c) (beside_found r (kind_of c) old (request_key q))) ≡ beside_pk c vs)
        q (find (request_key q) vs) (removed (same_key_def (request_key q) key_pk)) (beside_none false) (put-there (same_key_def (request_key q) key_pk) refl)
      where
        removed : (b : Bool) → beside_by (offset_of (cond b (found_mode r) None)) false ≡ cond b (without_mode vs) []
        removed true = mode-goes (found_mode r) refl
        removed false = beside_none false

        comes : (b : Bool)
            → beside_by (offset_of (cond (not b && true) (found_mode r) None)) (stores_by r audit_mode (cond (not b && true) (found_mode r) None))
            ≡ cond (not b) (cond (stores_mode audit_mode vs) (put (mode_value deployed_mode) ∷ []) (without_mode vs)) []
        comes true = beside_none false
        comes false = mode-comes (found_mode r) refl

        put-there : (b : Bool) → same_key_def (request_key q) key_pk ≡ b
            → beside_by (offset_of (cond (not (stands old) && b) (found_mode r) None)) (stores_by r audit_mode (cond (not (stands old) && b) (found_mode r) None))
            ≡ cond (b && not (user_mode_def vs)) (cond (stores_mode audit_mode vs) (put (mode_value deployed_mode) ∷ []) (without_mode vs)) []
        put-there true e = rw (user (key-eq (request_key q) key_pk e)) (comes (stands old))
        put-there false e = rw (and-false (not (stands old))) (beside_none false)
