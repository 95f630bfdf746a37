-- A mode request: what it loses and which rules it breaks, by the mode; and its changes by numbers.
-- Assumes nothing.
use Prim.Native.Nat.{ℕ, ◌+◌, ◌≤◌}
use native.Mathlib.Omega.{arith}
use mathlib.Core.Path.{◌≡◌, refl, sym, ap, ◌∙◌}
use mathlib.Core.Bool.{Bool, true, false, not, cond, true≢false}
use mathlib.Core.List.{List, [], ◌∷◌, ◌++◌}
use mathlib.Core.Option.{Option, none, some}
use lib.ListN.{length}
use lib.Dec.{eqb}
use Rattle.model.specs.declared.PlatMode.{PlatMode}
use Rattle.model.specs.declared.PlatMode.TheVariants as mode
use Rattle.model.specs.declared.Terms.{Terms}
use Rattle.model.specs.declared.Rule.{Rule}
use Rattle.model.specs.declared.Rule.TheVariants.{Room}
use Rattle.model.specs.Lists.{any, or_else}
use Rattle.model.specs.Name.{Key}
use Rattle.model.specs.Entry.{Value, key_of, entry_size_def}
use Rattle.model.specs.Region.{sound, entries, values}
use Rattle.model.specs.Request.{key_pk, key_mode, audit_mode, deployed_mode, mode_value}
use Rattle.model.specs.Change.{Change, remove, put, transition, mode_changes}
use Rattle.model.specs.Rules.{first_broken, removes, rule13, rule22, rule24}
use Rattle.model.specs.Sides.{owns, side_sizes}
use Rattle.model.proofs.Changes.{EachPut}
use Rattle.model.proofs.Requests.{broken-append, unbroken}
use Rattle.std.specs.Prelude.{Some, None, Ok, Err}
use Rattle.decision.specs.declared.Change.TheVariants.{Put}
use Rattle.decision.specs.Decision.{decided}
use Rattle.decision.specs.Parts.{Found, stands, stores_by, found_pk, found_mode, mode_by_def, offset_of, room_by}
use Rattle.decision.specs.Profile.{comes_sizes, comes_size, folded_sums}
use Rattle.decision.specs.Joint.{taken_by}
use Rattle.decision.specs.Modes.{transition_rules, transition_of, lost_by, byte_of, transition_by}
use Rattle.decision.proofs.Old.{mode-found}
use Rattle.decision.proofs.JointRoom.{plain, owns-mode, joint-thirteen, joint-counts, alone-thirteen, alone-counts}

-- ---- by the mode

-- the changes in user mode, by whether audit or deployed is requested
abbrev from_user : Bool → Bool → List Change
from_user a d = cond a (remove key_pk ∷ put (mode_value audit_mode) ∷ []) (cond d (put (mode_value deployed_mode) ∷ []) [])

module _ (to : ℕ) where
  pub user-loses : eqb to audit_mode ≡ any removes (transition mode.User to)
  user-loses = go (eqb to audit_mode) (eqb to deployed_mode)
    where
      go : (a d : Bool) → a ≡ any removes (from_user a d)
      go true d = refl
      go false true = refl
      go false false = refl

  pub setup-loses : false ≡ any removes (transition mode.Setup to)
  setup-loses = go (eqb to audit_mode)
    where
      go : (a : Bool) → false ≡ any removes (cond a (put (mode_value audit_mode) ∷ []) [])
      go true = refl
      go false = refl

  pub setup-another : not (eqb to audit_mode) ≡ rule24 (transition mode.Setup to)
  unfolding rule24
  setup-another = go (eqb to audit_mode)
    where
      go : (a : Bool) → not a ≡ rule24 (cond a (put (mode_value audit_mode) ∷ []) [])
      go true = refl
      go false = refl

  pub user-another : (a : Bool) → eqb to audit_mode ≡ a → cond a false (not (eqb to deployed_mode)) ≡ rule24 (transition mode.User to)
  unfolding rule24
  user-another a e = rw e (go a (eqb to deployed_mode))
    where
      go : (a d : Bool) → cond a false (not d) ≡ rule24 (from_user a d)
      go true d = refl
      go false true = refl
      go false false = refl

-- PlatMode is ours
pub mode-foreign : (guid : List ℕ) (m : Bool) → rule22 guid m key_mode ≡ m
unfolding rule22 owns
mode-foreign guid true = owns-mode guid
mode-foreign guid false = ap not (owns-mode guid)

-- ---- its changes

-- what a request that is no other transition changes, and what is lost of PK: the mode alone, or in user mode PK first
module _ (P : List Change → Found → Type 0) (pk : Found) (to : ℕ) (alone : P (put (mode_value (byte_of to)) ∷ []) None) where
  ways : (m : PlatMode) → (m ≡ mode.User → P (remove key_pk ∷ put (mode_value (byte_of to)) ∷ []) pk) → rule24 (transition m to) ≡ false → P (transition m to) (lost_by pk m to)
  unfolding rule24 byte_of lost_by
  ways mode.Setup both h = go (eqb to audit_mode) alone h
    where
      go : (a : Bool) → P (put (mode_value (cond a audit_mode deployed_mode)) ∷ []) None → rule24 (cond a (put (mode_value audit_mode) ∷ []) []) ≡ false
          → P (cond a (put (mode_value audit_mode) ∷ []) []) (cond (any removes (cond a (put (mode_value audit_mode) ∷ []) [])) pk None)
      go true one h = one
      go false one h = absurd (true≢false h)
  ways mode.Audit both h = absurd (true≢false h)
  ways mode.User both h = go (eqb to audit_mode) (eqb to deployed_mode) alone (both refl) h
    where
      go : (a d : Bool) → P (put (mode_value (cond a audit_mode deployed_mode)) ∷ []) None → P (remove key_pk ∷ put (mode_value (cond a audit_mode deployed_mode)) ∷ []) pk
          → rule24 (from_user a d) ≡ false → P (from_user a d) (cond (any removes (from_user a d)) pk None)
      go true d one two h = two
      go false true one two h = one
      go false false one two h = absurd (true≢false h)
  ways mode.Deployed both h = absurd (true≢false h)

-- PlatMode's value is no error record, and its entry takes 80 bytes
mode-plain : (n : ℕ) → plain (mode_value n)
unfolding mode_value
mode-plain n = refl

mode-size : (n : ℕ) → entry_size_def (mode_value n) ≡ 80
unfolding mode_value key_mode
mode-size n = refl

one_plain : (n : ℕ) → EachPut plain (put (mode_value n) ∷ [])
one_plain n = (λ v e. let same : mode_value n ≡ v = cc in rw (← same) (mode-plain n), tt)

both-plain : (n : ℕ) → EachPut plain (remove key_pk ∷ put (mode_value n) ∷ [])
both-plain n = (λ v e. let z : ◌≡◌ {A = ℕ} 0 1 = cc in absurd (omega arith), one_plain n)

mode-named : (n : ℕ) → key_of (mode_value n) ≡ key_mode
unfolding mode_value key_mode
mode-named n = refl

one_size : (n : ℕ) → 80 ≡ comes_sizes (put (mode_value n) ∷ [])
unfolding comes_sizes comes_size
one_size n = omega (arith, mode-size n)

both-size : (n : ℕ) → 80 ≡ comes_sizes (remove key_pk ∷ put (mode_value n) ∷ [])
unfolding comes_sizes comes_size
both-size n = omega (arith, mode-size n)

module _ (r : List ℕ) (sounds : sound r ≡ true) (t : Terms) (barred : Key → Bool) (to : ℕ) where
  abbrev vs : List Value
  vs = values (entries r)

  abbrev gone : Found
  gone = lost_by (found_pk r) (mode_by_def r) to

  -- in user mode PK stands
  user-stands : (n : ℕ) → mode_by_def r ≡ mode.User → transition_by (offset_of (found_pk r)) n ≡ remove key_pk ∷ put (mode_value n) ∷ []
  unfolding mode_by_def transition_by
  user-stands n = go (found_pk r)
    where
      go : (f : Found)
          → cond (stands f) (cond (stores_by r deployed_mode (found_mode r)) mode.Deployed mode.User) (cond (stores_by r audit_mode (found_mode r)) mode.Audit mode.Setup) ≡ mode.User
          → transition_by (offset_of f) n ≡ remove key_pk ∷ put (mode_value n) ∷ []
      go (Some p) u = refl
      go None u = other (stores_by r audit_mode (found_mode r)) u
        where
          other : (b : Bool) → cond b mode.Audit mode.Setup ≡ mode.User → transition_by None n ≡ remove key_pk ∷ put (mode_value n) ∷ []
          other true u = let z : ◌≡◌ {A = ℕ} 0 1 = cc in absurd (omega arith)
          other false u = let z : ◌≡◌ {A = ℕ} 0 1 = cc in absurd (omega arith)

  its-changes : transition (mode_by_def r) to ≡ mode_changes to vs
  unfolding mode_changes
  its-changes = ap (λ (m : PlatMode). transition m to) (mode-found r sounds)

  -- the first broken of 22, 6 and 24 is the answer
  pub transition-broken : (rule : Rule) → first_broken (transition_rules t barred (transition (mode_by_def r) to)) ≡ some rule → transition_of t barred to (length r) vs ≡ Err rule
  unfolding transition_of
  transition-broken rule h =
      rw (broken-append (transition_rules t barred (mode_changes to vs)) ((Room, rule13 t (length r) (mode_changes to vs) vs) ∷ []))
      (rw (ap (λ (cs : List Change). first_broken (transition_rules t barred cs)) (sym its-changes) ∙ h))

  module _ (kept : first_broken (transition_rules t barred (transition (mode_by_def r) to)) ≡ none) where
    ours : t.modem ≡ false
    unfolding transition_rules
    ours = sym (mode-foreign t.vendor t.modem) ∙ unbroken _ 22 kept

    known : rule24 (transition (mode_by_def r) to) ≡ false
    unfolding transition_rules
    known = unbroken _ 24 kept

    abbrev n : ℕ
    n = byte_of to

    pub gone-counts : taken_by r gone + taken_by r (found_mode r) ≤ side_sizes t.vendor t.modem vs + 80
    gone-counts =
        ways (λ (cs : List Change) (g : Found). taken_by r g + taken_by r (found_mode r) ≤ side_sizes t.vendor t.modem vs + 80) (found_pk r) to
        (omega (arith, alone-counts t r sounds ours (found_mode r) refl (put (mode_value n)) (mode-named n) refl (one_plain n), one_size n))
        (mode_by_def r) (λ u. omega (arith, joint-counts t r sounds ours (found_pk r) (found_mode r) refl refl)) known

    transition-thirteen : first_broken (room_by t (length r) false (folded_sums t r (taken_by r gone + taken_by r (found_mode r)) 80))
        ≡ first_broken ((Room, rule13 t (length r) (transition (mode_by_def r) to) vs) ∷ [])
    transition-thirteen =
        ways
        (λ (cs : List Change) (g : Found). first_broken (room_by t (length r) false (folded_sums t r (taken_by r g + taken_by r (found_mode r)) 80))
        ≡ first_broken ((Room, rule13 t (length r) cs vs) ∷ []))
        (found_pk r) to
        (alone-thirteen t r sounds ours (found_mode r) refl (put (mode_value n)) (mode-named n) refl (one_plain n) refl 80 (one_size n))
        (mode_by_def r)
        (λ u. joint-thirteen t r sounds ours (found_pk r) (found_mode r) refl refl (remove key_pk) (put (mode_value n)) refl (mode-named n) refl refl (both-plain n) refl 80 (both-size n))
        known

    pub transition-kept : transition_of t barred to (length r) vs
        ≡ decided (first_broken (room_by t (length r) false (folded_sums t r (taken_by r gone + taken_by r (found_mode r)) 80))) (Ok Put)
    unfolding transition_of
    transition-kept =
        ap (λ (o : Option Rule). decided o (Ok Put))
        (ap (λ (cs : List Change). first_broken (transition_rules t barred cs ++ ((Room, rule13 t (length r) cs vs) ∷ []))) (sym its-changes)
        ∙ broken-append (transition_rules t barred (transition (mode_by_def r) to)) ((Room, rule13 t (length r) (transition (mode_by_def r) to) vs) ∷ [])
        ∙ ap (λ (o : Option Rule). or_else o (first_broken ((Room, rule13 t (length r) (transition (mode_by_def r) to) vs) ∷ []))) kept
        ∙ sym transition-thirteen)

    -- by numbers
    transition-numbers : transition_by (offset_of gone) n ≡ mode_changes to vs
    unfolding transition_by
    transition-numbers =
        ways (λ (cs : List Change) (g : Found). transition_by (offset_of g) n ≡ cs) (found_pk r) to refl (mode_by_def r) (user-stands n) known
        ∙ its-changes

  -- a request that is carried out breaks none of the three
  pub transition-changes : transition_of t barred to (length r) vs ≡ Ok Put → transition_by (offset_of gone) (byte_of to) ≡ mode_changes to vs
  transition-changes h = go (first_broken (transition_rules t barred (transition (mode_by_def r) to))) refl
    where
      go : (o : Option Rule) → first_broken (transition_rules t barred (transition (mode_by_def r) to)) ≡ o → transition_by (offset_of gone) (byte_of to) ≡ mode_changes to vs
      go none e = transition-numbers e
      go (some rule) e = let b = transition-broken rule e in let z : ◌≡◌ {A = ℕ} 0 1 = cc in absurd (omega arith)

  -- the offset of PK's entry, where it goes
  pub gone-offset : (at : ℕ) → offset_of gone ≡ Some at → offset_of (found_pk r) ≡ Some at
  unfolding lost_by
  gone-offset at = go (any removes (transition (mode_by_def r) to))
    where
      go : (b : Bool) → offset_of (cond b (found_pk r) None) ≡ Some at → offset_of (found_pk r) ≡ Some at
      go true n = n
      go false n = let z : ◌≡◌ {A = ℕ} 0 1 = cc in absurd (omega arith)
