-- What a lock comes to, by the tests in their order: the name, whose it is, the phase, whether the name is listed, whether its side finds a place.
-- Assumes nothing.
use Prim.Native.Nat.{ℕ, ◌≤◌, ◌<◌}
use mathlib.Core.Path.{◌≡◌, refl, ap}
use mathlib.Core.Bool.{Bool, true, false, not, cond, ◌&&◌, and-false, true≢false}
use mathlib.Core.List.{List}
use mathlib.Core.Option.{Option, some, none}
use Rattle.std.specs.Prelude.{Result, Ok, Err}
use lib.ListN.{length}
use lib.Dec.{eqb, leb}
use borrow.Author.Tests.{leb-true, not-false}
use Rattle.model.specs.declared.Session.{Session}
use Rattle.model.specs.declared.Rule.{Rule}
use Rattle.model.specs.declared.Rule.TheVariants.{Name, Side, LockPhase, LockSpace}
use Rattle.model.specs.Name.{Key, well_named, zero_ended}
use Rattle.model.specs.Lists.{on_some}
use Rattle.model.specs.Session.{counted_phase, in_boot_def, with_lock_def, locked_session}
use Rattle.model.specs.Rules.{first_broken, rule3, rule15, rule16, rule22, lock_broken}
use Rattle.model.specs.Sides.{owns}
use Rattle.session.specs.Places.{held_from, full}
use Rattle.session.specs.Said.{lock_broken_by, lock_judged}
use Rattle.session.proofs.Places.{locked-held, locks-counted, place-free}
use Rattle.model.specs.Answers.{done, refused, rule_number, lock_outcome, lock_session}
use Rattle.model.specs.Beside.{one_more_lock}
use Rattle.model.proofs.Tests.{and_split}
use Rattle.model.proofs.Requests.{unbroken}
use Rattle.model.proofs.Locks.{lock-fits}

-- a well-formed name fits a place
pub named-fits : (name : List ℕ) → well_named name ≡ true → length name ≤ 128
unfolding well_named
named-fits name h =
    leb-true (length name) 128 (and_split (leb 4 (length name)) (leb (length name) 128) (and_split (leb 4 (length name) && leb (length name) 128) (zero_ended name) h).0).1

-- what a lock comes to, by its parts
module _ (m : Bool) (phase used : ℕ) (sizes locks guid : List ℕ) (k : Key) where
  abbrev pub judged : Result Bool Rule
  judged = lock_judged m phase used sizes locks guid k

  refuses : (rule : Rule) → lock_broken_by m phase used sizes locks guid k ≡ some rule → Err rule ≡ judged
  unfolding lock_judged
  refuses rule h = rw h

  accepts : (held : Bool) → held_from sizes locks used k 0 ≡ held → lock_broken_by m phase used sizes locks guid k ≡ none → Ok (not held) ≡ judged
  unfolding lock_judged
  accepts held l h = rw (h, l)

  pub wrong_name : well_named k.name ≡ false → Err Name ≡ judged
  unfolding lock_broken_by first_broken rule3
  wrong_name n = refuses Name (rw n)

  module _ (n : well_named k.name ≡ true) where
    pub wrong-side : owns guid m k ≡ false → Err Side ≡ judged
    unfolding lock_broken_by first_broken rule3 rule22
    wrong-side o = refuses Side (rw (n, o))

    module _ (o : owns guid m k ≡ true) where
      pub wrong-phase : eqb (counted_phase phase) 0 ≡ false → Err LockPhase ≡ judged
      unfolding lock_broken_by first_broken rule3 rule22
      wrong-phase b = refuses LockPhase (rw (n, o, b))

      module _ (b : eqb (counted_phase phase) 0 ≡ true) where
        pub already : held_from sizes locks used k 0 ≡ true → Ok false ≡ judged
        unfolding lock_broken_by first_broken rule3 rule22
        already l = accepts true l (rw (n, o, b, l, and-false (full guid m sizes locks used)))

        module _ (l : held_from sizes locks used k 0 ≡ false) where
          pub no-space : full guid m sizes locks used ≡ true → Err LockSpace ≡ judged
          unfolding lock_broken_by first_broken rule3 rule22
          no-space h = refuses LockSpace (rw (n, o, b, l, h))

          pub one_more : full guid m sizes locks used ≡ false → Ok true ≡ judged
          unfolding lock_broken_by first_broken rule3 rule22
          one_more h = accepts false l (rw (n, o, b, l, h))

  -- a name that enters breaks no rule and is not listed; so it fits, and a place is free
  unlisted : Ok true ≡ judged → (lock_broken_by m phase used sizes locks guid k ≡ none) × (held_from sizes locks used k 0 ≡ false)
  unfolding lock_judged
  unlisted h = go (lock_broken_by m phase used sizes locks guid k) (held_from sizes locks used k 0) h
    where
      go : (r : Option Rule) (held : Bool) → Ok true ≡ on_some r (λ rule. Err rule) (Ok (not held)) → (r ≡ none) × (held ≡ false)
      go (some rule) held e = absurd (cc)
      go none true e = absurd (cc)
      go none false e = (refl, refl)

  pub enters-free : Ok true ≡ judged → (length k.name ≤ 128) × (used < 16)
  unfolding lock_broken_by rule3
  enters-free h =
      let kept = (unlisted h).0 in
      let n : not (well_named k.name) ≡ false = unbroken _ 3 kept in
      let f : (full guid m sizes locks used && not (held_from sizes locks used k 0)) ≡ false = unbroken _ 16 kept in
      (named-fits k.name (not-false (well_named k.name) n), place-free guid m sizes locks used (go (full guid m sizes locks used) (held_from sizes locks used k 0) (unlisted h).1 f))
    where
      go : (a held : Bool) → held ≡ false → (a && not held) ≡ false → a ≡ false
      go true true l e = absurd (true≢false l)
      go true false l e = absurd (true≢false e)
      go false held l e = refl

-- it is what the lock comes to in a session
module _ (m : Bool) (s : Session) (k : Key) where
  broken-by : lock_broken_by m s.phase s.count s.sizes s.locks s.setup.modem.vendor k ≡ lock_broken m s k
  unfolding lock_broken lock_broken_by rule15 in_boot_def rule16 full
  broken-by = rw (locks-counted m s, locked-held s k)

  abbrev here : Result Bool Rule
  here = judged m s.phase s.count s.sizes s.locks s.setup.modem.vendor k

  pub refused-by : (rule : Rule) → Err rule ≡ here → (refused (rule_number rule) ≡ lock_outcome m s k) × (s ≡ lock_session m s k)
  unfolding lock_judged lock_outcome lock_session locked_session
  refused-by rule h =
      rw (← broken-by, locked-held s k) (go (lock_broken_by m s.phase s.count s.sizes s.locks s.setup.modem.vendor k) (held_from s.sizes s.locks s.count k 0) h)
    where
      go : (r : Option Rule) (held : Bool) → Err rule ≡ on_some r (λ q. Err q) (Ok (not held))
          → (refused (rule_number rule) ≡ on_some r (λ q. refused (rule_number q)) (done 0)) × (s ≡ on_some r (λ q. s) (cond held s (with_lock_def s k)))
      go (some q) held e = let same : rule ≡ q = cc in (ap (λ (q : Rule). refused (rule_number q)) same, refl)
      go none held e = absurd (cc)

  pub done-by : (enters : Bool) → Ok enters ≡ here → (done 0 ≡ lock_outcome m s k) × (cond enters (one_more_lock s k) s ≡ lock_session m s k)
  unfolding lock_judged lock_outcome lock_session locked_session
  done-by true h =
      let u = unlisted m s.phase s.count s.sizes s.locks s.setup.modem.vendor k h in
      let f = enters-free m s.phase s.count s.sizes s.locks s.setup.modem.vendor k h in
      rw (← broken-by, u.0, locked-held s k, u.1) (refl, lock-fits s k f.1 f.0)
  done-by false h =
      rw (← broken-by, locked-held s k) (go (lock_broken_by m s.phase s.count s.sizes s.locks s.setup.modem.vendor k) (held_from s.sizes s.locks s.count k 0) h)
    where
      go : (r : Option Rule) (held : Bool) → Ok false ≡ on_some r (λ q. Err q) (Ok (not held))
          → (done 0 ≡ on_some r (λ q. refused (rule_number q)) (done 0)) × (s ≡ on_some r (λ q. s) (cond held s (with_lock_def s k)))
      go (some q) held e = absurd (cc)
      go none true e = (refl, refl)
      go none false e = absurd (cc)
