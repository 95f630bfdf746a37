-- What a session says to a call, by its parts.
use Rattle.std.specs.Prelude.{ℕ, Bool, false, not, cond, ◌&&◌, List, [], ◌∷◌, eqb, Result, Ok, Err}
use Rattle.std.proofs.Math.Option.{Option}
use Rattle.model.specs.declared.Tenant.{Tenant}
use Rattle.model.specs.declared.Terms.{Terms}
use Rattle.model.specs.declared.View.{View}
use Rattle.model.specs.declared.Rule.{Rule}
use Rattle.model.specs.declared.Rule.TheVariants.{Name, Side, LockPhase, LockSpace}
use Rattle.model.specs.Lists.{on_some}
use Rattle.model.specs.Name.{Key}
use Rattle.model.specs.Session.{counted_phase, counted_reserve, is_yes}
use Rattle.model.specs.Rules.{first_broken, rule3, rule22}
use Rattle.session.specs.Places.{held_from, full}

-- rule 6, by the phase and the lock list: how many places are in use, the sizes of their names, and their bytes
unfoldable pub barred_by : ℕ → ℕ → List ℕ → List ℕ → Key → Bool
barred_by phase used sizes locks k = held_from sizes locks used k 0 && not (eqb (counted_phase phase) 0)

-- to a call of a side that names no name, by the phase, custom mode, our R, H, our share, what is the modem's, and the number of rules
unfoldable pub terms_by : Bool → ℕ → ℕ → ℕ → ℕ → ℕ → Tenant → ℕ → Terms
terms_by modem phase custom reserve records share tenant rules = record {
  runtime = eqb (counted_phase phase) 2;
  foreign = false;
  barred = false;
  custom = is_yes custom;
  reserve = cond (eqb (counted_phase phase) 2) (counted_reserve (cond modem tenant.reserve reserve)) 0;
  share = cond modem tenant.share share;
  records = records;
  rules = rules;
  modem = modem;
  vendor = tenant.vendor;
}

-- to a set of a name, by that and whether a lock bars the name
unfoldable pub terms_with : Terms → Bool → Key → Terms
terms_with t barred k = record {
  runtime = t.runtime;
  foreign = rule22 t.vendor t.modem k;
  barred = barred;
  custom = t.custom;
  reserve = t.reserve;
  share = t.share;
  records = t.records;
  rules = t.rules;
  modem = t.modem;
  vendor = t.vendor;
}

-- to a side's get and next-name, by the phase and the modem's GUID
unfoldable pub view_by : Bool → ℕ → List ℕ → View
view_by modem phase vendor = record { runtime = eqb (counted_phase phase) 2; modem = modem; vendor = vendor }

-- to a side's lock, by the phase, the lock list and the modem's GUID: the first rule that it breaks
unfoldable pub lock_broken_by : Bool → ℕ → ℕ → List ℕ → List ℕ → List ℕ → Key → Option Rule
lock_broken_by modem phase used sizes locks guid k =
    first_broken
    ((Name, rule3 k)
    ∷ (Side, rule22 guid modem k)
    ∷ (LockPhase, not (eqb (counted_phase phase) 0))
    ∷ (LockSpace, full guid modem sizes locks used && not (held_from sizes locks used k 0))
    ∷ [])

-- what it comes to: that rule, or whether the name enters the list
unfoldable pub lock_judged : Bool → ℕ → ℕ → List ℕ → List ℕ → List ℕ → Key → Result Bool Rule
lock_judged modem phase used sizes locks guid k =
    on_some (lock_broken_by modem phase used sizes locks guid k) (λ rule. Err rule) (Ok (not (held_from sizes locks used k 0)))
