-- 01's cases: with our share L less 28 and the rest 0, and no values but ours, 13 is 01's, 18 is not met, and a start-up finds no side above its share.
-- Assumes nothing.
use Prim.Native.Nat.{ℕ, ◌+◌, ◌≤◌}
use native.Mathlib.Omega.{arith}
use mathlib.Core.Path.{◌≡◌, refl}
use mathlib.Core.Bool.{Bool, true, false, not, ◌&&◌, ◌||◌}
use mathlib.Core.List.{List, [], ◌∷◌}
use lib.Dec.{ltb}
use borrow.Author.Tests.{ltb-true, ltb-false, not-true}
use Rattle.model.specs.declared.Setup.{Setup}
use Rattle.model.specs.declared.Session.{Session}
use Rattle.model.specs.Lists.{all, any}
use Rattle.model.specs.Entry.{Value, key_of}
use Rattle.model.specs.Session.{share_of, reserved}
use Rattle.model.specs.Change.{Change, nothing, remove, put, steps, entry_sizes, entry_sizes_in, space_of, space_in, is_error_record_def, record_sizes, other_sizes}
use Rattle.model.specs.Sides.{modem_name, owns, view, side_sizes, allotted}
use Rattle.model.specs.Rules.{puts, rule13, rule18, terms_if}
use Rattle.model.proofs.Tests.{and_split, or_split}
use Rattle.recovery.specs.Tenants.{OursAlone, all_ours, rule13_alone, AsIn01}
use Rattle.recovery.proofs.Shares.{within-is, split}

-- such values are all in our sum
ours-sum : (u : Setup) (vs : List Value) → all_ours u vs ≡ true → (side_sizes u.modem.vendor true vs ≡ 0) × (record_sizes vs ≡ 0)
unfolding side_sizes other_sizes record_sizes view owns entry_sizes_in
ours-sum u [] h = (refl, refl)
ours-sum u (v ∷ vs) h =
    let p = and_split (not (modem_name u.modem.vendor (key_of v)) && not (is_error_record_def v)) (all_ours u vs) h in
    let q = and_split (not (modem_name u.modem.vendor (key_of v))) (not (is_error_record_def v)) p.0 in
    let i = ours-sum u vs p.1 in
    let m : modem_name u.modem.vendor (key_of v) ≡ false = not-true (modem_name u.modem.vendor (key_of v)) q.0 in
    let e : is_error_record_def v ≡ false = not-true (is_error_record_def v) q.1 in
    (simp (m, e) i.0, simp (m, e) i.1)

-- where no error record is put, every value that is put is another
all_others : (cs : List Change) → any (puts is_error_record_def) cs ≡ false → any (puts (λ v. not (is_error_record_def v))) cs ≡ any (puts (λ v. true)) cs
all_others [] h = refl
all_others (nothing ∷ cs) h = all_others cs h
all_others (remove k ∷ cs) h = all_others cs h
all_others (put v ∷ cs) h = let p = or_split (is_error_record_def v) (any (puts is_error_record_def) cs) h in rw p.0

module _ (s : Session) (size : ℕ) (a : OursAlone s.setup size) where
  abbrev u : Setup
  u = s.setup

  -- one sum against our share, or all against L
  one-sum : (sum reserve share all : ℕ) → share + 28 ≡ size → all ≡ 28 + sum → (ltb share (sum + reserve) || ltb size all) ≡ ltb size (all + reserve)
  one-sum sum reserve share all e f = go (ltb size (all + reserve)) refl (ltb share (sum + reserve)) refl (ltb size all) refl
    where
      go : (x : Bool) → ltb size (all + reserve) ≡ x → (y : Bool) → ltb share (sum + reserve) ≡ y → (z : Bool) → ltb size all ≡ z → (y || z) ≡ x
      go true p true q z r = refl
      go true p false q true r = refl
      go true p false q false r = let m = ltb-true size (all + reserve) p in let n = ltb-false share (sum + reserve) q in absurd (omega arith)
      go false p true q z r = let m = ltb-false size (all + reserve) p in let n = ltb-true share (sum + reserve) q in absurd (omega arith)
      go false p false q true r = let m = ltb-false size (all + reserve) p in let n = ltb-true size all r in absurd (omega arith)
      go false p false q false r = refl

  -- what is said of the name has no part in it
  module _ (foreign barred : Bool) (cs : List Change) (vs : List Value) (few : any (puts is_error_record_def) cs ≡ false) (h : all_ours u (steps cs vs) ≡ true) where
    room-alone : rule13 (terms_if false s foreign barred) size cs vs ≡ rule13_alone s size cs vs
    unfolding rule13 space_in
    room-alone =
        let g = u.modem.vendor in
        let after = steps cs vs in
        let z = ours-sum u after h in
        let all : entry_sizes after ≡ side_sizes g false after + side_sizes g true after + record_sizes after = split g after in
        let m = z.0 in
        let r = z.1 in
        let sum : 28 + entry_sizes after ≡ 28 + side_sizes g false after = omega arith in
        go (any (puts (λ v. true)) cs) (ltb u.share (side_sizes g false after + reserved false s)) (ltb size (28 + entry_sizes after)) (all_others cs few)
        (one-sum (side_sizes g false after) (reserved false s) u.share (28 + entry_sizes after) a.ours sum)
      where
        go : {o z : Bool} (n x y : Bool) → o ≡ n → (x || y) ≡ z → ((o && x) || (n && y)) ≡ (n && z)
        go true x y e f = rw e f
        go false x y e f = rw e

    records-alone : rule18 (terms_if false s foreign barred) cs vs ≡ false
    unfolding rule18
    records-alone = rw few

  allotted-alone : (vs : List Value) → all_ours u vs ≡ true → space_of vs ≤ size → allotted u size vs ≡ true
  unfolding space_in
  allotted-alone vs h fits =
      let g = u.modem.vendor in
      let z = ours-sum u vs h in
      let all = split g vs in
      let o = a.ours in
      let m = a.modems in
      let r = a.records in
      let y = z.0 in
      let x = z.1 in
      within-is u size vs (record { fit = omega arith; side = sides (omega arith) (omega arith); records = omega arith })
    where
      sides : side_sizes u.modem.vendor false vs ≤ u.share → side_sizes u.modem.vendor true vs ≤ u.modem.share
          → (m : Bool) → side_sizes u.modem.vendor m vs ≤ share_of m u
      sides p q true = q
      sides p q false = p

pub as-in-01 : AsIn01
as-in-01 s size a =
    (λ foreign barred cs vs few h. (room-alone s size a foreign barred cs vs few h, records-alone s size a foreign barred cs vs few h), allotted-alone s size a)
