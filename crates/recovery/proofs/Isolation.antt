-- Two worlds of one start-up that a side cannot tell apart: the same phase, its own names locked alike, the same values seen. A call of the side is told the same in both and leaves them
-- so; a call of the other side leaves either so with what it was. Hence what a side is told and sees does not depend on what the other asks.
-- Assumes nothing.
use Prim.Native.Nat.{ℕ, ◌+◌, ◌≤◌, ◌<◌, min}
use native.Mathlib.Omega.{arith}
use mathlib.Core.Path.{◌≡◌, refl, sym, ap, ap₂, ◌∙◌, subst}
use mathlib.Core.Logic.{◌≢◌}
use mathlib.Core.Bool.{Bool, true, false, not, cond, ◌&&◌, ◌||◌, or-false, true≢false, false≢true}
use mathlib.Core.List.{List, [], ◌∷◌, ◌++◌}
use mathlib.Core.Option.{Option, none, some}
use lib.ListN.{length}
use lib.Dec.{eqb, leb, ltb}
use borrow.Author.Tests.{leb-true, leb-false, lt-leb, not-true, not-false}
use Rattle.model.specs.declared.Setup.{Setup}
use Rattle.model.specs.declared.Session.{Session}
use Rattle.model.specs.declared.Terms.{Terms}
use Rattle.model.specs.declared.Context.{Context}
use Rattle.model.specs.declared.Rule.{Rule}
use Rattle.model.specs.declared.Rule.TheVariants.{Name, Side, Absent, Buffer, LockPhase, LockSpace}
use Rattle.model.specs.Lists.{all, keep, on_some}
use Rattle.model.specs.Name.{Key, same_key_def, zero_ended, well_named}
use Rattle.model.specs.Image.{region_size, region}
use Rattle.model.specs.Entry.{Value, key_of}
use Rattle.model.specs.Region.{values_of, entries, tail_at, find}
use Rattle.model.specs.Compact.{compact_to, compact_on}
use Rattle.model.specs.Session.{counted_phase, in_boot_def, at_runtime_def, is_yes, custom_mode, counted_reserve, share_of, reserve_of, reserved, counted_locks, locked, lock_at, with_lock_def, locked_session, with_phase, moved_to_def, kept, fresh_session}
use Rattle.model.specs.Request.{Request, request_key, runtime_access_def, key_mode}
use Rattle.model.specs.Profile.{items_in}
use Rattle.model.specs.Change.{Change, nothing, remove, put, is_nothing, changes_of, mode_changes, changes_in, step, steps}
use Rattle.model.specs.Sides.{owns, view, side_sizes, locks_of_def}
use Rattle.model.specs.Rules.{first_broken, rule3, rule3_next, rule6, rule11_read, rule14, rule15, rule16, rule22, rule22_next, terms_if, terms_of, set_broken, profile_broken, mode_broken, seen, value_to_get, next_of, value_to_name, value_named, got_bytes, named_bytes, get_space, get_broken, gets_broken, next_broken, lock_broken}
use Rattle.model.specs.Stores.{Write, stores, reach}
use Rattle.model.specs.Set.{Plan, refuse, make, fits_tail, put_plan, change_plan, folded_plan, changes_plan, tail_to, tail_on, delete_to}
use Rattle.model.specs.StartUp.{start_up_stores, start_up_plan}
use Rattle.model.specs.Answers.{Outcome, done, stopped, refused, rule_number, ended, dead_of, page_of, outcome, image_after, Reply, Gots, refusal, written, get_reply, gets_reply, next_reply, lock_outcome, lock_session}
use Rattle.model.specs.Book.{Call, Sized, call_broken, Kind, writes, starts_up, kind_of, doing, plan_of, changes_by, entered}
use Rattle.model.specs.Book as book
use Rattle.model.proofs.Tests.{and_split, or_split, key-eq}
use Rattle.model.proofs.Failing.{ended-done}
use Rattle.model.proofs.Values.{keep-twice}
use Rattle.model.proofs.Requests.{unbroken, set_own}
use Rattle.model.proofs.Profiles.{profile-items}
use Rattle.recovery.specs.Tenants.{World, Asked, sets, reads, names, reads-each, profiles, modes, call_of, Event, calls, locks, moves, Fitting, plan_in, leave, answer, Handed, no_more, replied, each, handed, reply, to_its_end, but_stores, Told, told, History, begun, then, is_of, asked, heard, sees, finished_start_up, NoInterference}
use Rattle.recovery.proofs.StartingUp.{Ready, ready_of}
use Rattle.recovery.proofs.EveryCall.{plan-accepted, plan-refused}
use Rattle.recovery.proofs.Done.{call-done, writes-not, reads-not}
use Rattle.recovery.proofs.Claims.{refusals-change-nothing, start_up-leaves-ready, each-alike}
use Rattle.recovery.proofs.Views.{AllAbout, find-view, view-steps, view-steps-other, not-other, all-other}
use Rattle.recovery.proofs.Shares.{Within, KeepsTo, within_of, steps-within}
use Rattle.recovery.proofs.Owned.{item-own}
use Rattle.recovery.proofs.Usable.{set_keeps, profile-keeps, mode-own, mode-keeps}
use Rattle.recovery.proofs.Judging.{Says, image-passed, set_pair, profile-pair, mode-pair, changes-same, modes-same, items-changes}
use Rattle.recovery.proofs.Locking.{Listed, lock-more, locks-more, more-listed, fresh-listed, fresh-none}

-- ---- answers of calls that run to their end

-- what a rule that is broken, or none, comes to
abbrev verdict : Option Rule → Outcome
verdict o = on_some o (λ rule. refused (rule_number rule)) (done 0)

reading-told : (x : Context) (o : Option Rule) (img : List ℕ) → but_stores (outcome x (on_some o refuse (make [] [])) img) ≡ verdict o
unfolding outcome stores reach
reading-told x (some rule) img = refl
reading-told x none img = ap but_stores (ended-done x.limit 0 0 (omega arith) (omega arith))

-- a plan that stores, to its end
end-done : (n reached len : ℕ) → to_its_end (ended n reached len) ≡ true → ended n reached len ≡ done len
end-done n reached len h = go (leb len (min n reached)) refl (ltb reached n) h
  where
    go : (t : Bool) → leb len (min n reached) ≡ t → (u : Bool) → to_its_end (cond t (done len) (cond u (refused 23) stopped)) ≡ true
        → cond (leb len (min n reached)) (done len) (cond (ltb reached n) (refused 23) stopped) ≡ done len
    go true e u h = rw e
    go false e true h = absurd (false≢true h)
    go false e false h = absurd (false≢true h)

record Makes (p : Plan) : Type 0 where
  to : List Write
  on : List Write
  is : p ≡ make to on

made : (to on : List Write) → Makes (make to on)
made to on = record { to = to; on = on; is = refl }

cond-makes : (t : Bool) {p q : Plan} → Makes p → Makes q → Makes (cond t p q)
cond-makes true m n = m
cond-makes false m n = n

change-makes : (img : List ℕ) (c : Change) → Makes (change_plan img c)
unfolding change_plan put_plan
change-makes img nothing = made [] []
change-makes img (remove k) = made (delete_to k (entries (region img))) []
change-makes img (put v) =
    let after = step (put v) (values_of img) in
    cond-makes (fits_tail (region img) v) (made (tail_to (tail_at (region img)) v (entries (region img))) (tail_on v (entries (region img))))
    (made (compact_to img after) (compact_on img after))

folded-makes : (img : List ℕ) (cs : List Change) → Makes (folded_plan img cs)
unfolding folded_plan
folded-makes img cs = let after = steps cs (values_of img) in cond-makes (all is_nothing cs) (made [] []) (made (compact_to img after) (compact_on img after))

changes-makes : (fold : Bool) (img : List ℕ) (cs : List Change) → Makes (changes_plan fold img cs)
changes-makes fold img [] = made [] []
changes-makes fold img (c ∷ []) = cond-makes fold (folded-makes img (c ∷ [])) (change-makes img c)
changes-makes fold img (c ∷ d ∷ cs) = folded-makes img (c ∷ d ∷ cs)

kind-makes : (k : Kind) (img : List ℕ) → Makes (doing k img)
kind-makes book.reads img = made [] []
kind-makes (writes fold changes) img = changes-makes fold img (changes (values_of img))
kind-makes (starts_up setup) img = made [] (start_up_stores img)

record Finishes (x : Context) (p : Plan) (img : List ℕ) : Type 0 where
  count : ℕ
  is : outcome x p img ≡ done count

made-finishes : (x : Context) (p : Plan) (img : List ℕ) → Makes p → to_its_end (outcome x p img) ≡ true → Finishes x p img
unfolding outcome
made-finishes x p img m h =
    let len = length (stores (page_of x) (m.to ++ m.on)) in
    let reached = reach (dead_of x) (stores (page_of x) (m.to ++ m.on)) img in
    let e : outcome x p img ≡ ended x.limit reached len = ap (λ (q : Plan). outcome x q img) m.is in
    record { count = len; is = e ∙ end-done x.limit reached len (ap to_its_end (sym e) ∙ h) }

module _ (x : Context) (c : Call) (img : List ℕ) (ran : to_its_end (outcome x (plan_of c img) img) ≡ true) where
  call-finishes : call_broken c img ≡ none → Finishes x (plan_of c img) img
  call-finishes e =
      let p = doing (kind_of c) img in
      let same : plan_of c img ≡ p = plan-accepted c img e in
      let f = made-finishes x p img (kind-makes (kind_of c) img) (ap (λ (q : Plan). to_its_end (outcome x q img)) (sym same) ∙ ran) in
      record { count = f.count; is = ap (λ (q : Plan). outcome x q img) same ∙ f.is }

  call-refused : (rule : Rule) → call_broken c img ≡ some rule → outcome x (plan_of c img) img ≡ refused (rule_number rule)
  unfolding outcome
  call-refused rule e = ap (λ (q : Plan). outcome x q img) (plan-refused c img rule e)

  call-told : but_stores (outcome x (plan_of c img) img) ≡ verdict (call_broken c img)
  call-told = go (call_broken c img) refl
    where
      go : (o : Option Rule) → call_broken c img ≡ o → but_stores (outcome x (plan_of c img) img) ≡ verdict (call_broken c img)
      go (some rule) e = ap but_stores (call-refused rule e) ∙ ap verdict (sym e)
      go none e = ap but_stores (call-finishes e).is ∙ ap verdict (sym e)

  call_stays : (rule : Rule) → call_broken c img ≡ some rule → image_after x (plan_of c img) img ≡ img
  call_stays rule e =
      refusals-change-nothing x (plan_of c img) img (rule_number rule) (call-refused rule e)
      (λ worn. false≢true (ap not (sym (ap (λ (n : ℕ). eqb n 23) worn)) ∙ ap to_its_end (sym (call-refused rule e)) ∙ ran))

-- ---- what a side's call changes

abbrev pub changes_asked : Bool → Session → Asked → List Value → List Change
changes_asked m s a vs = changes_by (kind_of (call_of m s a)) vs

pub entered-asked : (m : Bool) (s : Session) (a : Asked) (vs : List Value) → entered (call_of m s a) vs ≡ steps (changes_asked m s a vs) vs
unfolding entered
entered-asked m s a vs = refl

pub no_start : (m : Bool) (s : Session) (a : Asked) (u : Setup) → kind_of (call_of m s a) ≢ starts_up u
no_start m s (sets r) u = writes-not false (changes_of r) u
no_start m s (reads k buffer) u = reads-not u
no_start m s (names k buffer) u = reads-not u
no_start m s (reads-each ks buffer) u = reads-not u
no_start m s (profiles file) u = writes-not true (changes_in (items_in file)) u
no_start m s (modes to) u = writes-not false (mode_changes to) u

-- it keeps to the shares
no-changes : (u : Setup) (m : Bool) (vs : List Value) → KeepsTo u m [] vs
no-changes u m vs = record { own = tt; few = λ e. absurd (false≢true e); room = λ e. absurd (false≢true e) }

pub asked-keeps : (m : Bool) (s : Session) (a : Asked) (img : List ℕ) → Sized (call_of m s a) → call_broken (call_of m s a) img ≡ none → KeepsTo s.setup m (changes_asked m s a (values_of img)) (values_of img)
asked-keeps m s (sets r) img z e = set_keeps m s r img e
asked-keeps m s (reads k buffer) img z e = no-changes s.setup m (values_of img)
asked-keeps m s (names k buffer) img z e = no-changes s.setup m (values_of img)
asked-keeps m s (reads-each ks buffer) img z e = no-changes s.setup m (values_of img)
asked-keeps m s (profiles file) img z e = profile-keeps m s file img e
asked-keeps m s (modes to) img z e = mode-keeps m s to img e

-- ---- a world of a start-up

pub record Good (u : Setup) (w : World) : Type 0 where
  pub given : w.session.setup ≡ u
  pub listed : Listed w.session
  pub counted : w.session.count ≡ locks_of_def false w.session + locks_of_def true w.session
  pub few : (m : Bool) → locks_of_def m w.session ≤ 8
  pub ready : Ready w.image
  pub within : Within w.session.setup (region_size w.image) (values_of w.image)

-- a lock that breaks no rule, of a name not yet listed
record Free (m : Bool) (s : Session) (k : Key) : Type 0 where
  named : well_named k.name ≡ true
  short : length k.name ≤ 128
  own : owns s.setup.modem.vendor m k ≡ true
  place : s.count < 16
  fewer : locks_of_def m s < 8

lock-free : (m : Bool) (s : Session) (k : Key) → lock_broken m s k ≡ none → locked s k ≡ false → Free m s k
unfolding lock_broken rule3 rule16 rule22 well_named
lock-free m s k accepted out =
    let n : not (well_named k.name) ≡ false = unbroken _ 3 accepted in
    let o : not (owns s.setup.modem.vendor m k) ≡ false = unbroken _ 22 accepted in
    let p : ((leb 8 (locks_of_def m s) || leb 16 (counted_locks s)) && not (locked s k)) ≡ false = unbroken _ 16 accepted in
    let named = not-false (well_named k.name) n in
    let f : (leb 8 (locks_of_def m s) || leb 16 (counted_locks s)) ≡ false = both (leb 8 (locks_of_def m s) || leb 16 (counted_locks s)) (rw out at p) in
    let q = or_split (leb 8 (locks_of_def m s)) (leb 16 (counted_locks s)) f in
    let c = leb-false 16 (counted_locks s) q.1 in
    let l = and_split (leb 4 (length k.name) && leb (length k.name) 128) (zero_ended k.name) named in
    record {
      named = named;
      short = leb-true (length k.name) 128 (and_split (leb 4 (length k.name)) (leb (length k.name) 128) l.0).1;
      own = not-false (owns s.setup.modem.vendor m k) o;
      place = omega arith;
      fewer = leb-false 8 (locks_of_def m s) q.0;
    }
  where
    both : (b : Bool) → (b && true) ≡ false → b ≡ false
    both true h = h
    both false h = refl

-- a side's count after a lock of it, and the other's
count-own : (s : Session) (k : Key) (m : Bool) → owns s.setup.modem.vendor m k ≡ true → (n : Bool) → n ≡ m → ◌≡◌ {A = ℕ} (cond (owns s.setup.modem.vendor n k) 1 0) 1
count-own s k m own n e = rw (e, own)

count-other : (s : Session) (k : Key) (m : Bool) → owns s.setup.modem.vendor m k ≡ true → (n : Bool) → n ≡ not m → ◌≡◌ {A = ℕ} (cond (owns s.setup.modem.vendor n k) 1 0) 0
count-other s k m own n e = rw (e, not-other s.setup.modem.vendor m k own)

module _ (m : Bool) (s : Session) (k : Key) (guid : length k.vendor ≡ 16) (h : Listed s) (f : Free m s k) where
  own-more : locks_of_def m (with_lock_def s k) ≡ locks_of_def m s + 1
  own-more = locks-more s k h f.place f.short guid m f.named ∙ ap (λ (n : ℕ). locks_of_def m s + n) (count-own s k m f.own m refl)

  other-same : locks_of_def (not m) (with_lock_def s k) ≡ locks_of_def (not m) s
  other-same =
      let e : locks_of_def (not m) s + 0 ≡ locks_of_def (not m) s = omega arith in
      locks-more s k h f.place f.short guid (not m) f.named ∙ ap (λ (n : ℕ). locks_of_def (not m) s + n) (count-other s k m f.own (not m) refl) ∙ e

  few-after : (n : Bool) → ((n : Bool) → locks_of_def n s ≤ 8) → locks_of_def n (with_lock_def s k) ≤ 8
  few-after n few = go m n refl
    where
      mine : (n : Bool) → n ≡ m → locks_of_def n (with_lock_def s k) ≤ 8
      mine n e = subst (λ (x : Bool). locks_of_def x (with_lock_def s k) ≤ 8) (sym e) (let o = own-more in let l = f.fewer in omega arith)

      other : (n : Bool) → n ≡ not m → locks_of_def n (with_lock_def s k) ≤ 8
      other n e = subst (λ (x : Bool). locks_of_def x (with_lock_def s k) ≤ 8) (sym e) (let o = other-same in let l = few (not m) in omega arith)

      go : (x n : Bool) → m ≡ x → locks_of_def n (with_lock_def s k) ≤ 8
      go true true e = mine true (sym e)
      go true false e = other false (ap not (sym e))
      go false true e = other true (ap not (sym e))
      go false false e = mine false (sym e)

  sum-after : s.count ≡ locks_of_def false s + locks_of_def true s → s.count + 1 ≡ locks_of_def false (with_lock_def s k) + locks_of_def true (with_lock_def s k)
  sum-after c = go m refl own-more other-same
    where
      go : (x : Bool) → m ≡ x → locks_of_def m (with_lock_def s k) ≡ locks_of_def m s + 1 → locks_of_def (not m) (with_lock_def s k) ≡ locks_of_def (not m) s
          → s.count + 1 ≡ locks_of_def false (with_lock_def s k) + locks_of_def true (with_lock_def s k)
      go true e o p =
          let o' : locks_of_def true (with_lock_def s k) ≡ locks_of_def true s + 1 = subst (λ (x : Bool). locks_of_def x (with_lock_def s k) ≡ locks_of_def x s + 1) e o in
          let p' : locks_of_def false (with_lock_def s k) ≡ locks_of_def false s = subst (λ (x : Bool). locks_of_def (not x) (with_lock_def s k) ≡ locks_of_def (not x) s) e p in
          omega arith
      go false e o p =
          let o' : locks_of_def false (with_lock_def s k) ≡ locks_of_def false s + 1 = subst (λ (x : Bool). locks_of_def x (with_lock_def s k) ≡ locks_of_def x s + 1) e o in
          let p' : locks_of_def true (with_lock_def s k) ≡ locks_of_def true s = subst (λ (x : Bool). locks_of_def (not x) (with_lock_def s k) ≡ locks_of_def (not x) s) e p in
          omega arith

lock-refused : (m : Bool) (s : Session) (k : Key) (rule : Rule) → lock_broken m s k ≡ some rule → lock_session m s k ≡ s
unfolding lock_session
lock-refused m s k rule e = rw e

lock-again : (m : Bool) (s : Session) (k : Key) → lock_broken m s k ≡ none → locked s k ≡ true → lock_session m s k ≡ s
unfolding lock_session locked_session
lock-again m s k e l = rw (e, l)

lock_new : (m : Bool) (s : Session) (k : Key) → lock_broken m s k ≡ none → locked s k ≡ false → lock_session m s k ≡ with_lock_def s k
unfolding lock_session locked_session
lock_new m s k e l = rw (e, l)

good_more : (u : Setup) (w : World) → Good u w → (m : Bool) (k : Key) → length k.vendor ≡ 16 → Free m w.session k
    → Good u (record { session = with_lock_def w.session k; image = w.image })
unfolding with_lock_def
good_more u w g m k long f = record {
  given = g.given;
  listed = more-listed w.session k g.listed f.place f.short long;
  counted = sum-after m w.session k long g.listed f g.counted;
  few = λ n. few-after m w.session k long g.listed f n g.few;
  ready = g.ready;
  within = g.within;
}

-- a phase leaves the lock list
phase-locks : (s : Session) (p : ℕ) (m : Bool) → locks_of_def m (with_phase s p) ≡ locks_of_def m s
unfolding locks_of_def lock_at with_phase
phase-locks s p m = refl

phase-locked : (s : Session) (p : ℕ) (k : Key) → locked (with_phase s p) k ≡ locked s k
unfolding locked lock_at with_phase
phase-locked s p k = refl

good-phase : (u : Setup) (w : World) (p : ℕ) → Good u w → Good u (record { session = with_phase w.session p; image = w.image })
unfolding with_phase locks_of_def lock_at
good-phase u w p g = record {
  given = g.given;
  listed = record { sizes-long = g.listed.sizes-long; locks-long = g.listed.locks-long; few = g.listed.few; short = g.listed.short };
  counted = g.counted;
  few = g.few;
  ready = g.ready;
  within = g.within;
}

good-moved : (u : Setup) (w : World) (p : ℕ) → Good u w → Good u (record { session = moved_to_def w.session p; image = w.image })
unfolding moved_to_def
good-moved u w p g = go (leb (counted_phase p) (counted_phase w.session.phase))
  where
    go : (b : Bool) → Good u (record { session = cond b w.session (with_phase w.session (counted_phase p)); image = w.image })
    go true = g
    go false = good-phase u w (counted_phase p) g

-- ---- every event that runs to its end leaves such a world

module _ (u : Setup) (w : World) (g : Good u w) where
  with-session : (s : Session) → w.session ≡ s → Good u (record { session = s; image = w.image })
  with-session s e = subst (λ (q : Session). Good u (record { session = q; image = w.image })) e g

  with-image : (img : List ℕ) → w.image ≡ img → Good u (record { session = w.session; image = img })
  with-image img e = subst (λ (i : List ℕ). Good u (record { session = w.session; image = i })) e g

  good-call : (x : Context) (m : Bool) (a : Asked) → Fitting (calls m a) → to_its_end (outcome x (plan_in m a w) w.image) ≡ true
      → Good u (record { session = w.session; image = image_after x (plan_in m a w) w.image })
  good-call x m a fit ran = go (call_broken c img) refl
    where
      c : Call
      c = call_of m w.session a

      img : List ℕ
      img = w.image

      s : Session
      s = w.session

      go : (o : Option Rule) → call_broken (call_of m w.session a) w.image ≡ o → Good u (record { session = w.session; image = image_after x (plan_in m a w) w.image })
      go (some rule) e = with-image (image_after x (plan_of c img) img) (sym (call_stays x c img ran rule e))
      go none e =
          let f = call-finishes x c img ran e in
          let d = call-done c img x f.count (fit s) (no_start m s a) f.is in
          record {
            given = g.given;
            listed = g.listed;
            counted = g.counted;
            few = g.few;
            ready = ready_of (image_after x (plan_of c img) img) d.0 d.1;
            within = subst (λ (vs : List Value). Within s.setup (region_size (image_after x (plan_of c img) img)) vs) (sym (d.3 ∙ entered-asked m s a (values_of img)))
                (subst (λ (n : ℕ). Within s.setup n (steps (changes_asked m s a (values_of img)) (values_of img))) (sym d.2)
                (steps-within s.setup (region_size img) m (changes_asked m s a (values_of img)) (values_of img) (asked-keeps m s a img (fit s) e) g.within));
          }

  good-lock : (m : Bool) (k : Key) → length k.vendor ≡ 16 → Good u (record { session = lock_session m w.session k; image = w.image })
  good-lock m k long = go (lock_broken m w.session k) refl (locked w.session k) refl
    where
      s : Session
      s = w.session

      go : (o : Option Rule) → lock_broken m w.session k ≡ o → (b : Bool) → locked w.session k ≡ b → Good u (record { session = lock_session m w.session k; image = w.image })
      go (some rule) e b l = with-session (lock_session m s k) (sym (lock-refused m s k rule e))
      go none e true l = with-session (lock_session m s k) (sym (lock-again m s k e l))
      go none e false l = subst (λ (q : Session). Good u (record { session = q; image = w.image })) (sym (lock_new m s k e l)) (good_more u w g m k long (lock-free m s k e l))

  good-leave : (x : Context) (e : Event) → Fitting e → to_its_end (answer x e w) ≡ true → Good u (leave x e w)
  unfolding leave answer
  good-leave x (calls m a) f ran = good-call x m a f ran
  good-leave x (locks m k) f ran = good-lock m k f
  good-leave x (moves p) f ran = good-moved u w p g

-- ---- worlds that a side cannot tell apart

pub record Alike (u : Setup) (modem : Bool) (v w : World) : Type 0 where
  pub phase : v.session.phase ≡ w.session.phase
  pub held : (k : Key) → owns u.modem.vendor modem k ≡ true → locked v.session k ≡ locked w.session k
  pub count : locks_of_def modem v.session ≡ locks_of_def modem w.session
  pub seen : view u.modem.vendor modem (values_of v.image) ≡ view u.modem.vendor modem (values_of w.image)

-- what a session says to a side's call, by its phase and what it was given
abbrev terms_from : Bool → ℕ → Setup → Bool → Bool → Terms
terms_from m phase u foreign barred = record {
  runtime = eqb (counted_phase phase) 2;
  foreign = foreign;
  barred = barred;
  custom = is_yes u.custom;
  reserve = cond (eqb (counted_phase phase) 2) (counted_reserve (reserve_of m u)) 0;
  share = share_of m u;
  records = u.records;
  rules = u.rules;
  modem = m;
  vendor = u.modem.vendor;
}

room-from : (m : Bool) (s : Session) (foreign barred : Bool) → terms_if m s foreign barred ≡ terms_from m s.phase s.setup foreign barred
unfolding at_runtime_def custom_mode reserved
room-from m s foreign barred = refl

-- and to a set, by whether its name is locked
abbrev bars : Bool → ℕ → Bool
bars held phase = held && not (eqb (counted_phase phase) 0)

terms-from : (m : Bool) (s : Session) (k : Key) → terms_of m s k ≡ terms_from m s.phase s.setup (rule22 s.setup.modem.vendor m k) (bars (locked s k) s.phase)
unfolding terms_of rule6 at_runtime_def in_boot_def custom_mode reserved
terms-from m s k = refl

module _ (u : Setup) (modem : Bool) (v w : World) (a : Good u v) (b : Good u w) (l : Alike u modem v w) where
  abbrev g : List ℕ
  g = u.modem.vendor

  one-setup : v.session.setup ≡ w.session.setup
  one-setup = a.given ∙ sym b.given

  -- an own name is so in both
  here : (k : Key) (b : Bool) → owns g modem k ≡ b → owns v.session.setup.modem.vendor modem k ≡ b
  here k b o = ap (λ (q : Setup). owns q.modem.vendor modem k) a.given ∙ o

  there : (k : Key) (x : Bool) → owns g modem k ≡ x → owns w.session.setup.modem.vendor modem k ≡ x
  there k x o = ap (λ (q : Setup). owns q.modem.vendor modem k) b.given ∙ o

  one-phase : (f : ℕ → Bool) → f v.session.phase ≡ f w.session.phase
  one-phase f = ap f l.phase

  pub runtime-alike : at_runtime_def v.session ≡ at_runtime_def w.session
  unfolding at_runtime_def
  runtime-alike = one-phase (λ p. eqb (counted_phase p) 2)

  boot-alike : in_boot_def v.session ≡ in_boot_def w.session
  unfolding in_boot_def
  boot-alike = one-phase (λ p. eqb (counted_phase p) 0)

  terms-alike : (k : Key) → owns g modem k ≡ true → terms_of modem v.session k ≡ terms_of modem w.session k
  terms-alike k o =
      let said : ℕ → Setup → Bool → Terms = λ p q x. terms_from modem p q (rule22 q.modem.vendor modem k) (bars x p) in
      terms-from modem v.session k
      ∙ ap (λ (p : ℕ). said p v.session.setup (locked v.session k)) l.phase
      ∙ ap₂ (λ (q : Setup) (x : Bool). said w.session.phase q x) one-setup (l.held k o)
      ∙ sym (terms-from modem w.session k)

  pub views-alike : view v.session.setup.modem.vendor modem (values_of v.image) ≡ view w.session.setup.modem.vendor modem (values_of w.image)
  views-alike =
      ap (λ (q : Setup). view q.modem.vendor modem (values_of v.image)) a.given
      ∙ l.seen
      ∙ ap (λ (q : Setup). view q.modem.vendor modem (values_of w.image)) (sym b.given)

  pub room-alike : (foreign barred : Bool) → terms_if modem v.session foreign barred ≡ terms_if modem w.session foreign barred
  room-alike foreign barred =
      room-from modem v.session foreign barred
      ∙ ap₂ (λ (p : ℕ) (q : Setup). terms_from modem p q foreign barred) l.phase one-setup
      ∙ sym (room-from modem w.session foreign barred)

  say : Says u modem v.session w.session
  say = record { here = a.given; there = b.given; terms = terms-alike; room = room-alike }

  -- a set, a profile and a mode request break the same rule in both
  set-alike : (r : Request) → length r.vendor ≡ 16 → set_broken modem v.session r v.image ≡ set_broken modem w.session r w.image
  set-alike r long = set_pair u modem v.session w.session say v.image w.image a.ready b.ready a.within b.within l.seen r long

  profile-alike : (file : List ℕ) → profile_broken modem v.session file v.image ≡ profile_broken modem w.session file w.image
  profile-alike file = profile-pair u modem v.session w.session say v.image w.image a.ready b.ready a.within b.within l.seen file

  mode-alike : (to : ℕ) → mode_broken modem v.session to v.image ≡ mode_broken modem w.session to w.image
  mode-alike to = mode-pair u modem v.session w.session say v.image w.image a.ready b.ready a.within b.within l.seen to

  -- and a call makes the same changes, where it is accepted
  changes-alike : (c : Asked) → Sized (call_of modem v.session c) → call_broken (call_of modem v.session c) v.image ≡ none
      → changes_asked modem v.session c (values_of v.image) ≡ changes_asked modem w.session c (values_of w.image)
  changes-alike (sets r) z e = changes-same g modem (values_of v.image) (values_of w.image) l.seen r (named-own r e)
    where
      named-own : (r : Request) → set_broken modem v.session r v.image ≡ none → owns g modem (request_key r) ≡ true
      named-own r e =
          ap (λ (q : Setup). owns q.modem.vendor modem (request_key r)) (sym a.given)
          ∙ item-own modem v.session r (values_of v.image) (set_own modem v.session r v.image e)
  changes-alike (reads k buffer) z e = refl
  changes-alike (names k buffer) z e = refl
  changes-alike (reads-each ks buffer) z e = refl
  changes-alike (profiles file) z e =
      items-changes u modem v.session w.session say (items_in file) (values_of v.image) (values_of w.image) l.seen (profile-items modem v.session file v.image e)
  changes-alike (modes to) z e =
      let o : owns g modem key_mode ≡ true = ap (λ (q : Setup). owns q.modem.vendor modem key_mode) (sym a.given) ∙ mode-own modem v.session to v.image e in
      modes-same g modem (values_of v.image) (values_of w.image) l.seen to o

-- ---- gets

-- the value to get is one that the side sees
get_seen : (g : List ℕ) (m runtime : Bool) (k : Key) (vs : List Value) → owns g m k ≡ true → value_to_get runtime k vs ≡ find k (seen runtime (view g m vs))
unfolding value_to_get seen view
get_seen g m true k vs o =
    let rt : Value → Bool = λ v. runtime_access_def v.attributes in
    sym (found-view (keep rt vs)) ∙ ap (find k) (keep-twice (λ v. owns g m (key_of v)) rt vs)
  where
    found-view : (xs : List Value) → find k (keep (λ v. owns g m (key_of v)) xs) ≡ find k xs
    found-view xs = find-view g m k xs o
get_seen g m false k vs o = sym (find-view g m k vs o)

-- of a ready image, by the name, whether it is foreign, and the value
abbrev read_rules : Bool → Bool → Option Value → (Value → List ℕ) → List ℕ → Option Rule
read_rules ill foreign o bytes buffer =
    first_broken ((Name, ill) ∷ (Side, foreign) ∷ (Absent, rule11_read o) ∷ (Buffer, rule14 o bytes buffer) ∷ [])

get-judged : (m : Bool) (s : Session) (k : Key) (buffer img : List ℕ) → Ready img
    → get_broken m s k buffer img ≡ read_rules (rule3 k) (rule22 s.setup.modem.vendor m k) (value_to_get (at_runtime_def s) k (values_of img)) got_bytes buffer
unfolding get_broken
get-judged m s k buffer img i = image-passed img i _

next-judged : (m : Bool) (s : Session) (k : Key) (buffer img : List ℕ) → Ready img
    → next_broken m s k buffer img ≡ read_rules (rule3_next k) (rule22_next s.setup.modem.vendor m k) (value_named m s k img) named_bytes buffer
unfolding next_broken
next-judged m s k buffer img i = image-passed img i _

-- what is given beside the answer, by the rule that is broken and the value
abbrev reply_of : Option Rule → Option Value → (Value → List ℕ) → (Value → ℕ) → List ℕ → Reply
reply_of broken o bytes attributes buffer =
    on_some broken (λ rule. refusal rule (on_some o (λ v. length (bytes v)) 0) buffer) (on_some o (λ v. written (bytes v) (attributes v) buffer) (written [] 0 buffer))

get-reply : (m : Bool) (s : Session) (k : Key) (buffer img : List ℕ)
    → get_reply m s k buffer img ≡ reply_of (get_broken m s k buffer img) (value_to_get (at_runtime_def s) k (values_of img)) got_bytes (λ v. v.attributes) buffer
unfolding get_reply
get-reply m s k buffer img = refl

next-reply : (m : Bool) (s : Session) (k : Key) (buffer img : List ℕ)
    → next_reply m s k buffer img ≡ reply_of (next_broken m s k buffer img) (value_named m s k img) named_bytes (λ v. 0) buffer
unfolding next_reply
next-reply m s k buffer img = refl

name-shown : (m : Bool) (s : Session) (k : Key) (img : List ℕ) → value_named m s k img ≡ next_of k (seen (at_runtime_def s) (view s.setup.modem.vendor m (values_of img)))
unfolding value_to_name
name-shown m s k img = refl

-- a foreign name is refused with 3 or 22, whatever is there, and nothing is said of it
read-foreign : (ill : Bool) (o p : Option Value) (bytes : Value → List ℕ) (attributes : Value → ℕ) (buffer : List ℕ)
    → (read_rules ill true o bytes buffer ≡ read_rules ill true p bytes buffer)
    × (reply_of (read_rules ill true o bytes buffer) o bytes attributes buffer ≡ reply_of (read_rules ill true p bytes buffer) p bytes attributes buffer)
unfolding first_broken refusal
read-foreign true o p bytes attributes buffer = (refl, refl)
read-foreign false o p bytes attributes buffer = (refl, refl)

module _ (u : Setup) (modem : Bool) (v w : World) (a : Good u v) (b : Good u w) (l : Alike u modem v w) where
  got-alike : (k : Key) (buffer : List ℕ)
      → (get_broken modem v.session k buffer v.image ≡ get_broken modem w.session k buffer w.image)
      × (get_reply modem v.session k buffer v.image ≡ get_reply modem w.session k buffer w.image)
  unfolding rule22
  got-alike k buffer = go (owns u.modem.vendor modem k) refl
    where
      o : Option Value
      o = value_to_get (at_runtime_def v.session) k (values_of v.image)

      p : Option Value
      p = value_to_get (at_runtime_def w.session) k (values_of w.image)

      one : owns u.modem.vendor modem k ≡ true → o ≡ p
      one own =
          get_seen u.modem.vendor modem (at_runtime_def v.session) k (values_of v.image) own
          ∙ ap₂ (λ (t : Bool) (vs : List Value). find k (seen t vs)) (runtime-alike u modem v w a b l) l.seen
          ∙ sym (get_seen u.modem.vendor modem (at_runtime_def w.session) k (values_of w.image) own)

      judged-v : (x : Bool) → owns u.modem.vendor modem k ≡ x → get_broken modem v.session k buffer v.image ≡ read_rules (rule3 k) (not x) o got_bytes buffer
      judged-v x e =
          get-judged modem v.session k buffer v.image a.ready
          ∙ ap (λ (t : Bool). read_rules (rule3 k) (not t) o got_bytes buffer) (here u modem v w a b l k x e)

      judged-w : (x : Bool) → owns u.modem.vendor modem k ≡ x → get_broken modem w.session k buffer w.image ≡ read_rules (rule3 k) (not x) p got_bytes buffer
      judged-w x e =
          get-judged modem w.session k buffer w.image b.ready
          ∙ ap (λ (t : Bool). read_rules (rule3 k) (not t) p got_bytes buffer) (there u modem v w a b l k x e)

      given-v : (x : Bool) → owns u.modem.vendor modem k ≡ x
          → get_reply modem v.session k buffer v.image ≡ reply_of (read_rules (rule3 k) (not x) o got_bytes buffer) o got_bytes (λ z. z.attributes) buffer
      given-v x e = get-reply modem v.session k buffer v.image ∙ ap (λ (r : Option Rule). reply_of r o got_bytes (λ z. z.attributes) buffer) (judged-v x e)

      given-w : (x : Bool) → owns u.modem.vendor modem k ≡ x
          → get_reply modem w.session k buffer w.image ≡ reply_of (read_rules (rule3 k) (not x) p got_bytes buffer) p got_bytes (λ z. z.attributes) buffer
      given-w x e = get-reply modem w.session k buffer w.image ∙ ap (λ (r : Option Rule). reply_of r p got_bytes (λ z. z.attributes) buffer) (judged-w x e)

      go : (x : Bool) → owns u.modem.vendor modem k ≡ x
          → (get_broken modem v.session k buffer v.image ≡ get_broken modem w.session k buffer w.image)
          × (get_reply modem v.session k buffer v.image ≡ get_reply modem w.session k buffer w.image)
      go false e =
          let f = read-foreign (rule3 k) o p got_bytes (λ z. z.attributes) buffer in
          (judged-v false e ∙ f.0 ∙ sym (judged-w false e), given-v false e ∙ f.1 ∙ sym (given-w false e))
      go true e = (
        judged-v true e ∙ ap (λ (q : Option Value). read_rules (rule3 k) false q got_bytes buffer) (one e) ∙ sym (judged-w true e),
        given-v true e
            ∙ ap (λ (q : Option Value). reply_of (read_rules (rule3 k) false q got_bytes buffer) q got_bytes (λ z. z.attributes) buffer) (one e)
            ∙ sym (given-w true e),
      )

  -- next-name looks at nothing but what the side sees
  named-alike : (k : Key) (buffer : List ℕ)
      → (next_broken modem v.session k buffer v.image ≡ next_broken modem w.session k buffer w.image)
      × (next_reply modem v.session k buffer v.image ≡ next_reply modem w.session k buffer w.image)
  named-alike k buffer = (judged, next-reply modem v.session k buffer v.image ∙ ap₂ (λ (r : Option Rule) (q : Option Value). reply_of r q named_bytes (λ z. 0) buffer) judged shown ∙ sym (next-reply modem w.session k buffer w.image))
    where
      shown : value_named modem v.session k v.image ≡ value_named modem w.session k w.image
      shown =
          name-shown modem v.session k v.image
          ∙ ap₂ (λ (t : Bool) (vs : List Value). next_of k (seen t vs)) (runtime-alike u modem v w a b l) (views-alike u modem v w a b l)
          ∙ sym (name-shown modem w.session k w.image)

      judged : next_broken modem v.session k buffer v.image ≡ next_broken modem w.session k buffer w.image
      judged =
          next-judged modem v.session k buffer v.image a.ready
          ∙ ap₂ (λ (q : Setup) (o : Option Value). read_rules (rule3_next k) (rule22_next q.modem.vendor modem k) o named_bytes buffer) (one-setup u modem v w a b l) shown
          ∙ sym (next-judged modem w.session k buffer w.image b.ready)

  -- of a ready image a many-get is refused for its number of names alone, and each of its gets is told the same
  many-alike : (ks : List Key) (buffer : List ℕ)
      → (gets_broken ks v.image ≡ gets_broken ks w.image)
      × (gets_reply modem v.session ks buffer v.image ≡ gets_reply modem w.session ks buffer w.image)
  unfolding gets_broken gets_reply
  many-alike ks buffer =
      let many : List (Rule × Bool) = (Name, ltb get_space (length ks)) ∷ [] in
      let judged : gets_broken ks v.image ≡ gets_broken ks w.image =
      image-passed v.image a.ready many ∙ sym (image-passed w.image b.ready many) in
      let both =
      each-alike
      (λ k rest. get_broken modem v.session k rest v.image)
      (λ k rest. get_broken modem w.session k rest w.image)
      (λ k rest. get_reply modem v.session k rest v.image)
      (λ k rest. get_reply modem w.session k rest w.image)
      (λ k rest. (got-alike k rest).0)
      (λ k rest. (got-alike k rest).1)
      ks
      buffer in
      (judged, ap₂ (λ (o : Option Rule) (gots : Gots). on_some o (λ rule. record { items = []; buffer = buffer }) gots) judged both)

-- ---- locks

-- in such a list a side that has not locked eight names finds a place
place-law : (u : Setup) (w : World) → Good u w → (m : Bool) → (leb 8 (locks_of_def m w.session) || leb 16 (counted_locks w.session)) ≡ leb 8 (locks_of_def m w.session)
place-law u w g m = go (leb 8 (locks_of_def m w.session)) refl
  where
    total : (m : Bool) → locks_of_def m w.session < 8 → w.session.count < 16
    total true h = let c = g.counted in let o = g.few false in omega arith
    total false h = let c = g.counted in let o = g.few true in omega arith

    go : (x : Bool) → leb 8 (locks_of_def m w.session) ≡ x → (x || leb 16 (counted_locks w.session)) ≡ x
    go true e = refl
    go false e = let c = total m (leb-false 8 (locks_of_def m w.session) e) in lt-leb 16 (counted_locks w.session) (omega arith)

lock-judged : (u : Setup) (w : World) → Good u w → (m : Bool) (k : Key)
    → lock_broken m w.session k
    ≡ first_broken
    ((Name, rule3 k)
    ∷ (Side, not (owns w.session.setup.modem.vendor m k))
    ∷ (LockPhase, not (in_boot_def w.session))
    ∷ (LockSpace, leb 8 (locks_of_def m w.session) && not (locked w.session k))
    ∷ [])
unfolding lock_broken rule22 rule15 rule16
lock-judged u w g m k = rw (place-law u w g m)

lock-foreign : (ill a b c d : Bool) → first_broken ((Name, ill) ∷ (Side, true) ∷ (LockPhase, a) ∷ (LockSpace, b) ∷ []) ≡ first_broken ((Name, ill) ∷ (Side, true) ∷ (LockPhase, c) ∷ (LockSpace, d) ∷ [])
unfolding first_broken
lock-foreign true a b c d = refl
lock-foreign false a b c d = refl

-- what a side's lock is, where it is accepted
abbrev locked_after : Bool → Session → Key → Key → Bool
locked_after fresh s k j = cond fresh (locked s j || same_key_def k j) (locked s j)

-- whether a lock takes a place
abbrev takes : Bool → Session → Key → Bool
takes m s k = on_some (lock_broken m s k) (λ rule. false) (not (locked s k))

module _ (u : Setup) (w : World) (g : Good u w) (m : Bool) (k : Key) (long : length k.vendor ≡ 16) where
  abbrev s : Session
  s = w.session

  locked-after : (j : Key) → locked (lock_session m s k) j ≡ locked_after (takes m s k) s k j
  locked-after j = go (lock_broken m s k) refl (locked s k) refl
    where
      go : (o : Option Rule) → lock_broken m s k ≡ o → (x : Bool) → locked s k ≡ x → locked (lock_session m s k) j ≡ locked_after (takes m s k) s k j
      go (some rule) e x l = rw (lock-refused m s k rule e, e)
      go none e true l = rw (lock-again m s k e l, e, l)
      go none e false l =
          let f = lock-free m s k e l in
          rw (lock_new m s k e l, e, l) (lock-more s k g.listed f.place f.short long f.named j)

  -- the places of a side's names after it
  count-after : (n : Bool) → locks_of_def n (lock_session m s k) ≡ locks_of_def n s + cond (takes m s k) (cond (owns s.setup.modem.vendor n k) 1 0) 0
  count-after n = go (lock_broken m s k) refl (locked s k) refl
    where
      go : (o : Option Rule) → lock_broken m s k ≡ o → (x : Bool) → locked s k ≡ x
          → locks_of_def n (lock_session m s k) ≡ locks_of_def n s + cond (takes m s k) (cond (owns s.setup.modem.vendor n k) 1 0) 0
      go (some rule) e x l = rw (lock-refused m s k rule e, e) (omega arith)
      go none e true l = rw (lock-again m s k e l, e, l) (omega arith)
      go none e false l =
          let f = lock-free m s k e l in
          rw (lock_new m s k e l, e, l) (locks-more s k g.listed f.place f.short long n f.named)

  phase-after : (lock_session m s k).phase ≡ s.phase
  unfolding lock_session locked_session with_lock_def
  phase-after = go (lock_broken m s k) (locked s k)
    where
      go : (o : Option Rule) (x : Bool) → (on_some o (λ rule. s) (cond x s (with_lock_def s k))).phase ≡ s.phase
      go (some rule) x = refl
      go none true = refl
      go none false = refl

  -- a lock that takes a place is of an own name
  takes-own : takes m s k ≡ true → owns s.setup.modem.vendor m k ≡ true
  takes-own h = go (lock_broken m s k) refl (locked s k) refl h
    where
      go : (o : Option Rule) → lock_broken m s k ≡ o → (x : Bool) → locked s k ≡ x → on_some o (λ rule. false) (not x) ≡ true → owns s.setup.modem.vendor m k ≡ true
      go (some rule) e x l h = absurd (false≢true h)
      go none e true l h = absurd (false≢true h)
      go none e false l h = (lock-free m s k e l).own

  -- a foreign one takes none
  none-taken : owns s.setup.modem.vendor m k ≡ false → takes m s k ≡ false
  none-taken o = go (takes m s k) refl
    where
      go : (t : Bool) → takes m s k ≡ t → t ≡ false
      go true e = absurd (true≢false (sym (takes-own e) ∙ o))
      go false e = refl

same-phase : (s t : Session) (p : ℕ) → (with_phase s p).phase ≡ (with_phase t p).phase
unfolding with_phase
same-phase s t p = refl

not-twice : (b : Bool) → not (not b) ≡ b
not-twice true = refl
not-twice false = refl

-- ---- what a call leaves

call-leaves : (x : Context) (m : Bool) (s : Session) (a : Asked) (img : List ℕ) → Sized (call_of m s a) → to_its_end (outcome x (plan_of (call_of m s a) img) img) ≡ true
    → values_of (image_after x (plan_of (call_of m s a) img) img) ≡ on_some (call_broken (call_of m s a) img) (λ rule. values_of img) (steps (changes_asked m s a (values_of img)) (values_of img))
call-leaves x m s a img sized ran = go (call_broken (call_of m s a) img) refl
  where
    c : Call
    c = call_of m s a

    go : (o : Option Rule) → call_broken (call_of m s a) img ≡ o
        → values_of (image_after x (plan_of (call_of m s a) img) img) ≡ on_some (call_broken (call_of m s a) img) (λ rule. values_of img) (steps (changes_asked m s a (values_of img)) (values_of img))
    go (some rule) e = rw e (ap values_of (call_stays x c img ran rule e))
    go none e = let f = call-finishes x c img ran e in rw e ((call-done c img x f.count sized (no_start m s a) f.is).3 ∙ entered-asked m s a (values_of img))

-- ---- a call of the side itself: told the same in both, and it leaves them alike

module _ (u : Setup) (modem : Bool) (v w : World) (a : Good u v) (b : Good u w) (l : Alike u modem v w) where
  lock-alike : (k : Key) → lock_broken modem v.session k ≡ lock_broken modem w.session k
  lock-alike k = lock-judged u v a modem k ∙ go (owns u.modem.vendor modem k) refl ∙ sym (lock-judged u w b modem k)
    where
      rules : Bool → Bool → ℕ → Bool → Option Rule
      rules foreign late count held =
          first_broken ((Name, rule3 k) ∷ (Side, foreign) ∷ (LockPhase, late) ∷ (LockSpace, leb 8 count && not held) ∷ [])

      go : (x : Bool) → owns u.modem.vendor modem k ≡ x
          → rules (not (owns v.session.setup.modem.vendor modem k)) (not (in_boot_def v.session)) (locks_of_def modem v.session) (locked v.session k)
          ≡ rules (not (owns w.session.setup.modem.vendor modem k)) (not (in_boot_def w.session)) (locks_of_def modem w.session) (locked w.session k)
      go false e =
          rw (here u modem v w a b l k false e, there u modem v w a b l k false e)
          (lock-foreign (rule3 k) (not (in_boot_def v.session)) (leb 8 (locks_of_def modem v.session) && not (locked v.session k)) (not (in_boot_def w.session)) (leb 8 (locks_of_def modem w.session) && not (locked w.session k)))
      go true e = rw (here u modem v w a b l k true e, there u modem v w a b l k true e, boot-alike u modem v w a b l, l.count, l.held k e)

  call-alike : (c : Asked) → Fitting (calls modem c) → call_broken (call_of modem v.session c) v.image ≡ call_broken (call_of modem w.session c) w.image
  call-alike (sets r) f = set-alike u modem v w a b l r (f v.session).2
  call-alike (reads k buffer) f = (got-alike u modem v w a b l k buffer).0
  call-alike (names k buffer) f = (named-alike u modem v w a b l k buffer).0
  call-alike (reads-each ks buffer) f = (many-alike u modem v w a b l ks buffer).0
  call-alike (profiles file) f = profile-alike u modem v w a b l file
  call-alike (modes to) f = mode-alike u modem v w a b l to

  handed-alike : (c : Asked) → handed modem v.session c v.image ≡ handed modem w.session c w.image
  handed-alike (sets r) = refl
  handed-alike (reads k buffer) = ap replied (got-alike u modem v w a b l k buffer).1
  handed-alike (names k buffer) = ap replied (named-alike u modem v w a b l k buffer).1
  handed-alike (reads-each ks buffer) = ap each (many-alike u modem v w a b l ks buffer).1
  handed-alike (profiles file) = refl
  handed-alike (modes to) = refl

  told-own : (c : Asked) (x y : Context) → Fitting (calls modem c) → to_its_end (answer x (calls modem c) v) ≡ true → to_its_end (answer y (calls modem c) w) ≡ true
      → told x (calls modem c) v ≡ told y (calls modem c) w
  unfolding answer reply
  told-own c x y f p q =
      ap₂ (λ (o : Outcome) (z : Handed). record { answered = o; given = z })
      (call-told x (call_of modem v.session c) v.image p ∙ ap verdict (call-alike c f) ∙ sym (call-told y (call_of modem w.session c) w.image q))
      (handed-alike c)

  told-lock : (k : Key) (x y : Context) → told x (locks modem k) v ≡ told y (locks modem k) w
  unfolding answer reply lock_outcome
  told-lock k x y = ap (λ (o : Option Rule). record { answered = but_stores (verdict o); given = no_more }) (lock-alike k)

  calls-own : (c : Asked) (x y : Context) → Fitting (calls modem c)
      → to_its_end (outcome x (plan_in modem c v) v.image) ≡ true
      → to_its_end (outcome y (plan_in modem c w) w.image) ≡ true
      → view u.modem.vendor modem (values_of (image_after x (plan_in modem c v) v.image)) ≡ view u.modem.vendor modem (values_of (image_after y (plan_in modem c w) w.image))
  calls-own c x y f p q =
      ap (view G modem) (call-leaves x modem v.session c v.image (f v.session) p)
      ∙ go (call_broken (call_of modem v.session c) v.image) refl
      ∙ sym (ap (view G modem) (call-leaves y modem w.session c w.image (f w.session) q))
    where
      G : List ℕ
      G = u.modem.vendor

      after : World → List Value
      after z = steps (changes_asked modem z.session c (values_of z.image)) (values_of z.image)

      go : (o : Option Rule) → call_broken (call_of modem v.session c) v.image ≡ o
          → view G modem (on_some (call_broken (call_of modem v.session c) v.image) (λ rule. values_of v.image) (after v))
          ≡ view G modem (on_some (call_broken (call_of modem w.session c) w.image) (λ rule. values_of w.image) (after w))
      go (some rule) e = rw (sym (call-alike c f), e) l.seen
      go none e =
          let there : call_broken (call_of modem w.session c) w.image ≡ none = sym (call-alike c f) ∙ e in
          let cs = changes_asked modem v.session c (values_of v.image) in
          let ds = changes_asked modem w.session c (values_of w.image) in
          let own-v : AllAbout G modem cs true =
          subst (λ (z : Setup). AllAbout z.modem.vendor modem cs true) a.given (asked-keeps modem v.session c v.image (f v.session) e).own in
          let own-w : AllAbout G modem ds true =
          subst (λ (z : Setup). AllAbout z.modem.vendor modem ds true) b.given (asked-keeps modem w.session c w.image (f w.session) there).own in
          rw (there, e)
          (view-steps G modem cs (values_of v.image) own-v
          ∙ ap₂ (λ (es : List Change) (vs : List Value). steps es vs) (changes-alike u modem v w a b l c (f v.session) e) l.seen
          ∙ sym (view-steps G modem ds (values_of w.image) own-w))

  takes-alike : (k : Key) → owns u.modem.vendor modem k ≡ true → takes modem v.session k ≡ takes modem w.session k
  takes-alike k o = ap₂ (λ (r : Option Rule) (x : Bool). on_some r (λ rule. false) (not x)) (lock-alike k) (l.held k o)

  leaves-own : (c : Asked) (x y : Context) → Fitting (calls modem c) → to_its_end (answer x (calls modem c) v) ≡ true → to_its_end (answer y (calls modem c) w) ≡ true
      → Alike u modem (leave x (calls modem c) v) (leave y (calls modem c) w)
  unfolding answer leave
  leaves-own c x y f p q = record { phase = l.phase; held = l.held; count = l.count; seen = calls-own c x y f p q }

  leaves-lock : (k : Key) (x y : Context) → length k.vendor ≡ 16 → Alike u modem (leave x (locks modem k) v) (leave y (locks modem k) w)
  unfolding leave
  leaves-lock k x y f = record {
    phase = phase-after u v a modem k f ∙ l.phase ∙ sym (phase-after u w b modem k f);
    held = λ j o. locked-after u v a modem k f j ∙ held j o ∙ sym (locked-after u w b modem k f j);
    count = count-after u v a modem k f modem ∙ counts ∙ sym (count-after u w b modem k f modem);
    seen = l.seen;
  }
    where
      -- a lock that is refused as another's takes no place in either
      same_takes : (x : Bool) → owns u.modem.vendor modem k ≡ x → takes modem v.session k ≡ takes modem w.session k
      same_takes true e = takes-alike k e
      same_takes false e = none-taken u v a modem k f (here u modem v w a b l k false e) ∙ sym (none-taken u w b modem k f (there u modem v w a b l k false e))

      one : takes modem v.session k ≡ takes modem w.session k
      one = same_takes (owns u.modem.vendor modem k) refl

      held : (j : Key) → owns u.modem.vendor modem j ≡ true → locked_after (takes modem v.session k) v.session k j ≡ locked_after (takes modem w.session k) w.session k j
      held j o = ap₂ (λ (t x : Bool). cond t (x || same_key_def k j) x) one (l.held j o)

      counts : locks_of_def modem v.session + cond (takes modem v.session k) (cond (owns v.session.setup.modem.vendor modem k) 1 0) 0
          ≡ locks_of_def modem w.session + cond (takes modem w.session k) (cond (owns w.session.setup.modem.vendor modem k) 1 0) 0
      counts =
          ap₂ (λ (n : ℕ) (t : Bool). n + cond t (cond (owns v.session.setup.modem.vendor modem k) 1 0) 0) l.count one
          ∙ ap (λ (z : Setup). locks_of_def modem w.session + cond (takes modem w.session k) (cond (owns z.modem.vendor modem k) 1 0) 0) (one-setup u modem v w a b l)

  moves-own : (p : ℕ) (x y : Context) → Alike u modem (leave x (moves p) v) (leave y (moves p) w)
  unfolding leave moved_to_def
  moves-own p x y = go (leb (counted_phase p) (counted_phase v.session.phase)) refl
    where
      same : leb (counted_phase p) (counted_phase v.session.phase) ≡ leb (counted_phase p) (counted_phase w.session.phase)
      same = ap (λ (n : ℕ). leb (counted_phase p) (counted_phase n)) l.phase

      go : (t : Bool) → leb (counted_phase p) (counted_phase v.session.phase) ≡ t
          → Alike u modem
          (record { session = cond (leb (counted_phase p) (counted_phase v.session.phase)) v.session (with_phase v.session (counted_phase p)); image = v.image })
          (record { session = cond (leb (counted_phase p) (counted_phase w.session.phase)) w.session (with_phase w.session (counted_phase p)); image = w.image })
      go true e = rw (sym same, e) l
      go false e =
          rw (sym same, e)
          (record {
            phase = same-phase v.session w.session (counted_phase p);
            held = λ j o. phase-locked v.session (counted_phase p) j ∙ l.held j o ∙ sym (phase-locked w.session (counted_phase p) j);
            count = phase-locks v.session (counted_phase p) modem ∙ l.count ∙ sym (phase-locks w.session (counted_phase p) modem);
            seen = l.seen;
          })

-- ---- a call of the other side leaves a world that the side cannot tell from what it was

other-left : (u : Setup) (modem : Bool) (v : World) → Good u v → (c : Asked) (x : Context) → Fitting (calls (not modem) c) → to_its_end (answer x (calls (not modem) c) v) ≡ true
    → Alike u modem (leave x (calls (not modem) c) v) v
unfolding answer leave
other-left u modem v a c x f ran = record { phase = refl; held = λ k o. refl; count = refl; seen = unseen }
  where
    G : List ℕ
    G = u.modem.vendor

    s : Session
    s = v.session

    vs : List Value
    vs = values_of v.image

    go : (o : Option Rule) → call_broken (call_of (not modem) v.session c) v.image ≡ o
        → view u.modem.vendor modem (on_some o (λ rule. values_of v.image) (steps (changes_asked (not modem) v.session c (values_of v.image)) (values_of v.image))) ≡ view u.modem.vendor modem (values_of v.image)
    go (some rule) e = refl
    go none e =
        let cs = changes_asked (not modem) s c vs in
        let own : AllAbout G (not modem) cs true =
        subst (λ (z : Setup). AllAbout z.modem.vendor (not modem) cs true) a.given (asked-keeps (not modem) s c v.image (f s) e).own in
        view-steps-other G modem cs vs (subst (λ (m : Bool). AllAbout G m cs false) (not-twice modem) (all-other G (not modem) cs own))

    unseen : view u.modem.vendor modem (values_of (image_after x (plan_in (not modem) c v) v.image)) ≡ view u.modem.vendor modem (values_of v.image)
    unseen = ap (view G modem) (call-leaves x (not modem) s c v.image (f s) ran) ∙ go (call_broken (call_of (not modem) v.session c) v.image) refl

other-lock : (u : Setup) (modem : Bool) (v : World) → Good u v → (k : Key) (x : Context) → length k.vendor ≡ 16 → Alike u modem (leave x (locks (not modem) k) v) v
unfolding leave
other-lock u modem v a k x f = record {
  phase = phase-after u v a (not modem) k f;
  held = λ j o. locked-after u v a (not modem) k f j ∙ unlocked j o (takes (not modem) v.session k) refl;
  count = count-after u v a (not modem) k f modem ∙ uncounted (takes (not modem) v.session k) refl;
  seen = refl;
}
  where
    s : Session
    s = v.session

    -- a place that it takes is not of an own name
    foreign : takes (not modem) s k ≡ true → owns u.modem.vendor modem k ≡ false
    foreign t =
        ap (λ (m : Bool). owns u.modem.vendor m k) (sym (not-twice modem))
        ∙ not-other u.modem.vendor (not modem) k (ap (λ (z : Setup). owns z.modem.vendor (not modem) k) (sym a.given) ∙ takes-own u v a (not modem) k f t)

    unlocked : (j : Key) → owns u.modem.vendor modem j ≡ true → (t : Bool) → takes (not modem) s k ≡ t → locked_after t s k j ≡ locked s j
    unlocked j o false e = refl
    unlocked j o true e = ap (λ (x : Bool). locked s j || x) (apart (same_key_def k j) refl) ∙ or-false (locked s j)
      where
        apart : (x : Bool) → same_key_def k j ≡ x → x ≡ false
        apart true h = absurd (true≢false (sym (ap (owns u.modem.vendor modem) (key-eq k j h) ∙ o) ∙ foreign e))
        apart false h = refl

    uncounted : (t : Bool) → takes (not modem) s k ≡ t → locks_of_def modem s + cond t (cond (owns s.setup.modem.vendor modem k) 1 0) 0 ≡ locks_of_def modem s
    uncounted false e = omega arith
    uncounted true e = rw (ap (λ (z : Setup). owns z.modem.vendor modem k) a.given ∙ foreign e) (omega arith)

-- ---- histories

alike-with : {u : Setup} {modem : Bool} {v w z : World} → Alike u modem v w → Alike u modem w z → Alike u modem v z
alike-with p q = record { phase = p.phase ∙ q.phase; held = λ k o. p.held k o ∙ q.held k o; count = p.count ∙ q.count; seen = p.seen ∙ q.seen }

alike_turned : {u : Setup} {modem : Bool} {v w : World} → Alike u modem v w → Alike u modem w v
alike_turned p = record { phase = sym p.phase; held = λ k o. sym (p.held k o); count = sym p.count; seen = sym p.seen }

alike_self : {u : Setup} {modem : Bool} {v : World} → Alike u modem v v
alike_self = record { phase = refl; held = λ k o. refl; count = refl; seen = refl }

its-side : (modem m : Bool) → cond modem m (not m) ≡ true → m ≡ modem
its-side true m h = h
its-side false m h = not-true m h

other-side : (modem m : Bool) → cond modem m (not m) ≡ false → m ≡ not modem
other-side true m h = h
other-side false m h = not-false m h

-- an event of the other side
other-event : (u : Setup) (modem : Bool) (v : World) → Good u v → (e : Event) (x : Context) → Fitting e → to_its_end (answer x e v) ≡ true → is_of modem e ≡ false
    → Alike u modem (leave x e v) v
other-event u modem v a (calls m c) x f ran o =
    subst (λ (n : Bool). Fitting (calls n c) → to_its_end (answer x (calls n c) v) ≡ true → Alike u modem (leave x (calls n c) v) v) (sym (other-side modem m o))
    (other-left u modem v a c x) f ran
other-event u modem v a (locks m k) x f ran o =
    subst (λ (n : Bool). Alike u modem (leave x (locks n k) v) v) (sym (other-side modem m o)) (other-lock u modem v a k x f)
other-event u modem v a (moves p) x f ran o = absurd (true≢false o)

moved_told : (n : ℕ) (x y : Context) (v w : World) → told x (moves n) v ≡ told y (moves n) w
unfolding answer reply
moved_told n x y v w = refl

asked-begun : (modem : Bool) (begin : World) → asked modem {begin = begin} {w = begin} begun ≡ []
unfolding asked
asked-begun modem begin = refl

-- an event of the side, in two worlds
record Both (u : Setup) (modem : Bool) (x y : Context) (e : Event) (v w : World) : Type 0 where
  told_same : told x e v ≡ told y e w
  left : Alike u modem (leave x e v) (leave y e w)

own-event : (u : Setup) (modem : Bool) (v w : World) → Good u v → Good u w → Alike u modem v w → (e : Event) (x y : Context) → Fitting e
    → to_its_end (answer x e v) ≡ true → to_its_end (answer y e w) ≡ true → is_of modem e ≡ true → Both u modem x y e v w
own-event u modem v w a b l (calls m c) x y f p q o =
    subst (λ (n : Bool). Fitting (calls n c) → to_its_end (answer x (calls n c) v) ≡ true → to_its_end (answer y (calls n c) w) ≡ true → Both u modem x y (calls n c) v w)
    (sym (its-side modem m o))
    (λ f p q. record { told_same = told-own u modem v w a b l c x y f p q; left = leaves-own u modem v w a b l c x y f p q }) f p q
own-event u modem v w a b l (locks m k) x y f p q o =
    subst (λ (n : Bool). Both u modem x y (locks n k) v w) (sym (its-side modem m o))
    (record { told_same = told-lock u modem v w a b l k x y; left = leaves-lock u modem v w a b l k x y f })
own-event u modem v w a b l (moves n) x y f p q o = record { told_same = moved_told n x y v w; left = moves-own u modem v w a b l n x y }

-- what holds of two histories in which a side asked the same
pub record Same (u : Setup) (modem : Bool) (begin : World) {v w : World} (h : History begin v) (g : History begin w) : Type 0 where
  pub told_same : heard modem h ≡ heard modem g
  pub alike : Alike u modem v w

module _ (u : Setup) (modem : Bool) (begin : World) (fine : Good u begin) where
  -- every world of a history is good
  pub good-history : {w : World} → History begin w → Good u w
  good-history begun = fine
  good-history (then {w} h e f x ran) = good-leave u w (good-history h) x e f ran

  first-same : (e d : Event) (es ds : List Event) → e ∷ es ≡ d ∷ ds → (e ≡ d) × (es ≡ ds)
  first-same e d es ds q = (cc, cc)

  not_none : (e : Event) (es : List Event) → e ∷ es ≡ [] → ⊥
  not_none e es q = let z : ◌≡◌ {A = ℕ} 0 1 = cc in omega arith

  asked-own : {w : World} (h : History begin w) (e : Event) (f : Fitting e) (x : Context) (ran : to_its_end (answer x e w) ≡ true) → is_of modem e ≡ true
      → (asked modem (then h e f x ran) ≡ e ∷ asked modem h) × (heard modem (then h e f x ran) ≡ told x e w ∷ heard modem h)
  unfolding asked heard
  asked-own h e f x ran o = (rw o, rw o)

  asked-other : {w : World} (h : History begin w) (e : Event) (f : Fitting e) (x : Context) (ran : to_its_end (answer x e w) ≡ true) → is_of modem e ≡ false
      → (asked modem (then h e f x ran) ≡ asked modem h) × (heard modem (then h e f x ran) ≡ heard modem h)
  unfolding asked heard
  asked-other h e f x ran o = (rw o, rw o)

  -- one more event of the other side, in the second history
  more-other : {v w : World} (h : History begin v) (g : History begin w) (e : Event) (f : Fitting e) (x : Context) (ran : to_its_end (answer x e w) ≡ true)
      → is_of modem e ≡ false → Same u modem begin h g → Same u modem begin h (then g e f x ran)
  more-other {v} {w} h g e f x ran o s = record {
    told_same = s.told_same ∙ sym (asked-other g e f x ran o).1;
    alike = alike-with s.alike (alike_turned (other-event u modem w (good-history g) e x f ran o));
  }

  turned : {v w : World} (h : History begin v) (g : History begin w) → Same u modem begin h g → Same u modem begin g h
  turned h g s = record { told_same = sym s.told_same; alike = alike_turned s.alike }

  -- nothing asked of its own
  quiet : {w : World} (g : History begin w) → asked modem g ≡ [] → Same u modem begin begun g
  quiet begun q = record { told_same = refl; alike = alike_self }
  quiet (then {w} g e f x ran) q = go (is_of modem e) refl (λ r. quiet g r)
    where
      go : (t : Bool) → is_of modem e ≡ t → (asked modem g ≡ [] → Same u modem begin begun g) → Same u modem begin begun (then g e f x ran)
      go true o rest = absurd (not_none e (asked modem g) (sym (asked-own g e f x ran o).0 ∙ q))
      go false o rest = more-other begun g e f x ran o (rest (sym (asked-other g e f x ran o).0 ∙ q))

  -- one event of its own after the first history: the second has it too, and others after it
  behind : {v w : World} (h : History begin v) (e : Event) (f : Fitting e) (x : Context) (ran : to_its_end (answer x e v) ≡ true) → is_of modem e ≡ true
      → ((z : World) (g : History begin z) → asked modem h ≡ asked modem g → Same u modem begin h g)
      → (g : History begin w) → asked modem (then h e f x ran) ≡ asked modem g → Same u modem begin (then h e f x ran) g
  behind h e f x ran o rest begun q = absurd (not_none e (asked modem h) (sym (asked-own h e f x ran o).0 ∙ q ∙ asked-begun modem begin))
  behind {v} h e f x ran o rest (then {w} g d c y ended) q = go (is_of modem d) refl (λ r. behind h e f x ran o rest g r)
    where
      go : (t : Bool) → is_of modem d ≡ t → (asked modem (then h e f x ran) ≡ asked modem g → Same u modem begin (then h e f x ran) g)
          → Same u modem begin (then h e f x ran) (then g d c y ended)
      go false p before = more-other (then h e f x ran) g d c y ended p (before (q ∙ (asked-other g d c y ended p).0))
      go true p before =
          let one = first-same e d (asked modem h) (asked modem g) (sym (asked-own h e f x ran o).0 ∙ q ∙ (asked-own g d c y ended p).0) in
          let s = rest w g one.1 in
          let two : Both u modem x y e v w =
          own-event u modem v w (good-history h) (good-history g) s.alike e x y f ran (subst (λ (a : Event). to_its_end (answer y a w) ≡ true) (sym one.0) ended) o in
          let left : Alike u modem (leave x e v) (leave y d w) = subst (λ (a : Event). Alike u modem (leave x e v) (leave y a w)) one.0 two.left in
          let said : told x e v ≡ told y d w = two.told_same ∙ ap (λ (a : Event). told y a w) one.0 in
          record {
            told_same = (asked-own h e f x ran o).1 ∙ ap₂ (λ (t : Told) (ts : List Told). t ∷ ts) said s.told_same ∙ sym (asked-own g d c y ended p).1;
            alike = left;
          }

  pub same_asked : {v : World} (h : History begin v) (z : World) (g : History begin z) → asked modem h ≡ asked modem g → Same u modem begin h g
  same_asked begun z g q = quiet g (sym q ∙ asked-begun modem begin)
  same_asked (then {w} h e f x ran) z g q = go (is_of modem e) refl (λ y k r. same_asked h y k r)
    where
      go : (t : Bool) → is_of modem e ≡ t → ((y : World) (k : History begin y) → asked modem h ≡ asked modem k → Same u modem begin h k)
          → Same u modem begin (then h e f x ran) g
      go true o rest = behind h e f x ran o rest g q
      go false o rest = turned g (then h e f x ran) (more-other g h e f x ran o (turned h g (rest z g (sym (asked-other h e f x ran o).0 ∙ q))))

-- ---- the session of a finished start-up

fresh-setup : (setup : Setup) → (fresh_session setup).setup ≡ kept setup
unfolding fresh_session
fresh-setup setup = refl

fresh-count : (setup : Setup) → (fresh_session setup).count ≡ 0
unfolding fresh_session
fresh-count setup = refl

-- shares are kept as they are given
kept-within : (setup : Setup) (size : ℕ) (vs : List Value) → Within setup size vs → Within (kept setup) size vs
unfolding kept
kept-within setup size vs w = record { fit = w.fit; side = sides; records = w.records }
  where
    sides : (m : Bool) → side_sizes setup.modem.vendor m vs ≤ cond m setup.modem.share setup.share
    sides true = w.side true
    sides false = w.side false

pub begins-good : (setup : Setup) (before : List ℕ) (x : Context) (count : ℕ) → outcome x (start_up_plan setup before) before ≡ done count
    → Good (kept setup) (finished_start_up setup x before)
begins-good setup before x count h =
    let left = image_after x (start_up_plan setup before) before in
    let d = start_up-leaves-ready setup before x count h in
    let w : Within setup (region_size before) (values_of left) = within_of setup (region_size before) (values_of left) d.3 in
    let none : (m : Bool) → locks_of_def m (fresh_session setup) ≡ 0 = fresh-none setup in
    record {
      given = fresh-setup setup;
      listed = fresh-listed setup;
      counted = fresh-count setup ∙ sym (ap₂ (λ (a b : ℕ). a + b) (none false) (none true));
      few = λ m. subst (λ (n : ℕ). n ≤ 8) (sym (none m)) (omega arith);
      ready = ready_of left d.0 d.1;
      within = subst (λ (q : Setup). Within q (region_size left) (values_of left)) (sym (fresh-setup setup))
          (subst (λ (n : ℕ). Within (kept setup) n (values_of left)) (sym d.2) (kept-within setup (region_size before) (values_of left) w));
    }

kept-vendor : (setup : Setup) → (kept setup).modem.vendor ≡ setup.modem.vendor
unfolding kept
kept-vendor setup = refl

pub no-interference : NoInterference
unfolding sees
no-interference setup before x count h modem v w p q same =
    let s = same_asked (kept setup) modem (finished_start_up setup x before) (begins-good setup before x count h) p w q same in
    (s.told_same, subst (λ (g : List ℕ). view g modem (values_of v.image) ≡ view g modem (values_of w.image)) (kept-vendor setup) s.alike.seen)
