-- Marks of entries' states, in an image whose region stands at the front. Each clears one bit, so that a cut leaves the region with the old state; and each keeps the
-- region sound, by what stands for its name.
-- Assumes nothing.
use Prim.Native.Nat.{ℕ, ◌+◌, ◌-◌, ◌≤◌}
use native.Mathlib.Nat.{zero-add}
use native.Mathlib.Omega.{arith}
use mathlib.Core.Path.{◌≡◌, refl, sym, ap, ◌∙◌, subst}
use mathlib.Core.Logic.{◌≢◌}
use mathlib.Core.Bool.{Bool, true, false, cond, ◌||◌, false≢true}
use mathlib.Core.List.{List, [], ◌∷◌, ◌++◌, head-eq_of_cons-eq, tail-eq_of_cons-eq}
use mathlib.Core.Option.{Option, none, some}
use lib.ListN.{length, set, length-set}
use lib.Dec.{eqb}
use borrow.Author.Tests.{eqb-true}
use Rattle.model.specs.Layout.{authenticated, state_at}
use Rattle.model.specs.Lists.{any, first, or_else, on_some, is_some}
use Rattle.model.specs.Name.{Key, same_key_def}
use Rattle.model.specs.Image.{region_header_size}
use Rattle.model.specs.Entry.{Value}
use Rattle.model.specs.Walk.{Entry, state_of, entry_key}
use Rattle.model.specs.Region.{entries, sound, is_entry_def, added, replacing, standing, values, find}
use Rattle.model.specs.Change.{without}
use Rattle.model.specs.Stores.{Write, mark}
use Rattle.model.specs.Set.{mark_state, leftover, delete_to}
use Rattle.model.proofs.Tests.{and_split, key-eq}
use Rattle.model.proofs.Chunks.{entries_of, Made, made-entries, made-sound, sound_entries, restated, state-byte, mark_made}
use Rattle.model.proofs.Values.{Found, found, leftover-marked, replacing-marked, added-deleted, replacing-deleted, leftover-gone, added-gone, find-standing}
use Rattle.recovery.proofs.Cuts.{Goes, goes-nowhere, goes-append, goes-mark, OneBit, bit-3e, bit-3d, bit-3c}

-- ---- a sound region, given by its entries and its tail, which has at least so many bytes

pub record State (size floor : ℕ) (r t : List ℕ) (es : List Entry) : Type 0 where
  pub chunks : List (List ℕ)
  pub made : Made authenticated r chunks t
  pub listed : entries_of authenticated region_header_size chunks ≡ es
  pub judged : sound_entries size es ≡ true
  pub long : length r ≡ size
  pub room : floor ≤ length t

pub state-sound : {size floor : ℕ} {r t : List ℕ} {es : List Entry} → State size floor r t es → sound r ≡ true
state-sound {size} {floor} {r} {t} {es} st = made-sound authenticated st.made (rw (st.listed, st.long) st.judged)

pub state-entries : {size floor : ℕ} {r t : List ℕ} {es : List Entry} → State size floor r t es → entries r ≡ es
state-entries st = made-entries authenticated st.made ∙ st.listed

-- ---- places in a list

pub record Place {A : Type 0} (l : List A) (a : A) : Type 0 where
  pub before : List A
  pub behind : List A
  pub place : l ≡ before ++ (a ∷ behind)

-- another element keeps a place where one is changed
other_place : {A : Type 0} (xs ys before behind : List A) (e e' f : A) → xs ++ (e ∷ ys) ≡ before ++ (f ∷ behind) → (e ≡ f → ⊥) → Place (xs ++ (e' ∷ ys)) f
other_place [] ys [] behind e e' f p n = absurd (n (head-eq_of_cons-eq p))
other_place [] ys (b ∷ before) behind e e' f p n =
    record { before = e' ∷ before; behind = behind; place = ap (λ l. e' ∷ l) (tail-eq_of_cons-eq p) }
other_place (x ∷ xs) ys [] behind e e' f p n =
    record { before = []; behind = xs ++ (e' ∷ ys); place = ap (λ a. a ∷ (xs ++ (e' ∷ ys))) (head-eq_of_cons-eq p) }
other_place (x ∷ xs) ys (b ∷ before) behind e e' f p n =
    let q = other_place xs ys before behind e e' f (tail-eq_of_cons-eq p) n in
    record { before = x ∷ q.before; behind = q.behind; place = ap (λ l. x ∷ l) q.place }

-- an entry in a state under a name
pub entry-is : (state : ℕ) (k : Key) (e : Entry) → is_entry_def state k e ≡ true → (state_of e ≡ state) × (entry_key e ≡ k)
entry-is state k e h =
    let t = and_split (eqb (state_of e) state) (same_key_def (entry_key e) k) h in
    (eqb-true (state_of e) state t.0, key-eq (entry_key e) k t.1)

pub first-none : {A : Type 0} (f : A → Bool) (l : List A) → first f l ≡ none → any f l ≡ false
first-none f [] h = refl
first-none f (a ∷ l) h = go (f a) refl h (first-none f l)
  where
    go : (t : Bool) → f a ≡ t → cond t (some a) (first f l) ≡ none → (first f l ≡ none → any f l ≡ false) → (t || any f l) ≡ false
    go true e q ih = let z : ◌≡◌ {A = ℕ} 0 1 = cc in absurd (omega arith)
    go false e q ih = ih q

pub first_some : {A : Type 0} (f : A → Bool) (l : List A) (a : A) → first f l ≡ some a → any f l ≡ true
first_some f [] a h = let z : ◌≡◌ {A = ℕ} 0 1 = cc in absurd (omega arith)
first_some f (b ∷ l) a h = go (f b) h (first_some f l a)
  where
    go : (t : Bool) → cond t (some b) (first f l) ≡ some a → (first f l ≡ some a → any f l ≡ true) → (t || any f l) ≡ true
    go true q ih = refl
    go false q ih = ih q

-- ---- one mark, from a state to another, where P holds of every such region with the values K in front of the rest

module _ (P : List ℕ → Type 0) (K : List Value) (size floor : ℕ) (rest : List ℕ)
    (holds : (r t : List ℕ) (es : List Entry) → State size floor r t es → values es ≡ K → P (r ++ rest)) where
  pub mark-goes : {r t : List ℕ} {es : List Entry} → State size floor r t es → values es ≡ K → (e : Entry) (q : Place es e) (old new : ℕ) → state_of e ≡ old
      → old ≢ 0xFF → new ≢ 0xFF → OneBit old new
      → sound_entries size (q.before ++ (restated new e ∷ q.behind)) ≡ true
      → Goes P (mark_state e.at new) (r ++ rest) (set r (e.at + state_at) new ++ rest)
      × State size floor (set r (e.at + state_at) new) t (q.before ++ (restated new e ∷ q.behind))
  mark-goes {r} {t} {es} st k e q old new h n m one judged =
      let place = st.listed ∙ q.place in
      let byte = state-byte authenticated st.made q.before q.behind e place in
      let marked = mark_made authenticated st.made q.before q.behind e place (λ z. n (sym h ∙ z)) new m in (
        subst (λ (n : ℕ). Goes P (mark n new) (r ++ rest) (set r (e.at + state_at) new ++ rest)) (zero-add (e.at + state_at))
            (goes-mark P 0 [] r rest refl (e.at + state_at) new byte.1 old (byte.0 ∙ h) one (holds r t es st k)),
        record {
          chunks = marked.chunks;
          made = marked.made;
          listed = marked.entries;
          judged = judged;
          long = length-set r (e.at + state_at) new ∙ st.long;
          room = st.room;
        },
      )

-- the first 3F entry and the first 3E entry of a name, at their places
pub found-added : (k : Key) (es : List Entry) (f : Entry) → added k es ≡ some f → Found (is_entry_def 0x3F k) es f
unfolding added
found-added k es f a = found (is_entry_def 0x3F k) es f a

pub found-replacing : (k : Key) (es : List Entry) (e : Entry) → replacing k es ≡ some e → Found (is_entry_def 0x3E k) es e
unfolding replacing
found-replacing k es e a = found (is_entry_def 0x3E k) es e a

pub none-added : (k : Key) (es : List Entry) → added k es ≡ none → any (is_entry_def 0x3F k) es ≡ false
unfolding added
none-added k es a = first-none (is_entry_def 0x3F k) es a

pub none-replacing : (k : Key) (es : List Entry) → replacing k es ≡ none → any (is_entry_def 0x3E k) es ≡ false
unfolding replacing
none-replacing k es a = first-none (is_entry_def 0x3E k) es a

pub some-added : (k : Key) (es : List Entry) (f : Entry) → added k es ≡ some f → any (is_entry_def 0x3F k) es ≡ true
unfolding added
some-added k es f a = first_some (is_entry_def 0x3F k) es f a

-- the stores of a delete: of a 3F entry, and of a 3E entry alone
delete_to-added : (k : Key) (es : List Entry) (f : Entry) → added k es ≡ some f → state_of f ≡ 0x3F → delete_to k es ≡ leftover k es ++ mark_state f.at 0x3D
unfolding delete_to standing
delete_to-added k es f a h =
    ap (λ (o : Option Entry). leftover k es ++ on_some (or_else o (replacing k es)) (λ e. mark_state e.at (state_of e - 0x02)) []) a
    ∙ ap (λ (n : ℕ). leftover k es ++ mark_state f.at (n - 0x02)) h

delete_to-alone : (k : Key) (es : List Entry) (e : Entry) → added k es ≡ none → replacing k es ≡ some e → state_of e ≡ 0x3E → delete_to k es ≡ mark_state e.at 0x3C
unfolding delete_to standing leftover
delete_to-alone k es e n b h = rw (n, b) (ap (λ (n : ℕ). mark_state e.at (n - 0x02)) h)

-- what stands for a name: a 3F entry, and perhaps a leftover 3E entry beside it; a 3E entry alone; nothing
pub data Stands (k : Key) (es : List Entry) : Type 0 where
  absent : added k es ≡ none → replacing k es ≡ none → Stands k es
  fresh : (f : Entry) → added k es ≡ some f → replacing k es ≡ none → Stands k es
  left_alone : (e : Entry) → added k es ≡ none → replacing k es ≡ some e → Stands k es
  beside : (f e : Entry) → added k es ≡ some f → replacing k es ≡ some e → Stands k es

pub stands : (k : Key) (es : List Entry) → Stands k es
stands k es = go (added k es) (replacing k es) refl refl
  where
    go : (a b : Option Entry) → added k es ≡ a → replacing k es ≡ b → Stands k es
    go none none p q = absent p q
    go (some f) none p q = fresh f p q
    go none (some e) p q = left_alone e p q
    go (some f) (some e) p q = beside f e p q

-- ---- the leftover's mark

-- a 3E entry of a name beside a 3F entry: after its mark the same values stand, no 3E entry does, and the 3F entry has a place
module _ (P : List ℕ → Type 0) (K : List Value) (size floor : ℕ) (rest : List ℕ)
    (holds : (r t : List ℕ) (es : List Entry) → State size floor r t es → values es ≡ K → P (r ++ rest)) where
  pub record Cleared (k : Key) (r t : List ℕ) (f : Entry) (ss : List Write) : Type 0 where
    pub r' : List ℕ
    pub es' : List Entry
    pub goes : Goes P ss (r ++ rest) (r' ++ rest)
    pub state : State size floor r' t es'
    pub kept : values es' ≡ K
    pub place : Place es' f
    pub alone : any (is_entry_def 0x3E k) es' ≡ false

  pub clear-leftover : {r t : List ℕ} {es : List Entry} → State size floor r t es → values es ≡ K → (k : Key) (f : Entry) → added k es ≡ some f
      → Cleared k r t f (leftover k es)
  unfolding leftover
  clear-leftover {r} {t} {es} st kept k f a = go (replacing k es) refl
    where
      q : Found (is_entry_def 0x3F k) es f
      q = found-added k es f a

      is_f : (state_of f ≡ 0x3F) × (entry_key f ≡ k)
      is_f = entry-is 0x3F k f q.passes

      go : (o : Option Entry) → replacing k es ≡ o → Cleared k r t f (leftover k es)
      go none p = record {
        r' = r;
        es' = es;
        goes = rw (a, p) (goes-nowhere P (r ++ rest));
        state = st;
        kept = kept;
        place = record { before = q.before; behind = q.behind; place = q.place };
        alone = none-replacing k es p;
      }
      go (some e) p =
          let g = found-replacing k es e p in
          let isE = entry-is 0x3E k e g.passes in
          let spot : Place es e = record { before = g.before; behind = g.behind; place = g.place } in
          let judged : sound_entries size (g.before ++ (e ∷ g.behind)) ≡ true = rw (← g.place) st.judged in
          let stays : any (is_entry_def 0x3F (entry_key e)) (g.before ++ (e ∷ g.behind)) ≡ true = rw (isE.1, ← g.place) (some-added k es f a) in
          let both = leftover-marked size g.before g.behind e judged isE.0 stays in
          let m = mark-goes P K size floor rest holds st kept e spot 0x3E 0x3C isE.0 (omega arith) (omega arith) bit-3c both.0 in
          let differs : e ≡ f → ⊥ = λ z. let y : ◌≡◌ {A = ℕ} 0x3E 0x3F = sym isE.0 ∙ ap state_of z ∙ is_f.0 in omega arith in
          record {
            r' = set r (e.at + state_at) 0x3C;
            es' = g.before ++ (restated 0x3C e ∷ g.behind);
            goes = rw (a, p) m.0;
            state = m.1;
            kept = both.1 ∙ ap values (sym g.place) ∙ kept;
            place = other_place g.before g.behind q.before q.behind e (restated 0x3C e) f (sym g.place ∙ q.place) differs;
            alone = ap (λ (c : Key). any (is_entry_def 0x3E c) (g.before ++ (restated 0x3C e ∷ g.behind))) (sym isE.1) ∙ leftover-gone size g.before g.behind e judged isE.0;
          }

  -- ---- a delete: leftover first, then the value's own entry

  pub record Deleted (k : Key) (r t : List ℕ) (ss : List Write) : Type 0 where
    pub r' : List ℕ
    pub es' : List Entry
    pub goes : Goes P ss (r ++ rest) (r' ++ rest)
    pub state : State size floor r' t es'
    pub gone : values es' ≡ without k K

  pub delete-goes : {r t : List ℕ} {es : List Entry} → State size floor r t es → values es ≡ K → (k : Key) → is_some (find k K) ≡ true → Deleted k r t (delete_to k es)
  unfolding standing
  delete-goes {r} {t} {es} st kept k present = go (stands k es)
    where
      -- the 3F entry, after the leftover's mark
      with_added : (f : Entry) → added k es ≡ some f → Deleted k r t (delete_to k es)
      with_added f a =
          let c = clear-leftover st kept k f a in
          let is_f = entry-is 0x3F k f (found-added k es f a).passes in
          let q = c.place in
          let judged : sound_entries size (q.before ++ (f ∷ q.behind)) ≡ true = rw (← q.place) c.state.judged in
          let alone : any (is_entry_def 0x3E (entry_key f)) (q.before ++ (f ∷ q.behind)) ≡ false = rw (is_f.1, ← q.place) c.alone in
          let both = added-deleted size q.before q.behind f judged is_f.0 alone in
          let m = mark-goes P K size floor rest holds c.state c.kept f q 0x3F 0x3D is_f.0 (omega arith) (omega arith) bit-3d both.0 in
          record {
            r' = set c.r' (f.at + state_at) 0x3D;
            es' = q.before ++ (restated 0x3D f ∷ q.behind);
            goes = rw (delete_to-added k es f a is_f.0) (goes-append c.goes m.0);
            state = m.1;
            gone = both.1 ∙ ap (λ (c : Key). without c (values (q.before ++ (f ∷ q.behind)))) is_f.1 ∙ ap (λ (l : List Entry). without k (values l)) (sym q.place) ∙ ap (without k) c.kept;
          }

      go : Stands k es → Deleted k r t (delete_to k es)
      go (fresh f a n) = with_added f a
      go (beside f e a b) = with_added f a
      go (left_alone e n b) =
          let g = found-replacing k es e b in
          let isE = entry-is 0x3E k e g.passes in
          let spot : Place es e = record { before = g.before; behind = g.behind; place = g.place } in
          let judged : sound_entries size (g.before ++ (e ∷ g.behind)) ≡ true = rw (← g.place) st.judged in
          let none-added : any (is_entry_def 0x3F (entry_key e)) (g.before ++ (e ∷ g.behind)) ≡ false = rw (isE.1, ← g.place) (none-added k es n) in
          let both = replacing-deleted size g.before g.behind e judged isE.0 none-added in
          let m = mark-goes P K size floor rest holds st kept e spot 0x3E 0x3C isE.0 (omega arith) (omega arith) bit-3c both.0 in
          record {
            r' = set r (e.at + state_at) 0x3C;
            es' = g.before ++ (restated 0x3C e ∷ g.behind);
            goes = rw (delete_to-alone k es e n b isE.0) m.0;
            state = m.1;
            gone = both.1 ∙ ap (λ (c : Key). without c (values (g.before ++ (e ∷ g.behind)))) isE.1 ∙ ap (λ (l : List Entry). without k (values l)) (sym g.place) ∙ ap (without k) kept;
          }
      go (absent n m) =
          let found_none : find k K ≡ none = ap (find k) (sym kept) ∙ find-standing size es k st.judged ∙ rw (n, m) in
          absurd (false≢true (ap is_some (sym found_none) ∙ present))

  -- ---- before an entry is written: leftover first, then the 3F entry becomes 3E

  pub data Old (k : Key) (es es' : List Entry) : Type 0 where
    no_old : standing k es ≡ none → Old k es es'
    old_at : (e o : Entry) → standing k es ≡ some e → Place es' o → state_of o ≡ 0x3E → entry_key o ≡ k → o.at ≡ e.at → Old k es es'

  pub record Prepared (k : Key) (r t : List ℕ) (es : List Entry) : Type 0 where
    pub r' : List ℕ
    pub es' : List Entry
    pub goes : Goes P (leftover k es ++ on_some (added k es) (λ e. mark_state e.at 0x3E) []) (r ++ rest) (r' ++ rest)
    pub state : State size floor r' t es'
    pub kept : values es' ≡ K
    pub clear : any (is_entry_def 0x3F k) es' ≡ false
    pub old : Old k es es'

  pub prepare : {r t : List ℕ} {es : List Entry} → State size floor r t es → values es ≡ K → (k : Key) → Prepared k r t es
  unfolding standing leftover
  prepare {r} {t} {es} st kept k = go (stands k es)
    where
      with_added : (f : Entry) → added k es ≡ some f → Prepared k r t es
      with_added f a =
          let c = clear-leftover st kept k f a in
          let is_f = entry-is 0x3F k f (found-added k es f a).passes in
          let q = c.place in
          let judged : sound_entries size (q.before ++ (f ∷ q.behind)) ≡ true = rw (← q.place) c.state.judged in
          let alone : any (is_entry_def 0x3E (entry_key f)) (q.before ++ (f ∷ q.behind)) ≡ false = rw (is_f.1, ← q.place) c.alone in
          let both = replacing-marked size q.before q.behind f judged is_f.0 alone in
          let m = mark-goes P K size floor rest holds c.state c.kept f q 0x3F 0x3E is_f.0 (omega arith) (omega arith) bit-3e both.0 in
          record {
            r' = set c.r' (f.at + state_at) 0x3E;
            es' = q.before ++ (restated 0x3E f ∷ q.behind);
            goes = goes-append c.goes (rw a m.0);
            state = m.1;
            kept = both.1 ∙ ap values (sym q.place) ∙ c.kept;
            clear =
                ap (λ (c : Key). any (is_entry_def 0x3F c) (q.before ++ (restated 0x3E f ∷ q.behind))) (sym is_f.1)
                ∙ added-gone size q.before q.behind f judged is_f.0 0x3E (omega arith);
            old = old_at f (restated 0x3E f) (rw a) (record { before = q.before; behind = q.behind; place = refl }) refl is_f.1 refl;
          }

      go : Stands k es → Prepared k r t es
      go (fresh f a n) = with_added f a
      go (beside f e a b) = with_added f a
      go (left_alone e n b) =
          let g = found-replacing k es e b in
          let isE = entry-is 0x3E k e g.passes in
          record {
            r' = r;
            es' = es;
            goes = rw n (goes-nowhere P (r ++ rest));
            state = st;
            kept = kept;
            clear = none-added k es n;
            old = old_at e e (rw (n, b)) (record { before = g.before; behind = g.behind; place = g.place }) isE.0 isE.1 refl;
          }
      go (absent n m) = record {
        r' = r;
        es' = es;
        goes = rw n (goes-nowhere P (r ++ rest));
        state = st;
        kept = kept;
        clear = none-added k es n;
        old = no_old (rw (n, m));
      }
