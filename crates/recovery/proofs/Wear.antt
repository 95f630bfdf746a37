-- The wear bound. While no compaction is complete, the tail moves by at most the size of each entry that had to be stored, however the call ended; a complete compaction, be it
-- finished or left for a start-up to finish, has its tail right after its values, and so has a start-up that compacts. The values of the book take no more than
-- those at the compaction and what had to be stored since, so that a start-up never leaves a longer region than that.
-- Assumes nothing.
use Prim.Native.Nat.{ℕ, suc, ◌+◌, ◌*◌, ◌-◌, ◌≤◌, ◌<◌}
use native.Mathlib.Omega.{arith}
use mathlib.Core.Path.{◌≡◌, refl, sym, ap, ◌∙◌, subst}
use mathlib.Core.Logic.{◌⊎◌, inl, inr}
use mathlib.Core.Bool.{Bool, true, false, not, cond, ◌&&◌, false≢true, true≢false}
use mathlib.Core.List.{List, [], ◌∷◌, ◌++◌, map, append-nil}
use mathlib.Core.Option.{Option, none, some}
use lib.ListN as list
use lib.ListN.{length, replicate, length-set, length-replicate}
use lib.Dec.{leb}
use borrow.Author.Tests.{leb-true, leb-false, not-true, not-false}
use Rattle.model.specs.declared.Context.{Context}
use Rattle.model.specs.declared.Rule.{Rule}
use Rattle.model.specs.Layout.{authenticated}
use Rattle.model.specs.Lists.{all, any, all_ff, keep, on_some, is_some}
use Rattle.model.specs.Image.{block, blocks, region_header_size, region_size, region, spare}
use Rattle.model.specs.Name.{Key}
use Rattle.model.specs.Entry.{Value, entry_size_def, entry_bytes}
use Rattle.model.specs.Walk.{Entry}
use Rattle.model.specs.Region.{entries, tail_at, tail, values, values_of, values_in, sound, clean, find}
use Rattle.model.specs.Work.{well_formed, ends_in_fc_def, idle, pending, used_records}
use Rattle.model.specs.Change.{Change, nothing, remove, put, is_nothing, step, steps, space_of}
use Rattle.model.specs.Stores.{Store, Write, stores, apply_all, after, Cut}
use Rattle.model.specs.Compact.{encode, finish, compact_to, compact_on}
use Rattle.model.specs.Set.{Plan, make, tail_to, tail_on, delete_to, fits_tail, put_plan, compact_plan, change_plan, folded_plan, changes_plan}
use Rattle.model.specs.StartUp.{resume, tidy_spare, tidy_work, tidy_tail, and_then, start_up_stores}
use Rattle.model.specs.Answers.{page_of, made_of, outcome, image_after, stores_of, decided}
use Rattle.model.specs.Book.{Call, call_broken, Kind, reads, writes, starts_up, kind_of, doing, plan_of, Sized, changes_by, entered, counts, book_after, folds, in_place_def, Run, begin, ran, cut}
use Rattle.model.specs.Beside.{Valid}
use Rattle.model.proofs.Tests.{and_split, or_split}
use Rattle.model.proofs.Stores.{stores-append}
use Rattle.model.proofs.Changes.{Fitting, step_less, put-more, steps-valid, steps-distinct, steps-nothing}
use Rattle.model.proofs.Chunks.{Chunked, region-chunked, join, made-length, made-tail_at}
use Rattle.model.proofs.Parts.{Parts, parts-region, parts-work, parts-size, parts-blocks, parts-right, parts-spare}
use Rattle.model.proofs.WorkBlock.{work-last}
use Rattle.model.proofs.Encode.{AllValid, sound-valid, sound-distinct, encode-made, encode-length, encode-clean, sound-fits, sound-before, blank-all_ff}
use Rattle.recovery.specs.Wear.{alone, single, change_size, to_store, to_compact, too_short_def, tail_left, Step, steps_in, decides, compacted, to_store_by, tail_after, to_store_in, Window, grown, window_over, Outgrown, WearBound, FirstWearBound, ReadyWearBound, BetweenTwo, CompactionPlanned, ToStorePlanned, CompactionLeaves, count, shorts, LeavesAtLeast, ShortsBounded, CompactionsBounded}
use Rattle.recovery.proofs.Cuts.{Safe, Goes, goes-nowhere, goes-append, cut_at}
use Rattle.recovery.proofs.Invariant.{Holding, in-spare, in-region, holding-blocks}
use Rattle.recovery.proofs.Compaction.{clean-sound, begin-safe, finish-safe, begin-parts}
use Rattle.recovery.proofs.StartingUp.{Ready, ready_of, ready-is, ready-holds, goes_then, tidy_spare-goes, tidy_work-goes, not-pending, is-pending, resume-none, resume-alone}
use Rattle.recovery.proofs.Marks.{State, delete-goes}
use Rattle.recovery.proofs.TailWrite.{ff}
use Rattle.recovery.proofs.Sets.{same_parts, its-state-above, tail_written, clean-blank}
use Rattle.recovery.proofs.EveryCall.{plan-refused, plan-accepted, Lets, Accepted, accepted}
use Rattle.recovery.proofs.Theorem.{its-values, ready-values, compact-some, cut-none, book-cond, holding-right, call-cut, counted, begins-ready, run_holds}

-- ---- where the tail begins of the region that calls find, or that a start-up takes from the spare

abbrev pub Tails : ℕ → (ℕ → Type 0) → List ℕ → Type 0
Tails size T img =
    (region_size img ≡ size)
    × (pending img ≡ false → clean (region img) ≡ true → T (tail_at (region img)))
    × (pending img ≡ true → T (tail_at (spare img)))

-- at m at most; at m
abbrev pub Low : ℕ → ℕ → List ℕ → Type 0
Low size m = Tails size (λ t. t ≤ m)

abbrev pub At : ℕ → ℕ → List ℕ → Type 0
At size m = Tails size (λ t. t ≡ m)

low-at : (size m n : ℕ) (img : List ℕ) → m ≤ n → At size m img → Low size n img
low-at size m n img h a = (a.0, λ p c. (let e = a.1 p c in omega arith), λ p. (let e = a.2 p in omega arith))

low-more : (size m n : ℕ) (img : List ℕ) → m ≤ n → Low size m img → Low size n img
low-more size m n img h l = (l.0, λ p c. (let e = l.1 p c in omega arith), λ p. (let e = l.2 p in omega arith))

module _ (T : ℕ → Type 0) {b : ℕ} {r w s : List ℕ} (p : Parts b r w s) where
  -- nothing is pending
  tails-parts : (idle w ≡ true) ⊎ (all_ff s ≡ true) → (clean r ≡ true → T (tail_at r)) → Tails (block * b) T (r ++ (w ++ s))
  tails-parts q h = (
    parts-size p,
    λ n c. rw (parts-region p) (h (ap clean (sym (parts-region p)) ∙ c)),
    λ n. absurd (false≢true (sym (not-pending p q) ∙ n)),
  )

  -- the spare is
  tails-pending : well_formed w ≡ true → ends_in_fc_def w ≡ true → clean s ≡ true → T (tail_at s) → Tails (block * b) T (r ++ (w ++ s))
  tails-pending formed ended cleaned h = (
    parts-size p,
    λ n c. absurd (true≢false (sym (is-pending p formed ended cleaned) ∙ n)),
    λ n. rw (parts-spare p) h,
  )

-- ---- however a list of writes is cut

pub cut-safe : (P : List ℕ → Type 0) {ws : List Write} {img end : List ℕ} → Goes P ws img end → P end → (u k : ℕ) (img' : List ℕ) → Cut (stores u ws) k img img' → P img'
unfolding apply_all
cut-safe P {ws} {img} {end} g e u k img' left = (cut_at P P [] (stores u ws) k img img' tt (g.safe u) (subst P (sym (g.left u)) e) left).1 (omega arith)

-- P up to the end of the first, Q from there on
pub cut-both : (P Q : List ℕ → Type 0) {ws us : List Write} {img middle end : List ℕ} → Goes P ws img middle → Goes Q us middle end → Q end → (u k : ℕ) (img' : List ℕ)
    → Cut (stores u (ws ++ us)) k img img' → (k < length (stores u ws) → P img') × (length (stores u ws) ≤ k → Q img')
cut-both P Q {ws} {us} {img} {middle} g h e u k img' left =
    cut_at P Q (stores u ws) (stores u us) k img img' (g.safe u) (subst (Safe Q (stores u us)) (sym (g.left u)) (h.safe u))
    (subst Q (sym (ap (apply_all (stores u us)) (g.left u) ∙ h.left u)) e)
    (subst (λ (ss : List Store). Cut ss k img img') (stores-append u ws us) left)

state-tail : {size floor : ℕ} {r t : List ℕ} {es : List Entry} → State size floor r t es → tail_at r + length t ≡ size
state-tail {size} {floor} {r} {t} st =
    ap (λ (n : ℕ). n + length t) (made-tail_at authenticated st.made) ∙ sym (made-length authenticated st.made) ∙ st.long

behind : (c j t size space : ℕ) → c ≡ region_header_size + j + t → c ≡ size → t ≡ size - space → space ≤ size → region_header_size + j ≡ space
behind c j t size space e f g h = omega arith

-- ---- a compaction: P of the region before up to its FC record, Q of the new one from there on

pub record Compacting (P Q : List ℕ → Type 0) (img : List ℕ) (vs : List Value) : Type 0 where
  pub middle : List ℕ
  pub end : List ℕ
  pub to : Goes P (compact_to img vs) img middle
  pub on : Goes Q (compact_on img vs) middle end
  pub last : Q end

module _ (P Q : List ℕ → Type 0) {b : ℕ} {r w s : List ℕ} (p : Parts b r w s) (rested : idle w ≡ true) (free : all_ff s ≡ true) (vs : List Value)
    (valid : AllValid authenticated vs) (fits : space_of vs ≤ block * b)
    (keeps : (x y : List ℕ) → length x ≡ block → length y ≡ block * b → (idle x ≡ true) ⊎ (all_ff y ≡ true) → P (r ++ (x ++ y)))
    (pends : (x y : List ℕ) → length x ≡ block * b → length y ≡ block → well_formed y ≡ true → ends_in_fc_def y ≡ true → Q (x ++ (y ++ encode (block * b) vs)))
    (rests : (x y : List ℕ) → length x ≡ block → length y ≡ block * b → idle x ≡ true → Q (encode (block * b) vs ++ (x ++ y))) where
  pub compacting : Compacting P Q (r ++ (w ++ s)) vs
  unfolding compact_on
  compacting =
      let c = encode (block * b) vs in
      let long = encode-length authenticated (block * b) vs valid fits in
      let begun = begin-safe P p rested free keeps c long in
      let w' = begun.w' in
      let w'' = list.set w' (used_records w' - 1) 0xF8 in
      let q : Parts b r w' c = record { low = p.low; high = p.high; region-long = p.region-long; work-long = begun.long; spare-long = long } in
      let finished-long : length w'' ≡ block = length-set w' (used_records w' - 1) 0xF8 ∙ begun.long in
      let idle-again = (work-last w' begun.long begun.formed begun.ended).finished in
      record {
        middle = r ++ (w' ++ c);
        end = c ++ (w'' ++ replicate (block * b) 0xFF);
        to = rw (begin-parts p vs) begun.goes;
        on = rw (parts-blocks p, parts-work p, parts-size p, begun.index)
            (finish-safe Q q begun.formed begun.ended (λ x l. pends x w' l begun.long begun.formed begun.ended) (λ x l. rests w'' x finished-long l idle-again));
        last = rests w'' (replicate (block * b) 0xFF) finished-long (length-replicate (block * b) 0xFF) idle-again;
      }

-- the tail of what a compaction makes
new-tail : (b : ℕ) (vs : List Value) → AllValid authenticated vs → space_of vs ≤ block * b → tail_at (encode (block * b) vs) ≡ space_of vs
new-tail b vs valid fits =
    let c = encode (block * b) vs in
    let made = encode-made authenticated (block * b) vs valid fits in
    made-tail_at authenticated made
    ∙ behind (length c) (length (join (map (entry_bytes 0x3F) vs))) (length (replicate (block * b - space_of vs) 0xFF)) (block * b) (space_of vs)
    (made-length authenticated made) (encode-length authenticated (block * b) vs valid fits) (length-replicate (block * b - space_of vs) 0xFF) fits

-- ---- changes of a ready image

-- of changes, folded in or not: the size of the entry to be stored, and whether they compact
abbrev pub size_of : Bool → List Change → ℕ
size_of fold cs = on_some (alone fold cs) change_size 0

abbrev pub compacts_on : List ℕ → Bool → List Change → Bool
compacts_on img fold cs = on_some (alone fold cs) (λ c. not (in_place_def img c)) (not (all is_nothing cs))

-- if they do, that is their plan
pub compacts-plan : (img : List ℕ) (fold : Bool) (cs : List Change) → compacts_on img fold cs ≡ true → changes_plan fold img cs ≡ compact_plan img (steps cs (values_of img))
unfolding change_plan put_plan folded_plan in_place_def steps
compacts-plan img true [] h = absurd (false≢true h)
compacts-plan img false [] h = absurd (false≢true h)
compacts-plan img true (c ∷ []) h = rw (not-true (all is_nothing (c ∷ [])) h)
compacts-plan img true (c ∷ d ∷ cs) h = rw (not-true (all is_nothing (c ∷ d ∷ cs)) h)
compacts-plan img false (c ∷ d ∷ cs) h = rw (not-true (all is_nothing (c ∷ d ∷ cs)) h)
compacts-plan img false (nothing ∷ []) h = absurd (false≢true h)
compacts-plan img false (remove k ∷ []) h = absurd (false≢true h)
compacts-plan img false (put v ∷ []) h = rw (not-true (fits_tail (region img) v) h)

-- if not, it is a delete, a tail write, or nothing
pub data InPlace (img : List ℕ) (cs : List Change) : Plan → ℕ → Type 0 where
  no_stores : InPlace img cs (make [] []) 0
  deletes : (k : Key) → cs ≡ remove k ∷ [] → InPlace img cs (make (delete_to k (entries (region img))) []) 0
  writes-tail : (v : Value) → cs ≡ put v ∷ [] → fits_tail (region img) v ≡ true
      → InPlace img cs (make (tail_to (tail_at (region img)) v (entries (region img))) (tail_on v (entries (region img)))) (entry_size_def v)

pub in_place : (img : List ℕ) (fold : Bool) (cs : List Change) → compacts_on img fold cs ≡ false → InPlace img cs (changes_plan fold img cs) (size_of fold cs)
unfolding change_plan put_plan folded_plan in_place_def change_size
in_place img true [] h = no_stores
in_place img false [] h = no_stores
in_place img true (c ∷ []) h = rw (not-false (all is_nothing (c ∷ [])) h) no_stores
in_place img true (c ∷ d ∷ cs) h = rw (not-false (all is_nothing (c ∷ d ∷ cs)) h) no_stores
in_place img false (c ∷ d ∷ cs) h = rw (not-false (all is_nothing (c ∷ d ∷ cs)) h) no_stores
in_place img false (nothing ∷ []) h = no_stores
in_place img false (remove k ∷ []) h = deletes k refl
in_place img false (put v ∷ []) h = let fits = not-false (fits_tail (region img) v) h in rw fits (writes-tail v refl fits)

module _ {b : ℕ} {r w s : List ℕ} (p : Parts b r w s) (rested : idle w ≡ true) (free : all_ff s ≡ true) (cleaned : clean r ≡ true) where
  abbrev img : List ℕ
  img = r ++ (w ++ s)

  abbrev here : List Value
  here = values (entries r)

  pub whole-tail : tail_at r + length (tail r) ≡ block * b
  whole-tail = state-tail (its-state-above p rested free cleaned 0 (omega arith))

  -- in place: P of every region with all but n bytes of the tail left
  module _ (P : List ℕ → Type 0) (n : ℕ) (stays : (x t : List ℕ) (es : List Entry) → State (block * b) (length (tail r) - n) x t es → P (x ++ (w ++ s)))
      (u k : ℕ) (img' : List ℕ) where
    delete-cut : (key : Key) → is_some (find key here) ≡ true → Cut (stores u (delete_to key (entries r) ++ [])) k img img' → P img'
    delete-cut key present left =
        let d = delete-goes P here (block * b) (length (tail r) - n) (w ++ s) (λ x t es st e. stays x t es st)
        (its-state-above p rested free cleaned (length (tail r) - n) (omega arith)) refl key present in
        cut-safe P d.goes (stays d.r' (tail r) d.es' d.state) u k img'
        (subst (λ (ws : List Write). Cut (stores u ws) k img img') (append-nil (delete_to key (entries r))) left)

    tail-cut : (v : Value) → Valid v → fits_tail r v ≡ true → entry_size_def v ≤ n → Cut (stores u (tail_to (tail_at r) v (entries r) ++ tail_on v (entries r))) k img img' → P img'
    unfolding fits_tail
    tail-cut v valid fits small left =
        let room : tail_at r + entry_size_def v ≤ length r = leb-true (tail_at r + entry_size_def v) (length r) fits in
        let long = p.region-long in
        let j = length (tail r) - entry_size_def v in
        let enough : length (tail r) ≡ entry_size_def v + j = omega (arith, whole-tail) in
        let t = tail_written P P here (block * b) (length (tail r) - n) (w ++ s) v valid (λ x t es st e. stays x t es st) (λ x t es st e. stays x t es st)
        (its-state-above p rested free cleaned (length (tail r) - n) (omega arith)) refl j (clean-blank r cleaned ∙ ap ff enough) (omega arith) in
        cut-safe P (goes-append t.to-goes t.on-goes) (stays t.r₂ (ff j) t.es₂ t.state) u k img' left

    pub in-place-cut : {cs : List Change} → Fitting cs here (block * b) → (m : ℕ) (plan : Plan) → InPlace img cs plan m → m ≤ n → Cut (stores_of u plan) k img img' → P img'
    unfolding stores_of stores
    in-place-cut f m plan no_stores small left =
        subst P (sym (cut-none k img img' left)) (stays r (tail r) (entries r) (its-state-above p rested free cleaned (length (tail r) - n) (omega arith)))
    in-place-cut f m plan (deletes key e) small left =
        delete-cut key (f.there key e) (subst (λ (l : List ℕ). Cut (stores u (delete_to key (entries l) ++ [])) k img img') (parts-region p) left)
    in-place-cut f m plan (writes-tail v e fits) small left =
        tail-cut v ((subst (λ (l : List Change). Fitting l here (block * b)) e f).valid.0 v refl) (ap (λ (l : List ℕ). fits_tail l v) (sym (parts-region p)) ∙ fits) small
        (subst (λ (l : List ℕ). Cut (stores u (tail_to (tail_at l) v (entries l) ++ tail_on v (entries l))) k img img') (parts-region p) left)

  -- a compaction: P until it decides, Q from there on
  module _ (P Q : List ℕ → Type 0) (vs : List Value) (whole : Compacting P Q img vs) (u k : ℕ) (img' : List ℕ) where
    pub compact-cut : Cut (stores_of u (compact_plan img vs)) k img img'
        → (decided u k (compact_plan img vs) ≡ false → P img') × (decided u k (compact_plan img vs) ≡ true → Q img')
    unfolding stores_of decided
    compact-cut left =
        let m = length (stores u (compact_to img vs)) in
        let both = cut-both P Q whole.to whole.on whole.last u k img' left in
        rw (compact-some img vs) (λ e. both.0 (leb-false m k e), λ e. both.1 (leb-true m k e))

  -- either
  module _ (P Q : List ℕ → Type 0) (fold : Bool) (cs : List Change) (fitting : Fitting cs here (block * b))
      (stays : (x t : List ℕ) (es : List Entry) → State (block * b) (length (tail r) - size_of fold cs) x t es → P (x ++ (w ++ s)))
      (whole : Compacting P Q img (steps cs here)) (u k : ℕ) (img' : List ℕ) where
    pub changes-cut : Cut (stores_of u (changes_plan fold img cs)) k img img'
        → ((compacts_on img fold cs && decided u k (changes_plan fold img cs)) ≡ false → P img')
        × ((compacts_on img fold cs && decided u k (changes_plan fold img cs)) ≡ true → Q img')
    changes-cut left = go (compacts_on img fold cs) refl
      where
        go : (t : Bool) → compacts_on img fold cs ≡ t
            → ((t && decided u k (changes_plan fold img cs)) ≡ false → P img') × ((t && decided u k (changes_plan fold img cs)) ≡ true → Q img')
        go false h = (
          λ e. in-place-cut P (size_of fold cs) stays u k img' fitting (size_of fold cs) (changes_plan fold img cs) (in_place img fold cs h) (omega arith) left,
          λ e. absurd (false≢true e),
        )
        go true h =
            let plan = compacts-plan img fold cs h ∙ ap (λ (vs : List Value). compact_plan img (steps cs vs)) (its-values p rested free cleaned) in
            rw plan (compact-cut P Q (steps cs here) whole u k img' (subst (λ (q : Plan). Cut (stores_of u q) k img img') plan left))

-- ---- where they leave the tail

-- at most so much further on; a compaction right after the values
abbrev Moved : List ℕ → Bool → List Change → List Value → ℕ → ℕ → List ℕ → Type 0
Moved x fold cs vs u k x' =
    ((compacts_on x fold cs && decided u k (changes_plan fold x cs)) ≡ false → Low (region_size x) (tail_at (region x) + size_of fold cs) x')
    × ((compacts_on x fold cs && decided u k (changes_plan fold x cs)) ≡ true → At (region_size x) (space_of (steps cs vs)) x')

module _ {b : ℕ} {r w s : List ℕ} (p : Parts b r w s) (rested : idle w ≡ true) (free : all_ff s ≡ true) (cleaned : clean r ≡ true) where
  changes-move : (fold : Bool) (cs : List Change) → Fitting cs (values (entries r)) (block * b) → (u k : ℕ) (x' : List ℕ)
      → Cut (stores_of u (changes_plan fold (r ++ (w ++ s)) cs)) k (r ++ (w ++ s)) x' → Moved (r ++ (w ++ s)) fold cs (values (entries r)) u k x'
  changes-move fold cs f u k x' left =
      let n = size_of fold cs in
      let m = tail_at r + n in
      let vs = steps cs (values (entries r)) in
      let c = encode (block * b) vs in
      let chunks = region-chunked authenticated b p.region-long (clean-sound r cleaned) in
      let valid = steps-valid cs (values (entries r)) f.valid (sound-valid authenticated r chunks) in
      let distinct = steps-distinct cs (values (entries r)) (sound-distinct authenticated r chunks) in
      let long = encode-length authenticated (block * b) vs valid f.room in
      let clear = encode-clean authenticated (block * b) vs valid distinct f.room in
      let end-tail = new-tail b vs valid f.room in
      let total = whole-tail p rested free cleaned in
      let keeps : (x y : List ℕ) → length x ≡ block → length y ≡ block * b → (idle x ≡ true) ⊎ (all_ff y ≡ true) → Low (block * b) m (r ++ (x ++ y)) = λ x y l i q.
      tails-parts (λ t. t ≤ m) {b = b} {r = r} {w = x} {s = y}
      (record { low = p.low; high = p.high; region-long = p.region-long; work-long = l; spare-long = i }) q (λ c. omega arith) in
      let whole = compacting (Low (block * b) m) (At (block * b) (space_of vs)) p rested free vs valid f.room keeps
      (λ x y l i g e. tails-pending (λ t. t ≡ space_of vs) {b = b} {r = x} {w = y} {s = c}
      (record { low = p.low; high = p.high; region-long = l; work-long = i; spare-long = long }) g e clear end-tail)
      (λ x y l i q. tails-parts (λ t. t ≡ space_of vs) {b = b} {r = c} {w = x} {s = y}
      (record { low = p.low; high = p.high; region-long = long; work-long = l; spare-long = i }) (inl q) (λ c. end-tail)) in
      rw (parts-size p, parts-region p)
      (changes-cut p rested free cleaned (Low (block * b) m) (At (block * b) (space_of vs)) fold cs f
      (λ x t es st. tails-parts (λ q. q ≤ m) {r = x} {w = w} {s = s} (same_parts p rested free st.long) (inl rested)
      (λ c. (let e = state-tail st in let l = st.room in omega arith)))
      whole u k x' left)

-- of a call on an image with the book's values
writes-move : {b : ℕ} (fold : Bool) (changes : List Value → List Change) (x : List ℕ) (book : List Value) → Lets changes x → Holding b book x → (u k : ℕ) (x' : List ℕ)
    → Cut (stores_of u (changes_plan fold x (changes book))) k x x' → Moved x fold (changes book) book u k x'
writes-move fold changes x book lets holds u k x' left =
    let i = ready_of x lets.long lets.ready in
    let p = i.parts in
    let cs = changes book in
    let held : values_of x ≡ book = ready-values x book i holds in
    let here : book ≡ values (entries i.r) = sym held ∙ ap values_of i.whole ∙ its-values p i.rested i.free i.cleaned in
    let fits : Fitting cs (values (entries i.r)) (block * i.b) =
    subst (Fitting cs (values (entries i.r))) (ap region_size i.whole ∙ parts-size p)
    (subst (λ (vs : List Value). Fitting cs vs (region_size x)) here (subst (λ (vs : List Value). Fitting (changes vs) vs (region_size x)) held lets.fitting)) in
    subst (λ (z : List ℕ). Moved z fold cs book u k x') (sym i.whole)
    (subst (λ (vs : List Value). Moved (i.r ++ (i.w ++ i.s)) fold cs vs u k x') (sym here)
    (changes-move p i.rested i.free i.cleaned fold cs fits u k x' (subst (λ (z : List ℕ). Cut (stores_of u (changes_plan fold z cs)) k z x') i.whole left)))

-- ---- a start-up, however cut

-- a region that is sound, with nothing pending
module _ {b : ℕ} {r w s : List ℕ} (p : Parts b r w s) (sounds : sound r ≡ true) (quiet : (idle w ≡ true) ⊎ (all_ff s ≡ true)) (m : ℕ)
    (low : clean r ≡ true → tail_at r ≤ m) (space : space_of (values (entries r)) ≤ m) where
  abbrev P : List ℕ → Type 0
  P = Low (block * b) m

  kept_low : (x y : List ℕ) → length x ≡ block → length y ≡ block * b → (idle x ≡ true) ⊎ (all_ff y ≡ true) → P (r ++ (x ++ y))
  kept_low x y l k q = tails-parts (λ t. t ≤ m) {b = b} {r = r} {w = x} {s = y} (record { low = p.low; high = p.high; region-long = p.region-long; work-long = l; spare-long = k }) q low

  record Risen (ss : List Write) (img : List ℕ) : Type 0 where
    end : List ℕ
    goes : Goes P ss img end
    last : P end

  -- the tail, if it is not all FF
  tail-risen : (w₁ s₁ : List ℕ) → Parts b r w₁ s₁ → idle w₁ ≡ true → all_ff s₁ ≡ true → Risen (tidy_tail (r ++ (w₁ ++ s₁))) (r ++ (w₁ ++ s₁))
  unfolding tidy_tail values_in
  tail-risen w₁ s₁ q rested free = rw (parts-region q) (go (all_ff (tail r)))
    where
      vs : List Value
      vs = values (entries r)

      chunks : Chunked authenticated r
      chunks = region-chunked authenticated b q.region-long sounds

      fits : space_of vs ≤ block * b
      fits = rw (← q.region-long) (sound-fits authenticated r chunks)

      valid : AllValid authenticated vs
      valid = sound-valid authenticated r chunks

      go : (t : Bool) → Risen (cond t [] (compact_to (r ++ (w₁ ++ s₁)) vs ++ compact_on (r ++ (w₁ ++ s₁)) vs)) (r ++ (w₁ ++ s₁))
      go true = record {
        end = r ++ (w₁ ++ s₁);
        goes = goes-nowhere P (r ++ (w₁ ++ s₁));
        last = kept_low w₁ s₁ q.work-long q.spare-long (inl rested);
      }
      go false =
          let c = encode (block * b) vs in
          let long = encode-length authenticated (block * b) vs valid fits in
          let clear = encode-clean authenticated (block * b) vs valid (sound-distinct authenticated r chunks) fits in
          let after-values : tail_at c ≤ m = rw (new-tail b vs valid fits) space in
          let k = compacting P P q rested free vs valid fits kept_low
          (λ x y l n f e. tails-pending (λ t. t ≤ m) {b = b} {r = x} {w = y} {s = c} (record { low = p.low; high = p.high; region-long = l; work-long = n; spare-long = long }) f e clear after-values)
          (λ x y l n i. tails-parts (λ t. t ≤ m) {b = b} {r = c} {w = x} {s = y} (record { low = p.low; high = p.high; region-long = long; work-long = l; spare-long = n }) (inl i) (λ z. after-values)) in
          record { end = k.end; goes = goes-append k.to k.on; last = k.last }

  sound-risen : Risen (start_up_stores (r ++ (w ++ s))) (r ++ (w ++ s))
  unfolding start_up_stores
  sound-risen =
      let ff : List ℕ = replicate (block * b) 0xFF in
      let free : all_ff ff ≡ true = blank-all_ff (block * b) in
      let p₁ : Parts b r w ff = record { low = p.low; high = p.high; region-long = p.region-long; work-long = p.work-long; spare-long = length-replicate (block * b) 0xFF } in
      let rest = tidy_work-goes P p₁ (λ h x l. kept_low x ff l p₁.spare-long (inr free)) in
      let p₂ : Parts b r rest.w₁ ff = record { low = p.low; high = p.high; region-long = p.region-long; work-long = rest.long; spare-long = p₁.spare-long } in
      let last-part = tail-risen rest.w₁ ff p₂ rest.rested free in
      record {
        end = last-part.end;
        goes =
            goes_then resume (and_then tidy_spare (and_then tidy_work tidy_tail))
            (rw (resume-none (r ++ (w ++ s)) (not-pending p quiet)) (goes-nowhere P (r ++ (w ++ s))))
            (goes_then tidy_spare (and_then tidy_work tidy_tail) (tidy_spare-goes P p (λ h x l. kept_low w x p.work-long l (inl (still-idle quiet h))))
            (goes_then tidy_work tidy_tail rest.goes last-part.goes));
        last = last-part.last;
      }
    where
      still-idle : (idle w ≡ true) ⊎ (all_ff s ≡ true) → all_ff s ≡ false → idle w ≡ true
      still-idle (inl h) e = h
      still-idle (inr h) e = absurd (true≢false (sym h ∙ e))

-- a compaction that is pending: it is finished
module _ {b : ℕ} {r w s : List ℕ} (p : Parts b r w s) (formed : well_formed w ≡ true) (ended : ends_in_fc_def w ≡ true) (cleaned : clean s ≡ true) where
  pub pending-stores : start_up_stores (r ++ (w ++ s)) ≡ finish b (used_records w - 1) s
  unfolding resume
  pending-stores = resume-alone (r ++ (w ++ s)) (parts-right p) (is-pending p formed ended cleaned) ∙ rw (is-pending p formed ended cleaned, parts-work p, parts-spare p, parts-blocks p)

  -- P while the spare is, and with its content in the region
  pub pending-risen : (P : List ℕ → Type 0) → ((x : List ℕ) → length x ≡ block * b → P (x ++ (w ++ s)))
      → ((x : List ℕ) → length x ≡ block * b → P (s ++ (list.set w (used_records w - 1) 0xF8 ++ x)))
      → (u k : ℕ) (img' : List ℕ) → Cut (stores u (start_up_stores (r ++ (w ++ s)))) k (r ++ (w ++ s)) img' → P img'
  pending-risen P pends rests u k img' left =
      cut-safe P (finish-safe P p formed ended pends rests) (rests (replicate (block * b) 0xFF) (length-replicate (block * b) 0xFF)) u k img'
      (subst (λ (ws : List Write). Cut (stores u ws) k (r ++ (w ++ s)) img') pending-stores left)

-- of an image that holds the book
up-low : {b : ℕ} (K : List Value) (img : List ℕ) → Holding b K img → (m : ℕ) → Low (region_size img) m img → space_of K ≤ m → (u k : ℕ) (img' : List ℕ)
    → Cut (stores u (start_up_stores img)) k img img' → Low (region_size img) m img'
up-low {b} K img (in-spare h) m low space u k img' left =
    let p = h.parts in
    let s = h.s in
    let size : region_size img ≡ block * b = ap region_size h.whole ∙ parts-size p in
    let bound : tail_at s ≤ m = rw (h.whole, parts-spare p) at (low.2 (ap pending h.whole ∙ is-pending p h.formed h.ended h.cleaned)) in
    rw size
    (pending-risen p h.formed h.ended h.cleaned (Low (block * b) m)
    (λ x l. tails-pending (λ t. t ≤ m) {b = b} {r = x} {w = h.w} {s = s} (record { low = p.low; high = p.high; region-long = l; work-long = p.work-long; spare-long = p.spare-long }) h.formed h.ended h.cleaned bound)
    (λ x l. tails-parts (λ t. t ≤ m) {b = b} {r = s} {w = list.set h.w (used_records h.w - 1) 0xF8} {s = x}
    (record { low = p.low; high = p.high; region-long = p.spare-long; work-long = length-set h.w (used_records h.w - 1) 0xF8 ∙ p.work-long; spare-long = l })
    (inl (work-last h.w p.work-long h.formed h.ended).finished) (λ z. bound))
    u k img' (subst (λ (x : List ℕ). Cut (stores u (start_up_stores x)) k x img') h.whole left))
up-low {b} K img (in-region h) m low space u k img' left =
    let p = h.parts in
    let size : region_size img ≡ block * b = ap region_size h.whole ∙ parts-size p in
    let still : pending img ≡ false = ap pending h.whole ∙ not-pending p h.quiet in
    let here : region img ≡ h.r = ap region h.whole ∙ parts-region p in
    let up = sound-risen p h.sounds h.quiet m (λ c. rw here at (low.1 still (ap clean here ∙ c))) (rw h.held space) in
    rw size (cut-safe (Low (block * b) m) up.goes up.last u k img' (subst (λ (x : List ℕ). Cut (stores u (start_up_stores x)) k x img') h.whole left))

-- ---- the run

-- the values of the book take no more than those at the compaction and what had to be stored since, and the tail begins no further on
abbrev Bounded : List Value → List ℕ → Option Window → Type 0
Bounded K img none = Unit {0}
Bounded K img (some w) = (space_of K + w.left ≤ region_size img + w.since) × Low (region_size img) (region_size img + w.since - w.left) img

-- a region of the same size
sized-as : (K : List Value) (img' : List ℕ) (size left since : ℕ) → space_of K + left ≤ size + since → Low size (size + since - left) img'
    → Bounded K img' (some (record { left = left; since = since }))
sized-as K img' size left since h l = subst (λ (n : ℕ). (space_of K + left ≤ n + since) × Low n (n + since - left) img') (sym l.0) (h, l)

-- a call that has nothing to store, and leaves the book and such a tail
unmoved : (K : List Value) (img img' : List ℕ) (o : Option Window)
    → ((m : ℕ) → space_of K ≤ m → Low (region_size img) m img → Low (region_size img) m img') → Bounded K img o → Bounded K img' (grown 0 o)
unmoved K img img' none f h = tt
unmoved K img img' (some w) f h =
    let room = h.0 in
    sized-as K img' (region_size img) w.left (w.since + 0) (omega arith)
    (low-more (region_size img) (region_size img + w.since - w.left) (region_size img + (w.since + 0) - w.left) img' (omega arith)
    (f (region_size img + w.since - w.left) (omega arith) h.1))

-- one that moves both by at most what it has to store
moved : (K K' : List Value) (img img' : List ℕ) (o : Option Window) (n : ℕ) → space_of K' ≤ space_of K + n → pending img ≡ false → clean (region img) ≡ true
    → Low (region_size img) (tail_at (region img) + n) img' → Bounded K img o → Bounded K' img' (grown n o)
moved K K' img img' none n s was clear l h = tt
moved K K' img img' (some w) n s was clear l h =
    let tail-here : tail_at (region img) ≤ region_size img + w.since - w.left = h.1.1 was clear in
    let room = h.0 in
    let more : tail_at (region img) + n ≤ region_size img + (w.since + n) - w.left = omega arith in
    sized-as K' img' (region_size img) w.left (w.since + n) (omega arith) (low-more (region_size img) (tail_at (region img) + n) (region_size img + (w.since + n) - w.left) img' more l)

-- what changes put where they are not compacted takes its entry more at most
step-space : (c : Change) (vs : List Value) → space_of (step c vs) ≤ space_of vs + change_size c
unfolding change_size
step-space nothing vs = let h = step_less nothing vs refl in omega arith
step-space (remove k) vs = let h = step_less (remove k) vs refl in omega arith
step-space (put v) vs = put-more v vs

steps-space : (img : List ℕ) (fold : Bool) (cs : List Change) (vs : List Value) (t : Bool) → (compacts_on img fold cs && t) ≡ false
    → space_of (cond t (steps cs vs) vs) ≤ space_of vs + size_of fold cs
unfolding steps
steps-space img fold cs vs false h = omega arith
steps-space img true cs vs true h = folded (all is_nothing cs) refl h
  where
    folded : (t : Bool) → all is_nothing cs ≡ t → (not t && true) ≡ false → space_of (steps cs vs) ≤ space_of vs + 0
    folded true e f = rw (steps-nothing cs vs e) (omega arith)
    folded false e f = absurd (true≢false f)
steps-space img false [] vs true h = omega arith
steps-space img false (c ∷ []) vs true h = step-space c vs
steps-space img false (c ∷ d ∷ cs) vs true h = folded (all is_nothing (c ∷ d ∷ cs)) refl h
  where
    folded : (t : Bool) → all is_nothing (c ∷ d ∷ cs) ≡ t → (not t && true) ≡ false → space_of (steps (c ∷ d ∷ cs) vs) ≤ space_of vs + 0
    folded true e f = rw (steps-nothing (c ∷ d ∷ cs) vs e) (omega arith)
    folded false e f = absurd (true≢false f)

pub ready-still : (img : List ℕ) → Ready img → (pending img ≡ false) × (clean (region img) ≡ true)
ready-still img i = (ap pending i.whole ∙ not-pending i.parts (inl i.rested), ap clean (ap region i.whole ∙ parts-region i.parts) ∙ i.cleaned)

-- ---- one call, by its kind; the plan where no rule is broken

abbrev After : Kind → Plan → ℕ → ℕ → List ℕ → List Value → List ℕ → Option Window → Type 0
After k plan u n img book img' o =
    Bounded (cond (decided u n plan) (steps (changes_by k book) book) book) img'
    (cond
    (compacts_on img (folds k) (changes_by k book) && decided u n plan)
    (some (record { left = region_size img - space_of (steps (changes_by k book) book); since = 0 }))
    (grown (size_of (folds k) (changes_by k book)) o))

kind-bounded : {b : ℕ} (k : Kind) (img img' : List ℕ) (book : List Value) → Accepted k img → Holding b book img → (u n : ℕ) → Cut (stores_of u (doing k img)) n img img'
    → (o : Option Window) → Bounded book img o → After k (doing k img) u n img book img' o
unfolding stores_of decided stores steps
kind-bounded reads img img' book a holds u n left o h =
    unmoved book img img' o (λ m s l. subst (Low (region_size img) m) (sym (cut-none n img img' left)) l) h
kind-bounded (starts_up setup) img img' book a holds u n left o h = unmoved book img img' o (λ m s l. up-low book img holds m l s u n img' left) h
kind-bounded (writes fold changes) img img' book lets holds u n left o h =
    subst (λ (vs : List Value). Cut (stores_of u (changes_plan fold img (changes vs))) n img img' → After (writes fold changes) (changes_plan fold img (changes vs)) u n img book img' o) same go left
  where
    ready : Ready img
    ready = ready_of img lets.long lets.ready

    same : book ≡ values_of img
    same = sym (ready-values img book ready holds)

    cs : List Change
    cs = changes book

    plan : Plan
    plan = changes_plan fold img cs

    fits : space_of (steps cs book) ≤ region_size img
    fits = subst (λ (vs : List Value). space_of (steps (changes vs) vs) ≤ region_size img) (sym same) lets.fitting.room

    by : (t : Bool) → (compacts_on img fold cs && decided u n plan) ≡ t → Moved img fold cs book u n img'
        → Bounded (cond (decided u n plan) (steps cs book) book) img'
        (cond t (some (record { left = region_size img - space_of (steps cs book); since = 0 })) (grown (size_of fold cs) o))
    by true e both =
        let space = space_of (steps cs book) in
        let room = fits in
        rw (and_split (compacts_on img fold cs) (decided u n plan) e).1
        (sized-as (steps cs book) img' (region_size img) (region_size img - space) 0 (omega arith)
        (low-at (region_size img) space (region_size img + 0 - (region_size img - space)) img' (omega arith) (both.1 e)))
    by false e both =
        let still = ready-still img ready in
        moved book (cond (decided u n plan) (steps cs book) book) img img' o (size_of fold cs) (steps-space img fold cs book (decided u n plan) e) still.0 still.1 (both.0 e) h

    go : Cut (stores_of u plan) n img img' → After (writes fold changes) plan u n img book img' o
    go made = by (compacts_on img fold cs && decided u n plan) refl (writes-move fold changes img book lets holds u n img' made)

-- whatever the call
call-bounded : {b : ℕ} (c : Call) → Sized c → (img img' : List ℕ) (book : List Value) → Holding b book img → (u n : ℕ) → Cut (stores_of u (plan_of c img)) n img img'
    → (o : Option Window) → Bounded book img o
    → Bounded
    (book_after c (decided u n (plan_of c img)) book)
    img'
    (cond
    (to_compact c img book && decided u n (plan_of c img))
    (some (record { left = tail_left c img book; since = 0 }))
    (grown (to_store c img book) o))
unfolding to_compact to_store single tail_left entered book_after stores_of decided
call-bounded c sized img img' book holds u n left o h = go (call_broken c img) refl left
  where
    -- by the rule that it breaks and by its plan
    Window-by : Option Rule → Plan → Option Window
    Window-by q plan =
        cond
        (on_some q (λ rule. false) (compacts_on img (folds (kind_of c)) (changes_by (kind_of c) book)) && decided u n plan)
        (some (record { left = region_size img - space_of (steps (changes_by (kind_of c) book) book); since = 0 }))
        (grown (on_some q (λ rule. 0) (size_of (folds (kind_of c)) (changes_by (kind_of c) book))) o)

    Left : Option Rule → Plan → Type 0
    Left q plan = Cut (stores_of u plan) n img img' → Bounded (book_after c (decided u n plan) book) img' (Window-by q plan)

    go : (q : Option Rule) → call_broken c img ≡ q → Left q (plan_of c img)
    go (some rule) e =
        subst (Left (some rule)) (sym (plan-refused c img rule e))
        (λ made. unmoved book img img' o (λ m s l. subst (Low (region_size img) m) (sym (cut-none n img img' made)) l) h)
    go none e =
        subst (Left none) (sym (plan-accepted c img e))
        (λ made. subst (λ (vs : List Value). Bounded vs img' (Window-by none (doing (kind_of c) img))) (sym (book-cond c (decided u n (doing (kind_of c) img)) book))
        (kind-bounded (kind_of c) img img' book (accepted c img sized e) holds u n made o h))

-- ---- calls one after the other: of a run, of the interface or of a host

-- each is one cut after the stores that it made; it is not asked here whether the power failed
pub data History (start : List ℕ) : List ℕ → List Value → List Step → Type 0 where
  fresh : History start start (values_of start) []
  next : {img img' : List ℕ}
      {book : List Value}
      {ss : List Step}
      → History start img book ss
      → (c : Call)
      → Sized c
      → (w k : ℕ) (failed : Bool)
      → Cut (stores_of w (plan_of c img)) k img img'
      → History
      start
      img'
      (book_after c (decided w k (plan_of c img)) book)
      (record { call = c; image = img; book = book; width = w; complete = k; power_failed = failed } ∷ ss)

module _ (start : List ℕ) (ready : Ready start) where
  pub history-holds : {img : List ℕ} {book : List Value} {ss : List Step} → History start img book ss → Holding (blocks start) book img
  history-holds fresh = ready-holds start ready
  history-holds (next {img} {img'} {book} h c sized w k failed left) = call-cut w (blocks start) book img img' c sized (history-holds h) k left

  -- one that ran: done, it has decided what it decides
  pub history-ran : {img : List ℕ} {book : List Value} {ss : List Step} → History start img book ss → (c : Call) → Sized c → (x : Context)
      → History
      start
      (image_after x (plan_of c img) img)
      (book_after c (counts (outcome x (plan_of c img) img) (decided (page_of x) (made_of x (plan_of c img) img) (plan_of c img))) book)
      (record { call = c; image = img; book = book; width = page_of x; complete = made_of x (plan_of c img) img; power_failed = false } ∷ ss)
  unfolding image_after
  history-ran {img} {book} {ss} h c sized x =
      let k = made_of x (plan_of c img) img in
      let holds = history-holds h in
      let here = subst (λ (n : ℕ). Holding n book img) (sym (holding-blocks (blocks start) book img holds)) holds in
      subst (λ (vs : List Value). History start (after k (stores_of (page_of x) (plan_of c img)) img) vs (record { call = c; image = img; book = book; width = page_of x; complete = k; power_failed = false } ∷ ss))
      (counted book img c sized here x) (next h c sized (page_of x) k false (inl refl))

  pub run-history : {img : List ℕ} {book : List Value} → (run : Run start img book) → History start img book (steps_in run)
  unfolding steps_in
  run-history begin = fresh
  run-history (ran run c sized x) = history-ran (run-history run) c sized x
  run-history (cut run c sized w k left) = next (run-history run) c sized w k true left

  module _ (first : Option Window) (begins : Bounded (values_of start) start first) where
    history-bounded : {img : List ℕ} {book : List Value} {ss : List Step} → History start img book ss → Bounded book img (window_over first ss)
    unfolding window_over
    history-bounded fresh = begins
    history-bounded (next {img} {img'} {book} {ss} h c sized w k failed left) =
        call-bounded c sized img img' book (history-holds h) w k left (window_over first ss) (history-bounded h)

-- ---- a call whose single change does not fit in the tail

-- the tail of a ready image
ready-tail : (img : List ℕ) → Ready img → tail_at (region img) + length (tail (region img)) ≡ region_size img
ready-tail img i =
    ap (λ (l : List ℕ). tail_at l + length (tail l)) (ap region i.whole ∙ parts-region i.parts)
    ∙ whole-tail i.parts i.rested i.free i.cleaned
    ∙ sym (ap region_size i.whole ∙ parts-size i.parts)

region-length : (img : List ℕ) → Ready img → length (region img) ≡ region_size img
region-length img i =
    ap length (ap region i.whole ∙ parts-region i.parts) ∙ i.parts.region-long ∙ sym (ap region_size i.whole ∙ parts-size i.parts)

-- a call that compacts breaks no rule and finds the image ready
pub record Compacts (c : Call) (img : List ℕ) : Type 0 where
  pub unbroken : call_broken c img ≡ none
  pub ready : Ready img

pub it-compacts : (c : Call) → Sized c → (img : List ℕ) (book : List Value) → to_compact c img book ≡ true → Compacts c img
unfolding to_compact single
it-compacts c sized img book h = go (call_broken c img) refl h
  where
    at-kind : (k : Kind) → Accepted k img → compacts_on img (folds k) (changes_by k book) ≡ true → Ready img
    at-kind reads a e = absurd (false≢true e)
    at-kind (writes fold changes) a e = ready_of img a.long a.ready
    at-kind (starts_up setup) a e = absurd (false≢true e)

    go : (q : Option Rule) → call_broken c img ≡ q → on_some q (λ rule. false) (compacts_on img (folds (kind_of c)) (changes_by (kind_of c) book)) ≡ true → Compacts c img
    go (some rule) e f = absurd (false≢true f)
    go none e f = record { unbroken = e; ready = at-kind (kind_of c) (accepted c img sized e) f }

past : (img : List ℕ) → Ready img → (c : Change) → not (in_place_def img c) ≡ true → region_size img < tail_at (region img) + change_size c
unfolding in_place_def fits_tail change_size
past img i nothing h = absurd (false≢true h)
past img i (remove k) h = absurd (false≢true h)
past img i (put v) h =
    let z = leb-false (tail_at (region img) + entry_size_def v) (length (region img)) (not-true (leb (tail_at (region img) + entry_size_def v) (length (region img))) h) in
    let l = region-length img i in
    omega arith

short-past : (c : Call) → Sized c → (img : List ℕ) (book : List Value) → too_short_def c img book ≡ true → Ready img × (region_size img < tail_at (region img) + to_store c img book)
unfolding to_compact to_store
short-past c sized img book h =
    let two = and_split (to_compact c img book) (is_some (single c book)) h in
    let it = it-compacts c sized img book two.0 in
    (it.ready, go it.ready (call_broken c img) it.unbroken (single c book) two.0 two.1)
  where
    go : Ready img → (q : Option Rule) → q ≡ none → (o : Option Change)
        → on_some q (λ rule. false) (on_some o (λ change. not (in_place_def img change)) (not (all is_nothing (changes_by (kind_of c) book)))) ≡ true
        → is_some o ≡ true
        → region_size img < tail_at (region img) + on_some q (λ rule. 0) (on_some o change_size 0)
    go i (some rule) n o e f = absurd (false≢true e)
    go i none n none e f = absurd (false≢true f)
    go i none n (some change) e f = past img i change e

-- ---- the claims

-- from the beginning, where the values take no more than what is before the tail
module _ (start : List ℕ) (i : Ready start) where
  abbrev at_first : Option Window
  at_first = some (record { left = length (tail (region start)); since = 0 })

  begins-bounded : Bounded (values_of start) start at_first
  unfolding values_in
  begins-bounded =
      let whole = ready-tail start i in
      let still = ready-still start i in
      let before : space_of (values_of start) ≤ tail_at (region start) =
      rw (ap region i.whole ∙ parts-region i.parts)
      (sound-before authenticated i.r (region-chunked authenticated i.b i.parts.region-long (clean-sound i.r i.cleaned))) in
      (omega arith, (refl, λ p c. omega arith, λ p. absurd (false≢true (sym still.0 ∙ p))))

  pub history-first : {img : List ℕ} {book : List Value} {ss : List Step} → History start img book ss → Outgrown at_first ss img book
  history-first {img} {book} history w e c sized short =
      let p = short-past c sized img book short in
      let still = ready-still img p.0 in
      let bound : Bounded book img (some w) = subst (Bounded book img) e (history-bounded start i at_first begins-bounded history) in
      let room = bound.0 in
      let tail-here = bound.1.1 still.0 still.1 in
      let past_end = p.1 in
      omega arith

pub ready-wear-bound : ReadyWearBound
ready-wear-bound start img book right ready run = let i = ready_of start right ready in history-first start i (run-history start i run)

pub first-wear-bound : FirstWearBound
first-wear-bound start img book st run = let i = ready-is start (begins-ready start st) in ready-wear-bound start img book i.0 i.1 run

-- since a compaction that is made the window is the same, whatever it was at first
grown-since : (t : Bool) (new : Option Window) (n : ℕ) (o p : Option Window) → ((w : Window) → o ≡ some w → p ≡ some w)
    → (w : Window) → cond t new (grown n o) ≡ some w → cond t new (grown n p) ≡ some w
grown-since true new n o p h w e = e
grown-since false new n none p h w e = absurd (false≢true (ap is_some e))
grown-since false new n (some v) p h w e = rw (h v refl) e

window-since : (first : Option Window) (ss : List Step) (w : Window) → window_over none ss ≡ some w → window_over first ss ≡ some w
unfolding window_over
window-since first [] w e = absurd (false≢true (ap is_some e))
window-since first (s ∷ ss) w e =
    grown-since (compacted s) (some (record { left = tail_after s; since = 0 })) (to_store_by s) (window_over none ss) (window_over first ss) (window-since first ss) w e

history-outgrown : (start img : List ℕ) (book : List Value) (ss : List Step) → Ready start → History start img book ss → Outgrown none ss img book
history-outgrown start img book ss ready history w e = history-first start ready history w (window-since (at_first start ready) ss w e)

pub wear-bound : WearBound
wear-bound start img book st run = let i = begins-ready start st in history-outgrown start img book (steps_in run) i (run-history start i run)

-- the window since a compaction, where none lies after it
since-one : (first : Option Window) (between before : List Step) (one : Step) → compacted one ≡ true → any compacted between ≡ false
    → window_over first (between ++ (one ∷ before)) ≡ some (record { left = tail_after one; since = to_store_in between })
unfolding window_over to_store_in
since-one first [] before one e f = rw e
since-one first (s ∷ ss) before one e f =
    let two = or_split (compacted s) (any compacted ss) f in
    let more : to_store_by s + to_store_in ss ≡ to_store_in ss + to_store_by s = omega arith in
    rw (two.0, since-one first ss before one e two.1, more)

pub between-two : BetweenTwo
between-two start img book st run between before one e made others c sized short =
    let two = and_split (too_short_def one.call one.image one.book) (decides one) made in
    let its = and_split (to_compact one.call one.image one.book) (is_some (single one.call one.book)) two.0 in
    let compacted-one : compacted one ≡ true = rw its.0 two.1 in
    wear-bound start img book st run (record { left = tail_after one; since = to_store_in between })
    (ap (window_over none) e ∙ since-one none between before one compacted-one others) c sized short

pub compaction-planned : CompactionPlanned
unfolding to_compact single entered
compaction-planned start img book st run c sized h =
    let it = it-compacts c sized img book h in
    plan-accepted c img it.unbroken
    ∙ at-kind (kind_of c) (accepted c img sized it.unbroken)
    (subst (λ (q : Option Rule). on_some q (λ rule. false) (compacts_on img (folds (kind_of c)) (changes_by (kind_of c) book)) ≡ true) it.unbroken h)
  where
    at-kind : (k : Kind) → Accepted k img → compacts_on img (folds k) (changes_by k book) ≡ true → doing k img ≡ compact_plan img (steps (changes_by k book) book)
    at-kind reads a f = absurd (false≢true f)
    at-kind (starts_up setup) a f = absurd (false≢true f)
    at-kind (writes fold changes) a f =
        let held = ready-values img book (ready_of img a.long a.ready) (run_holds start st run) in
        ap (λ (vs : List Value). changes_plan fold img (changes vs)) held
        ∙ compacts-plan img fold (changes book) f
        ∙ ap (λ (vs : List Value). compact_plan img (steps (changes book) vs)) held

-- a single change is the only one, and not folded in
alone-one : (fold : Bool) (cs : List Change) (c : Change) → alone fold cs ≡ some c → (fold ≡ false) × (cs ≡ c ∷ [])
alone-one true cs c e = absurd (false≢true (ap is_some e))
alone-one false [] c e = absurd (false≢true (ap is_some e))
alone-one false (d ∷ []) c e = (refl, ap (λ (o : Option Change). on_some o (λ x. x ∷ []) []) e)
alone-one false (d ∷ x ∷ cs) c e = absurd (false≢true (ap is_some e))

pub to-store-planned : ToStorePlanned
unfolding single to_store change_size change_plan
to-store-planned start img book st run c sized unbroken v one =
    (plan-accepted c img unbroken ∙ at-kind (kind_of c) (accepted c img sized unbroken) one, rw (unbroken, one))
  where
    at-kind : (k : Kind) → Accepted k img → alone (folds k) (changes_by k book) ≡ some (put v) → doing k img ≡ put_plan img v
    at-kind reads a e = absurd (false≢true (ap is_some e))
    at-kind (starts_up setup) a e = absurd (false≢true (ap is_some e))
    at-kind (writes fold changes) a e =
        let held = ready-values img book (ready_of img a.long a.ready) (run_holds start st run) in
        let its = alone-one fold (changes book) (put v) e in
        rw (held, its.0, its.1)

-- a compaction that is made has its tail right after the values
call_at : {b : ℕ} (c : Call) → Sized c → (img img' : List ℕ) (book : List Value) → Holding b book img → to_compact c img book ≡ true → (u n : ℕ)
    → Cut (stores_of u (plan_of c img)) n img img' → decided u n (plan_of c img) ≡ true → At (region_size img) (space_of (entered c book)) img'
unfolding to_compact single entered
call_at c sized img img' book holds h u n left complete =
    let it = it-compacts c sized img book h in
    let plan = plan-accepted c img it.unbroken in
    at-kind (kind_of c) (accepted c img sized it.unbroken) (subst (λ (p : Plan). Cut (stores_of u p) n img img') plan left) (ap (decided u n) (sym plan) ∙ complete)
    (subst (λ (q : Option Rule). on_some q (λ rule. false) (compacts_on img (folds (kind_of c)) (changes_by (kind_of c) book)) ≡ true) it.unbroken h)
  where
    at-kind : (k : Kind) → Accepted k img → Cut (stores_of u (doing k img)) n img img' → decided u n (doing k img) ≡ true
        → compacts_on img (folds k) (changes_by k book) ≡ true → At (region_size img) (space_of (steps (changes_by k book) book)) img'
    at-kind reads a made e f = absurd (false≢true f)
    at-kind (starts_up setup) a made e f = absurd (false≢true f)
    at-kind (writes fold changes) a made e f =
        let held = ready-values img book (ready_of img a.long a.ready) holds in
        let there : decided u n (changes_plan fold img (changes book)) ≡ true = subst (λ (vs : List Value). decided u n (changes_plan fold img (changes vs)) ≡ true) held e in
        (writes-move fold changes img book a holds u n img' (subst (λ (vs : List Value). Cut (stores_of u (changes_plan fold img (changes vs))) n img img') held made)).1 (rw f there)

pub compaction-leaves : CompactionLeaves
unfolding tail_left
compaction-leaves start img book st run c sized made w k img' left complete ready =
    let holds = run_holds start st run in
    let at-end = call_at c sized img img' book holds made w k left complete in
    let right = (holding-right (book_after c (decided w k (plan_of c img)) book) img' (call-cut w (blocks start) book img img' c sized holds k left)).0 in
    let i = ready_of img' right ready in
    let still = ready-still img' i in
    let whole = ready-tail img' i in
    let same_size = at-end.0 in
    let tail-there = at-end.1 still.0 still.1 in
    omega arith

-- ---- how many compactions

abbrev pub one_if : Bool → ℕ
one_if true = 1
one_if false = 0

pub one-most : (t : Bool) → one_if t ≤ 1
one-most true = omega arith
one-most false = omega arith

pub count-more : (f : Step → Bool) (s : Step) (ss : List Step) → count f (s ∷ ss) ≡ one_if (f s) + count f ss
count-more f s ss = go (f s)
  where
    go : (t : Bool) → length (cond t (s ∷ keep f ss) (keep f ss)) ≡ one_if t + length (keep f ss)
    go true = omega arith
    go false = omega arith

-- so many for a short tail, with so much to be stored in all
abbrev Counted : ℕ → ℕ → ℕ → Option Window → Type 0
Counted least made total none = made * suc least ≤ total
Counted least made total (some w) = (least ≤ w.left) × (made * suc least + w.since ≤ suc least + total)

one_more : (n a : ℕ) → (1 + n) * a ≡ n * a + a
one_more n a = omega arith

-- one call: whether its compaction is made and for a short tail, what it has to store, and the tail that it leaves
counted-on : (least made total : ℕ) (o : Option Window) (complete short : Bool) (n left : ℕ) → (short ≡ true → complete ≡ true) → (complete ≡ true → least ≤ left)
    → ((w : Window) → o ≡ some w → short ≡ true → w.left < w.since + n) → Counted least made total o
    → Counted least (one_if short + made) (n + total) (cond complete (some (record { left = left; since = 0 })) (grown n o))
counted-on least made total o false true n left whole enough bound h = absurd (false≢true (whole refl))
counted-on least made total none true true n left whole enough bound h = (enough refl, let e = one_more made (suc least) in omega arith)
counted-on least made total (some w) true true n left whole enough bound h =
    (enough refl, let e = one_more made (suc least) in let f = bound w refl refl in let g = h.0 in let k = h.1 in omega arith)
counted-on least made total none true false n left whole enough bound h = (enough refl, omega arith)
counted-on least made total (some w) true false n left whole enough bound h = (enough refl, let k = h.1 in omega arith)
counted-on least made total none false false n left whole enough bound h = omega arith
counted-on least made total (some w) false false n left whole enough bound h = (h.0, let k = h.1 in omega arith)

abbrev short : Step → Bool
short s = too_short_def s.call s.image s.book && decides s

short-whole : (a b c : Bool) → (a && b && c) ≡ true → (a && c) ≡ true
short-whole true true c h = h
short-whole true false c h = absurd (false≢true h)
short-whole false b c h = absurd (false≢true h)

module _ (start : List ℕ) (ready : Ready start) (least : ℕ) where
  history-counted : {img : List ℕ} {book : List Value} {ss : List Step} → History start img book ss → LeavesAtLeast least ss
      → Counted least (shorts ss) (to_store_in ss) (window_over none ss)
  unfolding window_over to_store_in
  history-counted fresh l = omega arith
  history-counted (next {img} {img'} {book} {ss} h c sized w k failed left) l =
      let s : Step = record { call = c; image = img; book = book; width = w; complete = k; power_failed = failed } in
      rw (count-more short s ss)
      (counted-on least (shorts ss) (to_store_in ss) (window_over none ss) (compacted s) (short s) (to_store_by s) (tail_after s)
      (short-whole (to_compact c img book) (is_some (single c book)) (decides s)) l.0
      (λ w e made. history-outgrown start img book ss ready h w e c sized (and_split (too_short_def c img book) (decides s) made).0)
      (history-counted h l.1))

pub history-shorts : (start img : List ℕ) (book : List Value) (ss : List Step) → Ready start → History start img book ss → ShortsBounded ss
history-shorts start img book ss ready history least l = go (window_over none ss) (history-counted start ready least history l)
  where
    go : (o : Option Window) → Counted least (shorts ss) (to_store_in ss) o → shorts ss * suc least ≤ suc least + to_store_in ss
    go none h = omega arith
    go (some w) h = let g = h.1 in omega arith

pub compactions-bounded : CompactionsBounded
compactions-bounded start img book st run = let i = begins-ready start st in history-shorts start img book (steps_in run) i (run-history start i run)
