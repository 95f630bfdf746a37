-- How often each block is erased. A compaction that is made erases each block of region and spare once, and one that is not made none of them; changes in place erase nothing. A
-- start-up erases the spare once more where it finds it not blank and then compacts: but in a run it finds both only after a start-up that began to compact and erased
-- no block for it. The work block is erased where 64 records are used, and each compaction that is begun uses one; or by a start-up.
-- Assumes nothing.
use Prim.Native.Nat.{ℕ, zero, suc, ◌+◌, ◌*◌, ◌-◌, ◌≤◌, ◌<◌}
use native.Mathlib.Omega.{arith}
use mathlib.Core.Path.{◌≡◌, refl, sym, ap, ◌∙◌, subst}
use mathlib.Core.Logic.{◌⊎◌, inl, inr, ◌≢◌}
use mathlib.Core.Bool.{Bool, true, false, not, cond, ◌&&◌, false≢true, true≢false}
use mathlib.Core.List.{List, [], ◌∷◌, ◌++◌, append_assoc}
use mathlib.Core.Option.{Option, none, some}
use lib.ListN.{length, take, set, replicate, length-append, length-set, length-replicate}
use lib.Seq.{take-nil}
use lib.Dec.{eqb, leb}
use borrow.Author.Tests.{leb-true, leb-false, eqb-true, eq-eqb, ne_eqb}
use Rattle.model.specs.Layout.{authenticated}
use Rattle.model.specs.Lists.{keep, all_ff, on_some, is_some, is_empty}
use Rattle.model.specs.Name.{Key}
use Rattle.model.specs.Image.{block, blocks, region_size, region, work, spare}
use Rattle.model.specs.Entry.{Value, key_of}
use Rattle.model.specs.Walk.{Entry, state_of}
use Rattle.model.specs.Region.{entries, tail_at, tail, values, values_of, values_in, sound, clean, clean_in, added, replacing, standing}
use Rattle.model.specs.declared.Rule.{Rule}
use Rattle.model.specs.Work.{well_formed, ends_in_fc_def, idle, pending, used_records}
use Rattle.model.specs.Change.{Change, steps, space_of}
use Rattle.model.specs.Stores.{Store, erase, Write, write, header, clear, blank, pages, stores_one_def, stores, run, mark, erases, Every, Cut, left_by_def}
use Rattle.model.specs.Compact.{encode, all_used, next_record_def, fill_spare, finish, compact_to, compact_on}
use Rattle.model.specs.StartUp.{tidy_spare, tidy_work, tidy_tail, start_up_stores}
use Rattle.model.specs.Set.{Plan, mark_state, leftover, entry_stores, delete_to, tail_to, tail_on, compact_plan, changes_plan}
use Rattle.model.specs.Answers.{stores_of, decided}
use Rattle.model.specs.Book.{Call, call_broken, Kind, reads, writes, starts_up, kind_of, doing, plan_of, Sized, changes_by, folds}
use Rattle.model.proofs.Tests.{and_split}
use Rattle.model.proofs.Values.{keep_append}
use Rattle.model.proofs.Stores.{stores-append, every-page}
use Rattle.model.proofs.Changes.{Fitting, steps-valid, steps-distinct}
use Rattle.model.proofs.Chunks.{Chunked, region-chunked}
use Rattle.model.proofs.Parts.{Parts, parts-region, parts-work, parts-spare, parts-blocks, parts-size}
use Rattle.model.proofs.Encode.{AllValid, Distinct, sound-valid, sound-distinct, sound-fits, encode-length, encode-clean, blank-all_ff}
use Rattle.recovery.specs.Wear.{single, to_compact, too_short_def, otherwise, busy_by, busy_start_up, Step, decides, compacted, shorts, others, busy_start_ups, is_erase, erases_in, erases_by, erased, BlocksBounded}
use Rattle.recovery.proofs.Cuts.{Goes, goes-nowhere, goes-append}
use Rattle.recovery.proofs.Invariant.{Holding, in-spare, in-region, holding-blocks}
use Rattle.recovery.proofs.Compaction.{clean-sound}
use Rattle.recovery.proofs.StartingUp.{Ready, ready_of, goes_left, tidy_spare-goes, tidy_work-goes, not-pending, is-pending, resume-none}
use Rattle.recovery.proofs.Sets.{same_parts}
use Rattle.recovery.proofs.EveryCall.{plan-refused, plan-accepted, Lets, Accepted, accepted}
use Rattle.recovery.proofs.Theorem.{compact-some, its-values, ready-values, cut-none}
use Rattle.recovery.proofs.Wear.{one_if, one-most, count-more, InPlace, no_stores, deletes, writes-tail, compacting, compacts_on, compacts-plan, in_place, changes-cut, cut-safe, cut-both, pending-stores, pending-risen, History, fresh, next, history-holds}

-- ---- how often a block is erased by a list of stores, and by what is written

pub erases-append : (j : ℕ) (xs ys : List Store) → erases_in j (xs ++ ys) ≡ erases_in j xs + erases_in j ys
erases-append j xs ys = ap length (keep_append (is_erase j) xs ys) ∙ length-append (keep (is_erase j) xs) (keep (is_erase j) ys)

erases-more : (j : ℕ) (s : Store) (ss : List Store) → erases_in j (s ∷ ss) ≡ one_if (is_erase j s) + erases_in j ss
erases-more j s ss = go (is_erase j s)
  where
    go : (t : Bool) → length (cond t (s ∷ keep (is_erase j) ss) (keep (is_erase j) ss)) ≡ one_if t + length (keep (is_erase j) ss)
    go true = omega arith
    go false = omega arith

-- the first n have no more
pub erases-take : (j n : ℕ) (ss : List Store) → erases_in j (take n ss) ≤ erases_in j ss
erases-take j zero ss = omega arith
erases-take j (suc n) [] = omega arith
erases-take j (suc n) (s ∷ ss) =
    let h = erases-take j n ss in
    let e = erases-more j s (take n ss) in
    let f = erases-more j s ss in
    omega arith

-- bytes are stored without an erase
not-erased : (j : ℕ) (ss : List Store) → Every (λ s. is_erase j s ≡ false) ss → erases_in j ss ≡ 0
not-erased j [] h = refl
not-erased j (s ∷ ss) h = rw h.0 (not-erased j ss h.1)

pages-not : (j w at : ℕ) (bs : List ℕ) → Every (λ s. is_erase j s ≡ false) (pages w at bs)
unfolding pages
pages-not j w at [] = tt
pages-not j w at (b ∷ bs) = every-page (λ s. is_erase j s ≡ false) w at b bs refl (λ cs h. refl) (pages-not j w (suc at) bs)

-- what is written, whatever w is
unfoldable pub clears : ℕ → List Write → ℕ
clears j [] = 0
clears j (write at bs ∷ ws) = clears j ws
clears j (header at front rest ∷ ws) = clears j ws
clears j (clear b ∷ ws) = one_if (eqb b j) + clears j ws

pub stores-erase : (j w : ℕ) (ws : List Write) → erases_in j (stores w ws) ≡ clears j ws
unfolding stores stores_one_def clears
stores-erase j w [] = refl
stores-erase j w (write at bs ∷ ws) =
    let e = erases-append j (pages w at bs) (stores w ws) in
    let f = not-erased j (pages w at bs) (pages-not j w at bs) in
    let h = stores-erase j w ws in
    omega arith
stores-erase j w (header at front rest ∷ ws) =
    let e = erases-append j (cond (eqb w 1) (pages 1 at front ++ pages 1 (at + length front + 1) rest) (pages w at (front ++ (0xFF ∷ []) ++ rest))) (stores w ws) in
    let f = none (eqb w 1) in
    let h = stores-erase j w ws in
    omega arith
  where
    none : (t : Bool) → erases_in j (cond t (pages 1 at front ++ pages 1 (at + length front + 1) rest) (pages w at (front ++ (0xFF ∷ []) ++ rest))) ≡ 0
    none true =
        let e = erases-append j (pages 1 at front) (pages 1 (at + length front + 1) rest) in
        let f = not-erased j (pages 1 at front) (pages-not j 1 at front) in
        let g = not-erased j (pages 1 (at + length front + 1) rest) (pages-not j 1 (at + length front + 1) rest) in
        omega arith
    none false = not-erased j (pages w at (front ++ (0xFF ∷ []) ++ rest)) (pages-not j w at (front ++ (0xFF ∷ []) ++ rest))
stores-erase j w (clear b ∷ ws) = let e = erases-more j (erase b) (stores w ws) in let h = stores-erase j w ws in omega arith

pub clears-append : (j : ℕ) (xs ys : List Write) → clears j (xs ++ ys) ≡ clears j xs + clears j ys
unfolding clears
clears-append j [] ys = omega arith
clears-append j (write at bs ∷ xs) ys = clears-append j xs ys
clears-append j (header at front rest ∷ xs) ys = clears-append j xs ys
clears-append j (clear b ∷ xs) ys = let h = clears-append j xs ys in omega arith

-- of the first k, and of one more if the next may be begun, a list has no more than it has; if they end before its last, none of what follows it
abbrev pub reached : ℕ → Bool → ℕ
reached k failed = cond failed (suc k) k

take-front : {A : Type 0} (n : ℕ) (xs ys : List A) → n ≤ length xs → take n (xs ++ ys) ≡ take n xs
take-front zero xs ys h = refl
take-front (suc n) [] ys h = absurd (omega arith)
take-front {A = A} (suc n) (x ∷ xs) ys h = ap (λ (l : List A). x ∷ l) (take-front n xs ys (omega arith))

module _ (j w : ℕ) where
  pub erases-within : (n : ℕ) (ws : List Write) → erases_in j (take n (stores w ws)) ≤ clears j ws
  erases-within n ws = let h = erases-take j n (stores w ws) in let e = stores-erase j w ws in omega arith

  pub erases-front : (n : ℕ) (xs ys : List Write) → n ≤ length (stores w xs) → erases_in j (take n (stores w (xs ++ ys))) ≤ clears j xs
  erases-front n xs ys h =
      let e : take n (stores w (xs ++ ys)) ≡ take n (stores w xs) = ap (take n) (stores-append w xs ys) ∙ take-front n (stores w xs) (stores w ys) h in
      rw e (erases-within n xs)

  pub erases-before : (k : ℕ) (failed : Bool) (xs ys : List Write) → k < length (stores w xs) → erases_in j (take (reached k failed) (stores w (xs ++ ys))) ≤ clears j xs
  erases-before k failed xs ys h = erases-front (reached k failed) xs ys (go failed)
    where
      go : (t : Bool) → cond t (suc k) k ≤ length (stores w xs)
      go true = omega arith
      go false = omega arith

-- ---- plans

module _ (j : ℕ) where
  marks-clear : (at v : ℕ) → clears j (mark at v) ≡ 0
  unfolding clears
  marks-clear at v = refl

  on-entry : (o : Option Entry) (f : Entry → List Write) → ((e : Entry) → clears j (f e) ≡ 0) → clears j (on_some o f []) ≡ 0
  unfolding clears
  on-entry none f h = refl
  on-entry (some e) f h = h e

  leftover-clears : (k : Key) (es : List Entry) → clears j (leftover k es) ≡ 0
  unfolding leftover
  leftover-clears k es =
      on-entry (added k es) (λ f. on_some (replacing k es) (λ e. mark_state e.at 0x3C) [])
      (λ f. on-entry (replacing k es) (λ e. mark_state e.at 0x3C) (λ e. marks-clear (e.at + 2) 0x3C))

  entry-clears : (at : ℕ) (v : Value) → clears j (entry_stores at v) ≡ 0
  unfolding entry_stores clears
  entry-clears at v = refl

  both-none : (xs ys : List Write) → clears j xs ≡ 0 → clears j ys ≡ 0 → clears j (xs ++ ys) ≡ 0
  both-none xs ys a b = let e = clears-append j xs ys in omega arith

  -- in place nothing is erased
  pub place-clears : {img : List ℕ} {cs : List Change} {n : ℕ} {plan : Plan} (w : ℕ) → InPlace img cs plan n → (k : ℕ) → erases_in j (take k (stores_of w plan)) ≡ 0
  unfolding stores_of tail_to tail_on delete_to clears
  place-clears w no_stores k = let e = erases-take j k (stores w []) in let f = stores-erase j w [] in omega arith
  place-clears {img} w (deletes key e) k =
      let es = entries (region img) in
      let last = on-entry (standing key es) (λ e. mark_state e.at (state_of e - 0x02)) (λ e. marks-clear (e.at + 2) (state_of e - 0x02)) in
      let first = both-none (leftover key es) (on_some (standing key es) (λ e. mark_state e.at (state_of e - 0x02)) []) (leftover-clears key es) last in
      let whole = both-none (leftover key es ++ on_some (standing key es) (λ e. mark_state e.at (state_of e - 0x02)) []) [] first refl in
      let h = erases-take j k (stores w (leftover key es ++ on_some (standing key es) (λ e. mark_state e.at (state_of e - 0x02)) [] ++ [])) in
      let f = stores-erase j w (leftover key es ++ on_some (standing key es) (λ e. mark_state e.at (state_of e - 0x02)) [] ++ []) in
      omega arith
  place-clears {img} w (writes-tail v e fits) k =
      let es = entries (region img) in
      let at = tail_at (region img) in
      let a : List Write = leftover (key_of v) es in
      let b : List Write = on_some (added (key_of v) es) (λ e. mark_state e.at 0x3E) [] in
      let c : List Write = entry_stores at v in
      let d : List Write = mark_state at 0x3F in
      let o : List Write = on_some (standing (key_of v) es) (λ e. mark_state e.at 0x3C) [] in
      let whole = both-none (a ++ b ++ c ++ d) o
      (both-none (a ++ b ++ c) d
      (both-none (a ++ b) c (both-none a b (leftover-clears (key_of v) es) (on-entry (added (key_of v) es) (λ e. mark_state e.at 0x3E) (λ e. marks-clear (e.at + 2) 0x3E))) (entry-clears at v))
      (marks-clear (at + 2) 0x3F))
      (on-entry (standing (key_of v) es) (λ e. mark_state e.at 0x3C) (λ e. marks-clear (e.at + 2) 0x3C)) in
      let h = erases-take j k (stores w (a ++ b ++ c ++ d ++ o)) in
      let f = stores-erase j w (a ++ b ++ c ++ d ++ o) in
      omega arith

  -- blocks one after the other: each once
  pub erases-once : (from n : ℕ) → (clears j (erases from n) ≤ 1) × (j < from → clears j (erases from n) ≡ 0) × (from + n ≤ j → clears j (erases from n) ≡ 0)
  unfolding erases clears
  erases-once from zero = (omega arith, λ h. refl, λ h. refl)
  erases-once from (suc n) =
      let r = erases-once (suc from) n in (
        go (eqb from j) refl r,
        λ h. rw (ne_eqb from j (λ e. absurd (omega arith))) (let z = r.1 (omega arith) in omega arith),
        λ h. rw (ne_eqb from j (λ e. absurd (omega arith))) (let z = r.2 (omega arith) in omega arith),
      )
    where
      go : (t : Bool) → eqb from j ≡ t
          → (clears j (erases (suc from) n) ≤ 1) × (j < suc from → clears j (erases (suc from) n) ≡ 0) × (suc from + n ≤ j → clears j (erases (suc from) n) ≡ 0)
          → one_if t + clears j (erases (suc from) n) ≤ 1
      go true e r = let same = eqb-true from j e in let h = r.1 (omega arith) in omega arith
      go false e r = let h = r.0 in omega arith

  -- what a compaction does from its deciding store on: every block of region and spare once
  pub finish-clears : (b place : ℕ) (content : List ℕ) → (clears j (finish b place content) ≤ 1) × (j ≡ b → clears j (finish b place content) ≡ 0)
  unfolding finish clears
  finish-clears b place content =
      let r = erases-once 0 b in
      let s = erases-once (b + 1) b in
      let e = clears-append j (erases 0 b) (run 0 content) in
      let f = clears-append j (erases 0 b ++ run 0 content) (mark (block * b + place) 0xF8) in
      let g = clears-append j (erases 0 b ++ run 0 content ++ mark (block * b + place) 0xF8) (erases (b + 1) b) in
      let total : clears j (erases 0 b ++ run 0 content ++ mark (block * b + place) 0xF8 ++ erases (b + 1) b) ≡ clears j (erases 0 b) + clears j (erases (b + 1) b) = omega arith in
      (go (leb b j) refl r s total, λ h. (let x = r.2 (omega arith) in let y = s.1 (omega arith) in omega arith))
    where
      go : (t : Bool) → leb b j ≡ t
          → (clears j (erases 0 b) ≤ 1) × (j < 0 → clears j (erases 0 b) ≡ 0) × (0 + b ≤ j → clears j (erases 0 b) ≡ 0)
          → (clears j (erases (b + 1) b) ≤ 1) × (j < b + 1 → clears j (erases (b + 1) b) ≡ 0) × (b + 1 + b ≤ j → clears j (erases (b + 1) b) ≡ 0)
          → clears j (finish b place content) ≡ clears j (erases 0 b) + clears j (erases (b + 1) b)
          → clears j (finish b place content) ≤ 1
      go true e r s total = let l = leb-true b j e in let x = r.2 (omega arith) in let y = s.0 in omega arith
      go false e r s total = let l = leb-false b j e in let x = r.0 in let y = s.1 (omega arith) in omega arith

  -- up to it, the work block at most
  pub fill-clears : (b : ℕ) (w content : List ℕ) → (j ≢ b → clears j (fill_spare b w content) ≡ 0) × (j ≡ b → clears j (fill_spare b w content) ≡ one_if (all_used w))
  unfolding fill_spare clears
  fill-clears b w content = (λ h. other (all_used w) h, λ h. own (all_used w) h)
    where
      rest : List Write → ℕ
      rest first = clears j (first ++ mark (block * b + next_record_def w) 0xFE ++ run (block * b + block) content ++ mark (block * b + next_record_def w) 0xFC)

      other : (t : Bool) → j ≢ b → rest (cond t (clear b ∷ []) []) ≡ 0
      other true h = rw (ne_eqb b j (λ e. h (sym e)))
      other false h = refl

      own : (t : Bool) → j ≡ b → rest (cond t (clear b ∷ []) []) ≡ one_if t
      own true h = rw (eq-eqb b j (sym h))
      own false h = refl

-- ---- a compaction of an image, of which so many stores are complete and one more may be begun

module _ (img : List ℕ) (vs : List Value) (u k : ℕ) (failed : Bool) where
  -- a block of region or spare: if it decides
  pub compact-erases : (j : ℕ) → j ≢ blocks img → erases_in j (take (reached k failed) (stores_of u (compact_plan img vs))) ≤ one_if (decided u k (compact_plan img vs))
  unfolding stores_of decided compact_to compact_on
  compact-erases j other = rw (compact-some img vs) (go (leb (length (stores u (compact_to img vs))) k) refl)
    where
      none_before : clears j (compact_to img vs) ≡ 0
      none_before = (fill-clears j (blocks img) (work img) (encode (region_size img) vs)).0 other

      once : clears j (compact_on img vs) ≤ 1
      once = (finish-clears j (blocks img) (next_record_def (work img)) (encode (region_size img) vs)).0

      go : (t : Bool) → leb (length (stores u (compact_to img vs))) k ≡ t
          → erases_in j (take (reached k failed) (stores u (compact_to img vs ++ compact_on img vs))) ≤ one_if t
      go true e =
          let h = erases-within j u (reached k failed) (compact_to img vs ++ compact_on img vs) in
          let f = clears-append j (compact_to img vs) (compact_on img vs) in
          let g = none_before in
          let o = once in
          omega arith
      go false e =
          let h = erases-before j u k failed (compact_to img vs) (compact_on img vs) (leb-false (length (stores u (compact_to img vs))) k e) in
          let g = none_before in
          omega arith

  -- the work block: if all its records are used
  pub compact-own : erases_in (blocks img) (take (reached k failed) (stores_of u (compact_plan img vs))) ≤ one_if (all_used (work img))
  unfolding stores_of compact_to compact_on
  compact-own =
      let b = blocks img in
      let h = erases-within b u (reached k failed) (compact_to img vs ++ compact_on img vs) in
      let f = clears-append b (compact_to img vs) (compact_on img vs) in
      let g = (fill-clears b b (work img) (encode (region_size img) vs)).1 refl in
      let o = (finish-clears b b (next_record_def (work img)) (encode (region_size img) vs)).1 refl in
      omega arith

-- ---- spare and tail both to be tidied, with nothing pending: then a start-up erases the spare once more

abbrev pub owes : List ℕ → Bool
owes img = not (pending img) && not (all_ff (spare img)) && not (all_ff (tail (region img)))

not-owed : (a b c : Bool) → (a ≡ true) ⊎ ((b ≡ true) ⊎ (c ≡ true)) → (not a && not b && not c) ≡ false
not-owed true b c h = refl
not-owed false true c h = refl
not-owed false false true h = refl
not-owed false false false (inl e) = absurd (false≢true e)
not-owed false false false (inr (inl e)) = absurd (false≢true e)
not-owed false false false (inr (inr e)) = absurd (false≢true e)

clean-tail : (r : List ℕ) → clean r ≡ true → all_ff (tail r) ≡ true
unfolding clean_in
clean-tail r h = (and_split (sound r) (all_ff (tail r)) h).1

module _ {b : ℕ} {r w s : List ℕ} (p : Parts b r w s) where
  owes-pending : well_formed w ≡ true → ends_in_fc_def w ≡ true → clean s ≡ true → owes (r ++ (w ++ s)) ≡ false
  owes-pending f e c = not-owed (pending (r ++ (w ++ s))) (all_ff (spare (r ++ (w ++ s)))) (all_ff (tail (region (r ++ (w ++ s))))) (inl (is-pending p f e c))

  owes-spare : all_ff s ≡ true → owes (r ++ (w ++ s)) ≡ false
  owes-spare h = not-owed (pending (r ++ (w ++ s))) (all_ff (spare (r ++ (w ++ s)))) (all_ff (tail (region (r ++ (w ++ s))))) (inr (inl (ap all_ff (parts-spare p) ∙ h)))

  owes-tail : all_ff (tail r) ≡ true → owes (r ++ (w ++ s)) ≡ false
  owes-tail h =
      not-owed (pending (r ++ (w ++ s))) (all_ff (spare (r ++ (w ++ s)))) (all_ff (tail (region (r ++ (w ++ s))))) (inr (inr (ap (λ (l : List ℕ). all_ff (tail l)) (parts-region p) ∙ h)))

pub ready-owes : (img : List ℕ) → Ready img → owes img ≡ false
ready-owes img i = ap owes i.whole ∙ owes-spare i.parts i.free

-- ---- a call that changes values does not leave that

abbrev Unowed : List ℕ → Type 0
Unowed img = owes img ≡ false

module _ {b : ℕ} {r w s : List ℕ} (p : Parts b r w s) where
  -- from the deciding store of a compaction on
  pends-unowed : (vs : List Value) → AllValid authenticated vs → Distinct vs → space_of vs ≤ block * b
      → (x y : List ℕ) → length x ≡ block * b → length y ≡ block → well_formed y ≡ true → ends_in_fc_def y ≡ true → Unowed (x ++ (y ++ encode (block * b) vs))
  pends-unowed vs valid distinct fits x y l n f e =
      owes-pending {b = b} {r = x} {w = y} {s = encode (block * b) vs}
      (record { low = p.low; high = p.high; region-long = l; work-long = n; spare-long = encode-length authenticated (block * b) vs valid fits }) f e
      (encode-clean authenticated (block * b) vs valid distinct fits)

  rests-unowed : (vs : List Value) → AllValid authenticated vs → Distinct vs → space_of vs ≤ block * b
      → (x y : List ℕ) → length x ≡ block → length y ≡ block * b → idle x ≡ true → Unowed (encode (block * b) vs ++ (x ++ y))
  rests-unowed vs valid distinct fits x y l n i =
      owes-tail {b = b} {r = encode (block * b) vs} {w = x} {s = y}
      (record { low = p.low; high = p.high; region-long = encode-length authenticated (block * b) vs valid fits; work-long = l; spare-long = n })
      (clean-tail (encode (block * b) vs) (encode-clean authenticated (block * b) vs valid distinct fits))

  changes-unowed : idle w ≡ true → all_ff s ≡ true → clean r ≡ true → (fold : Bool) (cs : List Change) → Fitting cs (values (entries r)) (block * b) → (u k : ℕ) (img' : List ℕ)
      → Cut (stores_of u (changes_plan fold (r ++ (w ++ s)) cs)) k (r ++ (w ++ s)) img' → Unowed img'
  changes-unowed rested free cleaned fold cs f u k img' left =
      let vs = steps cs (values (entries r)) in
      let chunks = region-chunked authenticated b p.region-long (clean-sound r cleaned) in
      let valid = steps-valid cs (values (entries r)) f.valid (sound-valid authenticated r chunks) in
      let distinct = steps-distinct cs (values (entries r)) (sound-distinct authenticated r chunks) in
      let whole = compacting Unowed Unowed p rested free vs valid f.room
      (λ x y l n q. owes-tail {b = b} {r = r} {w = x} {s = y}
      (record { low = p.low; high = p.high; region-long = p.region-long; work-long = l; spare-long = n }) (clean-tail r cleaned))
      (pends-unowed vs valid distinct f.room) (rests-unowed vs valid distinct f.room) in
      let both = changes-cut p rested free cleaned Unowed Unowed fold cs f
      (λ x t es st. owes-spare {b = b} {r = x} {w = w} {s = s} (same_parts p rested free st.long) free) whole u k img' left in
      go (compacts_on (r ++ (w ++ s)) fold cs && decided u k (changes_plan fold (r ++ (w ++ s)) cs)) refl both
    where
      go : (t : Bool) → (compacts_on (r ++ (w ++ s)) fold cs && decided u k (changes_plan fold (r ++ (w ++ s)) cs)) ≡ t
          → ((compacts_on (r ++ (w ++ s)) fold cs && decided u k (changes_plan fold (r ++ (w ++ s)) cs)) ≡ false → Unowed img')
          × ((compacts_on (r ++ (w ++ s)) fold cs && decided u k (changes_plan fold (r ++ (w ++ s)) cs)) ≡ true → Unowed img')
          → Unowed img'
      go true e both = both.1 e
      go false e both = both.0 e

-- ---- lists that are not empty

erases-some : (from n : ℕ) (ws : List Write) → 1 ≤ n → is_empty (erases from n ++ ws) ≡ false
unfolding erases
erases-some from zero ws h = absurd (omega arith)
erases-some from (suc n) ws h = refl

last_some : (xs ys : List Write) → is_empty ys ≡ false → is_empty (xs ++ ys) ≡ false
last_some [] ys h = h
last_some (x ∷ xs) ys h = refl

first_some : (xs ys : List Write) → is_empty xs ≡ false → is_empty (xs ++ ys) ≡ false
first_some [] ys h = absurd (true≢false h)
first_some (x ∷ xs) ys h = refl

not-empty : (a b to on : List Write) → is_empty to ≡ false → is_empty (a ++ (b ++ to) ++ on) ≡ false
not-empty a b to on h = first_some (a ++ (b ++ to)) on (last_some a (b ++ to) (last_some b to h))

-- ---- a start-up, with nothing pending: the spare's blocks, the work block, and a compaction

module _ {b : ℕ} {r w s : List ℕ} (p : Parts b r w s) (sounds : sound r ≡ true) (waits : pending (r ++ (w ++ s)) ≡ false) where
  abbrev pub ffs : List ℕ
  ffs = replicate (block * b) 0xFF

  abbrev pub spare_erases : List Write
  spare_erases = cond (all_ff s) [] (erases (b + 1) b)

  abbrev pub work_erase : List Write
  work_erase = cond (idle w) [] (clear b ∷ [])

  abbrev pub rested_work : List ℕ
  rested_work = cond (idle w) w blank

  abbrev pub tidied : List ℕ
  tidied = r ++ (rested_work ++ ffs)

  abbrev pub its : List Value
  its = values (entries r)

  abbrev pub compaction : List Write
  compaction = cond (all_ff (tail r)) [] (compact_to tidied its ++ compact_on tidied its)

  blank-spare : Parts b r w ffs
  blank-spare = record { low = p.low; high = p.high; region-long = p.region-long; work-long = p.work-long; spare-long = length-replicate (block * b) 0xFF }

  -- P of the region with any work block and spare
  module _ (P : List ℕ → Type 0) (any-other : (x y : List ℕ) → length x ≡ block → length y ≡ block * b → P (r ++ (x ++ y))) where
    pub spare-goes : Goes P spare_erases (r ++ (w ++ s)) (r ++ (w ++ ffs))
    unfolding tidy_spare
    spare-goes =
        subst (λ (ws : List Write). Goes P ws (r ++ (w ++ s)) (r ++ (w ++ ffs)))
        (rw (parts-spare p, parts-blocks p))
        (tidy_spare-goes P p (λ h x l. any-other w x p.work-long l))

    pub work-goes : Goes P work_erase (r ++ (w ++ ffs)) tidied
    unfolding tidy_work
    work-goes =
        let rest = tidy_work-goes P blank-spare (λ h x l. any-other x ffs l blank-spare.spare-long) in
        subst (λ (x : List ℕ). Goes P work_erase (r ++ (w ++ ffs)) (r ++ (x ++ ffs))) rest.is
        (subst (λ (ws : List Write). Goes P ws (r ++ (w ++ ffs)) (r ++ (rest.w₁ ++ ffs))) (rw (parts-work blank-spare, parts-blocks blank-spare)) rest.goes)

  pub tidied-parts : Parts b r rested_work ffs
  tidied-parts =
      let rest = tidy_work-goes (λ x. Unit {0}) blank-spare (λ h x l. tt) in
      record { low = p.low; high = p.high; region-long = p.region-long; work-long = ap length (sym rest.is) ∙ rest.long; spare-long = blank-spare.spare-long }

  pub tidied-idle : idle rested_work ≡ true
  tidied-idle = let rest = tidy_work-goes (λ x. Unit {0}) blank-spare (λ h x l. tt) in ap idle (sym rest.is) ∙ rest.rested

  pub tidy-stores : start_up_stores (r ++ (w ++ s)) ≡ spare_erases ++ (work_erase ++ compaction)
  unfolding start_up_stores tidy_spare tidy_work tidy_tail values_in left_by_def
  tidy-stores =
      let Any : List ℕ → Type 0 = λ x. Unit {0} in
      let first = goes_left (spare-goes Any (λ x y l n. tt)) in
      let second = goes_left (work-goes Any (λ x y l n. tt)) in
      rw (resume-none (r ++ (w ++ s)) waits, parts-spare p, parts-blocks p, first, parts-work blank-spare, parts-blocks blank-spare, second, parts-region tidied-parts)

  chunks : Chunked authenticated r
  chunks = region-chunked authenticated b p.region-long sounds

  pub its-valid : AllValid authenticated its
  its-valid = sound-valid authenticated r chunks

  pub its-fits : space_of its ≤ block * b
  its-fits = rw (← p.region-long) (sound-fits authenticated r chunks)

  -- a block of region or spare
  module _ (j : ℕ) (other : j ≢ b) where
    spare-clears : clears j spare_erases ≤ one_if (not (all_ff s))
    unfolding clears
    spare-clears = go (all_ff s)
      where
        go : (t : Bool) → clears j (cond t [] (erases (b + 1) b)) ≤ one_if (not t)
        go true = omega arith
        go false = (erases-once j (b + 1) b).0

    work-clears : clears j work_erase ≡ 0
    unfolding clears
    work-clears = go (idle w)
      where
        go : (t : Bool) → clears j (cond t [] (clear b ∷ [])) ≡ 0
        go true = refl
        go false = rw (ne_eqb b j (λ e. other (sym e)))

    module _ (u k : ℕ) (failed : Bool) (img' : List ℕ) where
      abbrev Bound : List Write → Type 0
      Bound ws =
          Cut (stores u ws) k (r ++ (w ++ s)) img'
          → erases_in j (take (reached k failed) (stores u ws)) + one_if (owes img') ≤ one_if (not (is_empty ws)) + one_if (owes (r ++ (w ++ s)))

      -- nothing to compact
      tail-blank : all_ff (tail r) ≡ true → Bound (spare_erases ++ (work_erase ++ []))
      unfolding clears
      tail-blank h left =
          let goes = goes-append (spare-goes Unowed (λ x y l n. any-other x y l n)) (goes-append (work-goes Unowed (λ x y l n. any-other x y l n)) (goes-nowhere Unowed tidied)) in
          let unowed = cut-safe Unowed goes (any-other rested_work ffs tidied-parts.work-long tidied-parts.spare-long) u k img' left in
          let e = erases-within j u (reached k failed) (spare_erases ++ (work_erase ++ [])) in
          let f = clears-append j spare_erases (work_erase ++ []) in
          let g = clears-append j work_erase [] in
          let c = work-clears in
          let m = spare-clears in
          let l = full (all_ff s) in
          rw unowed (omega arith)
        where
          any-other : (x y : List ℕ) → length x ≡ block → length y ≡ block * b → Unowed (r ++ (x ++ y))
          any-other x y l n = owes-tail {b = b} {r = r} {w = x} {s = y} (record { low = p.low; high = p.high; region-long = p.region-long; work-long = l; spare-long = n }) h

          full : (t : Bool) → one_if (not t) ≤ one_if (not (is_empty (cond t [] (erases (b + 1) b) ++ (work_erase ++ []))))
          full true = omega arith
          full false = rw (erases-some (b + 1) b (work_erase ++ []) p.low) (omega arith)

      owed : all_ff (tail r) ≡ false → owes (r ++ (w ++ s)) ≡ not (all_ff s)
      owed h = rw (waits, parts-spare p, parts-region p, h) (go (all_ff s))
        where
          go : (t : Bool) → (true && not t && true) ≡ not t
          go true = refl
          go false = refl

      -- a compaction at the end
      tail-used : all_ff (tail r) ≡ false → Bound (spare_erases ++ (work_erase ++ (compact_to tidied its ++ compact_on tidied its)))
      unfolding compact_to compact_on
      tail-used h left =
          let Any : List ℕ → Type 0 = λ x. Unit {0} in
          let to : List Write = compact_to tidied its in
          let on : List Write = compact_on tidied its in
          let front : List Write = spare_erases ++ (work_erase ++ to) in
          let split : spare_erases ++ (work_erase ++ (to ++ on)) ≡ front ++ on =
          ap (λ (l : List Write). spare_erases ++ l) (sym (append_assoc work_erase to on)) ∙ sym (append_assoc spare_erases (work_erase ++ to) on) in
          let distinct = sound-distinct authenticated r chunks in
          let whole = compacting Any Unowed tidied-parts tidied-idle (blank-all_ff (block * b)) its its-valid its-fits (λ x y l n q. tt)
          (pends-unowed p its its-valid distinct its-fits) (rests-unowed p its its-valid distinct its-fits) in
          let goes = goes-append (spare-goes Any (λ x y l n. tt)) (goes-append (work-goes Any (λ x y l n. tt)) whole.to) in
          let both = cut-both Any Unowed goes whole.on whole.last u k img' (subst (λ (ws : List Write). Cut (stores u ws) k (r ++ (w ++ s)) img') split left) in
          let some_first : is_empty (front ++ on) ≡ false = not-empty spare_erases work_erase to on (compact-some tidied its) in
          let front-clears : clears j front ≤ one_if (not (all_ff s)) =
          (let a = clears-append j spare_erases (work_erase ++ to) in
          let c = clears-append j work_erase to in
          let d = (fill-clears j (blocks tidied) (work tidied) (encode (region_size tidied) its)).0 (λ e. other (e ∙ parts-blocks tidied-parts)) in
          let m = spare-clears in
          let n = work-clears in
          omega arith) in
          let once : clears j on ≤ 1 = (finish-clears j (blocks tidied) (next_record_def (work tidied)) (encode (region_size tidied) its)).0 in
          let all-clears = clears-append j front on in
          rw (split, some_first, owed h) (by front on (leb (length (stores u front)) k) refl both front-clears once all-clears)
        where
          by : (front on : List Write) (t : Bool) → leb (length (stores u front)) k ≡ t → (k < length (stores u front) → Unit {0}) × (length (stores u front) ≤ k → Unowed img')
              → clears j front ≤ one_if (not (all_ff s)) → clears j on ≤ 1 → clears j (front ++ on) ≡ clears j front + clears j on
              → erases_in j (take (reached k failed) (stores u (front ++ on))) + one_if (owes img') ≤ 1 + one_if (not (all_ff s))
          by front on true e both f o a =
              let l = erases-within j u (reached k failed) (front ++ on) in
              rw (both.1 (leb-true (length (stores u front)) k e)) (omega arith)
          by front on false e both f o a =
              let l = erases-before j u k failed front on (leb-false (length (stores u front)) k e) in
              let m = one-most (owes img') in
              omega arith

      pub tidy-erases : Bound (start_up_stores (r ++ (w ++ s)))
      tidy-erases = rw tidy-stores (go (all_ff (tail r)) refl)
        where
          go : (t : Bool) → all_ff (tail r) ≡ t → Bound (spare_erases ++ (work_erase ++ cond t [] (compact_to tidied its ++ compact_on tidied its)))
          go true h = tail-blank h
          go false h = tail-used h

-- ---- a start-up on an image that holds the book

module _ (j u k : ℕ) (failed : Bool) (img' : List ℕ) where
  abbrev UpBound : List ℕ → Type 0
  UpBound img =
      Cut (stores u (start_up_stores img)) k img img'
      → erases_in j (take (reached k failed) (stores u (start_up_stores img))) + one_if (owes img') ≤ one_if (not (is_empty (start_up_stores img))) + one_if (owes img)

  -- a compaction is pending
  finish-erases : {b : ℕ} {r w s : List ℕ} (p : Parts b r w s) → well_formed w ≡ true → ends_in_fc_def w ≡ true → clean s ≡ true → UpBound (r ++ (w ++ s))
  unfolding finish
  finish-erases {b} {r} {w} {s} p formed ended cleaned left =
      let i = used_records w - 1 in
      let after-all : Unowed img' = pending-risen p formed ended cleaned Unowed
      (λ x l. owes-pending {b = b} {r = x} {w = w} {s = s} (record { low = p.low; high = p.high; region-long = l; work-long = p.work-long; spare-long = p.spare-long }) formed ended cleaned)
      (λ x l. owes-tail {b = b} {r = s} {w = set w i 0xF8} {s = x}
      (record { low = p.low; high = p.high; region-long = p.spare-long; work-long = length-set w i 0xF8 ∙ p.work-long; spare-long = l }) (clean-tail s cleaned))
      u k img' left in
      let e = erases-within j u (reached k failed) (finish b i s) in
      let o = (finish-clears j b i s).0 in
      let some_first : is_empty (finish b i s) ≡ false =
      first_some (erases 0 b ++ run 0 s ++ mark (block * b + i) 0xF8) (erases (b + 1) b)
      (first_some (erases 0 b ++ run 0 s) (mark (block * b + i) 0xF8) (erases-some 0 b (run 0 s) p.low)) in
      rw (after-all, pending-stores p formed ended cleaned, some_first) (omega arith)

  up-erases : {b : ℕ} (K : List Value) (img : List ℕ) → Holding b K img → j ≢ b → UpBound img
  up-erases K img (in-spare h) other = rw h.whole (finish-erases h.parts h.formed h.ended h.cleaned)
  up-erases K img (in-region h) other = rw h.whole (tidy-erases h.parts h.sounds (not-pending h.parts h.quiet) j other u k failed img')

-- ---- any call

-- changes of a ready image, in which a rule is not broken
writes-unowed : {b : ℕ} (fold : Bool) (changes : List Value → List Change) (img img' : List ℕ) (book : List Value) → Lets changes img → Holding b book img → (u k : ℕ)
    → Cut (stores_of u (changes_plan fold img (changes (values_of img)))) k img img' → Unowed img'
writes-unowed fold changes img img' book lets holds u k left =
    let i = ready_of img lets.long lets.ready in
    let p = i.parts in
    let cs = changes (values_of img) in
    let same : values_of img ≡ values (entries i.r) = ap values_of i.whole ∙ its-values p i.rested i.free i.cleaned in
    let fits : Fitting cs (values (entries i.r)) (block * i.b) =
    subst (Fitting cs (values (entries i.r))) (ap region_size i.whole ∙ parts-size p) (subst (λ (vs : List Value). Fitting cs vs (region_size img)) same lets.fitting) in
    changes-unowed p i.rested i.free i.cleaned fold cs fits u k img'
    (subst (λ (x : List ℕ). Cut (stores_of u (changes_plan fold x cs)) k x img') i.whole left)

-- what they erase of region and spare
plan-erases : (j : ℕ) (img : List ℕ) → j ≢ blocks img → (fold : Bool) (cs : List Change) (u k : ℕ) (failed : Bool)
    → erases_in j (take (reached k failed) (stores_of u (changes_plan fold img cs))) ≤ one_if (compacts_on img fold cs && decided u k (changes_plan fold img cs))
plan-erases j img other fold cs u k failed = go (compacts_on img fold cs) refl
  where
    go : (t : Bool) → compacts_on img fold cs ≡ t → erases_in j (take (reached k failed) (stores_of u (changes_plan fold img cs))) ≤ one_if (t && decided u k (changes_plan fold img cs))
    go true e = rw (compacts-plan img fold cs e) (compact-erases img (steps cs (values_of img)) u k failed j other)
    go false e = let z = place-clears j u (in_place img fold cs e) (reached k failed) in omega arith

none-erased : (j n : ℕ) → erases_in j (take n []) ≡ 0
none-erased j n = rw take-nil

module _ {b : ℕ} (j : ℕ) (other : j ≢ b) (img img' : List ℕ) (book : List Value) (holds : Holding b book img) (u k : ℕ) (failed : Bool) where
  abbrev KindBound : Kind → Plan → Type 0
  KindBound kind plan =
      Cut (stores_of u plan) k img img'
      → erases_in j (take (reached k failed) (stores_of u plan)) + one_if (owes img')
      ≤ one_if (compacts_on img (folds kind) (changes_by kind book) && decided u k plan) + one_if (busy_by kind img) + one_if (owes img)

  kind-erases : (kind : Kind) → Accepted kind img → KindBound kind (doing kind img)
  unfolding stores_of stores
  kind-erases reads a left =
      let z = none-erased j (reached k failed) in
      rw (cut-none k img img' left) (omega arith)
  kind-erases (starts_up setup) a left = let z = up-erases j u k failed img' book img holds other left in omega arith
  kind-erases (writes fold changes) lets left =
      let ready = ready_of img lets.long lets.ready in
      let held : values_of img ≡ book = ready-values img book ready holds in
      let here : j ≢ blocks img = λ e. other (e ∙ holding-blocks b book img holds) in
      let z = plan-erases j img here fold (changes book) u k failed in
      let plan : changes_plan fold img (changes (values_of img)) ≡ changes_plan fold img (changes book) = ap (λ (vs : List Value). changes_plan fold img (changes vs)) held in
      rw (writes-unowed fold changes img img' book lets holds u k left, plan) (omega arith)

  pub call-erases : (c : Call) → Sized c → Cut (stores_of u (plan_of c img)) k img img'
      → erases_in j (take (reached k failed) (stores_of u (plan_of c img))) + one_if (owes img')
      ≤ one_if (to_compact c img book && decided u k (plan_of c img)) + one_if (busy_start_up c img) + one_if (owes img)
  unfolding to_compact single busy_start_up stores_of
  call-erases c sized left = go (call_broken c img) refl left
    where
      Left : Option Rule → Plan → Type 0
      Left q plan =
          Cut (stores_of u plan) k img img'
          → erases_in j (take (reached k failed) (stores_of u plan)) + one_if (owes img')
          ≤ one_if (on_some q (λ rule. false) (compacts_on img (folds (kind_of c)) (changes_by (kind_of c) book)) && decided u k plan)
          + one_if (on_some q (λ rule. false) (busy_by (kind_of c) img))
          + one_if (owes img)

      go : (q : Option Rule) → call_broken c img ≡ q → Left q (plan_of c img)
      go (some rule) e =
          subst (Left (some rule)) (sym (plan-refused c img rule e))
          (λ made. (let z = none-erased j (reached k failed) in rw (cut-none k img img' made) (omega arith)))
      go none e = subst (Left none) (sym (plan-accepted c img e)) (kind-erases (kind_of c) (accepted c img sized e))

-- ---- the run

-- a compaction that is made is for a short tail, or another one
either : (a i d : Bool) → one_if (a && d) ≡ one_if (a && i && d) + one_if (a && not i && d)
either true true true = refl
either true true false = refl
either true false true = refl
either true false false = refl
either false i d = refl

abbrev made : List Step → ℕ
made ss = shorts ss + others ss + busy_start_ups ss

step-erases : (j : ℕ) (s : Step) (ss : List Step) (img' : List ℕ) → erases_by j s + one_if (owes img') ≤ one_if (compacted s) + one_if (busy_start_up s.call s.image) + one_if (owes s.image)
    → erased j ss + one_if (owes s.image) ≤ made ss → erased j (s ∷ ss) + one_if (owes img') ≤ made (s ∷ ss)
unfolding erased
step-erases j s ss img' one h =
    let a = count-more (λ s. too_short_def s.call s.image s.book && decides s) s ss in
    let b = count-more (λ s. otherwise s.call s.image s.book && decides s) s ss in
    let c = count-more (λ s. busy_start_up s.call s.image) s ss in
    let e = either (to_compact s.call s.image s.book) (is_some (single s.call s.book)) (decides s) in
    omega arith

module _ (start : List ℕ) (ready : Ready start) (j : ℕ) (other : j ≢ blocks start) where
  history-erases : {img : List ℕ} {book : List Value} {ss : List Step} → History start img book ss → erased j ss + one_if (owes img) ≤ made ss
  unfolding erased erases_by
  history-erases fresh = rw (ready-owes start ready) (omega arith)
  history-erases (next {img} {img'} {book} {ss} h c sized w k failed left) =
      step-erases j (record { call = c; image = img; book = book; width = w; complete = k; power_failed = failed }) ss img'
      (call-erases j other img img' book (history-holds start ready h) w k failed c sized left) (history-erases h)

pub blocks-bounded : (start img : List ℕ) (book : List Value) (ss : List Step) → Ready start → History start img book ss → BlocksBounded (blocks start) ss
blocks-bounded start img book ss ready history j other = let h = history-erases start ready j other history in omega arith
