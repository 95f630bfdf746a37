-- How often the work block is erased. It is erased before a compaction where 64 records are used, and a compaction uses one; a start-up erases it where it is not as calls need it, and
-- uses one record if it compacts. An erase that is cut may leave any block, also one with 64 used records.
-- Assumes nothing.
use Prim.Native.Nat.{ℕ, zero, suc, ◌+◌, ◌*◌, ◌-◌, ◌≤◌, ◌<◌}
use native.Mathlib.Omega.{arith}
use mathlib.Core.Path.{◌≡◌, refl, sym, ap, ◌∙◌, subst}
use mathlib.Core.Bool.{Bool, true, false, not, cond}
use mathlib.Core.List.{List, [], ◌∷◌, ◌++◌, append_assoc}
use mathlib.Core.Option.{Option, none, some}
use lib.ListN.{length, take, set, replicate, length-append, length-set, length-take, length-replicate}
use lib.Seq.{take-nil}
use lib.Dec.{eqb, leb}
use borrow.Author.Tests.{leb-true, leb-false}
use Rattle.model.specs.declared.Rule.{Rule}
use Rattle.model.specs.Layout.{authenticated}
use Rattle.model.specs.Lists.{keep, all_ff, on_some, is_empty}
use Rattle.model.specs.Image.{block, blocks, region_size, work}
use Rattle.model.specs.Entry.{Value}
use Rattle.model.specs.Region.{entries, tail, values, values_of, sound, clean}
use Rattle.model.specs.Work.{record_space, records, used, well_formed, ends_in_fc_def, idle, pending, used_records}
use Rattle.model.specs.Change.{Change, steps, space_of}
use Rattle.model.specs.Stores.{Write, clear, blank, stores, stores_one_def, run, mark, erases, Cut}
use Rattle.model.specs.Compact.{encode, all_used, next_record_def, fill_spare, finish, compact_to, compact_on}
use Rattle.model.specs.Set.{Plan, compact_plan, changes_plan}
use Rattle.model.specs.StartUp.{start_up_stores}
use Rattle.model.specs.Answers.{stores_of}
use Rattle.model.specs.Book.{Call, call_broken, Kind, reads, writes, starts_up, kind_of, doing, plan_of, Sized, changes_by, folds}
use Rattle.model.proofs.Parts.{Parts, parts-work, parts-blocks, parts-size}
use Rattle.model.proofs.Stores.{stores-append}
use Rattle.model.proofs.Segments.{length-blank}
use Rattle.model.proofs.WorkBlock.{work-next, work-last, blank-idle, blank-unused}
use Rattle.model.proofs.Changes.{Fitting, steps-valid}
use Rattle.model.proofs.Chunks.{region-chunked}
use Rattle.model.proofs.Encode.{AllValid, encode-length, sound-valid}
use Rattle.recovery.specs.Wear.{single, to_compact, busy_by, busy_start_up, erases_in}
use Rattle.recovery.proofs.Cuts.{Goes, goes-nowhere, goes-append, goes-erase}
use Rattle.recovery.proofs.Invariant.{Holding, in-spare, in-region, holding-blocks}
use Rattle.recovery.proofs.StartingUp.{ready_of, ready-blocks, not-pending}
use Rattle.recovery.proofs.EveryCall.{plan-refused, plan-accepted, Lets, Accepted, accepted}
use Rattle.recovery.proofs.Compaction.{clean-sound, fill-safe, finish-safe}
use Rattle.recovery.proofs.Sets.{same_parts}
use Rattle.recovery.proofs.Theorem.{its-values, ready-values, cut-none}
use Rattle.recovery.proofs.Wear.{one_if, cut-safe, cut-both, size_of, compacts_on, compacts-plan, in_place, in-place-cut, pending-stores, pending-risen}
use Rattle.recovery.proofs.Erasing.{reached, clears, clears-append, erases-within, erases-front, erases-once, finish-clears, fill-clears, place-clears, compact-own, ffs, spare_erases, work_erase, rested_work, tidied, its, compaction, spare-goes, work-goes, tidied-parts, tidied-idle, tidy-stores, its-valid, its-fits}

-- ---- how many records are used

keep-less : {A : Type 0} (f : A → Bool) (l : List A) → length (keep f l) ≤ length l
keep-less f [] = omega arith
keep-less {A = A} f (x ∷ l) = go (f x) (keep-less f l)
  where
    go : (t : Bool) → length (keep f l) ≤ length l → length (cond t (x ∷ keep f l) (keep f l)) ≤ suc (length l)
    go true h = omega arith
    go false h = omega arith

pub used-most : (w : List ℕ) → used_records w ≤ record_space
unfolding used_records records
used-most w =
    let h = keep-less used (take record_space w) in
    let e = length-take record_space w in
    omega arith

abbrev pub used_in : List ℕ → ℕ
used_in img = used_records (work img)

abbrev pub Within : ℕ → List ℕ → Type 0
Within m img = used_in img ≤ m

within : {b : ℕ} {r w s : List ℕ} → Parts b r w s → (m : ℕ) → used_records w ≤ m → Within m (r ++ (w ++ s))
within p m h = rw (parts-work p) h

-- no stores
no-cost : (b u k : ℕ) (failed : Bool) (img img' : List ℕ) → Cut [] k img img'
    → record_space * erases_in b (take (reached k failed) []) + used_in img' ≤ used_in img + 0 + record_space * one_if failed
no-cost b u k failed img img' left =
    let z : erases_in b (take (reached k failed) []) ≡ 0 = rw take-nil in
    let e : used_in img' ≡ used_in img = ap used_in (cut-none k img img' left) in
    omega arith

-- ---- a compaction in a work block with room for a record: it uses that one

module _ {b : ℕ} {r w s : List ℕ} (p : Parts b r w s) (rested : idle w ≡ true) (space : used_records w < record_space) (c : List ℕ) (long : length c ≡ block * b) where
  abbrev from_record : List Write
  from_record =
      (mark (block * b + used_records w) 0xFE ++ run (block * b + block) c ++ mark (block * b + used_records w) 0xFC) ++ finish b (used_records w) c

  pub record Used : Type 0 where
    pub end : List ℕ
    pub goes : Goes (Within (suc (used_records w))) from_record (r ++ (w ++ s)) end
    pub last : Within (suc (used_records w)) end

  pub record-used : Used
  record-used =
      let i = used_records w in
      let next = work-next w p.work-long rested space in
      let w₂ = set w i 0xFE in
      let w₃ = set w₂ i 0xFC in
      let w₄ = set w₃ (used_records w₃ - 1) 0xF8 in
      let long₂ : length w₂ ≡ block = length-set w i 0xFE ∙ p.work-long in
      let long₃ : length w₃ ≡ block = length-set w₂ i 0xFC ∙ long₂ in
      let long₄ : length w₄ ≡ block = length-set w₃ (used_records w₃ - 1) 0xF8 ∙ long₃ in
      let q : Parts b r w₃ c = record { low = p.low; high = p.high; region-long = p.region-long; work-long = long₃; spare-long = long } in
      let closed = work-last w₃ long₃ next.complete next.ends in
      let place : used_records w₃ - 1 ≡ i = (let e = next.count in omega arith) in
      let at-end : (x : List ℕ) → length x ≡ block * b → Within (suc i) (c ++ (w₄ ++ x)) = λ x l.
      within {r = c} {w = w₄} {s = x} (record { low = p.low; high = p.high; region-long = long; work-long = long₄; spare-long = l }) (suc i)
      (let e = next.count in let f = closed.finished-count in omega arith) in
      let filled = fill-safe (Within (suc i)) p rested space (within p (suc i) (omega arith))
      (λ x l. within {r = r} {w = w₂} {s = x} (record { low = p.low; high = p.high; region-long = p.region-long; work-long = long₂; spare-long = l }) (suc i)
      (let e = next.begun-count in omega arith)) c long in
      let finished = finish-safe (Within (suc i)) q next.complete next.ends
      (λ x l. within {r = x} {w = w₃} {s = c} (record { low = p.low; high = p.high; region-long = l; work-long = long₃; spare-long = long }) (suc i)
      (let e = next.count in omega arith)) at-end in
      record {
        end = c ++ (w₄ ++ replicate (block * b) 0xFF);
        goes = goes-append filled (subst (λ (n : ℕ). Goes (Within (suc i)) (finish b n c) (r ++ (w₃ ++ c)) (c ++ (w₄ ++ replicate (block * b) 0xFF))) place finished);
        last = at-end (replicate (block * b) 0xFF) (length-replicate (block * b) 0xFF);
      }

-- the list of a compaction: its first store is the work block's erase if all records are used
module _ {b : ℕ} {r w s : List ℕ} (p : Parts b r w s) (rested : idle w ≡ true) (vs : List Value) (valid : AllValid authenticated vs) (fits : space_of vs ≤ block * b) where
  abbrev c : List ℕ
  c = encode (block * b) vs

  long : length c ≡ block * b
  long = encode-length authenticated (block * b) vs valid fits

  abbrev whole : List Write
  whole = compact_to (r ++ (w ++ s)) vs ++ compact_on (r ++ (w ++ s)) vs

  -- with room
  open-list : (e : all_used w ≡ false) → whole ≡ from_record p rested (leb-false record_space (used_records w) e) c long
  unfolding compact_to compact_on fill_spare next_record_def
  open-list e = rw (parts-work p, parts-blocks p, parts-size p, e)

  -- without
  blank-parts : Parts b r blank s
  blank-parts = record { low = p.low; high = p.high; region-long = p.region-long; work-long = length-blank; spare-long = p.spare-long }

  blank-space : used_records blank < record_space
  blank-space = rw blank-unused (omega arith)

  full-list : all_used w ≡ true → whole ≡ (clear b ∷ []) ++ from_record blank-parts blank-idle blank-space c long
  unfolding compact_to compact_on fill_spare next_record_def
  full-list e = rw (parts-work p, parts-blocks p, parts-size p, e, blank-unused)

  -- however it is cut: one record more, or only one
  pub record Open : Type 0 where
    pub end : List ℕ
    pub goes : Goes (Within (suc (used_records w))) whole (r ++ (w ++ s)) end
    pub last : Within (suc (used_records w)) end

  pub open-goes : all_used w ≡ false → Open
  open-goes e =
      let g = record-used p rested (leb-false record_space (used_records w) e) c long in
      record { end = g.end; goes = subst (λ (ws : List Write). Goes (Within (suc (used_records w))) ws (r ++ (w ++ s)) g.end) (sym (open-list e)) g.goes; last = g.last }

  open-cut : all_used w ≡ false → (u k : ℕ) (img' : List ℕ) → Cut (stores u whole) k (r ++ (w ++ s)) img' → used_in img' ≤ suc (used_records w)
  open-cut e u k img' left = let g = open-goes e in cut-safe (Within (suc (used_records w))) g.goes g.last u k img' left

  full-cut : all_used w ≡ true → (u k : ℕ) (img' : List ℕ) → Cut (stores u whole) k (r ++ (w ++ s)) img' → 1 ≤ k → used_in img' ≤ 1
  unfolding stores stores_one_def
  full-cut e u k img' left h =
      let Any : List ℕ → Type 0 = λ x. Unit {0} in
      let g = record-used blank-parts blank-idle blank-space c long in
      let one : suc (used_records blank) ≡ 1 = ap suc blank-unused in
      subst (λ (n : ℕ). used_in img' ≤ n) one
      ((cut-both Any (Within (suc (used_records blank))) {ws = clear b ∷ []} (goes-erase Any b r w s p.region-long (λ x l. tt) p.work-long) g.goes g.last u k img'
      (subst (λ (ws : List Write). Cut (stores u ws) k (r ++ (w ++ s)) img') (full-list e) left)).1 h)

  -- so 64 for an erase, and the records used: one more, and 64 where the power failed
  pub compact-cost : (u k : ℕ) (failed : Bool) (img' : List ℕ) → Cut (stores u whole) k (r ++ (w ++ s)) img'
      → record_space * erases_in b (take (reached k failed) (stores u whole)) + used_in img' ≤ used_records w + 1 + record_space * one_if failed
  unfolding stores_of
  compact-cost u k failed img' left = go (all_used w) refl failed refl
    where
      own : erases_in b (take (reached k failed) (stores u whole)) ≤ one_if (all_used w)
      own =
          subst (λ (x : List ℕ). erases_in b (take (reached k failed) (stores u whole)) ≤ one_if (all_used x)) (parts-work p)
          (subst (λ (n : ℕ). erases_in n (take (reached k failed) (stores u whole)) ≤ one_if (all_used (work (r ++ (w ++ s))))) (parts-blocks p) (compact-own (r ++ (w ++ s)) vs u k failed))

      go : (t : Bool) → all_used w ≡ t → (f : Bool) → failed ≡ f
          → record_space * erases_in b (take (reached k failed) (stores u whole)) + used_in img' ≤ used_records w + 1 + record_space * one_if f
      go false e f g =
          let h = open-cut e u k img' left in
          let o : erases_in b (take (reached k failed) (stores u whole)) ≤ 0 = subst (λ (t : Bool). erases_in b (take (reached k failed) (stores u whole)) ≤ one_if t) e own in
          omega arith
      go true e true g =
          let m = used-most (work img') in
          let l = leb-true record_space (used_records w) e in
          let o : erases_in b (take (reached k failed) (stores u whole)) ≤ 1 = subst (λ (t : Bool). erases_in b (take (reached k failed) (stores u whole)) ≤ one_if t) e own in
          omega arith
      go true e false g = rw g (stopped k refl)
        where
          stopped : (n : ℕ) → k ≡ n → record_space * erases_in b (take k (stores u whole)) + used_in img' ≤ used_records w + 1 + record_space * 0
          stopped zero h =
              let m = used-most (work img') in
              let l = leb-true record_space (used_records w) e in
              rw h (omega arith)
          stopped (suc n) h =
              let m = full-cut e u k img' left (omega arith) in
              let l = leb-true record_space (used_records w) e in
              let o : erases_in b (take (reached k failed) (stores u whole)) ≤ 1 = subst (λ (t : Bool). erases_in b (take (reached k failed) (stores u whole)) ≤ one_if t) e own in
              let o₁ : erases_in b (take k (stores u whole)) ≤ 1 = subst (λ (t : Bool). erases_in b (take (reached k t) (stores u whole)) ≤ 1) g o in
              omega arith

-- ---- changes of a ready image

module _ {b : ℕ} {r w s : List ℕ} (p : Parts b r w s) (rested : idle w ≡ true) (free : all_ff s ≡ true) (cleaned : clean r ≡ true) where
  abbrev img : List ℕ
  img = r ++ (w ++ s)

  changes-cost : (fold : Bool) (cs : List Change) → Fitting cs (values (entries r)) (block * b) → (u k : ℕ) (failed : Bool) (img' : List ℕ)
      → Cut (stores_of u (changes_plan fold img cs)) k img img'
      → record_space * erases_in b (take (reached k failed) (stores_of u (changes_plan fold img cs))) + used_in img'
      ≤ used_in img + one_if (compacts_on img fold cs) + record_space * one_if failed
  unfolding stores_of
  changes-cost fold cs f u k failed img' left = rw (parts-work p) (go (compacts_on img fold cs) refl)
    where
      go : (t : Bool) → compacts_on img fold cs ≡ t
          → record_space * erases_in b (take (reached k failed) (stores_of u (changes_plan fold img cs))) + used_in img' ≤ used_records w + one_if t + record_space * one_if failed
      go true e =
          let chunks = region-chunked authenticated b p.region-long (clean-sound r cleaned) in
          let valid = steps-valid cs (values (entries r)) f.valid (sound-valid authenticated r chunks) in
          let plan = compacts-plan img fold cs e ∙ ap (λ (vs : List Value). compact_plan img (steps cs vs)) (its-values p rested free cleaned) in
          rw plan
          (compact-cost p rested (steps cs (values (entries r))) valid f.room u k failed img' (subst (λ (q : Plan). Cut (stores_of u q) k img img') plan left))
      go false e =
          let placed = in_place img fold cs e in
          let z = place-clears b u placed (reached k failed) in
          let same = in-place-cut p rested free cleaned (λ x. used_in x ≡ used_records w) (size_of fold cs)
          (λ x t es st. ap used_records (parts-work (same_parts p rested free {r' = x} st.long))) u k img' f (size_of fold cs) (changes_plan fold img cs) placed (omega arith) left in
          omega arith

-- ---- a start-up, with nothing pending

module _ {b : ℕ} {r w s : List ℕ} (p : Parts b r w s) (sounds : sound r ≡ true) (waits : pending (r ++ (w ++ s)) ≡ false) (u k : ℕ) (failed : Bool) (img' : List ℕ) where
  abbrev Cost : List Write → Type 0
  Cost ws =
      Cut (stores u ws) k (r ++ (w ++ s)) img'
      → record_space * erases_in b (take (reached k failed) (stores u ws)) + used_in img' ≤ used_records w + 65 + record_space * one_if failed

  spare-own : clears b (spare_erases p sounds waits) ≡ 0
  unfolding clears
  spare-own = go (all_ff s)
    where
      go : (t : Bool) → clears b (cond t [] (erases (b + 1) b)) ≡ 0
      go true = refl
      go false = (erases-once b (b + 1) b).1 (omega arith)

  compaction-own : clears b (compaction p sounds waits) ≤ one_if (all_used (rested_work p sounds waits))
  unfolding clears compact_to compact_on
  compaction-own = go (all_ff (tail r))
    where
      x : List ℕ
      x = tidied p sounds waits

      vs : List Value
      vs = its p sounds waits

      q : Parts b r (rested_work p sounds waits) (ffs p sounds waits)
      q = tidied-parts p sounds waits

      go : (t : Bool) → clears b (cond t [] (compact_to x vs ++ compact_on x vs)) ≤ one_if (all_used (rested_work p sounds waits))
      go true = omega arith
      go false =
          let a = clears-append b (compact_to x vs) (compact_on x vs) in
          let f = (fill-clears b (blocks x) (work x) (encode (region_size x) vs)).1 (sym (parts-blocks q)) in
          let g = (finish-clears b (blocks x) (next_record_def (work x)) (encode (region_size x) vs)).1 (sym (parts-blocks q)) in
          let e : one_if (all_used (work x)) ≡ one_if (all_used (rested_work p sounds waits)) = ap (λ (l : List ℕ). one_if (all_used l)) (parts-work q) in
          omega arith

  -- the work block as calls need it: it is erased only where all records are used
  idle-cost : idle w ≡ true → Cost (spare_erases p sounds waits ++ (work_erase p sounds waits ++ compaction p sounds waits))
  unfolding clears
  idle-cost h left =
      let sp : List Write = spare_erases p sounds waits in
      let wk : List Write = work_erase p sounds waits in
      let cp : List Write = compaction p sounds waits in
      let e = erases-within b u (reached k failed) (sp ++ (wk ++ cp)) in
      let f = clears-append b sp (wk ++ cp) in
      let g = clears-append b wk cp in
      let n : clears b wk ≡ 0 = ap (λ (t : Bool). clears b (cond t [] (clear b ∷ []))) h in
      let m : clears b cp ≤ one_if (all_used w) = subst (λ (t : Bool). clears b cp ≤ one_if (all_used (cond t w blank))) h compaction-own in
      let o = spare-own in
      let most = used-most (work img') in
      go (all_used w) refl (omega arith) most
    where
      go : (t : Bool) → all_used w ≡ t
          → erases_in b (take (reached k failed) (stores u (spare_erases p sounds waits ++ (work_erase p sounds waits ++ compaction p sounds waits)))) ≤ one_if (all_used w)
          → used_in img' ≤ record_space
          → record_space * erases_in b (take (reached k failed) (stores u (spare_erases p sounds waits ++ (work_erase p sounds waits ++ compaction p sounds waits)))) + used_in img'
          ≤ used_records w + 65 + record_space * one_if failed
      go true e l m =
          let full = leb-true record_space (used_records w) e in
          let one : one_if (all_used w) ≡ 1 = ap one_if e in
          omega arith
      go false e l m = let nil : one_if (all_used w) ≡ 0 = ap one_if e in omega arith

  -- otherwise it is, and then one record is used at most
  other-cost : idle w ≡ false → Cost (spare_erases p sounds waits ++ (work_erase p sounds waits ++ compaction p sounds waits))
  unfolding clears stores stores_one_def
  other-cost h left =
      let e = erases-within b u (reached k failed) (sp ++ (wk ++ cp)) in
      let f = clears-append b sp (wk ++ cp) in
      let g = clears-append b wk cp in
      let n : clears b wk ≤ 1 = subst (λ (ws : List Write). clears b ws ≤ 1) (sym alone) (one_at_most (eqb b b)) in
      let m : clears b cp ≤ 0 = subst (λ (t : Bool). clears b cp ≤ one_if t) room compaction-own in
      let o = spare-own in
      let most = used-most (work img') in
      let once : erases_in b (take (reached k failed) (stores u (sp ++ (wk ++ cp)))) ≤ 1 = omega arith in
      go failed refl (leb (length (stores u (sp ++ wk))) k) refl once most
    where
      sp : List Write
      sp = spare_erases p sounds waits

      wk : List Write
      wk = work_erase p sounds waits

      cp : List Write
      cp = compaction p sounds waits

      alone : wk ≡ clear b ∷ []
      alone = ap (λ (t : Bool). cond t [] (clear b ∷ [])) h

      fresh : rested_work p sounds waits ≡ blank
      fresh = ap (λ (t : Bool). cond t w blank) h

      unused : used_records (rested_work p sounds waits) ≡ 0
      unused = ap used_records fresh ∙ blank-unused

      room : all_used (rested_work p sounds waits) ≡ false
      room = ap (λ (n : ℕ). leb record_space n) unused

      one_at_most : (t : Bool) → one_if t + 0 ≤ 1
      one_at_most true = omega arith
      one_at_most false = omega arith

      Any : List ℕ → Type 0
      Any x = Unit {0}

      q : Parts b r (rested_work p sounds waits) (ffs p sounds waits)
      q = tidied-parts p sounds waits

      started : Within 1 (tidied p sounds waits)
      started = rw (parts-work q, unused) (omega arith)

      tail-goes : (t : Bool) → (end : List ℕ)
          × Goes (Within 1) (cond t [] (compact_to (tidied p sounds waits) (its p sounds waits) ++ compact_on (tidied p sounds waits) (its p sounds waits))) (tidied p sounds waits) end
          × Within 1 end
      tail-goes true = (tidied p sounds waits, goes-nowhere (Within 1) (tidied p sounds waits), started)
      tail-goes false =
          let o = open-goes q (tidied-idle p sounds waits) (its p sounds waits) (its-valid p sounds waits) (its-fits p sounds waits) room in
          let one : suc (used_records (rested_work p sounds waits)) ≡ 1 = ap suc unused in (
            o.end,
            subst (λ (n : ℕ). Goes (Within n) (compact_to (tidied p sounds waits) (its p sounds waits) ++ compact_on (tidied p sounds waits) (its p sounds waits)) (tidied p sounds waits) o.end) one o.goes,
            subst (λ (n : ℕ). Within n o.end) one o.last,
          )

      erased-whole : length (stores u (sp ++ wk)) ≤ k → used_in img' ≤ 1
      erased-whole l =
          let g = tail-goes (all_ff (tail r)) in
          (cut-both Any (Within 1) (goes-append (spare-goes p sounds waits Any (λ x y l n. tt)) (work-goes p sounds waits Any (λ x y l n. tt))) g.1 g.2 u k img'
          (subst (λ (ws : List Write). Cut (stores u ws) k (r ++ (w ++ s)) img') (sym (append_assoc sp wk cp)) left)).1 l

      two : length (stores u (sp ++ wk)) ≡ length (stores u sp) + 1
      two = ap length (stores-append u sp wk) ∙ length-append (stores u sp) (stores u wk) ∙ ap (λ (ws : List Write). length (stores u sp) + length (stores u ws)) alone

      go : (t : Bool) → failed ≡ t → (i : Bool) → leb (length (stores u (sp ++ wk))) k ≡ i
          → erases_in b (take (reached k failed) (stores u (sp ++ (wk ++ cp)))) ≤ 1
          → used_in img' ≤ record_space
          → record_space * erases_in b (take (reached k failed) (stores u (sp ++ (wk ++ cp)))) + used_in img' ≤ used_records w + 65 + record_space * one_if failed
      go true a i c l m = let z : one_if failed ≡ 1 = ap one_if a in omega arith
      go false a true c l m = let z = erased-whole (leb-true (length (stores u (sp ++ wk))) k c) in omega arith
      go false a false c l m =
          let y = leb-false (length (stores u (sp ++ wk))) k c in
          let t = two in
          let z : erases_in b (take (reached k failed) (stores u (sp ++ (wk ++ cp)))) ≤ clears b sp =
          subst (λ (f : Bool). erases_in b (take (reached k f) (stores u (sp ++ (wk ++ cp)))) ≤ clears b sp) (sym a) (erases-front b u k sp (wk ++ cp) (omega arith)) in
          let o = spare-own in
          omega arith

  pub tidy-cost : Cost (start_up_stores (r ++ (w ++ s)))
  tidy-cost = rw (tidy-stores p sounds waits) (go (idle w) refl)
    where
      go : (t : Bool) → idle w ≡ t → Cost (spare_erases p sounds waits ++ (work_erase p sounds waits ++ compaction p sounds waits))
      go true h = idle-cost h
      go false h = other-cost h

-- ---- a start-up on an image that holds the book

module _ (b u k : ℕ) (failed : Bool) (img' : List ℕ) where
  abbrev UpCost : List ℕ → ℕ → Type 0
  UpCost img more =
      Cut (stores u (start_up_stores img)) k img img'
      → record_space * erases_in b (take (reached k failed) (stores u (start_up_stores img))) + used_in img' ≤ used_in img + more + record_space * one_if failed

  -- a compaction is pending: its record is used already
  finish-cost : {r w s : List ℕ} (p : Parts b r w s) → well_formed w ≡ true → ends_in_fc_def w ≡ true → clean s ≡ true → UpCost (r ++ (w ++ s)) 65
  finish-cost {r} {w} {s} p formed ended cleaned left =
      let i = used_records w - 1 in
      let same = (work-last w p.work-long formed ended).finished-count in
      let m = pending-risen p formed ended cleaned (Within (used_records w))
      (λ x l. within {r = x} {w = w} {s = s} (record { low = p.low; high = p.high; region-long = l; work-long = p.work-long; spare-long = p.spare-long }) (used_records w) (omega arith))
      (λ x l. within {r = s} {w = set w i 0xF8} {s = x}
      (record { low = p.low; high = p.high; region-long = p.spare-long; work-long = length-set w i 0xF8 ∙ p.work-long; spare-long = l }) (used_records w) (omega arith))
      u k img' left in
      let e = erases-within b u (reached k failed) (finish b i s) in
      let o = (finish-clears b b i s).1 refl in
      rw (pending-stores p formed ended cleaned, parts-work p) (omega arith)

  -- none where there is nothing to do
  up-cost : (K : List Value) (img : List ℕ) → Holding b K img → UpCost img (65 * one_if (not (is_empty (start_up_stores img))))
  unfolding stores
  up-cost K img holds left = go (start_up_stores img) refl
    where
      at_most : Holding b K img → UpCost img 65
      at_most (in-spare h) = rw h.whole (finish-cost h.parts h.formed h.ended h.cleaned)
      at_most (in-region h) = rw (h.whole, parts-work h.parts) (tidy-cost h.parts h.sounds (not-pending h.parts h.quiet) u k failed img')

      idle-up : Cut (stores u []) k img img' → record_space * erases_in b (take (reached k failed) (stores u [])) + used_in img' ≤ used_in img + 0 + record_space * one_if failed
      idle-up made = no-cost b u k failed img img' made

      go : (ws : List Write) → start_up_stores img ≡ ws
          → record_space * erases_in b (take (reached k failed) (stores u (start_up_stores img))) + used_in img'
          ≤ used_in img + 65 * one_if (not (is_empty (start_up_stores img))) + record_space * one_if failed
      go [] e = rw e (idle-up (subst (λ (ws : List Write). Cut (stores u ws) k img img') e left))
      go (x ∷ ws) e =
          let some_first : is_empty (start_up_stores img) ≡ false = ap is_empty e in
          rw some_first (at_most holds left)

-- ---- any call

-- changes that break no rule
writes-cost : {b : ℕ} (fold : Bool) (changes : List Value → List Change) (img img' : List ℕ) (book : List Value) → Lets changes img → Holding b book img → (u k : ℕ) (failed : Bool)
    → Cut (stores_of u (changes_plan fold img (changes (values_of img)))) k img img'
    → record_space * erases_in b (take (reached k failed) (stores_of u (changes_plan fold img (changes (values_of img))))) + used_in img'
    ≤ used_in img + one_if (compacts_on img fold (changes (values_of img))) + record_space * one_if failed
writes-cost {b} fold changes img img' book lets holds u k failed left =
    let i = ready_of img lets.long lets.ready in
    let p = i.parts in
    let cs = changes (values_of img) in
    let same : values_of img ≡ values (entries i.r) = ap values_of i.whole ∙ its-values p i.rested i.free i.cleaned in
    let fits : Fitting cs (values (entries i.r)) (block * i.b) =
    subst (Fitting cs (values (entries i.r))) (ap region_size i.whole ∙ parts-size p) (subst (λ (vs : List Value). Fitting cs vs (region_size img)) same lets.fitting) in
    let cost = changes-cost p i.rested i.free i.cleaned fold cs fits u k failed img'
    (subst (λ (x : List ℕ). Cut (stores_of u (changes_plan fold x cs)) k x img') i.whole left) in
    let size : i.b ≡ b = sym (ready-blocks img i) ∙ holding-blocks b book img holds in
    subst (λ (n : ℕ). record_space * erases_in n (take (reached k failed) (stores_of u (changes_plan fold img cs))) + used_in img'
    ≤ used_in img + one_if (compacts_on img fold cs) + record_space * one_if failed) size
    (subst (λ (x : List ℕ). record_space * erases_in i.b (take (reached k failed) (stores_of u (changes_plan fold x cs))) + used_in img'
    ≤ used_in x + one_if (compacts_on x fold cs) + record_space * one_if failed) (sym i.whole) cost)

module _ {b : ℕ} (img img' : List ℕ) (book : List Value) (holds : Holding b book img) (u k : ℕ) (failed : Bool) where
  abbrev CallCost : Plan → Bool → Bool → Type 0
  CallCost plan compacting rising =
      Cut (stores_of u plan) k img img'
      → record_space * erases_in b (take (reached k failed) (stores_of u plan)) + used_in img'
      ≤ used_in img + one_if compacting + 65 * one_if rising + record_space * one_if failed

  kind-cost : (kind : Kind) → Accepted kind img → CallCost (doing kind img) (compacts_on img (folds kind) (changes_by kind book)) (busy_by kind img)
  unfolding stores_of stores
  kind-cost reads a left = let z = no-cost b u k failed img img' left in omega arith
  kind-cost (starts_up setup) a left = let z = up-cost b u k failed img' book img holds left in omega arith
  kind-cost (writes fold changes) lets left =
      let held : values_of img ≡ book = ready-values img book (ready_of img lets.long lets.ready) holds in
      let z = writes-cost fold changes img img' book lets holds u k failed left in
      let same : one_if (compacts_on img fold (changes (values_of img))) ≡ one_if (compacts_on img fold (changes book)) = ap (λ (vs : List Value). one_if (compacts_on img fold (changes vs))) held in
      omega arith

  pub call-cost : (c : Call) → Sized c → CallCost (plan_of c img) (to_compact c img book) (busy_start_up c img)
  unfolding to_compact single busy_start_up stores_of stores
  call-cost c sized = go (call_broken c img) refl
    where
      go : (q : Option Rule) → call_broken c img ≡ q
          → CallCost (plan_of c img) (on_some q (λ rule. false) (compacts_on img (folds (kind_of c)) (changes_by (kind_of c) book))) (on_some q (λ rule. false) (busy_by (kind_of c) img))
      go (some rule) e =
          subst (λ (p : Plan). CallCost p false false) (sym (plan-refused c img rule e))
          (λ made. (let z = no-cost b u k failed img img' made in omega arith))
      go none e =
          subst (λ (p : Plan). CallCost p (compacts_on img (folds (kind_of c)) (changes_by (kind_of c) book)) (busy_by (kind_of c) img)) (sym (plan-accepted c img e))
          (kind-cost (kind_of c) (accepted c img sized e))
