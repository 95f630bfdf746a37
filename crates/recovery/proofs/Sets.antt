-- A set that breaks no rule, however cut: the values before hold up to its deciding store, the values after the change from there on; done, it leaves the image ready.
-- In the tail by marks and a write, a delete by marks, otherwise by a compaction with the change folded in.
-- Assumes nothing.
use Prim.Native.Nat.{ℕ, ◌+◌, ◌*◌, ◌-◌, ◌≤◌}
use native.Mathlib.Omega.{arith}
use mathlib.Core.Path.{◌≡◌, refl, sym, ap, ◌∙◌, subst}
use mathlib.Core.Logic.{inl}
use mathlib.Core.Bool.{Bool, true, false, ◌||◌}
use mathlib.Core.List.{List, [], ◌∷◌, ◌++◌, append_assoc, append-nil}
use lib.ListN.{length, set, length-append}
use lib.Dec.{eqb, leb}
use borrow.Author.Tests.{leb-true, le-leb, eq-eqb}
use Rattle.model.specs.Layout.{authenticated, state_at}
use Rattle.model.specs.Lists.{any, all_ff, on_some, is_some}
use Rattle.model.specs.Region.{clean_in, values_in}
use Rattle.model.specs.Name.{Key, same_key_def}
use Rattle.model.specs.Image.{block, blocks}
use Rattle.model.specs.Entry.{Value, key_of, entry_size_def, entry_bytes}
use Rattle.model.specs.Walk.{Entry, state_of, entry_key, entry_value_def}
use Rattle.model.specs.Region.{entries, tail_at, tail, values, values_of, sound, clean, within, is_entry_def, added, find}
use Rattle.model.specs.Work.{idle}
use Rattle.model.specs.Change.{without, space_of}
use Rattle.model.specs.Stores.{Write}
use Rattle.model.specs.Compact.{compact_to, compact_on}
use Rattle.model.specs.Set.{mark_state, leftover, entry_stores, tail_to, tail_on, delete_to, fits_tail}
use Rattle.model.proofs.Tests.{and_split, key-refl, true-and}
use Rattle.model.proofs.Chunks.{entry_of, Made, made-length, made-entries, made-tail_at, made-tail, sound_entries, Chunked, region-chunked, restated}
use Rattle.model.proofs.Values.{leftover-marked, add-added}
use Rattle.recovery.proofs.Cuts.{Goes, goes-nowhere, goes-append, bit-3c}
use Rattle.model.proofs.Parts.{Parts, parts-blocks, parts-region}
use Rattle.model.specs.Beside.{Valid}
use Rattle.model.proofs.Encode.{AllValid, Distinct, all_ff-blank, blank-all_ff, blank-stops, entry-reads, entry-framed, right-value, length-entry}
use Rattle.recovery.proofs.Invariant.{Holding, region-holds}
use Rattle.recovery.proofs.Compaction.{clean-sound}
use Rattle.recovery.proofs.StartingUp.{Ready, compacted}
use Rattle.recovery.proofs.Marks.{State, state-sound, state-entries, Place, mark-goes, delete-goes, Old, no_old, old_at, prepare}
use Rattle.recovery.proofs.TailWrite.{ff, ff-length, tail_place, front_of, size-split, with_tail, write_goes}

-- ---- a plan that keeps K up to its deciding store, and K' from there on, in a region of b blocks

pub record Kept (b : ℕ) (K K' : List Value) (to on : List Write) (img : List ℕ) : Type 0 where
  pub middle : List ℕ
  pub end : List ℕ
  pub to-goes : Goes (Holding b K) to img middle
  pub on-goes : Goes (Holding b K') on middle end
  pub ready : Ready end
  pub sized : blocks end ≡ b
  pub held : values_of end ≡ K'

-- ---- an entry written in the tail

within_of : (size : ℕ) (e : Entry) → e.ends ≤ size → within size e ≡ true
within_of size e h = go (eqb (state_of e) 0xFF)
  where
    go : (t : Bool) → (t || leb e.ends size) ≡ true
    go true = refl
    go false = le-leb e.ends size h

any_last : {A : Type 0} (f : A → Bool) (l : List A) (a : A) → f a ≡ true → any f (l ++ (a ∷ [])) ≡ true
any_last f [] a h = rw h
any_last f (b ∷ l) a h = go (f b) (any_last f l a h)
  where
    go : (t : Bool) → any f (l ++ (a ∷ [])) ≡ true → (t || any f (l ++ (a ∷ []))) ≡ true
    go true ih = refl
    go false ih = ih

module _ (P P' : List ℕ → Type 0) (K : List Value) (size floor : ℕ) (rest : List ℕ) (v : Value) (valid : Valid v)
    (holds : (r t : List ℕ) (es : List Entry) → State size floor r t es → values es ≡ K → P (r ++ rest))
    (holds' : (r t : List ℕ) (es : List Entry) → State size floor r t es → values es ≡ without (key_of v) K ++ (v ∷ []) → P' (r ++ rest)) where
  pub record Written (r t : List ℕ) (es : List Entry) (j : ℕ) : Type 0 where
    pub r₁ : List ℕ
    pub r₂ : List ℕ
    pub es₂ : List Entry
    pub to-goes : Goes P (tail_to (tail_at r) v es) (r ++ rest) (r₁ ++ rest)
    pub on-goes : Goes P' (tail_on v es) (r₁ ++ rest) (r₂ ++ rest)
    pub state : State size floor r₂ (ff j) es₂
    pub stands : values es₂ ≡ without (key_of v) K ++ (v ∷ [])

  pub tail_written : {r t : List ℕ} {es : List Entry} → State size floor r t es → values es ≡ K → (j : ℕ) → t ≡ ff (entry_size_def v + j) → floor ≤ j → Written r t es j
  unfolding tail_to tail_on
  tail_written {r} {t} {es} st kept j blank-tail low =
      let k = key_of v in
      let p = prepare P K size floor rest holds st kept k in
      let st' = p.state in
      let at = tail_place P K size floor rest holds st' in
      let place : tail_at r ≡ at = made-tail_at authenticated st.made ∙
      (let a = size-split P K size floor rest holds st in let b = size-split P K size floor rest holds st' in omega arith) in
      let e = entry_of authenticated at (entry_bytes 0x3F v) in
      let reads = entry-reads authenticated at 0x3F v (omega arith) valid in
      let its-key : entry_key e ≡ k = ap key_of reads.value in
      let tail-long : length t ≡ entry_size_def v + j = ap length blank-tail ∙ ff-length (entry_size_def v + j) in
      let inside : e.ends ≤ size = rw reads.ends (let b = size-split P K size floor rest holds st' in omega arith) in
      let clear : any (is_entry_def 0x3F (entry_key e)) p.es' ≡ false = rw its-key p.clear in
      let more = add-added size p.es' e st'.judged reads.state clear (within_of size e inside) (right-value authenticated e v reads.value
      reads.sized valid) in
      let long : length (entry_bytes 0x3F v ++ [] ++ ff j) ≡ length t =
      rw append-nil (length-append (entry_bytes 0x3F v) (ff j) ∙ rw (length-entry authenticated 0x3F v valid, ff-length j, tail-long)) in
      let r₁ = front_of P K size floor rest holds st' ++ (entry_bytes 0x3F v ++ ff j) in
      let es₁ = p.es' ++ (e ∷ []) in
      let state₁ : State size floor r₁ (ff j) es₁ =
      rw append-nil at (with_tail P K size floor rest holds st' (entry_bytes 0x3F v ∷ []) (ff j) long (entry-framed authenticated 0x3F v (omega arith) valid, tt)
      (blank-stops authenticated j) more.0 (rw (ff-length j) low)) in
      let stands₁ : values es₁ ≡ without k K ++ (v ∷ []) =
      more.1 ∙ ap (λ (x : Key). without x (values p.es') ++ (entry_value_def e ∷ [])) its-key ∙ ap (λ (l : List Value). without k l ++ (entry_value_def e ∷ [])) p.kept ∙ ap (λ (x : Value). without k K ++ (x ∷ [])) reads.value in
      let write = write_goes P K size floor rest holds st' p.kept v valid j blank-tail low in
      let to : Goes P (tail_to (tail_at r) v es) (r ++ rest) (r₁ ++ rest) =
      subst (λ (ss : List Write). Goes P ss (r ++ rest) (r₁ ++ rest)) (regroup (tail_at r))
      (goes-append p.goes (subst (λ (n : ℕ). Goes P (entry_stores n v ++ mark_state n 0x3F) (p.r' ++ rest) (r₁ ++ rest)) (sym place) write)) in
      let here : is_entry_def 0x3F k e ≡ true = true-and (eq-eqb (state_of e) 0x3F reads.state) (ap (λ (x : Key). same_key_def x k) its-key ∙ key-refl k) in
      last to e here state₁ stands₁ p.old
    where
      regroup : (at : ℕ) → leftover (key_of v) es ++ on_some (added (key_of v) es) (λ e. mark_state e.at 0x3E) [] ++ (entry_stores at v ++ mark_state at 0x3F)
          ≡ leftover (key_of v) es ++ on_some (added (key_of v) es) (λ e. mark_state e.at 0x3E) [] ++ entry_stores at v ++ mark_state at 0x3F
      regroup at = sym (append_assoc (leftover (key_of v) es ++ on_some (added (key_of v) es) (λ e. mark_state e.at 0x3E) []) (entry_stores at v) (mark_state at 0x3F))

      -- the old entry, if any, becomes 3C
      last : {r₁ : List ℕ} {es' : List Entry} → Goes P (tail_to (tail_at r) v es) (r ++ rest) (r₁ ++ rest) → (e : Entry) → is_entry_def 0x3F (key_of v) e ≡ true
          → State size floor r₁ (ff j) (es' ++ (e ∷ [])) → values (es' ++ (e ∷ [])) ≡ without (key_of v) K ++ (v ∷ [])
          → Old P K size floor rest holds (key_of v) es es' → Written r t es j
      last {r₁} {es'} to e here state₁ stands₁ (no_old n) = record {
        r₁ = r₁;
        r₂ = r₁;
        es₂ = es' ++ (e ∷ []);
        to-goes = to;
        on-goes = rw n (goes-nowhere P' (r₁ ++ rest));
        state = state₁;
        stands = stands₁;
      }
      last {r₁} {es'} to e here state₁ stands₁ (old_at x o s q h its-key same) =
          let b = q.before in
          let c = q.behind ++ (e ∷ []) in
          let spread : es' ++ (e ∷ []) ≡ b ++ (o ∷ c) = ap (λ (l : List Entry). l ++ (e ∷ [])) q.place ∙ append_assoc b (o ∷ q.behind) (e ∷ []) in
          let spot : Place (es' ++ (e ∷ [])) o = record { before = b; behind = c; place = spread } in
          let judged : sound_entries size (b ++ (o ∷ c)) ≡ true = ap (sound_entries size) (sym spread) ∙ state₁.judged in
          let seen : any (is_entry_def 0x3F (entry_key o)) (b ++ (o ∷ c)) ≡ true =
          ap (λ (k : Key). any (is_entry_def 0x3F k) (b ++ (o ∷ c))) its-key ∙ ap (any (is_entry_def 0x3F (key_of v))) (sym spread) ∙ any_last (is_entry_def 0x3F (key_of v)) es' e here in
          let both = leftover-marked size b c o judged h seen in
          let m = mark-goes P' (without (key_of v) K ++ (v ∷ [])) size floor rest holds' state₁ stands₁ o spot 0x3E 0x3C h (omega arith) (omega arith) bit-3c both.0 in
          record {
            r₁ = r₁;
            r₂ = set r₁ (o.at + state_at) 0x3C;
            es₂ = b ++ (restated 0x3C o ∷ c);
            to-goes = to;
            on-goes = rw s (subst (λ (n : ℕ). Goes P' (mark_state n 0x3C) (r₁ ++ rest) (set r₁ (o.at + state_at) 0x3C ++ rest)) same m.0);
            state = m.1;
            stands = both.1 ∙ ap values (sym spread) ∙ stands₁;
          }

-- ---- a change of a ready image

-- a region with a blank tail, in front of an idle work block and a blank spare
module _ {b : ℕ} {r w s : List ℕ} (p : Parts b r w s) (rested : idle w ≡ true) (free : all_ff s ≡ true) where
  pub same_parts : {r' : List ℕ} → length r' ≡ block * b → Parts b r' w s
  same_parts l = record { low = p.low; high = p.high; region-long = l; work-long = p.work-long; spare-long = p.spare-long }

  state-holds : (floor : ℕ) (K : List Value) (r t : List ℕ) (es : List Entry) → State (block * b) floor r t es → values es ≡ K → Holding b K (r ++ (w ++ s))
  state-holds floor K r t es st kept = region-holds b r w s (same_parts st.long) (state-sound st) (ap values (state-entries st) ∙ kept) (inl rested)

  state-clean : {floor : ℕ} {r : List ℕ} (j : ℕ) {es : List Entry} → State (block * b) floor r (ff j) es → clean r ≡ true
  unfolding clean_in
  state-clean {floor} {r} j st = true-and (state-sound st) (ap all_ff (made-tail authenticated st.made) ∙ blank-all_ff j)

  state-ready : {floor : ℕ} {r : List ℕ} (j : ℕ) {es : List Entry} → State (block * b) floor r (ff j) es → Ready (r ++ (w ++ s))
  state-ready {floor} {r} j st = record {
    b = b;
    r = r;
    w = w;
    s = s;
    parts = same_parts st.long;
    whole = refl;
    cleaned = state-clean j st;
    free = free;
    rested = rested;
  }

  state-sized : {floor : ℕ} {r t : List ℕ} {es : List Entry} → State (block * b) floor r t es → blocks (r ++ (w ++ s)) ≡ b
  state-sized {floor} {r} st = parts-blocks (same_parts {r' = r} st.long)

  state-values : {floor : ℕ} {r t : List ℕ} {es : List Entry} → State (block * b) floor r t es → values_of (r ++ (w ++ s)) ≡ values es
  unfolding values_in
  state-values st = ap (λ (l : List ℕ). values (entries l)) (parts-region (same_parts st.long)) ∙ ap values (state-entries st)

-- the state of a clean region
chunked-state : (size floor : ℕ) (r : List ℕ) → length r ≡ size → Chunked authenticated r → floor ≤ length (tail r) → State size floor r (tail r) (entries r)
chunked-state size floor r l c low = record {
  chunks = c.chunks;
  made = subst (λ (x : List ℕ). (Made authenticated) r c.chunks x) (sym (made-tail authenticated c.made)) c.made;
  listed = sym (made-entries authenticated c.made);
  judged = subst (λ (n : ℕ). sound_entries n (entries r) ≡ true) l (ap (sound_entries (length r)) (made-entries authenticated c.made) ∙ c.judged);
  long = l;
  room = low;
}

pub clean-blank : (r : List ℕ) → clean r ≡ true → tail r ≡ ff (length (tail r))
unfolding clean_in
clean-blank r h = all_ff-blank (tail r) (and_split (sound r) (all_ff (tail r)) h).1

module _ {b : ℕ} {r w s : List ℕ} (p : Parts b r w s) (rested : idle w ≡ true) (free : all_ff s ≡ true) (cleaned : clean r ≡ true) where
  abbrev pub K₀ : List Value
  K₀ = values (entries r)

  -- with at least so much of the tail; Demand 3 asks for none
  pub its-state-above : (floor : ℕ) → floor ≤ length (tail r) → State (block * b) floor r (tail r) (entries r)
  its-state-above floor low = chunked-state (block * b) floor r p.region-long (region-chunked authenticated b p.region-long (clean-sound r cleaned)) low

  pub its-state : State (block * b) 0 r (tail r) (entries r)
  its-state = its-state-above 0 (omega arith)

  -- no change
  pub nothing-kept : Kept b K₀ K₀ [] [] (r ++ (w ++ s))
  nothing-kept =
      let ready : Ready (r ++ (w ++ s)) = record { b = b; r = r; w = w; s = s; parts = p; whole = refl; cleaned = cleaned; free = free; rested = rested } in
      record {
        middle = r ++ (w ++ s);
        end = r ++ (w ++ s);
        to-goes = goes-nowhere (Holding b K₀) (r ++ (w ++ s));
        on-goes = goes-nowhere (Holding b K₀) (r ++ (w ++ s));
        ready = ready;
        sized = parts-blocks p;
        held = state-values p rested free its-state;
      }

  -- a delete
  pub delete-kept : (k : Key) → is_some (find k K₀) ≡ true → Kept b K₀ (without k K₀) (delete_to k (entries r)) [] (r ++ (w ++ s))
  delete-kept k present =
      let d = delete-goes (Holding b K₀) K₀ (block * b) 0 (w ++ s) (state-holds p rested free 0 K₀) its-state refl k present in
      let n = length (tail r) in
      let st = subst (λ (t : List ℕ). State (block * b) 0 d.r' t d.es') (clean-blank r cleaned) d.state in
      record {
        middle = d.r' ++ (w ++ s);
        end = d.r' ++ (w ++ s);
        to-goes = d.goes;
        on-goes = goes-nowhere (Holding b (without k K₀)) (d.r' ++ (w ++ s));
        ready = state-ready p rested free n st;
        sized = state-sized p rested free st;
        held = state-values p rested free st ∙ d.gone;
      }

  -- an entry in the tail
  pub tail-kept : (v : Value) → Valid v → fits_tail r v ≡ true
      → Kept b K₀ (without (key_of v) K₀ ++ (v ∷ [])) (tail_to (tail_at r) v (entries r)) (tail_on v (entries r)) (r ++ (w ++ s))
  unfolding fits_tail
  tail-kept v valid fits =
      let j = length (tail r) - entry_size_def v in
      let room : tail_at r + entry_size_def v ≤ length r = leb-true (tail_at r + entry_size_def v) (length r) fits in
      let long : length r ≡ tail_at r + length (tail r) = made-length authenticated its-state.made ∙ ap (λ (n : ℕ). n + length (tail r))
      (sym (made-tail_at authenticated its-state.made)) in
      let enough : length (tail r) ≡ entry_size_def v + j = omega arith in
      let K' = without (key_of v) K₀ ++ (v ∷ []) in
      let t = tail_written (Holding b K₀) (Holding b K') K₀ (block * b) 0 (w ++ s) v valid (state-holds p rested free 0 K₀) (state-holds p rested free 0 K') its-state refl j
      (clean-blank r cleaned ∙ ap ff enough) (omega arith) in
      record {
        middle = t.r₁ ++ (w ++ s);
        end = t.r₂ ++ (w ++ s);
        to-goes = t.to-goes;
        on-goes = t.on-goes;
        ready = state-ready p rested free j t.state;
        sized = state-sized p rested free t.state;
        held = state-values p rested free t.state ∙ t.stands;
      }

  -- a compaction
  pub compact-kept : (vs : List Value) → AllValid authenticated vs → Distinct vs → space_of vs ≤ block * b
      → Kept b K₀ vs (compact_to (r ++ (w ++ s)) vs) (compact_on (r ++ (w ++ s)) vs) (r ++ (w ++ s))
  compact-kept vs valid distinct fits =
      let c = compacted K₀ vs p rested free (clean-sound r cleaned) refl valid distinct fits in
      record { middle = c.middle; end = c.end; to-goes = c.to; on-goes = c.on; ready = c.ready; sized = c.sized; held = c.held }
