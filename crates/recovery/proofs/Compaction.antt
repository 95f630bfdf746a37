-- A compaction, however cut, holds the values before up to its FC record and the values after from there on. Its stores are within the work block while the
-- spare is blank, within the spare while the work block is idle, within the region while the spare is complete, and again within the spare; the three marks are
-- all or nothing. So it is of every P that does not look where the stores are (`begin-safe`, `finish-safe`); that the values hold is such a P.
-- Assumes nothing.
use Prim.Native.Nat.{ℕ, suc, ◌+◌, ◌*◌, ◌-◌, ◌<◌}
use native.Mathlib.Nat.{mul-zero, mul-suc}
use native.Mathlib.Numerals.{add-one}
use native.Mathlib.Omega.{arith}
use mathlib.Core.Path.{◌≡◌, refl, sym, ap, ◌∙◌, subst}
use mathlib.Core.Logic.{◌⊎◌, inl, inr}
use mathlib.Core.Bool.{Bool, true, false, cond}
use mathlib.Core.List.{List, [], ◌∷◌, ◌++◌, append_assoc, append-nil}
use lib.ListN.{length, set, replicate, length-append, length-set, length-replicate}
use lib.Seq.{get_or-set_same}
use borrow.Author.Tests.{leb-false}
use Rattle.model.specs.Lists.{all_ff}
use Rattle.model.specs.Region.{clean_in}
use Rattle.model.specs.Image.{block}
use Rattle.model.specs.Entry.{Value}
use Rattle.model.specs.Region.{entries, values, sound, clean, tail}
use Rattle.model.specs.Work.{record_space, well_formed, used_records, ends_in_fc_def, idle}
use Rattle.model.specs.Stores.{Write, clear, blank, run, mark, erases}
use Rattle.model.specs.Compact.{encode, all_used, next_record_def, fill_spare, finish, compact_to}
use Rattle.model.proofs.Tests.{and_split}
use Rattle.model.proofs.Segments.{length-blank}
use Rattle.recovery.proofs.Cuts.{Goes, goes-nowhere, goes-append, goes-run, goes-mark, goes-erases, goes-erase, bit-fe, bit-fc, bit-f8}
use Rattle.model.proofs.Parts.{Parts, parts-blocks, parts-size, parts-work}
use Rattle.model.proofs.WorkBlock.{work-next, work-last, blank-idle, blank-unused}
use Rattle.recovery.proofs.Invariant.{Holding, spare-holds, region-holds}

-- the spare as a segment with nothing behind it
pub spare-last : (r w s : List ℕ) → r ++ (w ++ s) ≡ (r ++ w) ++ (s ++ [])
spare-last r w s = sym (append_assoc r w s) ∙ ap (λ (l : List ℕ). (r ++ w) ++ l) (sym (append-nil s))

pub clean-sound : (r : List ℕ) → clean r ≡ true → sound r ≡ true
unfolding clean_in
clean-sound r h = (and_split (sound r) (all_ff (tail r)) h).0

pub mul-add-one : (b : ℕ) → block * (b + 1) ≡ block * b + block
mul-add-one b = ap (λ (n : ℕ). block * n) (add-one b) ∙ mul-suc block b

-- a record's place is within the block
pub record-inside : (i : ℕ) → i < record_space → i < block
unfolding block
record-inside i h = omega arith

-- ---- from the FC record on; i is the record, c what the spare holds

module _ (P : List ℕ → Type 0) {b : ℕ} {r w c : List ℕ} (p : Parts b r w c) (formed : well_formed w ≡ true) (ended : ends_in_fc_def w ≡ true)
    (pends : (x : List ℕ) → length x ≡ block * b → P (x ++ (w ++ c)))
    (rests : (x : List ℕ) → length x ≡ block * b → P (c ++ (set w (used_records w - 1) 0xF8 ++ x))) where
  -- what it leaves: the spare's content in the region, the record F8, a blank spare
  pub finish-safe : Goes P (finish b (used_records w - 1) c) (r ++ (w ++ c)) (c ++ (set w (used_records w - 1) 0xF8 ++ replicate (block * b) 0xFF))
  unfolding finish
  finish-safe =
      let i = used_records w - 1 in
      let last = work-last w p.work-long formed ended in
      let w' = set w i 0xF8 in
      let long : length w' ≡ block = length-set w i 0xF8 ∙ p.work-long in
      let inside : i < length w = rw p.work-long (record-inside i (omega (arith, last.some-used, last.within))) in
      -- any spare of that length, with the region complete
      let any-spare : (x : List ℕ) → length x ≡ block * b → P ((c ++ w') ++ (x ++ [])) = λ x l. rw (← spare-last c w' x) (rests x l) in
      let blank-region : List ℕ = replicate (block * b) 0xFF in
      let erased : Goes P (erases 0 b) (r ++ (w ++ c)) (blank-region ++ (w ++ c)) =
      goes-erases P 0 [] r (w ++ c) (sym (mul-zero block)) (λ x l. pends x (l ∙ p.region-long)) b p.region-long in
      let copied : Goes P (run 0 c) (blank-region ++ (w ++ c)) (c ++ (w ++ c)) =
      goes-run P 0 [] blank-region (w ++ c) refl c (length-replicate (block * b) 0xFF ∙ sym p.spare-long)
      (λ x l. pends x (l ∙ length-replicate (block * b) 0xFF)) in
      let marked : Goes P (mark (block * b + i) 0xF8) (c ++ (w ++ c)) (c ++ (w' ++ c)) =
      goes-mark P (block * b) c w c p.spare-long i 0xF8 inside 0xFC last.complete bit-f8 (pends c p.spare-long) in
      let place : length (c ++ w') ≡ block * (b + 1) = length-append c w' ∙ rw (p.spare-long, long) (sym (mul-add-one b)) in
      let blanked : Goes P (erases (b + 1) b) ((c ++ w') ++ (c ++ [])) ((c ++ w') ++ (blank-region ++ [])) =
      goes-erases P (b + 1) (c ++ w') c [] place (λ x l. any-spare x (l ∙ p.spare-long)) b p.spare-long in
      goes-append (goes-append (goes-append erased copied) marked) (rw (spare-last c w' c, spare-last c w' blank-region) blanked)

-- with the values that the spare holds
pub finish-goes : (K : List Value) {b : ℕ} {r w c : List ℕ} (p : Parts b r w c) → well_formed w ≡ true → ends_in_fc_def w ≡ true → clean c ≡ true → values (entries c) ≡ K
    → Goes (Holding b K) (finish b (used_records w - 1) c) (r ++ (w ++ c)) (c ++ (set w (used_records w - 1) 0xF8 ++ replicate (block * b) 0xFF))
finish-goes K {b} {r} {w} {c} p formed ended cleaned held =
    finish-safe (Holding b K) p formed ended
    (λ x l. spare-holds b x w c (record { low = p.low; high = p.high; region-long = l; work-long = p.work-long; spare-long = p.spare-long }) formed ended cleaned held)
    (λ x l. region-holds b c (set w (used_records w - 1) 0xF8) x
    (record { low = p.low; high = p.high; region-long = p.spare-long; work-long = length-set w (used_records w - 1) 0xF8 ∙ p.work-long; spare-long = l })
    (clean-sound c cleaned) held (inl (work-last w p.work-long formed ended).finished))

-- ---- up to the FC record; c is what the spare is to hold

pub begin-parts : {b : ℕ} {r w s : List ℕ} → Parts b r w s → (vs : List Value) → compact_to (r ++ (w ++ s)) vs ≡ fill_spare b w (encode (block * b) vs)
unfolding compact_to
begin-parts p vs = rw (parts-work p, parts-blocks p, parts-size p)

-- the work block in which the next record stands
pub record Opened (w : List ℕ) (w₁ : List ℕ) : Type 0 where
  pub long : length w₁ ≡ block
  pub rested : idle w₁ ≡ true
  pub index : next_record_def w ≡ used_records w₁
  pub space : used_records w₁ < record_space

-- with room for that record
module _ (P : List ℕ → Type 0) {b : ℕ} {r w s : List ℕ} (p : Parts b r w s) (rested : idle w ≡ true) (space : used_records w < record_space) (before : P (r ++ (w ++ s)))
    (during : (x : List ℕ) → length x ≡ block * b → P (r ++ (set w (used_records w) 0xFE ++ x))) where
  -- "next record FE; .. stored into the spare ..; record FC"
  pub fill-safe : (c : List ℕ) → length c ≡ block * b
      → Goes P (mark (block * b + used_records w) 0xFE ++ run (block * b + block) c ++ mark (block * b + used_records w) 0xFC)
      (r ++ (w ++ s)) (r ++ (set (set w (used_records w) 0xFE) (used_records w) 0xFC ++ c))
  fill-safe c l =
      let i = used_records w in
      let next = work-next w p.work-long rested space in
      let w₂ = set w i 0xFE in
      let w₃ = set w₂ i 0xFC in
      let inside : i < length w = rw p.work-long (record-inside i space) in
      let long₂ : length w₂ ≡ block = length-set w i 0xFE ∙ p.work-long in
      let inside₂ : i < length w₂ = rw (long₂, ← p.work-long) inside in
      let marked : Goes P (mark (block * b + i) 0xFE) (r ++ (w ++ s)) (r ++ (w₂ ++ s)) =
      goes-mark P (block * b) r w s p.region-long i 0xFE inside 0xFF next.free bit-fe before in
      let place : length (r ++ w₂) ≡ block * b + block = length-append r w₂ ∙ rw (p.region-long, long₂) in
      let filled : Goes P (run (block * b + block) c) ((r ++ w₂) ++ (s ++ [])) ((r ++ w₂) ++ (c ++ [])) =
      goes-run P (block * b + block) (r ++ w₂) s [] place c (p.spare-long ∙ sym l) (λ x n. rw (← spare-last r w₂ x) (during x (n ∙ p.spare-long))) in
      let closed : Goes P (mark (block * b + i) 0xFC) (r ++ (w₂ ++ c)) (r ++ (w₃ ++ c)) =
      goes-mark P (block * b) r w₂ c p.region-long i 0xFC inside₂ 0xFE (get_or-set_same w i 0xFE 0 inside) bit-fc (during c l) in
      let filled-parts : Goes P (run (block * b + block) c) (r ++ (w₂ ++ s)) (r ++ (w₂ ++ c)) = rw (spare-last r w₂ s, spare-last r w₂ c) filled in
      goes-append (goes-append marked filled-parts) closed

module _ (P : List ℕ → Type 0) {b : ℕ} {r w s : List ℕ} (p : Parts b r w s) (rested : idle w ≡ true) (free : all_ff s ≡ true)
    (keeps : (x y : List ℕ) → length x ≡ block → length y ≡ block * b → (idle x ≡ true) ⊎ (all_ff y ≡ true) → P (r ++ (x ++ y))) where
  -- any work block of that length, while the spare is blank
  any-work : (x : List ℕ) → length x ≡ block → P (r ++ (x ++ s))
  any-work x l = keeps x s l p.spare-long (inr free)

  -- the erase of a work block whose 64 records are used
  pub record Emptied : Type 0 where
    pub w₁ : List ℕ
    pub opened : Opened w w₁
    pub goes : Goes P (cond (all_used w) (clear b ∷ []) []) (r ++ (w ++ s)) (r ++ (w₁ ++ s))

  emptied : Emptied
  unfolding next_record_def
  emptied = go (all_used w) refl
    where
      go : (t : Bool) → all_used w ≡ t → Emptied
      go true h = record {
        w₁ = blank;
        opened = record { long = length-blank; rested = blank-idle; index = rw h (sym blank-unused); space = rw blank-unused (omega arith) };
        goes = rw h (goes-erase P b r w s p.region-long (λ x l. any-work x (l ∙ p.work-long)) p.work-long);
      }
      go false h = record {
        w₁ = w;
        opened = record { long = p.work-long; rested = rested; index = rw h; space = leb-false record_space (used_records w) h };
        goes = rw h (goes-nowhere P (r ++ (w ++ s)));
      }

  -- what it leaves: the region as before, the record FC, the content in the spare; before FC is complete the region's values hold
  pub record Begun (c : List ℕ) : Type 0 where
    pub w' : List ℕ
    pub long : length w' ≡ block
    pub formed : well_formed w' ≡ true
    pub ended : ends_in_fc_def w' ≡ true
    pub index : next_record_def w ≡ used_records w' - 1
    pub goes : Goes P (fill_spare b w c) (r ++ (w ++ s)) (r ++ (w' ++ c))

  pub begin-safe : (c : List ℕ) → length c ≡ block * b → Begun c
  unfolding fill_spare
  begin-safe c l =
      let e = emptied in
      let w₁ = e.w₁ in
      let o = e.opened in
      let i = used_records w₁ in
      let next = work-next w₁ o.long o.rested o.space in
      let p₁ : Parts b r w₁ s = record { low = p.low; high = p.high; region-long = p.region-long; work-long = o.long; spare-long = p.spare-long } in
      let long₂ : length (set w₁ i 0xFE) ≡ block = length-set w₁ i 0xFE ∙ o.long in
      let filled = fill-safe P p₁ o.rested o.space (any-work w₁ o.long) (λ x n. keeps (set w₁ i 0xFE) x long₂ n (inl next.begun)) c l in
      record {
        w' = set (set w₁ i 0xFE) i 0xFC;
        long = length-set (set w₁ i 0xFE) i 0xFC ∙ long₂;
        formed = next.complete;
        ended = next.ends;
        index = o.index ∙ sym (pred_of i (used_records (set (set w₁ i 0xFE) i 0xFC)) next.count);
        goes = rw o.index
            (subst (λ (ws : List Write). Goes P ws (r ++ (w ++ s)) (r ++ (set (set w₁ i 0xFE) i 0xFC ++ c)))
            (regroup (cond (all_used w) (clear b ∷ []) []) (mark (block * b + i) 0xFE) (run (block * b + block) c) (mark (block * b + i) 0xFC))
            (goes-append e.goes filled));
      }
    where
      pred_of : (i n : ℕ) → n ≡ suc i → n - 1 ≡ i
      pred_of i n h = omega arith

      regroup : (x f g h : List Write) → x ++ (f ++ g ++ h) ≡ x ++ f ++ g ++ h
      regroup x f g h = sym (append_assoc x (f ++ g) h) ∙ ap (λ (l : List Write). l ++ h) (sym (append_assoc x f g))

-- with the values that the region holds
module _ (K : List Value) {b : ℕ} {r w s : List ℕ} (p : Parts b r w s)
    (rested : idle w ≡ true) (free : all_ff s ≡ true) (sounds : sound r ≡ true) (held : values (entries r) ≡ K) where
  pub region-keeps : (x y : List ℕ) → length x ≡ block → length y ≡ block * b → (idle x ≡ true) ⊎ (all_ff y ≡ true) → Holding b K (r ++ (x ++ y))
  region-keeps x y l m q = region-holds b r x y (record { low = p.low; high = p.high; region-long = p.region-long; work-long = l; spare-long = m }) sounds held q

  pub begin-goes : (c : List ℕ) → length c ≡ block * b → Begun (Holding b K) p rested free region-keeps c
  begin-goes c l = begin-safe (Holding b K) p rested free region-keeps c l
