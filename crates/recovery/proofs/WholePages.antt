-- A compaction's bytes fill the spare and then the region, so its stores are whole pages, erases, and marks of records. What is written leaves the same for every w:
-- bytes do wherever they are cut, and a header does where its state is blank, since FF is stored there or nothing.
-- Assumes nothing.
use Prim.Native.Nat.{ℕ, zero, suc, ◌+◌, ◌*◌, ◌-◌, ◌≤◌, ◌<◌}
use native.Mathlib.Nat.{add-zero, mul-zero}
use native.Mathlib.Numerals.{add-one}
use native.Mathlib.Omega.{arith}
use mathlib.Core.Path.{◌≡◌, refl, sym, ap, ◌∙◌, subst}
use mathlib.Core.Logic.{inl, inr}
use mathlib.Core.Bool.{Bool, true, false, cond, false≢true}
use mathlib.Core.List.{List, [], ◌∷◌, ◌++◌}
use mathlib.Core.Option.{none}
use lib.ListN.{length, get_or, set}
use lib.Seq.{sets, set-get_or, get_or-set_other}
use lib.Dec.{eqb}
use borrow.Author.Tests.{leb-false, le-leb, lt-ltb, not-true}
use Rattle.model.specs.declared.Session.{Session}
use Rattle.model.specs.Layout.{authenticated}
use Rattle.model.specs.Lists.{all, all_ff}
use Rattle.model.specs.Image.{block, blocks, right_length, region_size, region, work, spare}
use Rattle.model.specs.Entry.{Value}
use Rattle.model.specs.Region.{values_of, values_in, sound, tail}
use Rattle.model.specs.Work.{record_space, used_records, idle, pending, ready_for_call}
use Rattle.model.specs.Request.{Request}
use Rattle.model.specs.Profile.{items_in}
use Rattle.model.specs.Change.{Change, nothing, remove, put, is_nothing, changes_of, mode_changes, changes_in, step, steps, space_of}
use Rattle.model.specs.Rules.{set_broken, profile_broken, mode_broken}
use Rattle.model.specs.Stores.{Store, page, erase, Write, write, header, clear, pages, stores, stores_one_def, apply, apply_all, left_by_def, left_by_one, run, mark, erases, Every, width_of}
use Rattle.model.specs.Compact.{encode, all_used, next_record_def, fill_spare, finish, compact_to, compact_on}
use Rattle.model.specs.Set.{make, change_plan, put_plan, fits_tail, compact_plan, folded_plan, changes_plan}
use Rattle.model.specs.Answers.{stores_of}
use Rattle.model.specs.StartUp.{resume, tidy_spare, tidy_work, tidy_tail, and_then, start_up_stores}
use Rattle.model.specs.Book.{set_plan, profile_plan, mode_plan, plan_of, is_record, in_place_def}
use Rattle.model.proofs.Parts.{Parts, right-parts, parts-blocks, parts-size, parts-region, parts-work, parts-spare}
use Rattle.model.proofs.Chunks.{region-chunked}
use Rattle.model.proofs.Encode.{AllValid, encode-length, sound-valid, sound-fits, put-valid}
use Rattle.model.proofs.WorkBlock.{work-last}
use Rattle.model.proofs.Changes.{Fitting, steps-valid}
use Rattle.model.proofs.Requests.{set-length, set-ready, set-fitting, mode-length, mode-ready, mode-fitting}
use Rattle.model.proofs.Profiles.{profile-length, profile-ready, profile-fitting}
use Rattle.model.proofs.Stores.{apply_all-append, stores-append, stores-mark, pages-sets, one_left, every_map}
use Rattle.recovery.proofs.Cuts.{every_append}
use Rattle.recovery.proofs.Compaction.{mul-add-one, clean-sound}
use Rattle.recovery.proofs.StartingUp.{ready_of, pending-parts}
use Rattle.recovery.proofs.Chip.{blocks-whole}
use Rattle.recovery.specs.Chip.{WholePage, WholeOrRecord, InWholePages, compacts, WholePagesStored, StateBlank, StatesBlank, StoresLeave}

-- ---- whole pages

module _ (n : ℕ) (img : List ℕ) where
  whole_append : (xs ys : List Write) → InWholePages n img xs → InWholePages n img ys → InWholePages n img (xs ++ ys)
  whole_append xs ys p q =
      let w = width_of n in
      rw (stores-append w xs ys) (every_append (WholeOrRecord w img) (stores w xs) (stores w ys) p q)

  whole-or : (s : Store) → WholePage (width_of n) s → WholeOrRecord (width_of n) img s
  whole-or (page at bs) h = inl h
  whole-or (erase b) h = tt

  whole_run : (k m : ℕ) (bs : List ℕ) → length bs ≡ block * m → InWholePages n img (run (block * k) bs)
  whole_run k m bs l =
      let w = width_of n in
      every_map (WholePage w) (WholeOrRecord w img) whole-or (stores w (run (block * k) bs)) (blocks-whole n k m bs l).0

  whole-erases : (b m : ℕ) → InWholePages n img (erases b m)
  unfolding erases stores stores_one_def
  whole-erases b zero = tt
  whole-erases b (suc m) = (tt, whole-erases (suc b) m)

  whole-mark : (place v : ℕ) → place < record_space → InWholePages n img (mark (block * blocks img + place) v)
  unfolding is_record region_size
  whole-mark place v l =
      let at = block * blocks img + place in
      let here : is_record img at ≡ true =
      rw (le-leb (block * blocks img) at (omega arith), lt-ltb at (block * blocks img + record_space) (omega arith)) in
      rw (stores-mark (width_of n) at v) (inr (here, refl), tt)

  next-inside : (w : List ℕ) → next_record_def w < record_space
  unfolding next_record_def
  next-inside w = go (all_used w) refl
    where
      go : (t : Bool) → all_used w ≡ t → cond t 0 (used_records w) < record_space
      go true h = omega arith
      go false h = leb-false record_space (used_records w) h

  -- the two halves, of bytes that fill the region
  module _ (bs : List ℕ) (long : length bs ≡ block * blocks img) where
    fill-whole : (w : List ℕ) → InWholePages n img (fill_spare (blocks img) w bs)
    unfolding fill_spare stores stores_one_def
    fill-whole w =
        let b = blocks img in
        let m = block * b + next_record_def w in
        let i = next-inside w in
        let filled : InWholePages n img (run (block * b + block) bs) =
        subst (λ (at : ℕ). InWholePages n img (run at bs)) (mul-add-one b) (whole_run (b + 1) b bs long) in
        let opened = cond (all_used w) (clear b ∷ []) [] in
        whole_append (opened ++ mark m 0xFE ++ run (block * b + block) bs) (mark m 0xFC)
        (whole_append (opened ++ mark m 0xFE) (run (block * b + block) bs)
        (whole_append opened (mark m 0xFE) (first (all_used w)) (whole-mark (next_record_def w) 0xFE i)) filled)
        (whole-mark (next_record_def w) 0xFC i)
      where
        first : (t : Bool) → InWholePages n img (cond t (clear (blocks img) ∷ []) [])
        first true = (tt, tt)
        first false = tt

    finish-whole : (place : ℕ) → place < record_space → InWholePages n img (finish (blocks img) place bs)
    unfolding finish
    finish-whole place l =
        let b = blocks img in
        let m = mark (block * b + place) 0xF8 in
        let copied : InWholePages n img (run 0 bs) = subst (λ (at : ℕ). InWholePages n img (run at bs)) (mul-zero block) (whole_run 0 b bs long) in
        whole_append (erases 0 b ++ run 0 bs ++ m) (erases (b + 1) b)
        (whole_append (erases 0 b ++ run 0 bs) m (whole_append (erases 0 b) (run 0 bs) (whole-erases 0 b) copied) (whole-mark place 0xF8 l))
        (whole-erases (b + 1) b)

  compaction-whole : (vs : List Value) → AllValid authenticated vs → space_of vs ≤ region_size img → InWholePages n img (compact_to img vs ++ compact_on img vs)
  unfolding compact_to compact_on region_size
  compaction-whole vs valid fits =
      let bs = encode (region_size img) vs in
      let long : length bs ≡ block * blocks img = encode-length authenticated (region_size img) vs valid fits in
      whole_append (compact_to img vs) (compact_on img vs) (fill-whole bs long (work img)) (finish-whole bs long (next_record_def (work img)) (next-inside (work img)))

-- the values of a sound region
values-valid : (img : List ℕ) {b : ℕ} {r w s : List ℕ} → Parts b r w s → img ≡ r ++ (w ++ s) → sound r ≡ true
    → AllValid authenticated (values_of img) × (space_of (values_of img) ≤ region_size img)
unfolding values_in
values-valid img {b} {r} p e h =
    let chunked = region-chunked authenticated b p.region-long h in
    let same : region img ≡ r = ap region e ∙ parts-region p in
    let size : region_size img ≡ length r = ap region_size e ∙ parts-size p ∙ sym p.region-long in
    rw (same, size) (sound-valid authenticated r chunked, sound-fits authenticated r chunked)

resume-whole : (n : ℕ) (img : List ℕ) → right_length img ≡ true → InWholePages n img (resume img)
unfolding resume stores
resume-whole n img l = go (pending img) refl
  where
    go : (t : Bool) → pending img ≡ t → InWholePages n img (cond t (finish (blocks img) (used_records (work img) - 1) (spare img)) [])
    go true h =
        let i = right-parts img l in
        let p = i.parts in
        let t = pending-parts p (ap pending (sym i.whole) ∙ h) in
        let last = work-last i.w p.work-long t.0 t.1 in
        let same : work img ≡ i.w = ap work i.whole ∙ parts-work p in
        let long : length (spare img) ≡ block * blocks img =
        ap (λ (x : List ℕ). length (spare x)) i.whole ∙ ap length (parts-spare p) ∙ p.spare-long ∙ ap (λ (b : ℕ). block * b) (sym (ap blocks i.whole ∙ parts-blocks p)) in
        let inside : used_records (work img) - 1 < record_space = rw same (omega (arith, last.some-used, last.within)) in
        finish-whole n img (spare img) long (used_records (work img) - 1) inside
    go false h = tt

tidy-whole : (n : ℕ) (img : List ℕ) → right_length img ≡ true → sound (region img) ≡ true → InWholePages n img (tidy_tail img)
unfolding tidy_tail stores
tidy-whole n img l h = go (all_ff (tail (region img)))
  where
    go : (t : Bool) → InWholePages n img (cond t [] (compact_to img (values_of img) ++ compact_on img (values_of img)))
    go true = tt
    go false =
        let i = right-parts img l in
        let v = values-valid img i.parts i.whole (ap sound (sym (ap region i.whole ∙ parts-region i.parts)) ∙ h) in
        compaction-whole n img (values_of img) v.0 v.1

-- changes folded in
folded-whole : (n : ℕ) (img : List ℕ) (cs : List Change) → AllValid authenticated (values_of img) → Fitting cs (values_of img) (region_size img)
    → Every (WholeOrRecord (width_of n) img) (stores_of (width_of n) (folded_plan img cs))
unfolding folded_plan stores_of stores
folded-whole n img cs valid f = go (all is_nothing cs)
  where
    go : (t : Bool) → Every (WholeOrRecord (width_of n) img) (stores_of (width_of n) (cond t (make [] []) (compact_plan img (steps cs (values_of img)))))
    go true = tt
    go false = compaction-whole n img (steps cs (values_of img)) (steps-valid cs (values_of img) f.valid valid) f.room

changes-whole : (n : ℕ) (img : List ℕ) (cs : List Change) → AllValid authenticated (values_of img) → Fitting cs (values_of img) (region_size img)
    → Every (WholeOrRecord (width_of n) img) (stores_of (width_of n) (changes_plan true img cs))
unfolding stores_of stores
changes-whole n img [] valid f = tt
changes-whole n img (c ∷ []) valid f = folded-whole n img (c ∷ []) valid f
changes-whole n img (c ∷ d ∷ cs) valid f = folded-whole n img (c ∷ d ∷ cs) valid f

-- changes of which a single one is not folded in, where they are compacted
compacts-whole : (n : ℕ) (img : List ℕ) (cs : List Change) → AllValid authenticated (values_of img) → Fitting cs (values_of img) (region_size img)
    → compacts img cs ≡ true → Every (WholeOrRecord (width_of n) img) (stores_of (width_of n) (changes_plan false img cs))
unfolding in_place_def change_plan put_plan stores_of steps
compacts-whole n img [] valid f h = absurd (false≢true h)
compacts-whole n img (nothing ∷ []) valid f h = absurd (false≢true h)
compacts-whole n img (remove k ∷ []) valid f h = absurd (false≢true h)
compacts-whole n img (put v ∷ []) valid f h =
    rw (not-true (fits_tail (region img) v) h)
    (compaction-whole n img (step (put v) (values_of img)) (put-valid authenticated v (values_of img) (f.valid.0 v refl) valid) f.room)
compacts-whole n img (c ∷ d ∷ cs) valid f h = folded-whole n img (c ∷ d ∷ cs) valid f

pub whole-pages-stored : WholePagesStored
unfolding plan_of
whole-pages-stored n img = (of-set, tidy-whole n img, resume-whole n img, of-profile, of-mode)
  where
    ready-valid : right_length img ≡ true → ready_for_call img ≡ true → AllValid authenticated (values_of img)
    ready-valid long ready =
        let i = ready_of img long ready in
        (values-valid img i.parts i.whole (clean-sound i.r i.cleaned)).0

    of-set : (m : Bool) (s : Session) (r : Request) → length r.vendor ≡ 16 → set_broken m s r img ≡ none → compacts img (changes_of r (values_of img)) ≡ true
        → Every (WholeOrRecord (width_of n) img) (stores_of (width_of n) (set_plan m s r img))
    of-set m s r long accepted h =
        let valid = ready-valid (set-length m s r img accepted) (set-ready m s r img accepted) in
        rw accepted (compacts-whole n img (changes_of r (values_of img)) valid (set-fitting m s r img accepted long) h)

    of-profile : (m : Bool) (s : Session) (file : List ℕ) → profile_broken m s file img ≡ none
        → Every (WholeOrRecord (width_of n) img) (stores_of (width_of n) (profile_plan m s file img))
    of-profile m s file accepted =
        let valid = ready-valid (profile-length m s file img accepted) (profile-ready m s file img accepted) in
        rw accepted (changes-whole n img (changes_in (items_in file) (values_of img)) valid (profile-fitting m s file img accepted))

    of-mode : (m : Bool) (s : Session) (to : ℕ) → mode_broken m s to img ≡ none → compacts img (mode_changes to (values_of img)) ≡ true
        → Every (WholeOrRecord (width_of n) img) (stores_of (width_of n) (mode_plan m s to img))
    of-mode m s to accepted h =
        let valid = ready-valid (mode-length m s to img accepted) (mode-ready m s to img accepted) in
        rw accepted (compacts-whole n img (mode_changes to (values_of img)) valid (mode-fitting m s to img accepted) h)

-- ---- what writes leave

-- a header in one piece, with FF where its state is blank
header-left : (front rest img : List ℕ) (at : ℕ) → get_or img (at + length front) 0xFF ≡ 0xFF
    → sets img at (front ++ (0xFF ∷ []) ++ rest) ≡ sets (sets img at front) (at + length front + 1) rest
header-left [] rest img at e =
    let same : set img at 0xFF ≡ img = ap (set img at) (sym (ap (λ (i : ℕ). get_or img i 0xFF) (sym (add-zero at)) ∙ e)) ∙ set-get_or img at 0xFF in
    rw (add-zero, add-one, same)
header-left (b ∷ front) rest img at e =
    let place : suc at + length front ≡ at + suc (length front) = omega arith in
    let still : get_or (set img at b) (suc at + length front) 0xFF ≡ 0xFF =
    get_or-set_other img at (suc at + length front) b 0xFF (λ h. omega arith) ∙ ap (λ (i : ℕ). get_or img i 0xFF) place ∙ e in
    header-left front rest (set img at b) (suc at) still ∙ ap (λ (i : ℕ). sets (sets (set img at b) (suc at) front) (i + 1) rest) place

writes-leave : (w : ℕ) (x : Write) (img : List ℕ) → StateBlank x img → apply_all (stores_one_def w x) img ≡ left_by_one x img
unfolding stores_one_def left_by_one apply_all apply
writes-leave w (write at bs) img h = pages-sets w at bs img
writes-leave w (header at front rest) img h = go (eqb w 1) refl
  where
    go : (t : Bool) → eqb w 1 ≡ t
        → apply_all (cond t (pages 1 at front ++ pages 1 (at + length front + 1) rest) (pages w at (front ++ (0xFF ∷ []) ++ rest))) img
        ≡ sets (sets img at front) (at + length front + 1) rest
    go true e = one_left (header at front rest) img
    go false e = pages-sets w at (front ++ (0xFF ∷ []) ++ rest) img ∙ header-left front rest img at h
writes-leave w (clear b) img h = refl

all-leave : (w : ℕ) (ws : List Write) (img : List ℕ) → StatesBlank ws img → apply_all (stores w ws) img ≡ left_by_def ws img
unfolding stores left_by_def apply_all
all-leave w [] img h = refl
all-leave w (x ∷ xs) img h =
    apply_all-append (stores_one_def w x) (stores w xs) img ∙ ap (apply_all (stores w xs)) (writes-leave w x img h.0) ∙ all-leave w xs (left_by_one x img) h.1

-- lists without headers
abbrev Headless : List Write → Type 0
Headless ws = (img : List ℕ) → StatesBlank ws img

headless-append : (xs ys : List Write) → Headless xs → Headless ys → Headless (xs ++ ys)
headless-append [] ys p q = q
headless-append (x ∷ xs) ys p q = λ img. ((p img).0, behind xs (left_by_one x img) (p img).1)
  where
    behind : (xs : List Write) (img : List ℕ) → StatesBlank xs img → StatesBlank (xs ++ ys) img
    behind [] img h = q img
    behind (x ∷ xs) img h = (h.0, behind xs (left_by_one x img) h.1)

headless-erases : (b m : ℕ) → Headless (erases b m)
unfolding erases
headless-erases b zero img = tt
headless-erases b (suc m) img = (tt, headless-erases (suc b) m (left_by_one (clear b) img))

headless-cond : (t : Bool) (xs ys : List Write) → Headless xs → Headless ys → Headless (cond t xs ys)
headless-cond true xs ys p q = p
headless-cond false xs ys p q = q

fill-headless : (b : ℕ) (w bs : List ℕ) → Headless (fill_spare b w bs)
unfolding fill_spare
fill-headless b w bs =
    let m = block * b + next_record_def w in
    let opened = cond (all_used w) (clear b ∷ []) [] in
    let one : (at : ℕ) (bs : List ℕ) → Headless (write at bs ∷ []) = λ at bs img. (tt, tt) in
    headless-append (opened ++ mark m 0xFE ++ run (block * b + block) bs) (mark m 0xFC)
    (headless-append (opened ++ mark m 0xFE) (run (block * b + block) bs)
    (headless-append opened (mark m 0xFE) (headless-cond (all_used w) (clear b ∷ []) [] (λ img. (tt, tt)) (λ img. tt)) (one m (0xFE ∷ [])))
    (one (block * b + block) bs)) (one m (0xFC ∷ []))

finish-headless : (b place : ℕ) (bs : List ℕ) → Headless (finish b place bs)
unfolding finish
finish-headless b place bs =
    let m = block * b + place in
    let one : (at : ℕ) (bs : List ℕ) → Headless (write at bs ∷ []) = λ at bs img. (tt, tt) in
    headless-append (erases 0 b ++ run 0 bs ++ mark m 0xF8) (erases (b + 1) b)
    (headless-append (erases 0 b ++ run 0 bs) (mark m 0xF8) (headless-append (erases 0 b) (run 0 bs) (headless-erases 0 b) (one 0 bs)) (one m (0xF8 ∷ [])))
    (headless-erases (b + 1) b)

start_up-headless : (img : List ℕ) → Headless (start_up_stores img)
unfolding start_up_stores resume tidy_spare tidy_work tidy_tail compact_to compact_on
start_up-headless img =
    then resume (and_then tidy_spare (and_then tidy_work tidy_tail)) of-resume (then tidy_spare (and_then tidy_work tidy_tail) of-spare (then tidy_work tidy_tail of-work of-tail)) img
  where
    then : (f g : List ℕ → List Write) → ((x : List ℕ) → Headless (f x)) → ((x : List ℕ) → Headless (g x)) → (x : List ℕ) → Headless (and_then f g x)
    then f g p q x = headless-append (f x) (g (left_by_def (f x) x)) (p x) (q (left_by_def (f x) x))

    of-resume : (x : List ℕ) → Headless (resume x)
    of-resume x =
        headless-cond (pending x) (finish (blocks x) (used_records (work x) - 1) (spare x)) [] (finish-headless (blocks x) (used_records (work x) - 1) (spare x)) (λ y. tt)

    of-spare : (x : List ℕ) → Headless (tidy_spare x)
    of-spare x = headless-cond (all_ff (spare x)) [] (erases (blocks x + 1) (blocks x)) (λ y. tt) (headless-erases (blocks x + 1) (blocks x))

    of-work : (x : List ℕ) → Headless (tidy_work x)
    of-work x = headless-cond (idle (work x)) [] (clear (blocks x) ∷ []) (λ y. tt) (λ y. (tt, tt))

    of-tail : (x : List ℕ) → Headless (tidy_tail x)
    of-tail x =
        let vs = values_of x in
        let bs = encode (region_size x) vs in
        headless-cond (all_ff (tail (region x))) [] (compact_to x vs ++ compact_on x vs) (λ y. tt)
        (headless-append (compact_to x vs) (compact_on x vs) (fill-headless (blocks x) (work x) bs) (finish-headless (blocks x) (next_record_def (work x)) bs))

pub stores-leave : StoresLeave
stores-leave w img = (λ ws h. all-leave w ws img h, all-leave w (start_up_stores img) img (start_up-headless img img))
