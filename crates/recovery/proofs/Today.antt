-- With w = 1 every list of stores is today's, byte by byte; with no dead byte every answer is. Assumes nothing.
use Prim.Native.Nat.{ℕ, zero, suc, ◌+◌, ◌*◌, ◌-◌}
use mathlib.Core.Path.{◌≡◌, refl, sym, ap, ◌∙◌}
use mathlib.Core.Bool.{Bool, true, false, cond}
use mathlib.Core.List.{List, [], ◌∷◌, ◌++◌, append-nil}
use mathlib.Core.Option.{Option, none, some}
use lib.ListN.{length}
use lib.Dec.{leb}
use Rattle.model.specs.declared.Context.{Context}
use Rattle.model.specs.declared.Rule.{Rule}
use Rattle.model.specs.Lists.{all, all_ff, on_some}
use Rattle.model.specs.Image.{block, blocks, region_size, region_header_def, region, work, spare}
use Rattle.model.specs.Name.{Key}
use Rattle.model.specs.Layout.{authenticated, state_at}
use Rattle.model.specs.Entry.{header_size_def, Value, key_of, header_front, header_rest}
use Rattle.model.specs.Walk.{Entry, state_of}
use Rattle.model.specs.Region.{entries, tail_at, tail, values_of, added, replacing, standing}
use Rattle.model.specs.Work.{used_records, pending, idle}
use Rattle.model.specs.Change.{Change, nothing, remove, put, is_nothing, step, steps}
use Rattle.model.specs.Rules.{format_broken}
use Rattle.model.specs.Stores.{Store, byte, erase, Write, header, clear, stores, stores_one_def, todays_one, bytewise, apply_all, after, run, mark, erases}
use Rattle.model.specs.Compact.{encode, all_used, next_record_def, fill_spare, finish, compact_to, compact_on}
use Rattle.model.specs.Set.{Plan, refuse, make, mark_state, leftover, entry_stores, tail_to, tail_on, delete_to, fits_tail, put_plan, compact_plan, change_plan, folded_plan, changes_plan}
use Rattle.model.specs.StartUp.{resume, tidy_spare, tidy_work, tidy_tail, and_then, start_up_stores, format_stores, format_plan}
use Rattle.model.specs.Answers.{done, stopped, stores_of, page_of, outcome}
use Rattle.model.specs.Book.{Call, call_broken, Kind, reads, writes, starts_up, kind_of, doing, plan_of}
use Rattle.model.proofs.Stores.{stores-append, stores_one, stores_run, stores-mark, pages-bytewise, one-today, stores-todays, left-today}
use Rattle.model.proofs.Failing.{outcome-none, image-none}
use Rattle.model.proofs.Encode.{length_front}
use Rattle.recovery.specs.Today.{TodaysStores, erases_today, state_mark, leftover_today, entry_today, tail_today, delete_today, finish_today, compact_today, change_today, resume_today, spare_today, work_today, rest_today, then_today, start_up_today, format_today, folded_today, changes_today, doing_today, call_today, TodaysSequence, answer_today, TodaysAnswers}

-- ---- any writes

pub todays-stores : TodaysStores
todays-stores = stores-todays

-- ---- every call

-- writes and the stores that they are with w = 1
pub record Is (ws : List Write) (ss : List Store) : Type 0 where
  pub is : stores 1 ws ≡ ss

is-nil : Is [] []
unfolding stores
is-nil = record { is = refl }

is-append : {xs ys : List Write} {us bs : List Store} → Is xs us → Is ys bs → Is (xs ++ ys) (us ++ bs)
is-append {xs} {ys} {us} {bs} p q = record {
  is = stores-append 1 xs ys ∙ ap (λ (l : List Store). l ++ stores 1 ys) p.is ∙ ap (λ (l : List Store). us ++ l) q.is;
}

is-run : (at : ℕ) (bs : List ℕ) → Is (run at bs) (bytewise at bs)
is-run at bs = record { is = stores_run 1 at bs ∙ pages-bytewise at bs }

is-mark : (at v : ℕ) → Is (mark at v) (byte at v ∷ [])
is-mark at v = record { is = stores-mark 1 at v }

is-clear : (b : ℕ) → Is (clear b ∷ []) (erase b ∷ [])
unfolding stores stores_one_def
is-clear b = record { is = refl }

is-erases : (b n : ℕ) → Is (erases b n) (erases_today b n)
unfolding erases erases_today
is-erases b zero = is-nil
is-erases b (suc n) = is-append (is-clear b) (is-erases (suc b) n)

is-header : (at : ℕ) (front rest : List ℕ) → Is (header at front rest ∷ []) (bytewise at front ++ bytewise (at + length front + 1) rest)
unfolding todays_one
is-header at front rest = record { is = stores_one 1 (header at front rest) ∙ one-today (header at front rest) }

is_some : {A : Type 0} (o : Option A) (f : A → List Write) (g : A → List Store) → ((a : A) → Is (f a) (g a)) → Is (on_some o f []) (on_some o g [])
is_some none f g h = is-nil
is_some (some a) f g h = h a

is-cond : (t : Bool) {xs ys : List Write} {us bs : List Store} → Is xs us → Is ys bs → Is (cond t xs ys) (cond t us bs)
is-cond true p q = p
is-cond false p q = q

is-leftover : (k : Key) (es : List Entry) → Is (leftover k es) (leftover_today k es)
unfolding leftover leftover_today
is-leftover k es =
    is_some (added k es) (λ f. on_some (replacing k es) (λ e. mark_state e.at 0x3C) []) (λ f. on_some (replacing k es) (λ e. state_mark e.at 0x3C) [])
    (λ f. is_some (replacing k es) (λ e. mark_state e.at 0x3C) (λ e. state_mark e.at 0x3C) (λ e. is-mark (e.at + state_at) 0x3C))

is-entry : (at : ℕ) (v : Value) → Is (entry_stores at v) (entry_today at v)
unfolding entry_stores entry_today
is-entry at v =
    is-append (is-append (is-append (rw (length_front authenticated) at (is-header at header_front (header_rest v))) (is-mark (at + state_at) 0x7F)) (is-run (at + header_size_def) v.name))
    (is-run (at + header_size_def + length v.name) v.bytes)

is-tail : (at : ℕ) (v : Value) (es : List Entry) → Is (tail_to at v es ++ tail_on v es) (tail_today at v es)
unfolding tail_to tail_on tail_today
is-tail at v es =
    is-append
    (is-append
    (is-append
    (is-append (is-leftover (key_of v) es) (is_some (added (key_of v) es) (λ e. mark_state e.at 0x3E) (λ e. state_mark e.at 0x3E) (λ e. is-mark (e.at + state_at) 0x3E)))
    (is-entry at v))
    (is-mark (at + state_at) 0x3F))
    (is_some (standing (key_of v) es) (λ e. mark_state e.at 0x3C) (λ e. state_mark e.at 0x3C) (λ e. is-mark (e.at + state_at) 0x3C))

is-delete : (k : Key) (es : List Entry) → Is (delete_to k es) (delete_today k es)
unfolding delete_to delete_today
is-delete k es =
    is-append (is-leftover k es)
    (is_some (standing k es) (λ e. mark_state e.at (state_of e - 0x02)) (λ e. state_mark e.at (state_of e - 0x02)) (λ e. is-mark (e.at + state_at) (state_of e - 0x02)))

is-finish : (b place : ℕ) (content : List ℕ) → Is (finish b place content) (finish_today b place content)
unfolding finish finish_today
is-finish b place content = is-append (is-append (is-append (is-erases 0 b) (is-run 0 content)) (is-mark (block * b + place) 0xF8)) (is-erases (b + 1) b)

is-compact : (img : List ℕ) (vs : List Value) → Is (compact_to img vs ++ compact_on img vs) (compact_today img vs)
unfolding compact_to compact_on fill_spare compact_today
is-compact img vs =
    is-append
    (is-append
    (is-append
    (is-append (is-cond (all_used (work img)) (is-clear (blocks img)) is-nil) (is-mark (block * blocks img + next_record_def (work img)) 0xFE))
    (is-run (block * blocks img + block) (encode (region_size img) vs)))
    (is-mark (block * blocks img + next_record_def (work img)) 0xFC))
    (is-finish (blocks img) (next_record_def (work img)) (encode (region_size img) vs))

plan-cond : (t : Bool) (p q : Plan) (us bs : List Store) → stores_of 1 p ≡ us → stores_of 1 q ≡ bs → stores_of 1 (cond t p q) ≡ cond t us bs
plan-cond true p q us bs e f = e
plan-cond false p q us bs e f = f

plan-some : (o : Option Rule) (p : Plan) (us : List Store) → stores_of 1 p ≡ us → stores_of 1 (on_some o refuse p) ≡ on_some o (λ rule. []) us
unfolding stores_of
plan-some none p us e = e
plan-some (some rule) p us e = refl

change-today : (img : List ℕ) (c : Change) → stores_of 1 (change_plan img c) ≡ change_today img c
unfolding change_plan put_plan change_today stores_of stores
change-today img nothing = refl
change-today img (remove k) = ap (stores 1) (append-nil (delete_to k (entries (region img)))) ∙ (is-delete k (entries (region img))).is
change-today img (put v) =
    plan-cond (fits_tail (region img) v)
    (make (tail_to (tail_at (region img)) v (entries (region img))) (tail_on v (entries (region img))))
    (make (compact_to img (step (put v) (values_of img))) (compact_on img (step (put v) (values_of img))))
    (tail_today (tail_at (region img)) v (entries (region img)))
    (compact_today img (step (put v) (values_of img)))
    (is-tail (tail_at (region img)) v (entries (region img))).is
    (is-compact img (step (put v) (values_of img))).is

-- ---- a start-up

is-resume : (img : List ℕ) → Is (resume img) (resume_today img)
unfolding resume resume_today
is-resume img = is-cond (pending img) (is-finish (blocks img) (used_records (work img) - 1) (spare img)) is-nil

is-spare : (img : List ℕ) → Is (tidy_spare img) (spare_today img)
unfolding tidy_spare spare_today
is-spare img = is-cond (all_ff (spare img)) is-nil (is-erases (blocks img + 1) (blocks img))

is-work : (img : List ℕ) → Is (tidy_work img) (work_today img)
unfolding tidy_work work_today
is-work img = is-cond (idle (work img)) is-nil (is-clear (blocks img))

is-rest : (img : List ℕ) → Is (tidy_tail img) (rest_today img)
unfolding tidy_tail rest_today
is-rest img = is-cond (all_ff (tail (region img))) is-nil (is-compact img (values_of img))

is-then : (f g : List ℕ → List Write) (f' g' : List ℕ → List Store) → ((x : List ℕ) → Is (f x) (f' x)) → ((x : List ℕ) → Is (g x) (g' x))
    → (x : List ℕ) → Is (and_then f g x) (then_today f' g' x)
is-then f g f' g' p q x = is-append (p x) (rw (sym (left-today (f x) x) ∙ ap (λ (l : List Store). apply_all l x) (p x).is) (q (apply_all (f' x) x)))

is-start_up : (img : List ℕ) → Is (start_up_stores img) (start_up_today img)
unfolding start_up_stores start_up_today
is-start_up img =
    is-then resume (and_then tidy_spare (and_then tidy_work tidy_tail)) resume_today (then_today spare_today (then_today work_today rest_today)) is-resume
    (is-then tidy_spare (and_then tidy_work tidy_tail) spare_today (then_today work_today rest_today) is-spare (is-then tidy_work tidy_tail work_today rest_today is-work is-rest)) img

is-format : (img : List ℕ) → Is (format_stores img) (format_today img)
unfolding format_stores format_today
is-format img = is-append (is-erases 0 (2 * blocks img + 1)) (is-run 0 (region_header_def (region_size img)))

folded-today : (img : List ℕ) (cs : List Change) → stores_of 1 (folded_plan img cs) ≡ folded_today img cs
unfolding folded_plan folded_today stores_of stores
folded-today img cs =
    plan-cond (all is_nothing cs) (make [] []) (compact_plan img (steps cs (values_of img))) [] (compact_today img (steps cs (values_of img))) refl
    (is-compact img (steps cs (values_of img))).is

changes-today : (fold : Bool) (img : List ℕ) (cs : List Change) → stores_of 1 (changes_plan fold img cs) ≡ changes_today fold img cs
unfolding stores_of stores
changes-today fold img [] = refl
changes-today true img (c ∷ []) = folded-today img (c ∷ [])
changes-today false img (c ∷ []) = change-today img c
changes-today fold img (c ∷ d ∷ cs) = folded-today img (c ∷ d ∷ cs)

doing-today : (k : Kind) (img : List ℕ) → stores_of 1 (doing k img) ≡ doing_today k img
unfolding stores_of stores
doing-today reads img = refl
doing-today (writes fold changes) img = changes-today fold img (changes (values_of img))
doing-today (starts_up setup) img = (is-start_up img).is

call-today : (c : Call) (img : List ℕ) → stores_of 1 (plan_of c img) ≡ call_today c img
unfolding plan_of call_today
call-today c img = plan-some (call_broken c img) (doing (kind_of c) img) (doing_today (kind_of c) img) (doing-today (kind_of c) img)

pub todays-sequence : TodaysSequence
unfolding format_plan stores_of
todays-sequence = (call-today, λ img. plan-some (format_broken img) (make [] (format_stores img)) (format_today img) (is-format img).is)

-- ---- with no dead byte

told-today : (x : Context) (plan : Plan) (ss : List Store) (img : List ℕ) → x.count ≡ 0 → stores_of (page_of x) plan ≡ ss
    → outcome x plan img ≡ answer_today x.limit plan ss
unfolding outcome stores_of
told-today x (refuse rule) ss img e f = refl
told-today x (make to on) ss img e f =
    outcome-none x to on img e ∙ ap (λ (l : List Store). cond (leb (length l) x.limit) (done (length l)) stopped) f

pub todays-answers : TodaysAnswers
todays-answers x c img e one =
    let same : stores_of (page_of x) (plan_of c img) ≡ call_today c img = ap (λ (w : ℕ). stores_of w (plan_of c img)) one ∙ call-today c img in
    (told-today x (plan_of c img) (call_today c img) img e same, image-none x (plan_of c img) img e ∙ ap (λ (l : List Store). after x.limit l img) same)
