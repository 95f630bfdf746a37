-- 02 (i), "w = 1 gives today's sequence of stores": the lists of stores as document 01 has them, written out once more without pages, and the claims that the
-- definitions of `model` give them with w = 1 and, where no byte is dead, 01's answers and images.
use Rattle.std.specs.Prelude.{ℕ, zero, suc, ◌+◌, ◌*◌, ◌-◌, ◌≡◌, Bool, cond, List, [], ◌∷◌, ◌++◌, length, leb}
use Rattle.model.specs.declared.Context.{Context}
use Rattle.model.specs.Lists.{all, all_ff, on_some}
use Rattle.model.specs.Image.{block, blocks, region_size, region_header_def, region, work, spare}
use Rattle.model.specs.Name.{Key}
use Rattle.model.specs.Layout.{state_at}
use Rattle.model.specs.Entry.{header_size_def, Value, key_of, header_front, header_rest}
use Rattle.model.specs.Walk.{Entry, state_of}
use Rattle.model.specs.Region.{entries, tail_at, tail, values_of, added, replacing, standing}
use Rattle.model.specs.Work.{used_records, pending, idle}
use Rattle.model.specs.Change.{Change, nothing, remove, put, is_nothing, step, steps}
use Rattle.model.specs.Rules.{format_broken}
use Rattle.model.specs.Stores.{Store, byte, erase, Write, stores, bytewise, todays, apply_all, after}
use Rattle.model.specs.Compact.{encode, all_used, next_record_def}
use Rattle.model.specs.Set.{Plan, refuse, make, fits_tail}
use Rattle.model.specs.StartUp.{format_plan}
use Rattle.model.specs.Answers.{Outcome, done, stopped, refused, rule_number, stores_of, page_of, outcome, image_after}
use Rattle.model.specs.Book.{Call, call_broken, Kind, reads, writes, starts_up, kind_of, plan_of}

-- ---- of any writes

abbrev pub TodaysStores : Type 0
TodaysStores = (ws : List Write) → stores 1 ws ≡ todays ws

-- ---- of every call, written out: "The order of stores is fixed."

-- one mark of a state
abbrev pub state_mark : ℕ → ℕ → List Store
state_mark at state = byte (at + state_at) state ∷ []

unfoldable pub erases_today : ℕ → ℕ → List Store
erases_today b zero = []
erases_today b (suc n) = erase b ∷ erases_today (suc b) n

-- "In the tail ..: a leftover 3E beside a 3F becomes 3C; the 3F becomes 3E; header bytes in rising order without state; state 7F; name; data; state 3F; the old entry 3C."
unfoldable pub leftover_today : Key → List Entry → List Store
leftover_today k es = on_some (added k es) (λ f. on_some (replacing k es) (λ e. state_mark e.at 0x3C) []) []

unfoldable pub entry_today : ℕ → Value → List Store
entry_today at v =
    bytewise at header_front
    ++ bytewise (at + state_at + 1) (header_rest v)
    ++ state_mark at 0x7F
    ++ bytewise (at + header_size_def) v.name
    ++ bytewise (at + header_size_def + length v.name) v.bytes

unfoldable pub tail_today : ℕ → Value → List Entry → List Store
tail_today at v es =
    leftover_today (key_of v) es
    ++ on_some (added (key_of v) es) (λ e. state_mark e.at 0x3E) []
    ++ entry_today at v
    ++ state_mark at 0x3F
    ++ on_some (standing (key_of v) es) (λ e. state_mark e.at 0x3C) []

-- "Delete: leftover first, then bit 0x02 of the state cleared"
unfoldable pub delete_today : Key → List Entry → List Store
delete_today k es = leftover_today k es ++ on_some (standing k es) (λ e. state_mark e.at (state_of e - 0x02)) []

-- "erase the region's blocks; copy the spare; record F8; erase the spare's blocks"
unfoldable pub finish_today : ℕ → ℕ → List ℕ → List Store
finish_today b place content =
    erases_today 0 b
    ++ bytewise 0 content
    ++ (byte (block * b + place) 0xF8 ∷ [])
    ++ erases_today (b + 1) b

-- "erase the work block if 64 records are used; next record FE; header and values .. stored into the spare byte by byte; record FC; .."
unfoldable pub compact_today : List ℕ → List Value → List Store
compact_today img vs =
    cond (all_used (work img)) (erase (blocks img) ∷ []) []
    ++ (byte (block * blocks img + next_record_def (work img)) 0xFE ∷ [])
    ++ bytewise (block * blocks img + block) (encode (region_size img) vs)
    ++ (byte (block * blocks img + next_record_def (work img)) 0xFC ∷ [])
    ++ finish_today (blocks img) (next_record_def (work img)) (encode (region_size img) vs)

unfoldable pub change_today : List ℕ → Change → List Store
change_today img nothing = []
change_today img (remove k) = delete_today k (entries (region img))
change_today img (put v) =
    cond
    (fits_tail (region img) v)
    (tail_today (tail_at (region img)) v (entries (region img)))
    (compact_today img (step (put v) (values_of img)))

-- 02 (l), "The whole profile is one compaction, or no stores if nothing differs": changes folded in
unfoldable pub folded_today : List ℕ → List Change → List Store
folded_today img cs = cond (all is_nothing cs) [] (compact_today img (steps cs (values_of img)))

abbrev pub changes_today : Bool → List ℕ → List Change → List Store
changes_today fold img [] = []
changes_today fold img (c ∷ []) = cond fold (folded_today img (c ∷ [])) (change_today img c)
changes_today fold img (c ∷ d ∷ cs) = folded_today img (c ∷ d ∷ cs)

-- "Start-up: if pending, resume at the erase of the region. Then erase the spare's blocks if it is not all FF, the work block if it is not well formed or ends in FC, and
-- compact with no change if the tail is not all FF."
unfoldable pub resume_today : List ℕ → List Store
resume_today img = cond (pending img) (finish_today (blocks img) (used_records (work img) - 1) (spare img)) []

unfoldable pub spare_today : List ℕ → List Store
spare_today img = cond (all_ff (spare img)) [] (erases_today (blocks img + 1) (blocks img))

unfoldable pub work_today : List ℕ → List Store
work_today img = cond (idle (work img)) [] (erase (blocks img) ∷ [])

unfoldable pub rest_today : List ℕ → List Store
rest_today img = cond (all_ff (tail (region img))) [] (compact_today img (values_of img))

abbrev pub then_today : (List ℕ → List Store) → (List ℕ → List Store) → List ℕ → List Store
then_today f g img = f img ++ g (apply_all (f img) img)

unfoldable pub start_up_today : List ℕ → List Store
start_up_today img = then_today resume_today (then_today spare_today (then_today work_today rest_today)) img

-- "it erases all blocks in rising order, then stores the 28 header bytes in rising order"
unfoldable pub format_today : List ℕ → List Store
format_today img = erases_today 0 (2 * blocks img + 1) ++ bytewise 0 (region_header_def (region_size img))

-- by kinds: a get or a next-name makes no stores,
abbrev pub doing_today : Kind → List ℕ → List Store
doing_today reads img = []
doing_today (writes fold changes) img = changes_today fold img (changes (values_of img))
doing_today (starts_up setup) img = start_up_today img

-- and neither does a refused call
unfoldable pub call_today : Call → List ℕ → List Store
call_today c img = on_some (call_broken c img) (λ rule. []) (doing_today (kind_of c) img)

abbrev pub TodaysSequence : Type 0
TodaysSequence =
    ((c : Call) (img : List ℕ) → stores_of 1 (plan_of c img) ≡ call_today c img)
    × ((img : List ℕ) → stores_of 1 (format_plan img) ≡ on_some (format_broken img) (λ rule. []) (format_today img))

-- ---- with no dead byte

-- "It is stopped exactly if its list of stores is longer than n": the answer of a plan with this list
abbrev pub answer_today : ℕ → Plan → List Store → Outcome
answer_today n (refuse rule) ss = refused (rule_number rule)
answer_today n (make to on) ss = cond (leb (length ss) n) (done (length ss)) stopped

-- "the image is then as after the first n"
abbrev pub TodaysAnswers : Type 0
TodaysAnswers =
    (x : Context) (c : Call) (img : List ℕ)
    → x.count ≡ 0
    → page_of x ≡ 1
    → (outcome x (plan_of c img) img ≡ answer_today x.limit (plan_of c img) (call_today c img))
    × (image_after x (plan_of c img) img ≡ after x.limit (call_today c img) img)
