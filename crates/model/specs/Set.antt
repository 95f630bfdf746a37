-- 01, "What a set does": the stores of a set, up to the deciding store and on from there.
use Rattle.std.specs.Prelude.{ℕ, ◌+◌, ◌-◌, Bool, cond, List, [], ◌∷◌, ◌++◌, length, leb}
use Rattle.model.specs.declared.Rule.{Rule}
use Rattle.model.specs.Lists.{all, on_some}
use Rattle.model.specs.Image.{region}
use Rattle.model.specs.Name.{Key}
use Rattle.model.specs.Layout.{state_at}
use Rattle.model.specs.Entry.{header_size_def, Value, key_of, entry_size_def, header_front, header_rest}
use Rattle.model.specs.Walk.{Entry, state_of}
use Rattle.model.specs.Region.{entries, tail_at, values_of, added, replacing, standing}
use Rattle.model.specs.Change.{Change, nothing, remove, put, is_nothing, step, steps}
use Rattle.model.specs.Stores.{Write, header, run, mark}
use Rattle.model.specs.Compact.{compact_to, compact_on}

-- what a call is to do, whatever w is: a refusal, or what it writes up to the deciding store and on from there
pub data Plan : Type 0 where
  refuse : Rule → Plan
  make : List Write → List Write → Plan

-- an entry's state is changed; the region stands at the image's front, so its offsets are the image's
abbrev pub mark_state : ℕ → ℕ → List Write
mark_state at state = mark (at + state_at) state

-- "a leftover 3E beside a 3F becomes 3C"
unfoldable pub leftover : Key → List Entry → List Write
leftover k es = on_some (added k es) (λ f. on_some (replacing k es) (λ e. mark_state e.at 0x3C) []) []

-- "header bytes in rising order without state; state 7F; name; data"; 02 (i), "header, name and data are each cut at page ends"
unfoldable pub entry_stores : ℕ → Value → List Write
entry_stores at v =
    (header at header_front (header_rest v) ∷ [])
    ++ mark_state at 0x7F
    ++ run (at + header_size_def) v.name
    ++ run (at + header_size_def + length v.name) v.bytes

-- "In the tail ..: a leftover 3E beside a 3F becomes 3C; the 3F becomes 3E; (the entry); state 3F (deciding);
unfoldable pub tail_to : ℕ → Value → List Entry → List Write
tail_to at v es =
    leftover (key_of v) es
    ++ on_some (added (key_of v) es) (λ e. mark_state e.at 0x3E) []
    ++ entry_stores at v
    ++ mark_state at 0x3F

--  the old entry 3C."
unfoldable pub tail_on : Value → List Entry → List Write
tail_on v es = on_some (standing (key_of v) es) (λ e. mark_state e.at 0x3C) []

-- "Delete: leftover first, then bit 0x02 of the state cleared (deciding)": 3F becomes 3D, 3E alone becomes 3C
unfoldable pub delete_to : Key → List Entry → List Write
delete_to k es = leftover k es ++ on_some (standing k es) (λ e. mark_state e.at (state_of e - 0x02)) []

-- "In the tail, if the rounded entry fits"
unfoldable pub fits_tail : List ℕ → Value → Bool
fits_tail r v = leb (tail_at r + entry_size_def v) (length r)

-- a compaction that leaves a list of values
abbrev pub compact_plan : List ℕ → List Value → Plan
compact_plan img vs = make (compact_to img vs) (compact_on img vs)

-- the stores of a change: none; a delete; a tail write; "Otherwise the region is compacted with the change folded in"
unfoldable pub put_plan : List ℕ → Value → Plan
put_plan img v =
    cond
    (fits_tail (region img) v)
    (make (tail_to (tail_at (region img)) v (entries (region img))) (tail_on v (entries (region img))))
    (compact_plan img (step (put v) (values_of img)))

unfoldable pub change_plan : List ℕ → Change → Plan
change_plan img nothing = make [] []
change_plan img (remove k) = make (delete_to k (entries (region img))) []
change_plan img (put v) = put_plan img v

-- 02 (l), "The whole profile is one compaction, or no stores if nothing differs": changes one after another, all of them folded in
unfoldable pub folded_plan : List ℕ → List Change → Plan
folded_plan img cs = cond (all is_nothing cs) (make [] []) (compact_plan img (steps cs (values_of img)))

-- of changes one after another: several are folded in so, 02 (j), "where mode and PK change together it is one compaction", and a single one where it must be; else it is
-- made as above, "A mode alone is stored as a set stores"
abbrev pub changes_plan : Bool → List ℕ → List Change → Plan
changes_plan fold img [] = make [] []
changes_plan fold img (c ∷ []) = cond fold (folded_plan img (c ∷ [])) (change_plan img c)
changes_plan fold img (c ∷ d ∷ cs) = folded_plan img (c ∷ d ∷ cs)
