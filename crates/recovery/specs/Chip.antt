-- 02 (i): what the chip is asked to do. Each claim is a type.
use Rattle.std.specs.Prelude.{ℕ, ◌+◌, ◌%◌, ◌≤◌, ◌≡◌, Bool, true, false, not, ◌⊎◌, List, [], ◌∷◌, length, get_or}
use Rattle.std.proofs.Math.Option.{none}
use Rattle.model.specs.declared.Session.{Session}
use Rattle.model.specs.Image.{right_length, region}
use Rattle.model.specs.Region.{sound, values_of}
use Rattle.model.specs.Request.{Request}
use Rattle.model.specs.Change.{Change, changes_of, mode_changes}
use Rattle.model.specs.Rules.{set_broken, profile_broken, mode_broken}
use Rattle.model.specs.Stores.{Store, page, erase, Write, write, header, clear, stores, apply_all, left_by_def, left_by_one, mark, byte, Every, width_of}
use Rattle.model.specs.Answers.{stores_of}
use Rattle.model.specs.StartUp.{resume, tidy_tail, start_up_stores}
use Rattle.model.specs.Book.{set_plan, profile_plan, mode_plan, is_record, in_place_def}

-- "The new flash stores up to w bytes at a time, within one page of w": whatever is written
abbrev pub OnePage : ℕ → Store → Type 0
OnePage w (page at bs) = (1 ≤ length bs) × (at % w + length bs ≤ w)
OnePage w (erase b) = Unit {0}

abbrev pub StoresWithinPages : Type 0
StoresWithinPages = (w : ℕ) → 1 ≤ w → (ws : List Write) → Every (OnePage w) (stores w ws)

-- "Compactions store and copy whole pages": every store of one is a whole page, a block's erase, or the mark of a record
abbrev pub WholePage : ℕ → Store → Type 0
WholePage w (page at bs) = (at % w ≡ 0) × (length bs ≡ w)
WholePage w (erase b) = Unit {0}

abbrev pub WholeOrRecord : ℕ → List ℕ → Store → Type 0
WholeOrRecord w img (page at bs) = WholePage w (page at bs) ⊎ ((is_record img at ≡ true) × (length bs ≡ 1))
WholeOrRecord w img (erase b) = Unit {0}

abbrev pub InWholePages : ℕ → List ℕ → List Write → Type 0
InWholePages n img ws = Every (WholeOrRecord (width_of n) img) (stores (width_of n) ws)

-- changes that are compacted: one whose entry does not fit in the tail; 02 (j), "where mode and PK change together it is one compaction"
abbrev pub compacts : List ℕ → List Change → Bool
compacts img [] = false
compacts img (c ∷ []) = not (in_place_def img c)
compacts img (c ∷ d ∷ cs) = true

-- there are five: a set's and a mode request's, where their changes are compacted; a start-up's with no change; the one that a start-up resumes; and a
-- profile's, if something differs
abbrev pub WholePagesStored : Type 0
WholePagesStored =
    (n : ℕ) (img : List ℕ)
    → ((m : Bool) (s : Session) (r : Request)
    → length r.vendor ≡ 16
    → set_broken m s r img ≡ none
    → compacts img (changes_of r (values_of img)) ≡ true
    → Every (WholeOrRecord (width_of n) img) (stores_of (width_of n) (set_plan m s r img)))
    × (right_length img ≡ true → sound (region img) ≡ true → InWholePages n img (tidy_tail img))
    × (right_length img ≡ true → InWholePages n img (resume img))
    × ((m : Bool) (s : Session) (file : List ℕ)
    → profile_broken m s file img ≡ none
    → Every (WholeOrRecord (width_of n) img) (stores_of (width_of n) (profile_plan m s file img)))
    × ((m : Bool) (s : Session) (to : ℕ)
    → mode_broken m s to img ≡ none
    → compacts img (mode_changes to (values_of img)) ≡ true
    → Every (WholeOrRecord (width_of n) img) (stores_of (width_of n) (mode_plan m s to img)))

-- what is written leaves the same for every w, where the state of each header that is written is blank, as it is in a blank tail
abbrev pub StateBlank : Write → List ℕ → Type 0
StateBlank (write at bs) img = Unit {0}
StateBlank (header at front rest) img = get_or img (at + length front) 0xFF ≡ 0xFF
StateBlank (clear b) img = Unit {0}

abbrev pub StatesBlank : List Write → List ℕ → Type 0
StatesBlank [] img = Unit {0}
StatesBlank (x ∷ xs) img = StateBlank x img × StatesBlank xs (left_by_one x img)

-- a start-up writes no header, and so leaves the same on every image
abbrev pub StoresLeave : Type 0
StoresLeave =
    (w : ℕ) (img : List ℕ)
    → ((ws : List Write) → StatesBlank ws img → apply_all (stores w ws) img ≡ left_by_def ws img)
    × (apply_all (stores w (start_up_stores img)) img ≡ left_by_def (start_up_stores img) img)

-- "state and record marks are single bytes"
abbrev pub MarksAreSingle : Type 0
MarksAreSingle = (w at v : ℕ) → stores w (mark at v) ≡ byte at v ∷ []
