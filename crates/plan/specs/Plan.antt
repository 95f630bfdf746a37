-- A plan's operations, and what they write: whatever w is, which cuts it into stores.
use Rattle.std.specs.Prelude.{ℕ, ◌+◌, ◌*◌, ◌-◌, ◌/◌, ◌≤◌, ◌<◌, ◌≡◌, Bool, true, false, cond, List, [], ◌∷◌, ◌++◌, length, get_or, eqb, ltb}
use Rattle.std.specs.Int.Bits.{bit_and}
use Rattle.model.specs.Lists.{part}
use Rattle.model.specs.Image.{block}
use Rattle.model.specs.Layout.{state_at}
use Rattle.model.specs.Entry.{header_size_def}
use Rattle.model.specs.Stores.{Store, byte, Write, header, pages, stores, apply_all, run, mark, erases, difference, fails, reach}
use Rattle.plan.specs.declared.Step.{Step}
use Rattle.plan.specs.declared.Step.TheVariants.{Nothing, Mark, Erase, Program, Header}

-- how many bytes of a header stand behind its state
abbrev pub behind_state : ℕ
behind_state = header_size_def - (state_at + 1)

-- what an operation writes: a mark; blocks erased from one on; bytes of the content stored from an offset on; "header bytes in rising order without state", or
-- with "FF in the place of its state"
unfoldable pub stores_of_step : List ℕ → Step → List Write
stores_of_step content Nothing = []
stores_of_step content (Mark at v) = mark at v
stores_of_step content (Erase first count) = erases first count
stores_of_step content (Program at from len) = run at (part from len content)
stores_of_step content (Header at from) =
    header at (part from state_at content) (part (from + state_at + 1) behind_state content) ∷ []

-- one operation after the other
unfoldable pub expand : List ℕ → List Step → List Write
expand content [] = []
expand content (o ∷ os) = stores_of_step content o ++ expand content os

-- an operation is a mark
abbrev pub is_mark : Step → Bool
is_mark Nothing = false
is_mark (Mark at v) = true
is_mark (Erase first count) = false
is_mark (Program at from len) = false
is_mark (Header at from) = false

-- how many places an operation has, where its bytes lie in the content: stores of one byte or block, and with longer pages the bytes of a header with its state
abbrev pub size_of : ℕ → Step → ℕ
size_of w Nothing = 0
size_of w (Mark at v) = 1
size_of w (Erase first count) = count
size_of w (Program at from len) = len
size_of w (Header at from) = cond (eqb w 1) (state_at + behind_state) header_size_def

-- bytes of the content stored
abbrev pub run_of : ℕ → List ℕ → ℕ → ℕ → ℕ → List Store
run_of w content at from len = pages w at (part from len content)

-- a header byte by byte from a place on, without its state
abbrev pub header_rest_of : List ℕ → ℕ → ℕ → ℕ → List Store
header_rest_of content at from i =
    cond
    (ltb i state_at)
    (run_of 1 content (at + i) (from + i) (state_at - i) ++ run_of 1 content (at + state_at + 1) (from + state_at + 1) behind_state)
    (run_of 1 content (at + i + 1) (from + i + 1) (state_at + behind_state - i))

-- the stores of an operation from a place of it on
unfoldable pub rest_of : ℕ → List ℕ → Step → ℕ → List Store
rest_of w content Nothing i = []
rest_of w content (Mark at v) i = cond (eqb i 0) (byte at v ∷ []) []
rest_of w content (Erase first count) i = stores w (erases (first + i) (count - i))
rest_of w content (Program at from len) i = run_of w content (at + i) (from + i) (len - i)
rest_of w content (Header at from) i =
    cond (eqb w 1) (header_rest_of content at from i) (run_of w content (at + i) (from + i) (header_size_def - i))

-- an operation lies within a content and an image of these lengths
abbrev pub Fits : ℕ → ℕ → Step → Type 0
Fits held long Nothing = Unit {0}
Fits held long (Mark at v) = at < long
Fits held long (Erase first count) = block * first + block * count ≤ long
Fits held long (Program at from len) = (from + len ≤ held) × (at + len ≤ long)
Fits held long (Header at from) = (from + header_size_def ≤ held) × (at + header_size_def ≤ long)

-- "Every change of state clears exactly one bit": no bit rises, and one differs
abbrev pub OneBit : Step → List ℕ → Type 0
OneBit Nothing img = Unit {0}
OneBit (Mark at v) img = (bit_and (get_or img at 0) v ≡ v) × (difference (get_or img at 0) v ≡ 1)
OneBit (Erase first count) img = Unit {0}
OneBit (Program at from len) img = Unit {0}
OneBit (Header at from) img = Unit {0}

-- every operation lies within, and each mark clears one bit of what then stands there, with stores of at most w bytes
abbrev pub AllFit : ℕ → ℕ → List Step → Type 0
AllFit held long [] = Unit {0}
AllFit held long (o ∷ os) = Fits held long o × AllFit held long os

abbrev pub AllOneBit : ℕ → List ℕ → List Step → List ℕ → Type 0
AllOneBit w content [] img = Unit {0}
AllOneBit w content (o ∷ os) img =
    OneBit o img × AllOneBit w content os (apply_all (stores w (stores_of_step content o)) img)

-- in the content a header has FF in the place of its state
abbrev pub Blank : List ℕ → Step → Type 0
Blank content Nothing = Unit {0}
Blank content (Mark at v) = Unit {0}
Blank content (Erase first count) = Unit {0}
Blank content (Program at from len) = Unit {0}
Blank content (Header at from) = get_or content (from + state_at) 0 ≡ 0xFF

abbrev pub AllBlank : List ℕ → List Step → Type 0
AllBlank content [] = Unit {0}
AllBlank content (o ∷ os) = Blank content o × AllBlank content os

-- what the executor asks, for every w
pub record Ready (content : List ℕ) (ops : List Step) (img : List ℕ) : Type 0 where
  pub fit : AllFit (length content) (length img) ops
  pub blank : AllBlank content ops
  pub bits : (w : ℕ) → AllOneBit w content ops img

-- a plan's marks are at places of a kind
abbrev pub MarkAt : (ℕ → Bool) → Step → Type 0
MarkAt marks Nothing = Unit {0}
MarkAt marks (Mark at v) = marks at ≡ true
MarkAt marks (Erase first count) = Unit {0}
MarkAt marks (Program at from len) = Unit {0}
MarkAt marks (Header at from) = Unit {0}

abbrev pub AllMarks : (ℕ → Bool) → List Step → Type 0
AllMarks marks [] = Unit {0}
AllMarks marks (o ∷ os) = MarkAt marks o × AllMarks marks os

-- the first store of a list fails
abbrev pub FirstFails : List ℕ → List Store → List ℕ → Type 0
FirstFails dead [] img = ⊥
FirstFails dead (s ∷ ss) img = fails dead s img ≡ true

-- of a list of stores the first k are made, no more than are left; with none made, the first one fails
pub record Made (dead : List ℕ) (ss : List Store) (left : ℕ) (before after : List ℕ) (k : ℕ) (rest : List Store) : Type 0 where
  pub made : List Store
  pub whole : ss ≡ made ++ rest
  pub many : length made ≡ k
  pub few : k ≤ left
  pub image : after ≡ apply_all made before
  pub spared : reach dead made before ≡ k
  pub worn : k ≡ 0 → FirstFails dead ss before

-- the stores of r places that are gone over in one turn, from the beginning of a page on or within one: one for each page of w, the last one begun
abbrev pub count_of : ℕ → ℕ → ℕ
count_of w r = (r + (w - 1)) / w

-- r of so many bytes of the content are stored in one turn
abbrev pub Programmed : List ℕ → ℕ → List ℕ → ℕ → ℕ → ℕ → ℕ → List ℕ → List ℕ → ℕ → Type 0
Programmed dead w content at from len left before after r =
    (r ≤ len) × Made dead (run_of w content at from len) left before after (count_of w r) (run_of w content (at + r) (from + r) (len - r))

-- r places of an operation are gone over from one on
abbrev pub Turned : List ℕ → ℕ → List ℕ → Step → ℕ → ℕ → List ℕ → List ℕ → ℕ → Type 0
Turned dead w content s i left before after r =
    (i + r ≤ size_of w s) × Made dead (rest_of w content s i) left before after (count_of w r) (rest_of w content s (i + r))
