-- Cases of 02 (g): rows of a table of their own for the answers, and beside them what each name is given. How many names; what is left of the buffer; a name asked
-- twice; a name of the other side. Each holds by evaluation.
-- Assumes nothing.
use Prim.Native.Nat.{ℕ}
use mathlib.Core.Path.{◌≡◌, refl}
use mathlib.Core.Bool.{true, false}
use mathlib.Core.List.{List, [], ◌∷◌, ◌++◌}
use mathlib.Core.Option.{some}
use lib.ListN.{length, replicate}
use Rattle.model.specs.declared.Session.{Session}
use Rattle.model.specs.declared.Rule.TheVariants.{Length}
use Rattle.model.specs.Name.{Key}
use Rattle.model.specs.Rules.{gets_broken}
use Rattle.model.specs.Answers.{done, refused, Given, Gots, gets_reply}
use Rattle.model.specs.Book.{several}
use Rattle.table.proofs.Row.{Row, Holds, HoldAll, end, ◌and◌, computed, refuses, idles, plain, boot, session_of, ff, zeros, header, image, guid, rate, four, behind_state, start_id, ten_and_four, rate_entry, shared, modem, temp}
use Rattle.table.proofs.Held.{held}

-- names of one letter, 4 bytes; A has five bytes of data, B nine, C three and no RT
abbrev letter : ℕ → List ℕ
letter l = l ∷ 0x00 ∷ 0x00 ∷ 0x00 ∷ []

abbrev key : List ℕ → List ℕ → Key
key name vendor = record { name = name; vendor = vendor }

abbrev A : Key
A = key (letter 0x41) guid

abbrev B : Key
B = key (letter 0x42) guid

abbrev C : Key
C = key (letter 0x43) guid

-- no value has this name, and these are not well formed
abbrev D : Key
D = key (letter 0x44) guid

abbrev nameless : Key
nameless = key [] guid

abbrev begin : Key
begin = key (zeros 2) guid

abbrev five : List ℕ
five = replicate 5 0x55

abbrev nine : List ℕ
nine = replicate 9 0x99

abbrev three : List ℕ
three = replicate 3 0x33

-- they stand: 28 to 100, to 176, to 244
abbrev entry : ℕ → ℕ → ℕ → List ℕ → List ℕ
entry l attributes size bytes =
    start_id ++ (0x3F ∷ []) ++ behind_state attributes (zeros 16) 0x04 0x00 size 0x00 guid ++ letter l ++ bytes

abbrev content : List ℕ
content =
    header ++ entry 0x41 0x07 5 (five ++ ff 3) ++ entry 0x42 0x07 9 (nine ++ ff 3) ++ entry 0x43 0x03 3 (three ++ ff 1) ++ ff 3852

abbrev settings : List ℕ
settings = image content

-- a buffer of so many bytes A5
abbrev room : ℕ → List ℕ
room n = replicate n 0xA5

-- what a name is given: its data's size and attributes; or a rule, and the size needed
abbrev had : ℕ → ℕ → Given
had size attributes = record { answer = done 0; size = size; attributes = attributes; needed = 0 }

abbrev lacked : ℕ → ℕ → Given
lacked rule needed = record { answer = refused rule; size = 0; attributes = 0; needed = needed }

abbrev gives : List Given → List ℕ → Gots
gives items buffer = record { items = items; buffer = buffer }

-- ---- "up to 64 names"; "More than 64 are refused 3, after 2"

abbrev most : Row
most = idles settings 244 (several false boot (replicate 64 C) (room 192))

most-holds : Holds most
unfolding computed
most-holds = held most refl refl tt tt refl refl

-- each of them is given something
most_given-holds : length (gets_reply false boot (replicate 64 C) (room 192) settings).items ≡ 64
unfolding computed
most_given-holds = refl

abbrev too_many_def : Row
too_many_def = refuses settings 244 (several false boot (replicate 65 C) (room 195)) 3

too_many-holds : Holds too_many_def
unfolding computed
too_many-holds = held too_many_def refl refl tt tt refl refl

-- then no name is given anything, and the buffer stays
too_many_given-holds : gets_reply false boot (replicate 65 C) (room 195) settings ≡ gives [] (room 195)
unfolding computed
too_many_given-holds = refl

-- a work block that ends in FC; a byte too few
abbrev unready : Row
unready = refuses (content ++ (0xFC ∷ []) ++ ff 8191) 244 (several false boot (replicate 65 C) (room 195)) 2

unready-holds : Holds unready
unfolding computed
unready-holds = held unready refl refl tt tt refl refl

short-holds : gets_broken (replicate 65 C) (content ++ ff 8191) ≡ some Length
unfolding computed
short-holds = refl

-- and with one name nothing is given on such an image
unready_given-holds : gets_reply false boot (A ∷ []) (room 8) (content ++ (0xFC ∷ []) ++ ff 8191) ≡ gives [] (room 8)
unfolding computed
unready_given-holds = refl

-- no names: done with no stores, and the buffer stays
abbrev no_names : Row
no_names = idles settings 244 (several false boot [] (room 8))

no_names-holds : Holds no_names
unfolding computed
no_names-holds = held no_names refl refl tt tt refl refl

no_names_given-holds : gets_reply false boot [] (room 8) settings ≡ gives [] (room 8)
unfolding computed
no_names_given-holds = refl

-- ---- "the data one after another in one buffer. Each get has what the ones before it left of the buffer; a refused one takes none."

-- a buffer of 8: A takes 5, B wants 9 and has 3, C takes them
passed-holds : gets_reply false boot (A ∷ B ∷ C ∷ []) (room 8) settings
    ≡ gives (had 5 0x07 ∷ lacked 14 9 ∷ had 3 0x03 ∷ []) (five ++ three)
unfolding computed
passed-holds = refl

-- a byte more stays as it was
behind-holds : gets_reply false boot (C ∷ A ∷ []) (room 9) settings
    ≡ gives (had 3 0x03 ∷ had 5 0x07 ∷ []) (three ++ five ++ room 1)
unfolding computed
behind-holds = refl

-- rules 3, 11 and 14 take nothing and write nothing; next-name's empty name is not well formed here
refused-holds : gets_reply false boot (nameless ∷ D ∷ begin ∷ B ∷ A ∷ []) (room 5) settings
    ≡ gives (lacked 3 0 ∷ lacked 11 0 ∷ lacked 3 0 ∷ lacked 14 9 ∷ had 5 0x07 ∷ []) five
unfolding computed
refused-holds = refl

-- a buffer that is too short for each
nowhere-holds : gets_reply false boot (A ∷ B ∷ C ∷ []) (room 2) settings
    ≡ gives (lacked 14 5 ∷ lacked 14 9 ∷ lacked 14 3 ∷ []) (room 2)
unfolding computed
nowhere-holds = refl

-- where every name is refused the call is done
abbrev all_refused : Row
all_refused = idles settings 244 (several false boot (nameless ∷ D ∷ B ∷ []) (room 2))

all_refused-holds : Holds all_refused
unfolding computed
all_refused-holds = held all_refused refl refl tt tt refl refl

-- a name asked twice takes its room twice
twice-holds : gets_reply false boot (A ∷ A ∷ []) (room 10) settings
    ≡ gives (had 5 0x07 ∷ had 5 0x07 ∷ []) (five ++ five)
unfolding computed
twice-holds = refl

twice_short-holds : gets_reply false boot (A ∷ A ∷ []) (room 9) settings
    ≡ gives (had 5 0x07 ∷ lacked 14 5 ∷ []) (five ++ room 4)
unfolding computed
twice_short-holds = refl

-- at runtime C is absent
runtime-holds : gets_reply false (session_of 2 plain) (C ∷ A ∷ []) (room 5) settings
    ≡ gives (lacked 11 0 ∷ had 5 0x07 ∷ []) five
unfolding computed
runtime-holds = refl

-- ---- a side's names: RATE is ours, TEMP the modem's

abbrev pair : List ℕ
pair = image (header ++ rate_entry 0x3F 0x64 ++ (start_id ++ (0x3F ∷ []) ++ ten_and_four modem ++ temp ++ four 0x65 ++ ff 2) ++ ff 3916)

abbrev both : Session
both = session_of 0 (shared 76 0 76 0 0 modem)

-- of the other side's name nothing is said, also where the buffer would be too short for it; 3 comes before 22
theirs-holds : gets_reply true both (key rate guid ∷ key temp modem ∷ nameless ∷ key rate guid ∷ []) (room 5) pair
    ≡ gives (lacked 22 0 ∷ had 4 0x07 ∷ lacked 3 0 ∷ lacked 22 0 ∷ []) (four 0x65 ++ room 1)
unfolding computed
theirs-holds = refl

ours-holds : gets_reply false both (key rate guid ∷ key temp modem ∷ []) (room 4) pair
    ≡ gives (had 4 0x07 ∷ lacked 22 0 ∷ []) (four 0x64)
unfolding computed
ours-holds = refl

abbrev theirs_done : Row
theirs_done = idles pair 180 (several true both (key rate guid ∷ []) (room 4))

theirs_done-holds : Holds theirs_done
unfolding computed
theirs_done-holds = held theirs_done refl refl tt tt refl refl

-- the table
many : HoldAll
    (most
    ∷ too_many_def
    ∷ unready
    ∷ no_names
    ∷ all_refused
    ∷ theirs_done
    ∷ [])
many =
    most-holds
    and too_many-holds
    and unready-holds
    and no_names-holds
    and all_refused-holds
    and theirs_done-holds
    and end
