-- Text as lists of bytes in ASCII, and what a function that writes text promises.
use Rattle.std.specs.Prelude.{ℕ, zero, suc, ◌+◌, ◌/◌, ◌%◌, ◌≡◌, List, [], ◌∷◌, ◌++◌, length, get_or}
use Prim.Native.Char.{code}
use Prim.Native.String.{String, [] as none, ◌∷◌ as ◌then◌}
use Rattle.std.proofs.lemmas.List.Edits.{sets}

-- the bytes of a text that is written out here
unfoldable pub ascii : String → List ℕ
ascii none = []
ascii (c then s) = code c ∷ ascii s

-- a digit below 16, in upper case
unfoldable pub digit : ℕ → ℕ
digit n = get_or (ascii "0123456789ABCDEF") n 0

-- two hexadecimal digits for each byte
unfoldable pub hex_of : List ℕ → List ℕ
hex_of [] = []
hex_of (b ∷ bs) = digit (b / 16) ∷ digit (b % 16) ∷ hex_of bs

-- the decimal digits of a number, none of 0: those of a tenth of it, then its last one. The count is one for each that may be made
unfoldable pub leading : ℕ → ℕ → List ℕ
leading zero n = []
leading (suc count) zero = []
leading (suc count) (suc n) = leading count (suc n / 10) ++ (digit (suc n % 10) ∷ [])

-- a number in decimal without leading zeros: at least one digit, and never more than n before the last
unfoldable pub decimal_of : ℕ → List ℕ
decimal_of n = leading n (n / 10) ++ (digit (n % 10) ∷ [])

-- what a function promises that writes a text from a place on: the place behind it, and the buffer with each byte stored that has a place in it
pub record Wrote (text : List ℕ) (at : ℕ) (before after : List ℕ) (next : ℕ) : Type 0 where
  pub place : next ≡ at + length text
  pub buffer : after ≡ sets before at text
