-- What is composed is what a compaction stores. The header and the entries of valid values take just the space that is counted for them, so FF bytes up to the
-- region's length make them the encoded region; and an entry behind the values without its name is the list after a put.
-- Assumes nothing.
use Prim.Native.Nat.{ℕ, ◌-◌}
use mathlib.Core.Path.{◌≡◌, refl, sym, ap, ◌∙◌}
use mathlib.Core.List.{List, [], ◌∷◌, ◌++◌, append-nil}
use lib.ListN.{length, replicate, length-append}
use Rattle.model.specs.Layout.{signature, authenticated}
use Rattle.model.specs.Image.{region_header_def, region_header_in}
use Rattle.model.specs.Entry.{Value, key_of, entry_bytes}
use Rattle.model.specs.Change.{without, put, step, space_of, space_in}
use Rattle.model.specs.Compact.{joined, encode, encode_in, joined_in}
use Rattle.model.proofs.Encode.{AllValid, joined_length}
use Rattle.compose.proofs.Carried.{joined-append}

length-header : (n : ℕ) → length (region_header_def n) ≡ 28
unfolding region_header_in signature
length-header n = refl

pub content-length : (n : ℕ) (vs : List Value) → AllValid authenticated vs → length (region_header_def n ++ joined vs) ≡ space_of vs
unfolding space_in
content-length n vs h = rw (length-append, length-header n, joined_length authenticated vs h)

pub encode-content : (n : ℕ) (vs : List Value) → AllValid authenticated vs
    → (region_header_def n ++ joined vs) ++ replicate (n - length (region_header_def n ++ joined vs)) 0xFF ≡ encode n vs
unfolding encode_in
encode-content n vs h = ap (λ (k : ℕ). (region_header_def n ++ joined vs) ++ replicate (n - k) 0xFF) (content-length n vs h)

pub joined-put : (v : Value) (vs : List Value) → joined (without (key_of v) vs) ++ entry_bytes 0x3F v ≡ joined (step (put v) vs)
unfolding step joined_in
joined-put v vs =
    sym (joined-append (without (key_of v) vs) (v ∷ []) ∙ ap (λ (l : List ℕ). joined (without (key_of v) vs) ++ l) (append-nil (entry_bytes 0x3F v)))
