-- `layout::fixed::region_header` meets its contract: the signature's bytes one after the other are the signature, whichever of the two it is, and the
-- four bytes behind it are those of the size.
-- Assumes nothing.
use Prim.Native.Nat.{ℕ, ◌%◌}
use native.Mathlib.Omega.{arith}
use mathlib.Core.Path.{◌≡◌, refl}
use mathlib.Core.Bool.{Bool, true, false, cond}
use mathlib.Core.List.{List, [], ◌∷◌, ◌++◌}
use lib.ListN.{get_or, replicate}
use Rattle.model.specs.Lists.{bytes32}
use Rattle.model.specs.Layout.{signature, plain_signature, is_stamped_def}
use Rattle.model.specs.Image.{region_header_in}
use Rattle.layout.proofs.Bytes.{second-byte, fourth-byte}
use Rattle.layout.proofs.fixed.region_header.Goals as goal

abbrev spelt : List ℕ → List ℕ → List ℕ
spelt s rest =
    get_or s 0 0 ∷ get_or s 1 0 ∷ get_or s 2 0 ∷ get_or s 3 0 ∷ get_or s 4 0 ∷ get_or s 5 0 ∷ get_or s 6 0 ∷ get_or s 7 0
    ∷ get_or s 8 0 ∷ get_or s 9 0 ∷ get_or s 10 0 ∷ get_or s 11 0 ∷ get_or s 12 0 ∷ get_or s 13 0 ∷ get_or s 14 0 ∷ get_or s 15 0 ∷ rest

spelt-whole : (t : Bool) (p q r : List ℕ) → spelt (cond t signature plain_signature) (p ++ q ++ r) ≡ cond t signature plain_signature ++ p ++ q ++ r
unfolding signature plain_signature
spelt-whole true p q r = refl
spelt-whole false p q r = refl

pub returns : goal.returns
unfolding region_header_in
returns c =
    let a = c.args in
    let n = a.size in
    let low : n % 256 ≡ n % 65536 % 256 = omega arith in
    rw (c.signature-s.ensures, c.to_le_bytes.ensures, low, second-byte n, fourth-byte n)
    (spelt-whole (is_stamped_def a.y) (bytes32 n) (0x5A ∷ 0xFE ∷ []) (replicate 6 0))
