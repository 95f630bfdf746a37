-- Numbers of stores with pages of 1, 2, 4, 8 and 16 bytes: document 01's first value stored at 28, a format's header, a compaction of one block. They were worked out
-- by hand, and the definitions give them.
-- Assumes nothing.
use Prim.Native.Nat.{ℕ, zero, suc, ◌+◌, ◌*◌}
use native.Mathlib.Omega.{arith}
use mathlib.Core.Path.{◌≡◌, refl, ap, ◌∙◌}
use mathlib.Core.Bool.{Bool, false, cond}
use mathlib.Core.List.{List, [], ◌∷◌, ◌++◌}
use lib.ListN.{length, replicate, length-append}
use Rattle.model.specs.Layout.{signature}
use Rattle.model.specs.Image.{block, region_header_def, region_header_in}
use Rattle.model.specs.Entry.{Value, header_front, header_rest_in, extra_bytes}
use Rattle.model.specs.Region.{added, replacing, standing}
use Rattle.model.specs.Stores.{Write, clear, pages, stores, stores_one_def, run, mark, erases, width_of}
use Rattle.model.specs.Compact.{all_used, next_record_def, fill_spare, finish}
use Rattle.model.specs.Set.{leftover, entry_stores, tail_to, tail_on}
use Rattle.model.proofs.Stores.{stores-append, stores-mark}
use Rattle.recovery.proofs.Chip.{blocks-whole}

-- RATE, GUID 01 02 up to 10, attributes 0x07, data 64 00 00 00
abbrev rate : Value
rate = record {
  name = 0x52 ∷ 0 ∷ 0x41 ∷ 0 ∷ 0x54 ∷ 0 ∷ 0x45 ∷ 0 ∷ 0 ∷ 0 ∷ [];
  vendor = 1 ∷ 2 ∷ 3 ∷ 4 ∷ 5 ∷ 6 ∷ 7 ∷ 8 ∷ 9 ∷ 10 ∷ 11 ∷ 12 ∷ 13 ∷ 14 ∷ 15 ∷ 16 ∷ [];
  attributes = 7;
  stamp = replicate 16 0;
  bytes = 0x64 ∷ 0 ∷ 0 ∷ 0 ∷ [];
}

-- stored in an empty region, with w bytes in a page
abbrev stored : ℕ → ℕ
stored w = length (stores w (tail_to 28 rate [] ++ tail_on rate []))

abbrev Stored : Type 0
Stored = (stored 1 ≡ 75) × (stored 2 ≡ 39) × (stored 4 ≡ 22) × (stored 8 ≡ 13) × (stored 16 ≡ 10)

pub rate-stored : Stored
unfolding tail_to tail_on leftover entry_stores added replacing standing header_front header_rest_in extra_bytes stores stores_one_def pages
rate-stored = (refl, refl, refl, refl, refl)

-- a format's 28 header bytes
abbrev Formatted : Type 0
Formatted =
    (length (stores 1 (run 0 (region_header_def 4096))) ≡ 28)
    × (length (stores 2 (run 0 (region_header_def 4096))) ≡ 14)
    × (length (stores 4 (run 0 (region_header_def 4096))) ≡ 7)
    × (length (stores 8 (run 0 (region_header_def 4096))) ≡ 4)
    × (length (stores 16 (run 0 (region_header_def 4096))) ≡ 2)

pub header-formatted : Formatted
unfolding region_header_in signature stores stores_one_def pages
header-formatted = (refl, refl, refl, refl, refl)

-- a compaction: the two records, the blocks erased, the mark that follows, and the pages of spare and region
both-lengths : (w : ℕ) (xs ys : List Write) → length (stores w (xs ++ ys)) ≡ length (stores w xs) + length (stores w ys)
both-lengths w xs ys = ap length (stores-append w xs ys) ∙ length-append (stores w xs) (stores w ys)

mark-length : (w at v : ℕ) → length (stores w (mark at v)) ≡ 1
mark-length w at v = ap length (stores-mark w at v)

erases-length : (w b n : ℕ) → length (stores w (erases b n)) ≡ n
unfolding erases stores stores_one_def
erases-length w b zero = refl
erases-length w b (suc n) = ap suc (erases-length w (suc b) n)

module _ (w b place : ℕ) (work content : List ℕ) (space : all_used work ≡ false) where
  pub compaction-length : length (stores w (fill_spare b work content ++ finish b place content))
      ≡ 3 + 2 * b + length (stores w (run (block * b + block) content)) + length (stores w (run 0 content))
  unfolding fill_spare finish stores
  compaction-length =
      let m = block * b + next_record_def work in
      let first : List Write = cond (all_used work) (clear b ∷ []) [] in
      let fe : List Write = mark m 0xFE in
      let fill : List Write = run (block * b + block) content in
      let fc : List Write = mark m 0xFC in
      let copy : List Write = run 0 content in
      let f8 : List Write = mark (block * b + place) 0xF8 in
      let none : length (stores w first) ≡ 0 = ap (λ (t : Bool). length (stores w (cond t (clear b ∷ []) []))) space in
      let e₁ = both-lengths w first fe in
      let e₂ = both-lengths w (first ++ fe) fill in
      let e₃ = both-lengths w (first ++ fe ++ fill) fc in
      let e₄ = both-lengths w (erases 0 b) copy in
      let e₅ = both-lengths w (erases 0 b ++ copy) f8 in
      let e₆ = both-lengths w (erases 0 b ++ copy ++ f8) (erases (b + 1) b) in
      let e₇ = both-lengths w (first ++ fe ++ fill ++ fc) (erases 0 b ++ copy ++ f8 ++ erases (b + 1) b) in
      let a = mark-length w m 0xFE in
      let c = mark-length w m 0xFC in
      let d = mark-length w (block * b + place) 0xF8 in
      let f = erases-length w 0 b in
      let g = erases-length w (b + 1) b in
      omega (arith, none, e₁, e₂, e₃, e₄, e₅, e₆, e₇, a, c, d, f, g)

-- of one block
module _ (place : ℕ) (work content : List ℕ) (space : all_used work ≡ false) (long : length content ≡ block) where
  pages-of : (n k : ℕ) → length (stores (width_of n) (run (block * k) content)) * width_of n ≡ 4096
  unfolding block
  pages-of n k = (blocks-whole n k 1 content long).1 ∙ long

  abbrev compacted : ℕ → ℕ
  compacted w = length (stores w (fill_spare 1 work content ++ finish 1 place content))

  abbrev Compacted : Type 0
  Compacted = (compacted 1 ≡ 8197) × (compacted 2 ≡ 4101) × (compacted 4 ≡ 2053) × (compacted 8 ≡ 1029) × (compacted 16 ≡ 517)

  pub block-compacted : Compacted
  unfolding width_of block
  block-compacted =
      let p₁ = pages-of 1 2 in let q₁ = pages-of 1 0 in
      let p₂ = pages-of 2 2 in let q₂ = pages-of 2 0 in
      let p₄ = pages-of 4 2 in let q₄ = pages-of 4 0 in
      let p₈ = pages-of 8 2 in let q₈ = pages-of 8 0 in
      let p₁₆ = pages-of 16 2 in let q₁₆ = pages-of 16 0 in (
        compaction-length 1 1 place work content space ∙ omega (arith, p₁, q₁),
        compaction-length 2 1 place work content space ∙ omega (arith, p₂, q₂),
        compaction-length 4 1 place work content space ∙ omega (arith, p₄, q₄),
        compaction-length 8 1 place work content space ∙ omega (arith, p₈, q₈),
        compaction-length 16 1 place work content space ∙ omega (arith, p₁₆, q₁₆),
      )
