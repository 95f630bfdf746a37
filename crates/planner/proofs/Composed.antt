-- What a compaction composes: a header and values that have room in the region, written at the front of a buffer, are with FF bytes after them the region to
-- store. Of a put they are the values without the changed one's name and then its entry; of a start-up all values.
-- Assumes nothing.
use Prim.Native.Nat.{ℕ, ◌-◌, ◌^◌, ◌≤◌, ◌<◌}
use native.Mathlib.Omega.{arith}
use mathlib.Core.Path.{◌≡◌, ap, ◌∙◌, subst}
use mathlib.Core.Bool.{true}
use mathlib.Core.List.{List, [], ◌∷◌, ◌++◌, append_assoc}
use lib.ListN.{length, replicate, length-append, length-replicate}
use Rattle.model.specs.Layout.{authenticated}
use Rattle.model.specs.Lists.{part}
use Rattle.model.specs.Name.{Key}
use Rattle.model.specs.Image.{region_header_def}
use Rattle.model.specs.Entry.{Value, key_of, entry_size_def, entry_bytes}
use Rattle.model.specs.Region.{entries, standing, sound, values}
use Rattle.model.specs.Change.{without, put, step, entry_sizes, space_of, entry_sizes_in, space_in}
use Rattle.model.specs.Compact.{joined, encode}
use Rattle.model.proofs.Encode.{AllValid}
use Rattle.std.specs.Prelude.{Option}
use Rattle.region.specs.declared.Placed.{Placed}
use Rattle.values.specs.Found.{found_of}
use Rattle.output.specs.Text.{Wrote}
use Rattle.output.proofs.Writing.{wrote-append, wrote_as, wrote-front}
use Rattle.compose.specs.Compose.{values_but, leave_of}
use Rattle.compose.proofs.Leaving.{leaving-standing}
use Rattle.compose.proofs.Encoded.{content-length, encode-content, joined-put}

-- FF bytes after n others, up to `size`
pub blank-to : {size n m : ℕ} {l c : List ℕ} → n ≤ size → Wrote (replicate (size - n) 0xFF) n l c m → Wrote (replicate (size - n) 0xFF) n l c size
blank-to {size} {n} {m} {l} {c} h w =
    let to : m ≡ size = omega (arith, w.place, length-replicate {A = ℕ} (size - n) 0xFF) in
    subst (λ (k : ℕ). Wrote (replicate (size - n) 0xFF) n l c k) to w

-- the front of a region of `size` bytes, with FF bytes after it
module _ {size : ℕ} (vs : List Value) (valid : AllValid authenticated vs) (room : space_of vs ≤ size) where
  pub front-short : length (region_header_def size ++ joined vs) ≤ size
  front-short = omega (arith, content-length size vs valid)

  module _ {l l₁ : List ℕ} {n : ℕ} (w : Wrote (region_header_def size ++ joined vs) 0 l l₁ n) where
    pub front_fits : n ≤ size
    front_fits = omega (arith, w.place, front-short)

    pub composed : {c : List ℕ} → Wrote (replicate (size - n) 0xFF) n l₁ c size → size ≤ length l → part 0 size c ≡ encode size vs
    composed {c} x long =
        let at : n ≡ length (region_header_def size ++ joined vs) = omega (arith, w.place) in
        let y = wrote-append w x in
        wrote-front y (omega (arith, y.place))
        ∙ ap (λ (k : ℕ). (region_header_def size ++ joined vs) ++ replicate (size - k) 0xFF) at
        ∙ encode-content size vs valid

module _ (n : ℕ) (v : Value) (vs : List Value) where
  others : List ℕ
  others = region_header_def n ++ joined (without (key_of v) vs)

  with-put : others ++ entry_bytes 0x3F v ≡ region_header_def n ++ joined (step (put v) vs)
  unfolding others
  with-put =
      append_assoc (region_header_def n) (joined (without (key_of v) vs)) (entry_bytes 0x3F v)
      ∙ ap (λ (l : List ℕ). region_header_def n ++ l) (joined-put v vs)

  pub put-wrote : {n₁ n₂ : ℕ} {l l₁ l₂ : List ℕ} → Wrote (region_header_def n ++ joined (without (key_of v) vs)) 0 l l₁ n₁
      → Wrote (entry_bytes 0x3F v) n₁ l₁ l₂ n₂ → Wrote (region_header_def n ++ joined (step (put v) vs)) 0 l l₂ n₂
  unfolding others
  put-wrote a b = wrote_as with-put (wrote-append a b)

  -- what the entry's writing asks: a place and a stamp and GUID that are short
  pub put-asked : {n₁ : ℕ} {l l₁ : List ℕ} → Wrote (region_header_def n ++ joined (without (key_of v) vs)) 0 l l₁ n₁
      → (length v.name < 2 ^ 32) × (length v.bytes < 2 ^ 32) × (length (region_header_def n ++ joined (step (put v) vs)) ≤ 28672)
      → length v.stamp ≡ 16 → length v.vendor ≡ 16
      → (n₁ < 2 ^ 62) × (length v.stamp < 2 ^ 32) × (length v.name < 2 ^ 32) × (length v.vendor < 2 ^ 32) × (length v.bytes < 2 ^ 32)
  unfolding others
  put-asked w h st ve =
      let place = w.place in
      let all = ap length with-put in
      let both = length-append others (entry_bytes 0x3F v) in
      (omega (arith, h.2), omega arith, h.0, omega arith, h.1)

-- the others: the place that is left out is that of the name's value
pub others-wrote : (r : List ℕ) (k : Key) {leave l l₁ : List ℕ} {f : Option Placed} {n : ℕ} → sound r ≡ true → leave ≡ leave_of f → f ≡ found_of (standing k (entries r))
    → Wrote (region_header_def (length r) ++ joined (values_but leave r)) 0 l l₁ n → Wrote (region_header_def (length r) ++ joined (without k (values (entries r)))) 0 l l₁ n
others-wrote r k s p q w =
    wrote_as (ap (λ (vs : List Value). region_header_def (length r) ++ joined vs) (ap (λ (o : List ℕ). values_but o r) (p ∙ ap leave_of q) ∙ leaving-standing r s k)) w

-- the changed one's own space
last-space : (v : Value) (ws : List Value) → entry_size_def v ≤ entry_sizes (ws ++ (v ∷ []))
unfolding entry_sizes_in
last-space v [] = omega arith
last-space v (w ∷ ws) = let h = last-space v ws in omega arith

pub put-space : (v : Value) (vs : List Value) → entry_size_def v ≤ space_of (step (put v) vs)
unfolding step space_in
put-space v vs = let h = last-space v (without (key_of v) vs) in omega arith
