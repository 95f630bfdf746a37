-- The values that the items of a profile store, written entry by entry. All of them are no longer than the largest region, so none is.
-- Assumes nothing.
use Prim.Native.Nat.{ℕ, ◌+◌, ◌^◌, ◌≤◌, ◌<◌}
use native.Mathlib.Omega.{arith}
use native.Mathlib.Numerals.{add-one}
use mathlib.Core.Path.{◌≡◌, refl, sym, ap, ◌∙◌}
use mathlib.Core.Bool.{Bool, true, false}
use mathlib.Core.List.{List, [], ◌∷◌, ◌++◌, map, append_assoc, append-nil}
use lib.ListN.{length, take, drop, get_or, length-append, length-take}
use lib.Seq.{drop-cons}
use Rattle.model.specs.Lists.{part}
use Rattle.model.specs.Image.{region_header_def}
use Rattle.model.specs.Entry.{Value, no_stamp_def, entry_bytes, entry_bytes_in}
use Rattle.model.specs.Compact.{joined, joined_in}
use Rattle.output.specs.Text.{Wrote}
use Rattle.output.proofs.Writing.{wrote-append, wrote_as, Partly}
use Rattle.compose.proofs.Carried.{joined-append}
use Rattle.profile.specs.declared.Setting.{Setting}
use Rattle.profile.specs.Reader.{request_in, no_setting}
use Rattle.profile.proofs.Listed.{from-item, none_left}
use Rattle.planner.specs.Asked.{valued, item_value, stored_if, stored_by}

-- ---- one item

pub entry-long : (v : Value) → length v.name + length v.bytes ≤ length (joined (v ∷ []))
unfolding joined_in entry_bytes_in
entry-long v = simp length-append (omega arith)

pub joined-one : (v : Value) → entry_bytes 0x3F v ≡ joined (v ∷ [])
unfolding joined_in
joined-one v = sym (append-nil (entry_bytes 0x3F v))

module _ (file : List ℕ) (t : Setting) {name vendor bytes : List ℕ} (p : name ≡ part (t.at + 16) t.name file) (q : vendor ≡ part t.at 16 file)
    (r : bytes ≡ part (t.at + 16 + t.name) t.size file) where
  its-value : valued name vendor t.attributes no_stamp_def bytes ≡ item_value (request_in file t)
  unfolding request_in
  its-value = rw (p, q, r)

  -- what the entry's writing asks
  pub item-asked : length (joined (stored_if true (request_in file t))) ≤ 28672 → (length name < 2 ^ 32) × (length vendor < 2 ^ 32) × (length bytes < 2 ^ 32)
  item-asked h =
      let l = entry-long (valued name vendor t.attributes no_stamp_def bytes) in
      let m = ap (λ (v : Value). length (joined (v ∷ []))) its-value in
      let n = ap length q ∙ length-take 16 (drop t.at file) in
      (omega arith, omega arith, omega arith)

  pub item-wrote : {at n : ℕ} {l l' : List ℕ} → Wrote (entry_bytes 0x3F (valued name vendor t.attributes no_stamp_def bytes)) at l l' n
      → Wrote (joined (stored_if true (request_in file t))) at l l' n
  item-wrote w = wrote_as (ap (entry_bytes 0x3F) its-value ∙ joined-one (item_value (request_in file t))) w

-- ---- one item after another

-- what is still to come from an item on
abbrev pub to_store : List ℕ → List Setting → ℕ → List Bool → ℕ → List ℕ
to_store file list count stores i = joined (stored_by (map (request_in file) (drop i (take count list))) (drop i stores))

pub all-to-store : (file : List ℕ) (list : List Setting) (count : ℕ) (stores : List Bool)
    → joined (stored_by (map (request_in file) (take count list)) stores) ≡ to_store file list count stores 0
all-to-store file list count stores = refl

module _ (file : List ℕ) (list : List Setting) (count : ℕ) (stores : List Bool) (eight : length list ≡ 8) (few : count ≤ 8) (i : ℕ) where
  pub next-to-store : length stores ≡ 8 → i < count
      → to_store file list count stores i ≡ joined (stored_if (get_or stores i false) (request_in file (get_or list i no_setting))) ++ to_store file list count stores (i + 1)
  unfolding stored_by
  next-to-store all h =
      let here = request_in file (get_or list i no_setting) in
      let more = stored_by (map (request_in file) (drop (i + 1) (take count list))) (drop (i + 1) stores) in
      let b : drop i stores ≡ get_or stores i false ∷ drop (i + 1) stores = rw (add-one i) (drop-cons stores i false (omega arith)) in
      rw (from-item list count eight few i h, b) (joined-append (stored_if (get_or stores i false) here) more)

  -- what the writing of one asks: all are short, so it is, and what stands before it
  pub next-asked : length stores ≡ 8 → i < count → {whole : List ℕ} {at n : ℕ} {l l' : List ℕ} → Partly whole (to_store file list count stores i) at l l' n
      → at ≤ 28672 → length whole ≤ 28672 → (n < 2 ^ 62) × (length (joined (stored_if (get_or stores i false) (request_in file (get_or list i no_setting)))) ≤ 28672)
  next-asked all h w k m =
      let piece = joined (stored_if (get_or stores i false) (request_in file (get_or list i no_setting))) in
      let place = w.wrote.place in
      let parts = ap length w.parts ∙ length-append w.text (to_store file list count stores i) in
      let two = ap length (next-to-store all h) ∙ length-append piece (to_store file list count stores (i + 1)) in
      (omega arith, omega arith)

  pub none-to-store : count ≤ i → to_store file list count stores i ≡ []
  unfolding stored_by joined_in
  none-to-store h = rw (none_left list count eight few i h)

-- ---- after the values that stay

module _ (n : ℕ) (us ws : List Value) where
  both : (region_header_def n ++ joined us) ++ joined ws ≡ region_header_def n ++ joined (us ++ ws)
  both = append_assoc (region_header_def n) (joined us) (joined ws) ∙ ap (λ (l : List ℕ). region_header_def n ++ l) (sym (joined-append us ws))

  pub after-asked : {m : ℕ} {l l' : List ℕ} → Wrote (region_header_def n ++ joined us) 0 l l' m → length (region_header_def n ++ joined (us ++ ws)) ≤ 28672
      → (m ≤ 28672) × (length (joined ws) ≤ 28672)
  after-asked w h =
      let place = w.place in
      let all = ap length both in
      let two = length-append (region_header_def n ++ joined us) (joined ws) in
      (omega arith, omega arith)

  pub after-wrote : {m m' : ℕ} {l l' l'' : List ℕ} → Wrote (region_header_def n ++ joined us) 0 l l' m → Wrote (joined ws) m l' l'' m'
      → Wrote (region_header_def n ++ joined (us ++ ws)) 0 l l'' m'
  after-wrote v w = wrote_as both (wrote-append v w)
