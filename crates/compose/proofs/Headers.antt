-- The bytes of a header by its fields are those of the definitions, which cut it in two around its state; only the grouping differs. With the name, the data
-- and the padding behind it, it is a whole entry, and with stamp and GUID of no more than 16 bytes it is no longer than the entry's size says.
-- Assumes nothing.
use Prim.Native.Nat.{ℕ, ◌+◌, ◌-◌, ◌≤◌}
use native.Mathlib.Omega.{arith}
use mathlib.Core.Path.{◌≡◌, refl, sym, ap}
use mathlib.Core.List.{List, [], ◌∷◌, ◌++◌, append_assoc}
use lib.ListN.{length, replicate, length-append, length-replicate}
use Rattle.model.specs.Lists.{bytes32}
use Rattle.model.specs.Entry.{header_front, header_rest, rounded, Value, plain_size, entry_size_def, entry_bytes, entry_bytes_in, extra_bytes, header_rest_in}
use Rattle.output.specs.Text.{Wrote}
use Rattle.output.proofs.Writing.{wrote-append, wrote_as}
use Rattle.compose.specs.Compose.{before_stamp_def, behind_stamp_def, header_bytes_def}

-- ---- a header

-- what stands around the stamp, regrouped
regroup : (f s z a w st x n d ve : List ℕ) → (f ++ (s ++ z) ++ a ++ w) ++ st ++ (x ++ n ++ d) ++ ve ≡ f ++ s ++ (z ++ a ++ w ++ st ++ x ++ n ++ d ++ ve)
regroup f s z a w st x n d ve = simp append_assoc

pub header-value : (s : ℕ) (v : Value)
    → header_bytes_def s v.attributes v.stamp (length v.name) (length v.bytes) v.vendor ≡ header_front ++ (s ∷ []) ++ header_rest v
unfolding header_bytes_def before_stamp_def behind_stamp_def header_rest_in extra_bytes
header-value s v =
    regroup header_front (s ∷ []) (0 ∷ []) (bytes32 v.attributes) (replicate 8 0) v.stamp (replicate 4 0) (bytes32 (length v.name)) (bytes32 (length v.bytes)) v.vendor

pub length_before : (s a : ℕ) → length (before_stamp_def s a) ≡ 16
unfolding before_stamp_def header_front
length_before s a = refl

pub length-behind : (n d : ℕ) → length (behind_stamp_def n d) ≡ 12
unfolding behind_stamp_def
length-behind n d = refl

pub header-length : (s a : ℕ) (stamp : List ℕ) (n d : ℕ) (vendor : List ℕ) → length (header_bytes_def s a stamp n d vendor) ≡ 28 + length stamp + length vendor
unfolding header_bytes_def
header-length s a stamp n d vendor = simp (length-append, length_before, length-behind) (omega arith)

-- its parts written one behind the other
pub header-wrote : (s a n d : ℕ) {at n₁ n₂ n₃ n₄ : ℕ} {stamp vendor l l₁ l₂ l₃ l₄ : List ℕ}
    → Wrote (before_stamp_def s a) at l l₁ n₁ → Wrote stamp n₁ l₁ l₂ n₂ → Wrote (behind_stamp_def n d) n₂ l₂ l₃ n₃ → Wrote vendor n₃ l₃ l₄ n₄
    → Wrote (header_bytes_def s a stamp n d vendor) at l l₄ n₄ × (n₄ ≡ at + 28 + length stamp + length vendor)
unfolding header_bytes_def
header-wrote s a n d {at} p q r t =
    let i = length_before s a in
    let j = length-behind n d in
    (wrote-append (wrote-append (wrote-append p q) r) t, omega (arith, p.place, q.place, r.place, t.place))

-- ---- an entry

pub entry-parts : (s : ℕ) (v : Value)
    → header_bytes_def s v.attributes v.stamp (length v.name) (length v.bytes) v.vendor ++ v.name ++ v.bytes ++ replicate (entry_size_def v - plain_size v) 0xFF ≡ entry_bytes s v
unfolding entry_bytes_in
entry-parts s v = ap (λ (l : List ℕ). l ++ v.name ++ v.bytes ++ replicate (entry_size_def v - plain_size v) 0xFF) (header-value s v)

pub entry-wrote : (s : ℕ) (v : Value) {at n₁ n₂ n₃ n₄ : ℕ} {l l₁ l₂ l₃ l₄ : List ℕ}
    → Wrote (header_bytes_def s v.attributes v.stamp (length v.name) (length v.bytes) v.vendor) at l l₁ n₁
    → Wrote v.name n₁ l₁ l₂ n₂ → Wrote v.bytes n₂ l₂ l₃ n₃ → Wrote (replicate (entry_size_def v - plain_size v) 0xFF) n₃ l₃ l₄ n₄
    → Wrote (entry_bytes s v) at l l₄ n₄
entry-wrote s v h n b p = wrote_as (entry-parts s v) (wrote-append (wrote-append (wrote-append h n) b) p)

pub entry-short : (s : ℕ) (v : Value) → length v.stamp ≤ 16 → length v.vendor ≤ 16 → length (entry_bytes s v) ≤ entry_size_def v
entry-short s v h k =
    let l = header-length s v.attributes v.stamp (length v.name) (length v.bytes) v.vendor in
    rw (← entry-parts s v) (simp (length-append, length-replicate, l) (omega arith))

-- with the data in two parts
pub entry-joined : (s a : ℕ) (name vendor stamp old own : List ℕ) {at n₁ n₂ n₃ n₄ n₅ : ℕ} {l l₁ l₂ l₃ l₄ l₅ : List ℕ}
    → Wrote (header_bytes_def s a stamp (length name) (length old + length own) vendor) at l l₁ n₁
    → Wrote name n₁ l₁ l₂ n₂ → Wrote old n₂ l₂ l₃ n₃ → Wrote own n₃ l₃ l₄ n₄
    → Wrote (replicate (rounded (60 + length name + length old + length own) - (60 + length name + length old + length own)) 0xFF) n₄ l₄ l₅ n₅
    → Wrote (entry_bytes s (record { name = name; vendor = vendor; attributes = a; stamp = stamp; bytes = old ++ own })) at l l₅ n₅
entry-joined s a name vendor stamp old own h n o w p =
    let e : length old + length own ≡ length (old ++ own) = sym (length-append old own) in
    let f : 60 + length name + length old + length own ≡ 60 + length name + length (old ++ own) = omega arith in
    entry-wrote s (record { name = name; vendor = vendor; attributes = a; stamp = stamp; bytes = old ++ own })
    (wrote_as (ap (λ (k : ℕ). header_bytes_def s a stamp (length name) k vendor) e) h) n (wrote-append o w)
    (wrote_as (ap (λ (k : ℕ). replicate (rounded k - k) 0xFF) f) p)
