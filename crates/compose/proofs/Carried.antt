-- The values of a region but those left out, joined: the joined entries of joined lists are the joined entries, by induction over the first list, and leaving
-- places out of a list leaves them out of its parts. So at each turn of a loop that carries value after value over, what is still to come is one value and the
-- rest.
-- Assumes nothing.
use Prim.Native.Nat.{ℕ, suc, ◌+◌, ◌-◌, ◌≤◌, ◌<◌}
use native.Mathlib.Omega.{arith}
use mathlib.Core.Path.{◌≡◌, refl, sym, ap, subst, ◌∙◌}
use mathlib.Core.Logic.{◌≢◌}
use mathlib.Core.Bool.{Bool, true, false, not, cond}
use mathlib.Core.List.{List, [], ◌∷◌, ◌++◌, map, append_assoc, append-nil}
use lib.ListN.{length, take, drop, set, replicate, length-append, length-drop}
use lib.Seq.{sets, set-set, set_comm, take-add, drop-drop, length-take-le}
use Rattle.model.specs.Layout.{authenticated}
use Rattle.model.specs.Lists.{part, keep, among}
use Rattle.model.specs.Entry.{Value, rounded, entry_size_def, entry_bytes}
use Rattle.model.specs.Walk as walk
use Rattle.model.specs.Region.{entries, is_value}
use Rattle.model.specs.Compact.{joined, joined_in}
use Rattle.model.proofs.Walking.{entries_from}
use Rattle.layout.specs.declared.Entry as numbers
use Rattle.region.specs.Walk.{entry_at, stamp_at, vendor_at, entry_as, vendor_as}
use Rattle.region.proofs.Entries.{named, stamp as stamp-part, vendor as vendor-part}
use Rattle.values.proofs.Listed.{value_entries}
use Rattle.values.proofs.Sizes.{part-fits, short, data-part}
use Rattle.values.proofs.Next.{Next}
use Rattle.output.specs.Text.{Wrote}
use Rattle.output.proofs.Writing.{Partly, sets-append, wrote-append, wrote_as}
use Rattle.compose.specs.Compose.{before_stamp_def, behind_stamp_def, header_bytes_def, leaving, values_but}
use Rattle.compose.proofs.Headers.{length_before, length-behind, entry-parts, entry-short}

-- ---- an entry's value by what is read of it

module _ (r : List ℕ) (a : ℕ) (e : numbers.Entry) {stamp name vendor bytes : List ℕ}
    (s : stamp ≡ stamp_at r a) (n : name ≡ (entry_at r a e).name) (v : vendor ≡ vendor_at r a) (b : bytes ≡ (entry_at r a e).bytes) where
  abbrev read : Value
  read = record { name = name; vendor = vendor; attributes = e.attributes; stamp = stamp; bytes = bytes }

  pub entry_value : entry_bytes 0x3F read ≡ entry_bytes 0x3F (walk.entry_value_def (entry_at r a e))
  unfolding entry_as walk.placed stamp_at vendor_as
  entry_value = rw (s, n, v, b)

pub stamp-short : (r : List ℕ) (a : ℕ) {stamp : List ℕ} → stamp ≡ stamp_at r a → length stamp ≤ 16
stamp-short r a s = rw (s, stamp-part r a) (part-fits r (a + 16) 16).0

-- bytes written over as many others
set_before : (xs q : List ℕ) (k j y : ℕ) → k < j → set (sets q j xs) k y ≡ sets (set q k y) j xs
set_before [] q k j y h = refl
set_before (x ∷ xs) q k j y h =
    set_before xs (set q j x) k (suc j) y (omega arith) ∙ ap (λ (l : List ℕ). sets l (suc j) xs) (set_comm q j k x y (λ e. omega arith))

sets_over : (xs ys rest q : List ℕ) (k : ℕ) → length xs ≡ length ys → sets (sets q k (xs ++ rest)) k ys ≡ sets q k (ys ++ rest)
sets_over [] [] rest q k h = refl
sets_over [] (y ∷ ys) rest q k h = absurd (omega arith)
sets_over (x ∷ xs) [] rest q k h = absurd (omega arith)
sets_over (x ∷ xs) (y ∷ ys) rest q k h =
    ap (λ (l : List ℕ). sets l (suc k) ys) (set_before (xs ++ rest) (set q k x) k (suc k) y (omega arith) ∙ ap (λ (l : List ℕ). sets l (suc k) (xs ++ rest)) (set-set q k x y))
    ∙ sets_over xs ys rest (set q k y) (suc k) (omega arith)

wrote-over : (xs ys zs rest : List ℕ) {at i n m : ℕ} {l l' l'' : List ℕ} → length ys ≡ length zs → i ≡ at + length xs
    → Wrote (xs ++ (ys ++ rest)) at l l' n → Wrote zs i l' l'' m → Wrote (xs ++ (zs ++ rest)) at l l'' n
wrote-over xs ys zs rest {at} {i} {l = l} {l'} {l''} e p w v = record {
  place = w.place ∙ simp (length-append, e);
  buffer =
      v.buffer
      ∙ ap (λ (k : ℕ). sets l' k zs) p
      ∙ ap (λ (q : List ℕ). sets q (at + length xs) zs) (w.buffer ∙ sets-append l at xs (ys ++ rest))
      ∙ sets_over ys zs rest (sets l at xs) (at + length xs) e
      ∙ sym (sets-append l at xs (zs ++ rest));
}

-- the same place by another name
wrote-from : {xs : List ℕ} {at at' n : ℕ} {l l' : List ℕ} → at ≡ at' → Wrote xs at l l' n → Wrote xs at' l l' n
wrote-from {xs} {n = n} {l} {l'} e w = subst (λ (k : ℕ). Wrote xs k l l' n) e w

part-split : (r : List ℕ) (i n m : ℕ) → part i (n + m) r ≡ part i n r ++ part (i + n) m r
part-split r i n m = take-add n m (drop i r) ∙ ap (λ (l : List ℕ). part i n r ++ take m l) (drop-drop n i r)

part-long : (r : List ℕ) (i n : ℕ) → i + n ≤ length r → length (part i n r) ≡ n
part-long r i n h = length-take-le n (drop i r) (simp length-drop (omega arith))

-- ---- a value whose entry lies within the region: what stands from its stamp on, with key index and sizes written anew

module _ (r : List ℕ) (a : ℕ) (e : numbers.Entry) (within : a + (60 + e.name + e.size) ≤ length r) (named-one : e.state ≢ 0xFF) where
  abbrev value : Value
  value = walk.entry_value_def (entry_at r a e)

  stamp-long : length value.stamp ≡ 16
  unfolding entry_as walk.placed stamp_at
  stamp-long = ap length (stamp-part r a) ∙ part-long r (a + 16) 16 (omega arith)

  name-long : length value.name ≡ e.name
  name-long = ap length (named authenticated r a e named-one) ∙ part-long r (a + 60) e.name (omega arith)

  data-long : length value.bytes ≡ e.size
  data-long = ap length (data-part authenticated r a e named-one) ∙ part-long r (a + 60 + e.name) e.size (omega arith)

  -- key index and sizes as they are there
  abbrev middle : List ℕ
  middle = part (a + 16 + 16) 12 r

  abbrev behind : List ℕ
  behind = value.vendor ++ (value.name ++ value.bytes)

  from-stamp : part (a + 16) (44 + e.name + e.size) r ≡ value.stamp ++ (middle ++ behind)
  unfolding entry_as walk.placed stamp_at vendor_as
  from-stamp =
      let i : 44 + e.name + e.size ≡ 16 + (12 + (16 + (e.name + e.size))) = omega arith in
      let j : a + 16 + 16 + 12 ≡ a + 44 = omega arith in
      let k : a + 44 + 16 ≡ a + 60 = omega arith in
      ap (λ (n : ℕ). part (a + 16) n r) i
      ∙ part-split r (a + 16) 16 (12 + (16 + (e.name + e.size)))
      ∙ ap (λ (l : List ℕ). part (a + 16) 16 r ++ l) (part-split r (a + 16 + 16) 12 (16 + (e.name + e.size)))
      ∙ ap (λ (n : ℕ). part (a + 16) 16 r ++ (middle ++ part n (16 + (e.name + e.size)) r)) j
      ∙ ap (λ (l : List ℕ). part (a + 16) 16 r ++ (middle ++ l)) (part-split r (a + 44) 16 (e.name + e.size))
      ∙ ap (λ (n : ℕ). part (a + 16) 16 r ++ (middle ++ (part (a + 44) 16 r ++ part n (e.name + e.size) r))) k
      ∙ ap (λ (l : List ℕ). part (a + 16) 16 r ++ (middle ++ (part (a + 44) 16 r ++ l))) (part-split r (a + 60) e.name e.size)
      ∙ rw (← stamp-part r a, ← vendor-part authenticated r a, ← named authenticated r a e named-one, ← data-part authenticated r a e named-one)

  -- with those written over
  anew : (before_stamp_def 0x3F e.attributes ++ (value.stamp ++ (behind_stamp_def e.name e.size ++ behind)))
      ++ replicate (rounded (60 + e.name + e.size) - (60 + e.name + e.size)) 0xFF ≡ entry_bytes 0x3F value
  unfolding header_bytes_def entry_as walk.placed
  anew = sym (sym (entry-parts 0x3F value) ∙ rw (name-long, data-long) (simp append_assoc))

  pub carried-whole : {from to at n₁ n₂ n₃ n₄ : ℕ} {front sizes l l₁ l₂ l₃ l₄ : List ℕ}
      → from ≡ a + 16 → to ≡ a + (60 + e.name + e.size)
      → front ≡ before_stamp_def 0x3F e.attributes → sizes ≡ behind_stamp_def e.name e.size
      → Wrote front at l l₁ n₁ → Wrote (take (to - from) (drop from r)) (at + 16) l₁ l₂ n₂ → Wrote sizes (at + 16 + 16) l₂ l₃ n₃
      → Wrote (replicate (rounded (60 + e.name + e.size) - (60 + e.name + e.size)) 0xFF) (at + (60 + e.name + e.size)) l₃ l₄ n₄
      → Wrote (entry_bytes 0x3F value) at l l₄ n₄
  carried-whole {from} {to} {at} {n₁} {n₂} f t d k w x y z =
      let m : length middle ≡ 12 = part-long r (a + 16 + 16) 12 (omega arith) in
      let long : to - from ≡ 44 + e.name + e.size = omega arith in
      let copied = wrote_as (ap (λ (n : ℕ). take n (drop from r)) long ∙ ap (λ (n : ℕ). part n (44 + e.name + e.size) r) f ∙ from-stamp) x in
      let mended =
      wrote-over value.stamp middle (behind_stamp_def e.name e.size) behind (m ∙ sym (length-behind e.name e.size)) (omega (arith, stamp-long)) copied (wrote_as k y) in
      let here : n₁ ≡ at + 16 = (wrote_as d w).place ∙ ap (λ (n : ℕ). at + n) (length_before 0x3F e.attributes) in
      let end : n₂ ≡ at + (60 + e.name + e.size) =
      copied.place ∙ ap (λ (q : List ℕ). at + 16 + length q) (sym from-stamp) ∙ omega (arith, part-long r (a + 16) (44 + e.name + e.size) (omega arith)) in
      wrote_as anew
      (wrote-append (wrote-append (wrote_as d w) (wrote-from (sym here) mended)) (wrote-from (sym end) z))

-- however much of it the region holds
pub value-short : (r : List ℕ) (a : ℕ) (e : numbers.Entry) → length (entry_bytes 0x3F (walk.entry_value_def (entry_at r a e))) ≤ entry_size_def (walk.entry_value_def (entry_at r a e))
unfolding entry_as walk.placed stamp_at vendor_as
value-short r a e =
    entry-short 0x3F (walk.entry_value_def (entry_at r a e)) (stamp-short r a refl) (short authenticated r a e refl refl refl).vendor-short

-- ---- a value carried over, or left out

module _ (r : List ℕ) (a : ℕ) (e : numbers.Entry) (leave : List ℕ) where
  pub left_out : among leave a ≡ true → joined (leaving leave (entry_at r a e ∷ [])) ≡ []
  unfolding leaving joined_in entry_as walk.placed
  left_out h = rw h

  pub carried-over : among leave a ≡ false → entry_bytes 0x3F (walk.entry_value_def (entry_at r a e)) ≡ joined (leaving leave (entry_at r a e ∷ []))
  unfolding leaving joined_in entry_as walk.placed
  carried-over h = rw h (sym (append-nil (entry_bytes 0x3F (walk.entry_value_def (entry_at r a e)))))

-- ---- the loop

pub joined-append : (xs ys : List Value) → joined (xs ++ ys) ≡ joined xs ++ joined ys
unfolding joined_in
joined-append [] ys = refl
joined-append (x ∷ xs) ys = rw (append_assoc, joined-append xs ys)

leaving-cons : (leave : List ℕ) (e : walk.Entry) (es : List walk.Entry) → leaving leave (e ∷ es) ≡ leaving leave (e ∷ []) ++ leaving leave es
unfolding leaving
leaving-cons leave e es = go (among leave e.at)
  where
    go : (t : Bool) → map walk.entry_value_def (cond (not t) (e ∷ keep (λ x. not (among leave x.at)) es) (keep (λ x. not (among leave x.at)) es))
        ≡ map walk.entry_value_def (cond (not t) (e ∷ []) []) ++ map walk.entry_value_def (keep (λ x. not (among leave x.at)) es)
    go true = refl
    go false = refl

-- the bytes of the values from an offset on, but those left out
abbrev pub to_come : List ℕ → List ℕ → ℕ → List ℕ
to_come r leave here = joined (leaving leave (value_entries authenticated r here))

pub all-to-come : (r leave : List ℕ) → joined (values_but leave r) ≡ to_come r leave 28
unfolding values_but
all-to-come r leave = ap (λ (es : List walk.Entry). joined (leaving leave (keep (is_value (entries r)) es))) (entries_from authenticated r)

pub next-to-come : {r : List ℕ} (leave : List ℕ) {here : ℕ} {x : walk.Entry} {es : List walk.Entry} → Next authenticated r here x es
    → to_come r leave here ≡ joined (leaving leave (x ∷ [])) ++ to_come r leave x.next
next-to-come {r} leave {x = x} n =
    let rest = value_entries authenticated r x.next in
    ap (λ (es : List walk.Entry). joined (leaving leave es)) n.entries ∙ ap joined (leaving-cons leave x rest) ∙ joined-append (leaving leave (x ∷ [])) (leaving leave rest)

pub none-to-come : (r leave : List ℕ) (here : ℕ) → value_entries authenticated r here ≡ [] → to_come r leave here ≡ []
unfolding joined_in leaving
none-to-come r leave here h = ap (λ (es : List walk.Entry). joined (leaving leave es)) h

-- the values before an offset are written but those left out, in no more bytes than were passed; those from there on are left
pub record Written (r leave : List ℕ) (left : List walk.Entry) (at : ℕ) (before after : List ℕ) (next : ℕ) : Type 0 where
  pub here : ℕ
  pub rest : left ≡ value_entries authenticated r here
  pub within : next ≤ at + here
  pub values : Partly (joined (values_but leave r)) (to_come r leave here) at before after next
