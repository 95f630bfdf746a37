-- The values of a region in one form, carried over one by one into another: at each turn what is still to come is one value and the rest. What is
-- read of an entry makes up its value but for the stamp, and none of it is longer than the region.
-- Assumes nothing.
use Prim.Native.Nat.{ℕ, ◌+◌, ◌*◌, ◌-◌, ◌≤◌}
use native.Mathlib.Omega.{arith}
use mathlib.Core.Path.{◌≡◌, sym, ap, ◌∙◌}
use mathlib.Core.List.{List, [], ◌++◌, map}
use lib.ListN.{length, replicate, length-append, length-replicate}
use lib.Seq.{take_all}
use Rattle.model.specs.declared.Layout.{Layout}
use Rattle.model.specs.Layout.{header_length}
use Rattle.model.specs.Entry.{Value, entry_bytes_in}
use Rattle.model.specs.Walk as walk
use Rattle.model.specs.Region.{entries_in, values}
use Rattle.model.specs.Compact.{joined_in}
use Rattle.model.specs.Move.{unstamped}
use Rattle.region.specs.Stored.{entry_of}
use Rattle.region.specs.declared.walk.Stored.{Stored}
use Rattle.region.proofs.Lengths.{short}
use Rattle.values.proofs.Listed.{value_entries, listed_in, listed-all, listed-left}
use Rattle.values.proofs.Next.{Next}
use Rattle.output.specs.Text.{Wrote}
use Rattle.output.proofs.Writing.{Partly, wrote-append, wrote-length, wrote-front}
use Rattle.convert.specs.Bare.{bare}
use Rattle.convert.proofs.Bare.{entry-short}

-- ---- an entry's value by what is read of it

module _ (z : Layout) (e : Stored) {name vendor bytes : List ℕ}
    (n : name ≡ (entry_of e).name) (v : vendor ≡ (entry_of e).header.vendor) (b : bytes ≡ (entry_of e).bytes) where
  pub read-value : entry_bytes_in z 0x3F (bare e.entry.attributes name vendor bytes) ≡ entry_bytes_in z 0x3F (unstamped (walk.entry_value_def (entry_of e)))
  read-value = rw (n, v, b)

  pub record Fits : Type 0 where
    pub name-fits : length name ≤ e.entry.name
    pub vendor-fits : length vendor ≤ 16
    pub bytes-fits : length bytes ≤ e.entry.size
    pub whole : length (entry_bytes_in z 0x3F (bare e.entry.attributes name vendor bytes)) ≤ header_length z + e.entry.name + e.entry.size + 3

  pub entry-fits : Fits
  entry-fits =
      let s = short e in
      let i = rw (← n) at s.name in
      let j = rw (← v) at s.vendor in
      let k = rw (← b) at s.bytes in
      record { name-fits = i; vendor-fits = j; bytes-fits = k; whole = omega (arith, entry-short z e.entry.attributes name vendor bytes j) }

-- ---- the loop

-- the bytes of the values from an offset on, in the other form
abbrev pub to_come : Layout → Layout → List ℕ → ℕ → List ℕ
to_come y z r here = joined_in z (map unstamped (listed_in y r here))

module _ (y z : Layout) where
  pub all-to-come : (r : List ℕ) → joined_in z (map unstamped (values (entries_in y r))) ≡ to_come y z r 28
  all-to-come r = ap (λ (vs : List Value). joined_in z (map unstamped vs)) (listed-all y r)

  pub next-to-come : {r : List ℕ} {here : ℕ} {x : walk.Entry} {es : List walk.Entry} → Next y r here x es
      → to_come y z r here ≡ entry_bytes_in z 0x3F (unstamped (walk.entry_value_def x)) ++ to_come y z r x.next
  unfolding joined_in
  next-to-come n = ap (λ (vs : List Value). joined_in z (map unstamped vs)) n.list

  pub none-to-come : (r : List ℕ) (here : ℕ) → value_entries y r here ≡ [] → to_come y z r here ≡ []
  unfolding joined_in
  none-to-come r here h = ap (λ (vs : List Value). joined_in z (map unstamped vs)) (listed-left y r here h)

  -- the values before an offset are written, in a bounded number of bytes for each byte passed; those from there on are left
  pub record Written (r : List ℕ) (left : List walk.Entry) (at : ℕ) (before after : List ℕ) (next : ℕ) : Type 0 where
    pub here : ℕ
    pub rest : left ≡ value_entries y r here
    pub within : next ≤ at + here * 34359738368
    pub long : length after ≡ length before
    pub values : Partly (joined_in z (map unstamped (values (entries_in y r)))) (to_come y z r here) at before after next

-- ---- FF up to the end

-- what is written over a whole buffer is what it holds
wrote-whole : {text before after : List ℕ} {next : ℕ} → Wrote text 0 before after next → length text ≡ length before → after ≡ text
wrote-whole {text} {before} {after} {next} w h =
    let place = w.place in
    let kept = wrote-length w in
    sym (take_all next after (omega arith)) ∙ wrote-front w (omega arith)

pub filled : {content out out' out'' : List ℕ} {n m : ℕ} (rest : ℕ) → Wrote content 0 out out' n → Wrote (replicate rest 0xFF) n out' out'' m
    → rest ≡ length out' - n → length content ≤ length out → out'' ≡ content ++ replicate (length out - length content) 0xFF
filled {content} {out} rest p q e h =
    let k = wrote-length p in
    let size : rest ≡ length out - length content = omega (arith, p.place) in
    let long : length (content ++ replicate rest 0xFF) ≡ length out = simp (length-append, length-replicate) (omega arith) in
    wrote-whole (wrote-append p q) long ∙ ap (λ (i : ℕ). content ++ replicate i 0xFF) size
