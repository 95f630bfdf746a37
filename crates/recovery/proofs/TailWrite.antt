-- The writing of an entry in a blank tail, however cut before its 3F, leaves the entries as they were, or one more that is neither 3F nor 3E; with the 3F its value stands.
-- Before the start id is whole no entry begins there; with it and state FF the entry counts as a header; with state 7F it counts as its sizes say, and they are right.
-- However it is cut, as much of the tail is left as lies behind the entry, so `floor` bytes are where the entry leaves them.
-- Assumes nothing.
use Prim.Native.Nat.{ℕ, suc, ◌+◌, ◌*◌, ◌-◌, ◌≤◌}
use native.Mathlib.Nat.{add-zero}
use native.Mathlib.Omega.{arith}
use mathlib.Core.Path.{◌≡◌, refl, sym, ap, ◌∙◌, subst}
use mathlib.Core.Logic.{◌≢◌}
use mathlib.Core.Bool.{Bool, true, false, cond, ◌&&◌}
use mathlib.Core.List.{List, [], ◌∷◌, ◌++◌, append_assoc, append-nil}
use mathlib.Core.Option.{none, some}
use lib.ListN.{length, get_or, replicate, length-append, length-replicate, replicate-append-replicate}
use lib.Dec.{eqb, leb}
use borrow.Author.Tests.{le-leb, ne_eqb, eqb-true, eqb-false}
use Rattle.model.specs.Layout.{authenticated, state_at}
use Rattle.model.specs.Image.{region_header_def, region_header_size}
use Rattle.model.specs.Entry.{entry_bytes_in, header_fields_in, read_header_in}
use Rattle.model.specs.Entry.{Header, header_size_def, start_id, header_fields, read_header, Value, plain_size, entry_size_def, header_front, header_rest, entry_bytes}
use Rattle.model.specs.Walk.{Entry, placed}
use Rattle.model.specs.Region.{known_state_def, within, live, values}
use Rattle.model.specs.Stores.{header, run, mark}
use Rattle.model.specs.Set.{mark_state, entry_stores}
use Rattle.model.proofs.Chunks.{join, Framed, AllFramed, entry_of, entries_of, join-append, framed-append, entries_of-append, header-length, made-length, sound_entries}
use Rattle.model.proofs.Values.{add-dead}
use Rattle.recovery.proofs.Cuts.{Goes, goes-append, goes-run, goes-mark, goes-header, OneBit, bit-7f, bit-3f}
use Rattle.model.specs.Beside.{Valid}
use Rattle.model.proofs.Encode.{blank-stops, header_of, length_rest, header_read, chunk-framed}
use Rattle.recovery.proofs.Marks.{State}

abbrev pub ff : ℕ → List ℕ
ff n = replicate n 0xFF

pub ff-length : (n : ℕ) → length (ff n) ≡ n
ff-length n = length-replicate n 0xFF

ff-join : (a b : ℕ) → ff a ++ ff b ≡ ff (a + b)
ff-join a b = replicate-append-replicate a b 0xFF

-- no entry begins where the first two bytes are no start id
no_start : (x y : ℕ) (q : List ℕ) → x + 256 * y ≢ start_id → read_header (x ∷ y ∷ q) ≡ none
unfolding read_header_in
no_start x y q n = go (leb header_size_def (length (x ∷ y ∷ q)))
  where
    go : (t : Bool) → cond (t && eqb (x + 256 * y) start_id) (some (header_fields (x ∷ y ∷ q))) none ≡ none
    go true = rw (ne_eqb (x + 256 * y) start_id n)
    go false = refl

module _ (P : List ℕ → Type 0) (K : List Value) (size floor : ℕ) (rest : List ℕ)
    (holds : (r t : List ℕ) (es : List Entry) → State size floor r t es → values es ≡ K → P (r ++ rest))
    {r t : List ℕ} {es : List Entry} (st : State size floor r t es) where
  -- the region in front of its tail
  abbrev pub front_of : List ℕ
  front_of = region_header_def size ++ join st.chunks

  abbrev pub tail_place : ℕ
  tail_place = region_header_size + length (join st.chunks)

  front_length : length front_of ≡ tail_place
  front_length = length-append (region_header_def size) (join st.chunks) ∙ rw (header-length authenticated size)

  region-split : r ≡ front_of ++ t
  region-split =
      st.made.bytes
      ∙ ap (λ (n : ℕ). region_header_def n ++ (join st.chunks ++ t)) st.long
      ∙ sym (append_assoc (region_header_def size) (join st.chunks) t)

  pub size-split : size ≡ tail_place + length t
  size-split = sym st.long ∙ made-length authenticated st.made

  -- the region with another tail of that length, made of chunks and a rest
  pub with_tail : (ds : List (List ℕ)) (t' : List ℕ) → length (join ds ++ t') ≡ length t → AllFramed authenticated ds → read_header t' ≡ none
      → sound_entries size (es ++ (entries_of authenticated) tail_place ds) ≡ true
      → floor ≤ length t'
      → State size floor (front_of ++ (join ds ++ t')) t' (es ++ (entries_of authenticated) tail_place ds)
  with_tail ds t' l f stops judged enough =
      let long : length (front_of ++ (join ds ++ t')) ≡ size = length-append front_of (join ds ++ t') ∙ rw (front_length, l) (sym size-split) in
      record {
        chunks = st.chunks ++ ds;
        made = record {
          bytes =
              append_assoc (region_header_def size) (join st.chunks) (join ds ++ t')
              ∙ ap (λ (l : List ℕ). region_header_def size ++ l)
              (sym (append_assoc (join st.chunks) (join ds) t') ∙ ap (λ (l : List ℕ). l ++ t') (sym (join-append st.chunks ds)))
              ∙ ap (λ (n : ℕ). region_header_def n ++ (join (st.chunks ++ ds) ++ t')) (sym long);
          framed = framed-append authenticated st.chunks ds st.made.framed f;
          stops = stops;
        };
        listed = entries_of-append authenticated region_header_size st.chunks ds ∙ ap (λ (l : List Entry). l ++ (entries_of authenticated) tail_place ds)
            st.listed;
        judged = judged;
        long = long;
        room = enough;
      }

  module _ (kept : values es ≡ K) where
    -- no entry there
    none-holds : (t' : List ℕ) → length t' ≡ length t → read_header t' ≡ none → P (front_of ++ (t' ++ rest))
    none-holds t' l stops =
        rw (← append_assoc front_of t' rest)
        (holds (front_of ++ t') t' (es ++ []) (with_tail [] t' l tt stops (rw append-nil st.judged) (let e = st.room in rw l e)) (ap values (append-nil es) ∙ kept))

    -- one entry there, neither 3F nor 3E, and a blank rest
    one_holds : (c : List ℕ) (n : ℕ) → length (c ++ ff n) ≡ length t → Framed authenticated c → floor ≤ n
        → live (entry_of authenticated tail_place c) ≡ false → known_state_def (entry_of authenticated tail_place c) ≡ true → within size
        (entry_of authenticated tail_place c) ≡ true
        → P (front_of ++ ((c ++ ff n) ++ rest))
    one_holds c n l f enough dead known inside =
        let both = add-dead size es (entry_of authenticated tail_place c) st.judged dead known inside in
        let state = with_tail (c ∷ []) (ff n) (rw append-nil l) (f, tt) (blank-stops authenticated n) both.0 (rw (ff-length n) enough) in
        rw (← append_assoc front_of (c ++ ff n) rest)
        (rw append-nil at (holds (front_of ++ (c ++ [] ++ ff n)) (ff n) (es ++ (entry_of authenticated tail_place c ∷ [])) state (both.1 ∙ kept)))

    -- ---- the stages of the write, each in a segment of the tail

    seg-eq : (a o x : List ℕ) → front_of ++ ((a ++ (o ++ x)) ++ rest) ≡ (front_of ++ a) ++ (o ++ (x ++ rest))
    seg-eq a o x =
        ap (λ (l : List ℕ). front_of ++ l) (append_assoc a (o ++ x) rest ∙ ap (λ (l : List ℕ). a ++ l) (append_assoc o x rest))
        ∙ sym (append_assoc front_of a (o ++ (x ++ rest)))

    seg-place : (a : List ℕ) (at : ℕ) → tail_place + length a ≡ at → length (front_of ++ a) ≡ at
    seg-place a at h = length-append front_of a ∙ rw front_length h

    stage-run : (at : ℕ) (a o x bs : List ℕ) → tail_place + length a ≡ at → length o ≡ length bs
        → ((y : List ℕ) → length y ≡ length o → P (front_of ++ ((a ++ (y ++ x)) ++ rest)))
        → Goes P (run at bs) (front_of ++ ((a ++ (o ++ x)) ++ rest)) (front_of ++ ((a ++ (bs ++ x)) ++ rest))
    stage-run at a o x bs place l f =
        rw (seg-eq a o x, seg-eq a bs x)
        (goes-run P at (front_of ++ a) o (x ++ rest) (seg-place a at place) bs l (λ y h. rw (← seg-eq a y x) (f y h)))

    stage-header : (x front hr of or : List ℕ) → length of ≡ length front → length or ≡ length hr
        → ((y : List ℕ) → length y ≡ length front + 1 + length hr → get_or y (length front) 0 ≡ 0xFF → P (front_of ++ ((y ++ x) ++ rest)))
        → Goes P (header tail_place front hr ∷ []) (front_of ++ (((of ++ (0xFF ∷ or)) ++ x) ++ rest)) (front_of ++ (((front ++ (0xFF ∷ []) ++ hr) ++ x) ++ rest))
    stage-header x front hr of or lf lr f =
        rw (append_assoc (of ++ (0xFF ∷ or)) x rest, append_assoc (front ++ (0xFF ∷ []) ++ hr) x rest)
        (goes-header P tail_place front_of (x ++ rest) front hr of or front_length lf lr (λ y l e. rw (← append_assoc y x rest) (f y l e)))

    stage-mark : (at : ℕ) (a x : List ℕ) (old new : ℕ) → tail_place + length a ≡ at → OneBit old new
        → P (front_of ++ ((a ++ ((old ∷ []) ++ x)) ++ rest))
        → Goes P (mark at new) (front_of ++ ((a ++ ((old ∷ []) ++ x)) ++ rest)) (front_of ++ ((a ++ ((new ∷ []) ++ x)) ++ rest))
    stage-mark at a x old new place one p =
        rw (seg-eq a (old ∷ []) x, seg-eq a (new ∷ []) x)
        (subst (λ (n : ℕ). Goes P (mark n new) ((front_of ++ a) ++ ((old ∷ []) ++ (x ++ rest))) ((front_of ++ a) ++ ((new ∷ []) ++ (x ++ rest)))) (add-zero at)
        (goes-mark P at (front_of ++ a) (old ∷ []) (x ++ rest) (seg-place a at place) 0 new (omega arith) old refl one (rw (← seg-eq a (old ∷ []) x) p)))

    module _ (v : Value) (valid : Valid v) (j : ℕ) (blank-tail : t ≡ ff (entry_size_def v + j)) (low : floor ≤ j) where
      abbrev pad : ℕ
      pad = entry_size_def v - plain_size v

      abbrev q : List ℕ
      q = ff (pad + j)

      abbrev hr : List ℕ
      hr = header_rest v

      tail-length : length t ≡ entry_size_def v + j
      tail-length = ap length blank-tail ∙ ff-length (entry_size_def v + j)

      -- what follows the header in the blank tail
      body : ff (length v.name) ++ (ff (length v.bytes) ++ q) ≡ ff (length v.name + (length v.bytes + (pad + j)))
      body = rw (ff-join (length v.bytes) (pad + j)) (ff-join (length v.name) (length v.bytes + (pad + j)))

      blank-split : t ≡ 0xFF ∷ 0xFF ∷ 0xFF ∷ (ff 57 ++ (ff (length v.name) ++ (ff (length v.bytes) ++ q)))
      blank-split =
          let k = length v.name + (length v.bytes + (pad + j)) in
          let e : entry_size_def v + j ≡ suc (suc (suc (57 + k))) = omega arith in
          blank-tail ∙ ap ff e ∙ ap (λ (l : List ℕ). 0xFF ∷ 0xFF ∷ 0xFF ∷ l) (sym (rw body (ff-join 57 k)))

      -- the start id with state FF: the entry counts as its header
      fresh_holds : (a b : ℕ) → a + 256 * b ≡ start_id → (y : List ℕ) → length y ≡ 57 → P (front_of ++ ((a ∷ b ∷ 0xFF ∷ (y ++ (ff (length v.name) ++ (ff (length v.bytes) ++ q)))) ++ rest))
      unfolding header_fields_in placed
      fresh_holds a b s y l =
          let k = length v.name + (length v.bytes + (pad + j)) in
          let c : List ℕ = a ∷ b ∷ 0xFF ∷ y in
          let long : length c ≡ 60 = omega arith in
          let all : length (c ++ ff k) ≡ length t = length-append c (ff k) ∙ rw (ff-length k, tail-length) (omega arith) in
          let framed : Framed authenticated c = record { long = omega arith; start = s; whole = sym long } in
          rw body (one_holds c k all framed (omega arith) refl refl refl)

      -- the header whole, with state 7F: the entry counts as its sizes say, whatever bytes stand behind the header
      valid-holds : (x : List ℕ) → length x ≡ length v.name + length v.bytes → P (front_of ++ ((0xAA ∷ 0x55 ∷ 0x7F ∷ (hr ++ (x ++ q))) ++ rest))
      unfolding header_front placed
      valid-holds x l =
          let c : List ℕ = header_front ++ (0x7F ∷ []) ++ hr ++ (x ++ ff pad) in
          let behind : length (x ++ ff pad) ≡ length v.name + length v.bytes + pad = length-append x (ff pad) ∙ rw (l, ff-length pad) in
          let size-c : 60 + length (x ++ ff pad) ≡ entry_size_def v = omega arith in
          let framed : Framed authenticated c = chunk-framed authenticated 0x7F v (x ++ ff pad) (omega arith) valid size-c in
          let fields : header_fields c ≡ (header_of authenticated) 0x7F v = header_read authenticated 0x7F v (x ++ ff pad) valid in
          let long : length c ≡ entry_size_def v = length-append (header_front ++ (0x7F ∷ []) ++ hr) (x ++ ff pad) ∙ rw (length_rest authenticated v valid)
          (omega arith) in
          let all : length (c ++ ff j) ≡ length t = length-append c (ff j) ∙ rw (long, ff-length j, tail-length) in
          let form : c ++ ff j ≡ 0xAA ∷ 0x55 ∷ 0x7F ∷ (hr ++ (x ++ q)) =
          ap (λ (l : List ℕ). 0xAA ∷ 0x55 ∷ 0x7F ∷ l)
          (append_assoc hr (x ++ ff pad) (ff j) ∙ ap (λ (l : List ℕ). hr ++ l) (append_assoc x (ff pad) (ff j) ∙ ap (λ (l : List ℕ). x ++ l) (ff-join pad j))) in
          let inside : tail_place + (60 + length v.name + length v.bytes) ≤ size = rw size-split (rw tail-length (omega arith)) in
          subst (λ (l : List ℕ). P (front_of ++ (l ++ rest))) form
          (one_holds c j all framed low
          (ap (λ (h : Header). live (placed header_size_def read_header tail_place h c)) fields)
          (ap (λ (h : Header). known_state_def (placed header_size_def read_header tail_place h c)) fields)
          (ap (λ (h : Header). within size (placed header_size_def read_header tail_place h c)) fields
          ∙ le-leb (tail_place + (60 + length v.name + length v.bytes)) size inside))

      -- ---- the whole write, up to the 3F

      pub write_goes : Goes P (entry_stores tail_place v ++ mark_state tail_place 0x3F) (r ++ rest) ((front_of ++ (entry_bytes 0x3F v ++ ff j)) ++ rest)
      unfolding entry_stores header_front entry_bytes_in
      write_goes =
          let n = length v.name in
          let d = length v.bytes in
          let x₂ : List ℕ = 0xFF ∷ (ff 57 ++ (ff n ++ (ff d ++ q))) in
          let rest-long = length_rest authenticated v valid in
          let b : Goes P (header tail_place (0xAA ∷ 0x55 ∷ []) hr ∷ []) (front_of ++ ((0xFF ∷ 0xFF ∷ x₂) ++ rest)) (front_of ++ ((0xAA ∷ 0x55 ∷ 0xFF ∷ (hr ++ (ff n ++ (ff d ++ q)))) ++ rest)) =
          stage-header (ff n ++ (ff d ++ q)) (0xAA ∷ 0x55 ∷ []) hr (0xFF ∷ 0xFF ∷ []) (ff 57) refl (ff-length 57 ∙ sym rest-long) any-header in
          let c : Goes P (mark (tail_place + state_at) 0x7F) (front_of ++ ((0xAA ∷ 0x55 ∷ 0xFF ∷ (hr ++ (ff n ++ (ff d ++ q)))) ++ rest)) (front_of ++ ((0xAA ∷ 0x55 ∷ 0x7F ∷ (hr ++ (ff n ++ (ff d ++ q)))) ++ rest)) =
          stage-mark (tail_place + state_at) (0xAA ∷ 0x55 ∷ []) (hr ++ (ff n ++ (ff d ++ q))) 0xFF 0x7F refl bit-7f (fresh_holds 0xAA 0x55 refl hr rest-long) in
          let e : Goes P (run (tail_place + header_size_def) v.name) (front_of ++ ((0xAA ∷ 0x55 ∷ 0x7F ∷ (hr ++ (ff n ++ (ff d ++ q)))) ++ rest)) (front_of ++ ((0xAA ∷ 0x55 ∷ 0x7F ∷ (hr ++ (v.name ++ (ff d ++ q)))) ++ rest)) =
          stage-run (tail_place + header_size_def) (0xAA ∷ 0x55 ∷ 0x7F ∷ hr) (ff n) (ff d ++ q) v.name (omega arith) (ff-length n)
          (λ y l.
          subst (λ (x : List ℕ). P (front_of ++ ((0xAA ∷ 0x55 ∷ 0x7F ∷ (hr ++ x)) ++ rest))) (append_assoc y (ff d) q)
          (valid-holds (y ++ ff d) (length-append y (ff d) ∙ rw (l, ff-length n, ff-length d)))) in
          let f : Goes P (run (tail_place + header_size_def + n) v.bytes) (front_of ++ ((0xAA ∷ 0x55 ∷ 0x7F ∷ (hr ++ (v.name ++ (ff d ++ q)))) ++ rest)) (front_of ++ ((0xAA ∷ 0x55 ∷ 0x7F ∷ (hr ++ (v.name ++ (v.bytes ++ q)))) ++ rest)) =
          subst
          (λ (x : List ℕ). Goes P (run (tail_place + header_size_def + n) v.bytes) (front_of ++ ((0xAA ∷ 0x55 ∷ 0x7F ∷ x) ++ rest)) (front_of ++ ((0xAA ∷ 0x55 ∷ 0x7F ∷ (hr ++ (v.name ++ (v.bytes ++ q)))) ++ rest)))
          (append_assoc hr v.name (ff d ++ q))
          (subst
          (λ (x : List ℕ). Goes P (run (tail_place + header_size_def + n) v.bytes) (front_of ++ ((0xAA ∷ 0x55 ∷ 0x7F ∷ ((hr ++ v.name) ++ (ff d ++ q))) ++ rest)) (front_of ++ ((0xAA ∷ 0x55 ∷ 0x7F ∷ x) ++ rest)))
          (append_assoc hr v.name (v.bytes ++ q))
          (stage-run (tail_place + header_size_def + n) (0xAA ∷ 0x55 ∷ 0x7F ∷ (hr ++ v.name)) (ff d) q v.bytes (data-place rest-long) (ff-length d)
          (λ y l.
          subst (λ (x : List ℕ). P (front_of ++ ((0xAA ∷ 0x55 ∷ 0x7F ∷ x) ++ rest)))
          (ap (λ (x : List ℕ). hr ++ x) (append_assoc v.name y q) ∙ sym (append_assoc hr v.name (y ++ q)))
          (valid-holds (v.name ++ y) (length-append v.name y ∙ rw (l, ff-length d)))))) in
          let g : Goes P (mark (tail_place + state_at) 0x3F) (front_of ++ ((0xAA ∷ 0x55 ∷ 0x7F ∷ (hr ++ (v.name ++ (v.bytes ++ q)))) ++ rest)) (front_of ++ ((0xAA ∷ 0x55 ∷ 0x3F ∷ (hr ++ (v.name ++ (v.bytes ++ q)))) ++ rest)) =
          stage-mark (tail_place + state_at) (0xAA ∷ 0x55 ∷ []) (hr ++ (v.name ++ (v.bytes ++ q))) 0x7F 0x3F refl bit-3f
          (subst (λ (x : List ℕ). P (front_of ++ ((0xAA ∷ 0x55 ∷ 0x7F ∷ (hr ++ x)) ++ rest))) (append_assoc v.name v.bytes q)
          (valid-holds (v.name ++ v.bytes) (length-append v.name v.bytes))) in
          let begins : r ++ rest ≡ front_of ++ ((0xFF ∷ 0xFF ∷ x₂) ++ rest) =
          ap (λ (l : List ℕ). l ++ rest) region-split ∙ append_assoc front_of t rest ∙ ap (λ (l : List ℕ). front_of ++ (l ++ rest)) blank-split in
          let ends : front_of ++ ((0xAA ∷ 0x55 ∷ 0x3F ∷ (hr ++ (v.name ++ (v.bytes ++ q)))) ++ rest) ≡ (front_of ++ (entry_bytes 0x3F v ++ ff j)) ++ rest =
          ap (λ (l : List ℕ). front_of ++ ((0xAA ∷ 0x55 ∷ 0x3F ∷ l) ++ rest)) written ∙ sym (append_assoc front_of (entry_bytes 0x3F v ++ ff j) rest) in
          subst (λ (l : List ℕ). Goes P (entry_stores tail_place v ++ mark_state tail_place 0x3F) l ((front_of ++ (entry_bytes 0x3F v ++ ff j)) ++ rest)) (sym begins)
          (subst (λ (l : List ℕ). Goes P (entry_stores tail_place v ++ mark_state tail_place 0x3F) (front_of ++ ((0xFF ∷ 0xFF ∷ x₂) ++ rest)) l) ends
          (goes-append (goes-append (goes-append (goes-append b c) e) f) g))
        where
          written : hr ++ (v.name ++ (v.bytes ++ q)) ≡ (((hr ++ v.name) ++ v.bytes) ++ ff pad) ++ ff j
          written =
              let e : (((hr ++ v.name) ++ v.bytes) ++ ff pad) ++ ff j ≡ hr ++ (v.name ++ (v.bytes ++ (ff pad ++ ff j))) = simp append_assoc in
              sym (e ∙ ap (λ (l : List ℕ). hr ++ (v.name ++ (v.bytes ++ l))) (ff-join pad j))

          -- the bytes of the header, any but the state: no entry, or one that counts as its header
          any-header : (x : List ℕ) → length x ≡ 2 + 1 + length hr → get_or x 2 0 ≡ 0xFF
              → P (front_of ++ ((x ++ (ff (length v.name) ++ (ff (length v.bytes) ++ q))) ++ rest))
          any-header [] l e = absurd (omega arith)
          any-header (a ∷ []) l e = absurd (omega arith)
          any-header (a ∷ b ∷ []) l e = absurd (omega arith)
          any-header (a ∷ b ∷ c ∷ y) l e = go (eqb (a + 256 * b) start_id) refl
            where
              tail_of : List ℕ
              tail_of = ff (length v.name) ++ (ff (length v.bytes) ++ q)

              long : length y ≡ 57
              long = omega (arith, length_rest authenticated v valid)

              go : (u : Bool) → eqb (a + 256 * b) start_id ≡ u → P (front_of ++ ((a ∷ b ∷ c ∷ (y ++ (ff (length v.name) ++ (ff (length v.bytes) ++ q)))) ++ rest))
              go true h =
                  subst (λ (z : ℕ). P (front_of ++ ((a ∷ b ∷ z ∷ (y ++ (ff (length v.name) ++ (ff (length v.bytes) ++ q)))) ++ rest))) (sym e)
                  (fresh_holds a b (eqb-true (a + 256 * b) start_id h) y long)
              go false h =
                  none-holds (a ∷ b ∷ c ∷ (y ++ (ff (length v.name) ++ (ff (length v.bytes) ++ q))))
                  (ap (λ (k : ℕ). suc (suc (suc k))) (length-append y (ff (length v.name) ++ (ff (length v.bytes) ++ q)) ∙ rw (long, ← ff-length 57, ← length-append (ff 57) (ff (length v.name) ++ (ff (length v.bytes) ++ q)))) ∙ sym (ap length blank-split))
                  (no_start a b (c ∷ (y ++ (ff (length v.name) ++ (ff (length v.bytes) ++ q)))) (eqb-false (a + 256 * b) start_id h))

          data-place : length hr ≡ 57 → tail_place + length (0xAA ∷ 0x55 ∷ 0x7F ∷ (hr ++ v.name)) ≡ tail_place + header_size_def + length v.name
          data-place h = let l = length-append hr v.name in omega arith
