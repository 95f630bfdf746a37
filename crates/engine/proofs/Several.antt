-- One get after another: what those to come give and leave in the rest of the buffer, behind what is told and written already, is what all give. A get of one name, after
-- rules 1 and 2, meets 3 and 22, then 11 and 14.
-- Assumes nothing.
use Prim.Native.Nat.{ℕ, suc, ◌+◌, ◌*◌, ◌-◌, ◌≤◌, ◌<◌}
use native.Mathlib.Numerals.{add-one}
use native.Mathlib.Omega.{arith}
use mathlib.Core.Path.{◌≡◌, refl, sym, ap, ap₂, subst, ◌∙◌}
use mathlib.Core.Bool.{Bool, true, false, ◌&&◌}
use mathlib.Core.List.{List, [], ◌∷◌, ◌++◌, append_assoc}
use mathlib.Core.Option.{Option, none, some}
use lib.ListN.{length, set, take, drop, length-append, length-drop, take-append-drop}
use lib.Seq.{sets, sets-eq, length-take-le, drop-cons, drop-length, take-append-add, drop-append-add}
use lib.Dec.{eqb, leb, ltb}
use borrow.Author.Tests.{lt-ltb, le-ltb, leb-true}
use Rattle.model.specs.Lists.{on_some}
use Rattle.model.specs.Image.{region}
use Rattle.model.specs.Name.{Key, well_named, zero_ended}
use Rattle.model.specs.Entry.{Value}
use Rattle.model.specs.Region.{entries, values, values_of, values_in}
use Rattle.model.specs.Session.{at_runtime_def}
use Rattle.model.specs.Rules.{first_broken, view_of, rule3, rule22, image_rules, gets_broken, get_broken, value_to_get, got_bytes}
use Rattle.model.specs.Answers.{rule_number, refusal, written, done, refused, got_by, get_reply, given_by, Given, Gots, before, get_each_def, gets_reply}
use Rattle.model.specs.Book as book
use Rattle.model.specs.Book.{plan_of}
use Rattle.model.proofs.Tests.{and_split}
use Rattle.model.proofs.Requests.{broken-append, get-over}
use Rattle.recovery.specs.Interface.{Returned}
use Rattle.recovery.proofs.Interface.{reading-image}
use Rattle.recovery.proofs.Claims.{each-alike}
use Rattle.model.specs.declared.Session.{Session}
use Rattle.model.specs.declared.View.{View}
use Rattle.model.specs.declared.Context.{Context}
use Rattle.model.specs.declared.Rule.{Rule}
use Rattle.model.specs.declared.Rule.TheVariants.{Name, Side}
use Rattle.model.specs.declared.Answer.{Answer}
use Rattle.model.specs.declared.Answer.TheVariants.{Done, Refused}
use Rattle.model.specs.declared.Got.{Got}
use Rattle.region.specs.Met.{key_from}
use Rattle.region.proofs.Turns.{rest}
use Rattle.query.specs.Many.{key_bytes}
use Rattle.engine.specs.Read.{found_broken, reply_of, found_reply, refused_got, Answered}
use Rattle.model.specs.Beside.{asked_from, asked, rule_told_def, numbers_told, Handed}
use Rattle.engine.specs.Many.{got_numbers, one_broken, one_reply, each_of, many_broken, many_of, AnsweredMany}
use Rattle.engine.proofs.Reading.{no_stores, answered-refused}

-- ---- the names

asked-length : (keys : List ℕ) (k : ℕ) (sizes : List ℕ) → length (asked_from keys k sizes) ≡ length sizes
unfolding asked_from
asked-length keys k [] = refl
asked-length keys k (size ∷ sizes) = ap suc (asked-length keys (k + 1) sizes)

asked-next : (keys sizes : List ℕ) (k : ℕ) → k < length sizes
    → asked_from keys k (drop k sizes) ≡ key_from (key_bytes keys sizes k) ∷ asked_from keys (k + 1) (drop (k + 1) sizes)
unfolding asked_from
asked-next keys sizes k h =
    ap (asked_from keys k) (drop-cons sizes k 0 h) ∙ ap (λ (n : ℕ). key_from (key_bytes keys sizes k) ∷ asked_from keys (k + 1) (drop n sizes)) (sym (add-one k))

asked-none : (keys sizes : List ℕ) (k : ℕ) → k ≡ length sizes → asked_from keys k (drop k sizes) ≡ []
unfolding asked_from
asked-none keys sizes k h = ap (asked_from keys k) (ap (λ (n : ℕ). drop n sizes) h ∙ drop-length sizes)

-- ---- the GUID of a name

pub named-long : (key : List ℕ) → well_named (drop 16 key) ≡ true → 16 ≤ length key
unfolding well_named
named-long key h =
    let p = and_split (leb 4 (length (drop 16 key)) && leb (length (drop 16 key)) 128) (zero_ended (drop 16 key)) h in
    let l = leb-true 4 (length (drop 16 key)) (and_split (leb 4 (length (drop 16 key))) (leb (length (drop 16 key)) 128) p.0).0 in
    let n = length-drop 16 key in
    omega arith

-- ---- a get of one name

module _ (v : View) (vs : List Value) (k : Key) (buffer : List ℕ) where
  -- its reply in the words of the other calls that read
  reply-one : one_reply v vs k buffer ≡ reply_of (one_broken v vs k buffer) (value_to_get v.runtime k vs) got_bytes (λ w. w.attributes) buffer
  unfolding one_reply reply_of
  reply-one = refl

  refused-one : (rule : Rule) → eqb (rule_number rule) 14 ≡ false → one_broken v vs k buffer ≡ some rule
      → Answered (one_broken v vs k buffer) (one_reply v vs k buffer) (refused_got rule 0) buffer
  refused-one rule n b = rw reply-one (answered-refused rule n (one_broken v vs k buffer) b (value_to_get v.runtime k vs) got_bytes (λ w. w.attributes) buffer)

  pub unnamed-one : well_named k.name ≡ false → Answered (one_broken v vs k buffer) (one_reply v vs k buffer) (refused_got Name 0) buffer
  unfolding one_broken first_broken rule3
  unnamed-one w = refused-one Name refl (rw w)

  pub foreign-one : well_named k.name ≡ true → rule22 v.vendor v.modem k ≡ true
      → Answered (one_broken v vs k buffer) (one_reply v vs k buffer) (refused_got Side 0) buffer
  unfolding one_broken first_broken rule3
  foreign-one w f = refused-one Side refl (rw (w, f))

  pub found-one : well_named k.name ≡ true → rule22 v.vendor v.modem k ≡ false → {got : Got} {after : List ℕ}
      → Answered (found_broken (value_to_get v.runtime k vs) got_bytes buffer) (found_reply (value_to_get v.runtime k vs) got_bytes (λ w. w.attributes) buffer) got after
      → Answered (one_broken v vs k buffer) (one_reply v vs k buffer) got after
  unfolding one_broken first_broken rule3 found_broken
  found-one w f {got} {after} h =
      let same : found_broken (value_to_get v.runtime k vs) got_bytes buffer ≡ one_broken v vs k buffer = sym (rw (w, f)) in
      rw reply-one (subst (λ (o : Option Rule). Answered o (reply_of o (value_to_get v.runtime k vs) got_bytes (λ w. w.attributes) buffer) got after) same h)

  -- what it writes is in the buffer
  reply-fits : (one_reply v vs k buffer).size ≤ length (one_reply v vs k buffer).buffer
  unfolding one_reply refusal written
  reply-fits = go (one_broken v vs k buffer) (value_to_get v.runtime k vs)
    where
      go : (o : Option Rule) (found : Option Value) → (got_by o found buffer).size ≤ length (got_by o found buffer).buffer
      go (some rule) found = omega arith
      go none (some w) = let n = length-append (got_bytes w) (drop (0 + length (got_bytes w)) buffer) in omega arith
      go none none = omega arith

pub one-as : (v : View) (vs : List Value) (buffer : List ℕ) {k k' : Key} → k ≡ k' → {got : Got} {after : List ℕ}
    → Answered (one_broken v vs k buffer) (one_reply v vs k buffer) got after → Answered (one_broken v vs k' buffer) (one_reply v vs k' buffer) got after
one-as v vs buffer e {got} {after} h = subst (λ (j : Key). Answered (one_broken v vs j buffer) (one_reply v vs j buffer) got after) e h

pub size_fits : (v : View) (vs : List Value) (k : Key) (buffer : List ℕ) {got : Got} {after : List ℕ} → Answered (one_broken v vs k buffer) (one_reply v vs k buffer) got after
    → got.size ≤ length after
size_fits v vs k buffer {got} {after} h =
    let fits = reply-fits v vs k buffer in
    let size : got.size ≡ (one_reply v vs k buffer).size = h.size in
    let same : length after ≡ length (one_reply v vs k buffer).buffer = ap length h.buffer in
    omega arith

-- what a get told, number by number
pub told-four : (t : List ℕ) (at p q r s : ℕ) → set (set (set (set t at p) (at + 1) q) (at + 2) r) (at + 3) s ≡ sets t at (p ∷ q ∷ r ∷ s ∷ [])
told-four t at p q r s =
    let a : at + 1 ≡ suc at = omega arith in
    let b : at + 2 ≡ suc (suc at) = omega arith in
    let c : at + 3 ≡ suc (suc (suc at)) = omega arith in
    rw (a, b, c)

-- ---- the loop

-- k names are answered and so many bytes of the buffer used
pub record Giving (v : View) (vs : List Value) (keys sizes told₀ buffer₀ : List ℕ) (k used : ℕ) (told buffer : List ℕ) : Type 0 where
  pub few : k ≤ length sizes
  pub room : used ≤ length buffer
  pub written : (each_of v vs (asked keys sizes) buffer₀).buffer ≡ take used buffer ++ (each_of v vs (asked_from keys k (drop k sizes)) (drop used buffer)).buffer
  pub numbers : sets told₀ 0 (numbers_told (each_of v vs (asked keys sizes) buffer₀).items)
      ≡ sets told (4 * k) (numbers_told (each_of v vs (asked_from keys k (drop k sizes)) (drop used buffer)).items)

pub giving-begin : (v : View) (vs : List Value) (keys sizes told buffer : List ℕ) → Giving v vs keys sizes told buffer 0 0 told buffer
giving-begin v vs keys sizes told buffer = record { few = omega arith; room = omega arith; written = refl; numbers = refl }

numbers-length : (v : View) (vs : List Value) (ks : List Key) (buffer : List ℕ) → length (numbers_told (each_of v vs ks buffer).items) ≡ 4 * length ks
unfolding get_each_def numbers_told
numbers-length v vs [] buffer = refl
numbers-length v vs (k ∷ ks) buffer = let n = numbers-length v vs ks (drop (one_reply v vs k buffer).size (one_reply v vs k buffer).buffer) in omega arith

-- four numbers more
sets-four : (t l : List ℕ) (at p q r s : ℕ) → sets t at (p ∷ q ∷ r ∷ s ∷ l) ≡ sets (sets t at (p ∷ q ∷ r ∷ s ∷ [])) (at + 4) l
sets-four t l at p q r s = ap (λ (n : ℕ). sets (sets t at (p ∷ q ∷ r ∷ s ∷ [])) n l) (four at)
  where
    four : (n : ℕ) → suc (suc (suc (suc n))) ≡ n + 4
    four n = omega arith

-- one name more, and what its get answered from the rest of the buffer
abbrev given_one : View → List Value → Key → List ℕ → Given
given_one v vs key rest = given_by (one_broken v vs key rest) (one_reply v vs key rest)

module _ (v : View) (vs : List Value) (key : Key) (rest : List ℕ) {g : Got} {after : List ℕ} (a : Answered (one_broken v vs key rest) (one_reply v vs key rest) g after) where
  numbers-one : got_numbers g ≡ rule_told_def (given_one v vs key rest).answer ∷ (given_one v vs key rest).size ∷ (given_one v vs key rest).attributes ∷ (given_one v vs key rest).needed ∷ []
  numbers-one = rw (a.answer, a.size, a.attributes, a.needed)

  told-one : (told : List ℕ) (k : ℕ) (items : List Given) {told' : List ℕ} → told' ≡ sets told (4 * k) (got_numbers g)
      → sets told (4 * k) (numbers_told (given_one v vs key rest ∷ items)) ≡ sets told' (4 * (k + 1)) (numbers_told items)
  unfolding numbers_told
  told-one told k items {told'} t =
      let e : 4 * k + 4 ≡ 4 * (k + 1) = omega arith in
      sets-four told (numbers_told items) (4 * k) (rule_told_def (given_one v vs key rest).answer) (given_one v vs key rest).size (given_one v vs key rest).attributes (given_one v vs key rest).needed
      ∙ ap₂ (λ (l : List ℕ) (n : ℕ). sets l n (numbers_told items)) (ap (sets told (4 * k)) (sym numbers-one) ∙ sym t) e

  module _ (used : ℕ) (front : List ℕ) (n : length front ≡ used) {buffer : List ℕ} (b : buffer ≡ front ++ after) where
    left_one : drop (used + g.size) buffer ≡ drop (one_reply v vs key rest).size (one_reply v vs key rest).buffer
    left_one =
        ap₂ (λ (i : ℕ) (l : List ℕ). drop (i + g.size) l) (sym n) b ∙ drop-append-add front after g.size
        ∙ ap₂ (λ (i : ℕ) (l : List ℕ). drop i l) a.size a.buffer

    written_one : take (used + g.size) buffer ≡ front ++ take (one_reply v vs key rest).size (one_reply v vs key rest).buffer
    written_one =
        ap₂ (λ (i : ℕ) (l : List ℕ). take (i + g.size) l) (sym n) b ∙ take-append-add front after g.size
        ∙ ap₂ (λ (i : ℕ) (l : List ℕ). front ++ take i l) a.size a.buffer

    room-one : used + g.size ≤ length buffer
    room-one =
        let fits : (one_reply v vs key rest).size ≤ length (one_reply v vs key rest).buffer = reply-fits v vs key rest in
        let size : g.size ≡ (one_reply v vs key rest).size = a.size in
        let same : length after ≡ length (one_reply v vs key rest).buffer = ap length a.buffer in
        let long : length buffer ≡ length front + length after = ap length b ∙ length-append front after in
        omega arith

each-cons : (v : View) (vs : List Value) (key : Key) (ks : List Key) (rest : List ℕ)
    → each_of v vs (key ∷ ks) rest
    ≡ before (given_by (one_broken v vs key rest) (one_reply v vs key rest)) (one_reply v vs key rest) (each_of v vs ks (drop (one_reply v vs key rest).size (one_reply v vs key rest).buffer))
unfolding get_each_def
each-cons v vs key ks rest = refl

each_none : (v : View) (vs : List Value) (rest : List ℕ) → each_of v vs [] rest ≡ record { items = []; buffer = rest }
unfolding get_each_def
each_none v vs rest = refl

module _ {v : View} {vs : List Value} {keys sizes told₀ buffer₀ : List ℕ} {k used : ℕ} {told buffer : List ℕ} (c : Giving v vs keys sizes told₀ buffer₀ k used told buffer) where
  pub giving-next : k < length sizes → {g : Got} {rest after told' buffer' : List ℕ} → rest ≡ drop used buffer
      → Answered (one_broken v vs (key_from (key_bytes keys sizes k)) rest) (one_reply v vs (key_from (key_bytes keys sizes k)) rest) g after
      → told' ≡ sets told (4 * k) (got_numbers g) → buffer' ≡ take used buffer ++ after
      → Giving v vs keys sizes told₀ buffer₀ (k + 1) (used + g.size) told' buffer'
  giving-next h {g} {rest} {after} {told'} {buffer'} r a t b =
      let key = key_from (key_bytes keys sizes k) in
      let front : length (take used buffer) ≡ used = length-take-le used buffer c.room in
      let left = left_one v vs key rest a used (take used buffer) front b in
      let ahead = each_of v vs (asked_from keys (k + 1) (drop (k + 1) sizes)) (drop (used + g.size) buffer') in
      let more : each_of v vs (asked_from keys k (drop k sizes)) (drop used buffer) ≡ before (given_one v vs key rest) (one_reply v vs key rest) ahead =
      ap₂ (λ (ks : List Key) (l : List ℕ). each_of v vs ks l) (asked-next keys sizes k h) (sym r)
      ∙ each-cons v vs key (asked_from keys (k + 1) (drop (k + 1) sizes)) rest
      ∙ ap (λ (l : List ℕ). before (given_one v vs key rest) (one_reply v vs key rest) (each_of v vs (asked_from keys (k + 1) (drop (k + 1) sizes)) l)) (sym left) in
      record {
        few = omega arith;
        room = room-one v vs key rest a used (take used buffer) front b;
        written = c.written ∙ ap (λ (x : Gots). take used buffer ++ x.buffer) more
            ∙ sym (append_assoc (take used buffer) (take (one_reply v vs key rest).size (one_reply v vs key rest).buffer) ahead.buffer)
            ∙ ap (λ (l : List ℕ). l ++ ahead.buffer) (sym (written_one v vs key rest a used (take used buffer) front b));
        numbers = c.numbers ∙ ap (λ (x : Gots). sets told (4 * k) (numbers_told x.items)) more ∙ told-one v vs key rest a told k ahead.items t;
      }

  -- as the loop meets it
  module _ (h : k < length sizes) {g : Got} {key after : List ℕ} (q : key ≡ key_bytes keys sizes k)
      (a : Answered (one_broken v vs (key_from key) (take (length buffer - used) (drop used buffer))) (one_reply v vs (key_from key) (take (length buffer - used) (drop used buffer))) g after)
      (l : length after ≡ length (take (length buffer - used) (drop used buffer))) where
    after-long : length after ≡ length buffer - used
    after-long = l ∙ ap length (rest buffer used) ∙ length-drop used buffer

    pub turn-fits : used + g.size ≤ length buffer
    turn-fits =
        let fits = size_fits v vs (key_from key) (take (length buffer - used) (drop used buffer)) a in
        let long = after-long in
        let room = c.room in
        omega arith

    pub turn-long : {buffer' : List ℕ} → buffer' ≡ take used buffer ++ after → length buffer' ≡ length buffer
    turn-long b =
        let long = after-long in
        let room = c.room in
        let front : length (take used buffer) ≡ used = length-take-le used buffer c.room in
        let both = ap length b ∙ length-append (take used buffer) after in
        omega arith

    pub giving-turn : {told' buffer' : List ℕ} → told' ≡ sets told (4 * k) (got_numbers g) → buffer' ≡ take used buffer ++ after
        → Giving v vs keys sizes told₀ buffer₀ (k + 1) (used + g.size) told' buffer'
    giving-turn t b =
        giving-next h (rest buffer used)
        (one-as v vs (take (length buffer - used) (drop used buffer)) (ap key_from q) a) t b

  giving-all : k ≡ length sizes → (told ≡ sets told₀ 0 (numbers_told (each_of v vs (asked keys sizes) buffer₀).items)) × (buffer ≡ (each_of v vs (asked keys sizes) buffer₀).buffer)
  unfolding numbers_told
  giving-all h =
      let last : each_of v vs (asked_from keys k (drop k sizes)) (drop used buffer) ≡ record { items = []; buffer = drop used buffer } =
      ap (λ (ks : List Key). each_of v vs ks (drop used buffer)) (asked-none keys sizes k h) ∙ each_none v vs (drop used buffer) in (
        sym (c.numbers ∙ ap (λ (x : Gots). sets told (4 * k) (numbers_told x.items)) last),
        sym (c.written ∙ ap (λ (x : Gots). take used buffer ++ x.buffer) last ∙ take-append-drop used buffer),
      )

  pub giving-end : k ≡ length sizes → length sizes ≤ 64 → length told₀ ≡ 256 → Handed (each_of v vs (asked keys sizes) buffer₀) told₀ told buffer
  giving-end h few long =
      let all = giving-all h in
      let four : length (numbers_told (each_of v vs (asked keys sizes) buffer₀).items) ≡ 4 * length sizes =
      numbers-length v vs (asked keys sizes) buffer₀ ∙ ap (λ (n : ℕ). 4 * n) (asked-length keys 0 sizes) in
      record { numbers = all.0 ∙ sets-eq (numbers_told (each_of v vs (asked keys sizes) buffer₀).items) told₀ 0 (omega arith); buffer = all.1 }

-- ---- whole calls

pub many-refused : (v : View) (vs : List Value) (keys sizes buffer told : List ℕ) → 64 < length sizes
    → AnsweredMany v vs (asked keys sizes) buffer told (Refused Name) told buffer
unfolding many_broken first_broken numbers_told
many-refused v vs keys sizes buffer told h =
    let over : ltb 64 (length (asked keys sizes)) ≡ true = ap (ltb 64) (asked-length keys 0 sizes) ∙ lt-ltb 64 (length sizes) h in
    record { answer = rw over; handed = rw over (record { numbers = refl; buffer = refl }) }

pub many-answered : (v : View) (vs : List Value) (keys sizes : List ℕ) {buffer told told' buffer' : List ℕ} → length sizes ≤ 64
    → Handed (each_of v vs (asked keys sizes) buffer) told told' buffer'
    → AnsweredMany v vs (asked keys sizes) buffer told (Done 0) told' buffer'
unfolding many_broken first_broken
many-answered v vs keys sizes h e =
    let under : ltb 64 (length (asked keys sizes)) ≡ false = ap (ltb 64) (asked-length keys 0 sizes) ∙ le-ltb 64 (length sizes) h in
    record { answer = rw under; handed = rw under e }

-- rules 1 and 2 are kept
gets-later : (ks : List Key) (img : List ℕ) → first_broken (image_rules img) ≡ none → gets_broken ks img ≡ many_broken ks
unfolding gets_broken many_broken
gets-later ks img q = broken-append (image_rules img) ((Name, ltb 64 (length ks)) ∷ []) ∙ rw q

gets-each : (m : Bool) (s : Session) (ks : List Key) (buffer img : List ℕ) → gets_broken ks img ≡ none
    → get_each_def (λ k rest. get_broken m s k rest img) (λ k rest. get_reply m s k rest img) ks buffer ≡ each_of (view_of m s) (values_of img) ks buffer
unfolding one_broken one_reply view_of get_reply
gets-each m s ks buffer img z =
    each-alike (λ k rest. get_broken m s k rest img) (one_broken (view_of m s) (values_of img)) (λ k rest. get_reply m s k rest img) (one_reply (view_of m s) (values_of img))
    (λ k b. get-over m s ks img z k b)
    (λ k b. ap (λ (o : Option Rule). got_by o (value_to_get (at_runtime_def s) k (values_of img)) b) (get-over m s ks img z k b))
    ks buffer

gets-over : (m : Bool) (s : Session) (ks : List Key) (buffer img : List ℕ) → first_broken (image_rules img) ≡ none
    → gets_reply m s ks buffer img ≡ many_of (view_of m s) (values_of img) ks buffer
unfolding gets_reply
gets-over m s ks buffer img q = rw (gets-later ks img q) (go (many_broken ks) refl)
  where
    go : (o : Option Rule) → many_broken ks ≡ o
        → on_some o (λ rule. record { items = []; buffer = buffer }) (get_each_def (λ k rest. get_broken m s k rest img) (λ k rest. get_reply m s k rest img) ks buffer)
        ≡ on_some o (λ rule. record { items = []; buffer = buffer }) (each_of (view_of m s) (values_of img) ks buffer)
    go (some rule) z = refl
    go none z = gets-each m s ks buffer img (gets-later ks img q ∙ z)

region-values : (img r : List ℕ) → r ≡ region img → values (entries r) ≡ values_of img
unfolding values_in
region-values img r p = ap (λ (x : List ℕ). values (entries x)) p

pub gets-answered : (x : Context) (v : View) (ks : List Key) (buffer img told : List ℕ) → first_broken (image_rules img) ≡ none → {r : List ℕ} → r ≡ region img
    → {a : Answer} {told' buffer' : List ℕ} → AnsweredMany v (values (entries r)) ks buffer told a told' buffer'
    → (m : Bool) (s : Session) → view_of m s ≡ v
    → Returned (book.several m s ks buffer) x img img a × Handed (gets_reply m s ks buffer img) told told' buffer'
unfolding plan_of
gets-answered x v ks buffer img told q {r} p {a} {told'} {buffer'} h m s e =
    let same : values (entries r) ≡ values_of img = region-values img r p in
    let h' : AnsweredMany (view_of m s) (values_of img) ks buffer told a told' buffer' =
    subst (λ (w : View). AnsweredMany w (values_of img) ks buffer told a told' buffer') (sym e)
    (subst (λ (l : List Value). AnsweredMany v l ks buffer told a told' buffer') same h) in (
      (
        h'.answer ∙ ap (λ (o : Option Rule). on_some o (λ rule. refused (rule_number rule)) (done 0)) (sym (gets-later ks img q)) ∙ sym (no_stores x (gets_broken ks img) img),
        sym (reading-image x (book.several m s ks buffer) img refl),
      ),
      subst (λ (gots : Gots). Handed gots told told' buffer') (sym (gets-over m s ks buffer img q)) h'.handed,
    )

gets-first : (ks : List Key) (img : List ℕ) (rule : Rule) → first_broken (image_rules img) ≡ some rule → gets_broken ks img ≡ some rule
unfolding gets_broken
gets-first ks img rule q = broken-append (image_rules img) ((Name, ltb 64 (length ks)) ∷ []) ∙ rw q

pub gets-refused : (x : Context) (ks : List Key) (buffer img told : List ℕ) (rule : Rule) → first_broken (image_rules img) ≡ some rule
    → (m : Bool) (s : Session) → Returned (book.several m s ks buffer) x img img (Refused rule) × Handed (gets_reply m s ks buffer img) told told buffer
unfolding plan_of gets_reply numbers_told
gets-refused x ks buffer img told rule q m s =
    let broken : gets_broken ks img ≡ some rule = gets-first ks img rule q in (
      (
        ap (λ (o : Option Rule). on_some o (λ rule. refused (rule_number rule)) (done 0)) (sym broken) ∙ sym (no_stores x (gets_broken ks img) img),
        sym (reading-image x (book.several m s ks buffer) img refl),
      ),
      rw broken (record { numbers = refl; buffer = refl }),
    )
