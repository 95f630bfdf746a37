-- Stores that fail at dead addresses: a store of one byte fails there alone; with none dead no store fails; one store more, or many, are made, or the next one fails. By
-- induction over the list.
-- Assumes nothing.
use Prim.Native.Nat.{ℕ, zero, suc, ◌+◌, ◌-◌, ◌≤◌, ◌<◌, min}
use native.Mathlib.Nat.{zero-add}
use native.Mathlib.Omega.{arith}
use mathlib.Core.Path.{◌≡◌, refl, sym, ap, ◌∙◌}
use mathlib.Core.Bool.{Bool, true, false, cond, ◌&&◌, ◌||◌}
use mathlib.Core.Logic.{◌≢◌}
use mathlib.Core.List.{List, [], ◌∷◌, ◌++◌}
use lib.ListN.{length, drop, take, get_or}
use lib.Dec.{eqb, leb, ltb}
use borrow.Author.Tests.{eqb-true, eqb-false, leb-true, leb-false, le-leb, lt-leb, le-ltb, lt-ltb, ltb-true}
use Rattle.model.specs.declared.Context.{Context}
use Rattle.model.specs.Lists.{any, among}
use Rattle.model.specs.Stores.{Store, page, byte, erase, Write, stores, apply, apply_all, after, falls, fails, reach}
use Rattle.model.specs.Set.{Plan, make}
use Rattle.model.specs.Answers.{done, stopped, refused, stores_of, dead_of, page_of, made_of, ended, outcome, image_after}
use Rattle.model.proofs.Stores.{after-all}

pub reach_few : (dead : List ℕ) (ss : List Store) (img : List ℕ) → reach dead ss img ≤ length ss
unfolding reach
reach_few dead [] img = omega arith
reach_few dead (s ∷ ss) img = go (fails dead s img) (reach_few dead ss (apply s img))
  where
    go : (t : Bool) → reach dead ss (apply s img) ≤ length ss → cond t 0 (suc (reach dead ss (apply s img))) ≤ suc (length ss)
    go true h = omega arith
    go false h = omega arith

-- ---- a store of one byte

-- one byte fails at a dead address where a bit would have to fall
byte-touched : (at a v : ℕ) (img : List ℕ) → at ≡ a → (leb at a && ltb a (at + 1) && falls (get_or img a 0) (get_or (v ∷ []) (a - at) 0)) ≡ falls (get_or img at 0) v
byte-touched at a v img e =
    let none : a - at ≡ 0 = omega arith in
    rw (le-leb at a (omega arith), lt-ltb a (at + 1) (omega arith), none, ← e)

byte-missed : (at a v : ℕ) (img : List ℕ) → at ≢ a → (leb at a && ltb a (at + 1) && falls (get_or img a 0) (get_or (v ∷ []) (a - at) 0)) ≡ false
byte-missed at a v img n = go (leb at a) (ltb a (at + 1)) refl refl
  where
    go : (t u : Bool) → leb at a ≡ t → ltb a (at + 1) ≡ u → (t && u && falls (get_or img a 0) (get_or (v ∷ []) (a - at) 0)) ≡ false
    go true true e f = absurd (let p = leb-true at a e in let q = ltb-true a (at + 1) f in omega (arith, n))
    go true false e f = refl
    go false true e f = refl
    go false false e f = refl

absorbs : (f a : Bool) → (f || (a && f)) ≡ f
absorbs true a = refl
absorbs false true = refl
absorbs false false = refl

pub fails-byte : (dead : List ℕ) (at v : ℕ) (img : List ℕ) → fails dead (byte at v) img ≡ (among dead at && falls (get_or img at 0) v)
unfolding fails
fails-byte [] at v img = refl
fails-byte (a ∷ dead) at v img = go (eqb at a) refl (fails-byte dead at v img)
  where
    go : (t : Bool) → eqb at a ≡ t → any (λ a. leb at a && ltb a (at + 1) && falls (get_or img a 0) (get_or (v ∷ []) (a - at) 0)) dead ≡ (among dead at && falls (get_or img at 0) v)
        → ((leb at a && ltb a (at + 1) && falls (get_or img a 0) (get_or (v ∷ []) (a - at) 0))
        || any (λ a. leb at a && ltb a (at + 1) && falls (get_or img a 0) (get_or (v ∷ []) (a - at) 0)) dead)
        ≡ ((t || among dead at) && falls (get_or img at 0) v)
    go true e h = rw (byte-touched at a v img (eqb-true at a e), h) (absorbs (falls (get_or img at 0) v) (among dead at))
    go false e h = rw (byte-missed at a v img (eqb-false at a e)) h

-- ---- none is dead

pub reach-none : (ss : List Store) (img : List ℕ) → reach [] ss img ≡ length ss
unfolding reach fails
reach-none [] img = refl
reach-none (page at bs ∷ ss) img = ap suc (reach-none ss (apply (page at bs) img))
reach-none (erase b ∷ ss) img = ap suc (reach-none ss (apply (erase b) img))

-- a context of n stores, no dead byte, and stores of one byte
abbrev pub unworn : ℕ → Context
unworn n = record { limit = n; count = 0; dead = []; width = 1; side = 0 }

none-dead : (x : Context) → x.count ≡ 0 → dead_of x ≡ []
none-dead x e = rw e

ended-whole : (n len : ℕ) → ended n len len ≡ cond (leb len n) (done len) stopped
ended-whole n len = go (leb len n) refl
  where
    go : (t : Bool) → leb len n ≡ t → ended n len len ≡ cond t (done len) stopped
    go true e = let h = leb-true len n e in rw (le-leb len (min n len) (omega arith))
    go false e = let h = leb-false len n e in rw (lt-leb len (min n len) (omega arith), le-ltb len n (omega arith))

after-min : (n : ℕ) (ss : List Store) (img : List ℕ) → after (min n (length ss)) ss img ≡ after n ss img
after-min n ss img = go (leb (length ss) n) refl
  where
    go : (t : Bool) → leb (length ss) n ≡ t → after (min n (length ss)) ss img ≡ after n ss img
    go true e =
        let h = leb-true (length ss) n e in
        after-all (min n (length ss)) ss img (omega arith) ∙ sym (after-all n ss img h)
    go false e =
        let h = leb-false (length ss) n e in
        let same : min n (length ss) ≡ n = omega arith in
        ap (λ (k : ℕ). after k ss img) same

pub outcome-none : (x : Context) (to on : List Write) (img : List ℕ) → x.count ≡ 0
    → outcome x (make to on) img ≡ cond (leb (length (stores (page_of x) (to ++ on))) x.limit) (done (length (stores (page_of x) (to ++ on)))) stopped
unfolding outcome
outcome-none x to on img e =
    let ss : List Store = stores (page_of x) (to ++ on) in
    ap (λ (d : List ℕ). ended x.limit (reach d ss img) (length ss)) (none-dead x e)
    ∙ ap (λ (n : ℕ). ended x.limit n (length ss)) (reach-none ss img)
    ∙ ended-whole x.limit (length ss)

pub image-none : (x : Context) (plan : Plan) (img : List ℕ) → x.count ≡ 0 → image_after x plan img ≡ after x.limit (stores_of (page_of x) plan) img
unfolding image_after made_of
image-none x plan img e =
    let ss : List Store = stores_of (page_of x) plan in
    ap (λ (d : List ℕ). after (min x.limit (reach d ss img)) ss img) (none-dead x e)
    ∙ ap (λ (n : ℕ). after (min x.limit n) ss img) (reach-none ss img)
    ∙ after-min x.limit ss img

-- ---- stores made one list after another

-- those of a list whose front does not fail
pub reach-append : (dead : List ℕ) (xs ys : List Store) (img : List ℕ) → reach dead xs img ≡ length xs → reach dead (xs ++ ys) img ≡ length xs + reach dead ys (apply_all xs img)
unfolding apply_all reach
reach-append dead [] ys img h = sym (zero-add (reach dead ys img))
reach-append dead (x ∷ xs) ys img h = go (fails dead x img) h (reach-append dead xs ys (apply x img))
  where
    go : (t : Bool) → cond t 0 (suc (reach dead xs (apply x img))) ≡ suc (length xs)
        → (reach dead xs (apply x img) ≡ length xs → reach dead (xs ++ ys) (apply x img) ≡ length xs + reach dead ys (apply_all xs (apply x img)))
        → cond t 0 (suc (reach dead (xs ++ ys) (apply x img))) ≡ suc (length xs) + reach dead ys (apply_all xs (apply x img))
    go true e f = absurd (omega arith)
    go false e f = let n = f (omega arith) in omega arith

-- behind the first k stores of a list stand some that do not fail on the image as it then is: they are made too
pub after_more : (k : ℕ) (ss xs ys : List Store) (img : List ℕ) → drop k ss ≡ xs ++ ys → k ≤ length ss → after (k + length xs) ss img ≡ apply_all xs (after k ss img)
unfolding after apply_all
after_more zero ss xs ys img h l = rw (h, zero-add (length xs)) (front xs ys img)
  where
    front : (xs ys : List Store) (img : List ℕ) → apply_all (take (length xs) (xs ++ ys)) img ≡ apply_all xs img
    front [] ys img = refl
    front (x ∷ xs) ys img = front xs ys (apply x img)
after_more (suc k) [] xs ys img h l = absurd (omega arith)
after_more (suc k) (s ∷ ss) xs ys img h l =
    let e : suc k + length xs ≡ suc (k + length xs) = omega arith in
    rw e (after_more k ss xs ys (apply s img) h (omega arith))

pub reach-more : (dead : List ℕ) (k : ℕ) (ss xs ys : List Store) (img : List ℕ) → drop k ss ≡ xs ++ ys → k ≤ reach dead ss img
    → reach dead xs (after k ss img) ≡ length xs → k + length xs ≤ reach dead ss img
unfolding after apply_all reach
reach-more dead zero ss xs ys img h l e = let n = reach-append dead xs ys img e in rw h (omega (arith, n))
reach-more dead (suc k) [] xs ys img h l e = absurd (omega arith)
reach-more dead (suc k) (s ∷ ss) xs ys img h l e = go (fails dead s img) l (λ m. reach-more dead k ss xs ys (apply s img) h m e)
  where
    go : (t : Bool) → suc k ≤ cond t 0 (suc (reach dead ss (apply s img))) → (k ≤ reach dead ss (apply s img) → k + length xs ≤ reach dead ss (apply s img))
        → suc k + length xs ≤ cond t 0 (suc (reach dead ss (apply s img)))
    go true m f = absurd (omega arith)
    go false m f = let n = f (omega arith) in omega arith

-- the store behind the first k fails: k are made, and no more
pub reach_here : (dead : List ℕ) (k : ℕ) (ss rest : List Store) (s : Store) (img : List ℕ) → drop k ss ≡ s ∷ rest → k ≤ reach dead ss img
    → fails dead s (after k ss img) ≡ true → reach dead ss img ≡ k
unfolding after apply_all reach
reach_here dead zero ss rest s img h l e = rw (h, e)
reach_here dead (suc k) [] rest s img h l e = absurd (omega arith)
reach_here dead (suc k) (u ∷ ss) rest s img h l e = go (fails dead u img) l (λ m. reach_here dead k ss rest s (apply u img) h m e)
  where
    go : (t : Bool) → suc k ≤ cond t 0 (suc (reach dead ss (apply u img))) → (k ≤ reach dead ss (apply u img) → reach dead ss (apply u img) ≡ k)
        → cond t 0 (suc (reach dead ss (apply u img))) ≡ suc k
    go true m f = absurd (omega arith)
    go false m f = ap suc (f (omega arith))

-- ---- how a list of stores ends

pub ended-done : (n reached len : ℕ) → len ≤ n → len ≤ reached → ended n reached len ≡ done len
ended-done n reached len h l = rw (le-leb len (min n reached) (omega arith))

pub ended-stopped : (n reached len : ℕ) → n < len → n ≤ reached → ended n reached len ≡ stopped
ended-stopped n reached len h l = rw (lt-leb len (min n reached) (omega arith), le-ltb reached n l)

pub ended-worn : (n reached len : ℕ) → reached < n → reached < len → ended n reached len ≡ refused 23
ended-worn n reached len h l = rw (lt-leb len (min n reached) (omega arith), lt-ltb reached n h)

-- refused at the end of a list of stores is refused by a store that fails
pub ended-rule : (n reached len rule : ℕ) → ended n reached len ≡ refused rule → (rule ≡ 23) × (reached < n) × (reached < len)
ended-rule n reached len rule h = go (leb len (min n reached)) (ltb reached n) refl refl h
  where
    go : (t u : Bool) → leb len (min n reached) ≡ t → ltb reached n ≡ u → cond t (done len) (cond u (refused 23) stopped) ≡ refused rule
        → (rule ≡ 23) × (reached < n) × (reached < len)
    go true u e f g = let z : ◌≡◌ {A = ℕ} 0 1 = cc in absurd (omega arith)
    go false true e f g = let p = ltb-true reached n f in let q = leb-false len (min n reached) e in (cc, p, omega arith)
    go false false e f g = let z : ◌≡◌ {A = ℕ} 0 1 = cc in absurd (omega arith)
