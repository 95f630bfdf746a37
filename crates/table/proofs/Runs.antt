-- What refutes a claim about runs: an image of the cases that a start-up leaves as it is, a call on it cut after so many whole stores of one byte, and what the next
-- start-up finds. Under the definitions as they stand the claims hold, so no image and no call meets what is asked here; under an edited definition one may.
-- Assumes nothing.
use Prim.Native.Nat.{ℕ, ◌-◌}
use native.Mathlib.Omega.{arith}
use mathlib.Core.Path.{◌≡◌, refl, sym, ap, ◌∙◌, subst}
use mathlib.Core.Logic.{inl}
use mathlib.Core.Bool.{Bool, true, false, cond, ◌&&◌}
use mathlib.Core.List.{List, [], ◌∷◌, ◌++◌, append-nil}
use mathlib.Core.Option.{none}
use lib.ListN.{length, replicate}
use lib.Dec.{T, leb, ltb, ltb→lt}
use borrow.Author.Tests.{le-leb}
use Rattle.model.specs.Lists.{all, on_some}
use Rattle.model.specs.Entry.{Value}
use Rattle.model.specs.Region.{values_of}
use Rattle.model.specs.Stores.{Store, stores, left_by_def, todays, width_of, Bytes, apply_all, after}
use Rattle.model.specs.Rules.{start_up_broken}
use Rattle.model.specs.Set.{Plan, refuse, make}
use Rattle.model.specs.StartUp.{resume, tidy_spare, tidy_work, tidy_tail, and_then, start_up_stores, start_up_plan}
use Rattle.model.specs.Answers.{done, stopped, outcome, image_after}
use Rattle.model.proofs.Failing.{unworn, outcome-none}
use Rattle.model.specs.Book.{Call, start_up_def, plan_of, Sized, book_after, Run, begin, ran, cut, StartedUp, started, Demand3}
use Rattle.model.proofs.Stores.{after-all, after-append, stores-todays, left-today}
use Rattle.table.proofs.Pieces.{Piece, flat, laid_all, all_inside, flat-laid, as_writes, as-flat}
use Rattle.table.proofs.Row.{plain, ff, zeros, header, image, guid, rate_entry, behind_state, start_id, setting}
use Rattle.table.proofs.Held.{listed, settled, plan-listed, plan-settled, plan-left}

abbrev is_byte : ℕ → Bool
is_byte b = ltb b 256

both : (u v : Bool) → T (u && v) → T u × T v
both true v t = (tt, t)
both false v t = absurd t

pub bytes : (l : List ℕ) → T (all is_byte l) → Bytes l
bytes [] t = tt
bytes (b ∷ l) t = let h = both (is_byte b) (all is_byte l) t in (ltb→lt b 256 h.0, bytes l h.1)

-- a start-up with nothing to do has left the image that it found
pub rested : (img : List ℕ) → T (all is_byte img) → outcome (unworn 0) (start_up_plan plain img) img ≡ done 0 → StartedUp img
unfolding after apply_all
rested img small idle =
    record { setup = plain; before = img; bytes = bytes img small; context = unworn 0; stores = 0; finished = idle; left = sym (plan-left 0 (start_up_plan plain img) img) }

module _ (img : List ℕ) (c : Call) (sized : Sized c) (k : ℕ) where
  -- the image when k stores of the call are complete, and the book then
  abbrev pub torn : List ℕ
  torn = after k (listed (plan_of c img)) img

  abbrev pub book : List Value
  book = book_after c (settled k (plan_of c img)) (values_of img)

  pub torn-run : Run img torn book
  torn-run =
      subst (λ (t : Bool). Run img torn (book_after c t (values_of img))) (plan-settled k (plan_of c img))
      (cut begin c sized 1 k (inl (ap (λ (ss : List Store). after k ss img) (sym (plan-listed (plan_of c img))))))

-- the same image by the pieces that its stores are, where there are too many to make one by one
pub laid-after : (img : List ℕ) (ss : List Store) (ps : List Piece) (rest : List Store)
    → ss ≡ flat ps ++ rest
    → T (all_inside (length img) ps)
    → after (length (flat ps)) ss img ≡ laid_all ps img
unfolding after apply_all
laid-after img ss ps rest e inside =
    ap (λ (l : List Store). after (length (flat ps)) l img) e
    ∙ after-append (length (flat ps)) (flat ps) rest img
    ∙ ap (λ (n : ℕ). after n rest (after (length (flat ps)) (flat ps) img)) (self-less (length (flat ps)))
    ∙ after-all (length (flat ps)) (flat ps) img (omega arith)
    ∙ flat-laid ps img inside
  where
    self-less : (n : ℕ) → n - n ≡ 0
    self-less n = omega arith

-- a start-up of a run that is done and leaves other values than the book's
pub lost : {start img : List ℕ}
    {book : List Value}
    → StartedUp start
    → Run start img book
    → (n stores : ℕ)
    → outcome (unworn n) (start_up_plan plain img) img ≡ done stores
    → (left : List ℕ)
    → image_after (unworn n) (start_up_plan plain img) img ≡ left
    → (values_of left ≡ book → ⊥)
    → Demand3
    → ⊥
lost up run n stores finished left same other demand =
    other (ap values_of (sym same) ∙ (demand _ _ _ (started up) (ran run (start_up_def plain) tt (unworn n))).1 stores finished)

-- what follows a resumption is judged on the image that it leaves, found by laying its pieces over the image before
pub resumption : (img : List ℕ) (ps : List Piece)
    → start_up_broken plain img ≡ none
    → resume img ≡ as_writes ps
    → T (all_inside (length img) ps)
    → and_then tidy_spare (and_then tidy_work tidy_tail) (laid_all ps img) ≡ []
    → start_up_plan plain img ≡ make [] (as_writes ps ++ [])
unfolding start_up_plan start_up_stores
resumption img ps sound writes inside none-more =
    let tidy = and_then tidy_spare (and_then tidy_work tidy_tail) in
    let then : tidy (left_by_def (resume img) img) ≡ [] =
    ap (λ ws. tidy (left_by_def ws img)) writes
    ∙ ap tidy (sym (left-today (as_writes ps) img))
    ∙ ap (λ ss. tidy (apply_all ss img)) (stores-todays (as_writes ps) ∙ as-flat ps)
    ∙ ap tidy (flat-laid ps img inside)
    ∙ none-more in
    ap (λ o. on_some o refuse (make [] (start_up_stores img))) sound
    ∙ ap (λ ws. make [] (resume img ++ ws)) then
    ∙ ap (λ ws. make [] (ws ++ [])) writes

-- where the start-up's stores are pieces too
pub lost-laid : {start img : List ℕ}
    {book : List Value}
    → StartedUp start
    → Run start img book
    → (ps : List Piece)
    → start_up_plan plain img ≡ make [] (as_writes ps ++ [])
    → T (all_inside (length img) ps)
    → (values_of (laid_all ps img) ≡ book → ⊥)
    → Demand3
    → ⊥
unfolding width_of
lost-laid {img = img} up run ps plan inside other =
    let n = length (flat ps) in
    let whole : todays (as_writes ps ++ []) ≡ flat ps = ap todays (append-nil (as_writes ps)) ∙ as-flat ps in
    lost
    up
    run
    n
    n
    (ap (λ (p : Plan). outcome (unworn n) p img) plan
    ∙ outcome-none (unworn n) [] (as_writes ps ++ []) img refl
    ∙ ap (λ (ss : List Store). cond (leb (length ss) n) (done (length ss)) stopped) (stores-todays (as_writes ps ++ []) ∙ whole)
    ∙ rw (le-leb n n (omega arith)))
    (laid_all ps img)
    (ap (λ (p : Plan). image_after (unworn n) p img) plan
    ∙ plan-left n (make [] (as_writes ps ++ [])) img
    ∙ ap (λ (ss : List Store). after n ss img) whole
    ∙ after-all n (flat ps) img (omega arith)
    ∙ flat-laid ps img inside)
    other

-- ---- RATE, and behind it a value of 2,048 bytes: for another one of as many the tail is too short, so that it is set with a compaction

abbrev pub large : List ℕ
large = 0x41 ∷ 0x00 ∷ 0x00 ∷ 0x00 ∷ []

abbrev pub large_entry : ℕ → List ℕ
large_entry b = start_id ++ (0x3F ∷ []) ++ behind_state 0x07 (zeros 16) 0x04 0x00 0x00 0x08 guid ++ large ++ replicate 2048 b

abbrev pub region_of : ℕ → List ℕ
region_of b = header ++ rate_entry 0x3F 0x64 ++ large_entry b ++ ff 1880

abbrev pub half : List ℕ
half = image (region_of 0x11)

abbrev pub replacing : Call
replacing = setting large 0x07 (replicate 2048 0x22)

pub replacing-sized : Sized replacing
replacing-sized = (bytes large tt, bytes guid tt, refl, bytes (replicate 2048 0x22) tt)
