-- How a row is shown to hold: by evaluation of the definitions, byte by byte and without a look for dead bytes, by laws; and the image after a long list of stores is
-- found by laying the list's pieces over the image before.
-- Assumes nothing.
use Prim.Native.Nat.{ℕ}
use mathlib.Core.Path.{◌≡◌, refl, ap, ◌∙◌}
use mathlib.Core.Bool.{Bool, false, cond, not, ◌&&◌}
use mathlib.Core.List.{List, [], ◌++◌}
use lib.ListN.{length}
use lib.Dec.{T, leb, leb→le}
use Rattle.model.specs.Lists.{is_empty}
use Rattle.model.specs.Image.{region}
use Rattle.model.specs.Region.{tail_at}
use Rattle.model.specs.Stores.{Store, todays, after, width_of}
use Rattle.model.specs.Set.{Plan, refuse, make}
use Rattle.model.specs.Answers.{Outcome, done, stopped, refused, rule_number, outcome, image_after, stores_of, decided}
use Rattle.model.specs.Book.{plan_of}
use Rattle.model.proofs.Stores.{after-all, stores-todays}
use Rattle.model.proofs.Failing.{unworn, outcome-none, image-none}
use Rattle.table.proofs.Pieces.{flat, laid_all, all_inside, flat-laid}
use Rattle.table.proofs.Row.{Row, Holds, unlimited, quiet}

-- a plan's stores byte by byte, whether the deciding one is among the first k, and the answer where no byte is dead: no page is cut, and no dead byte is looked for
abbrev pub listed : Plan → List Store
listed (refuse rule) = []
listed (make to on) = todays (to ++ on)

abbrev pub settled : ℕ → Plan → Bool
settled k (refuse rule) = false
settled k (make to on) = not (is_empty to) && leb (length (todays to)) k

abbrev pub told : Plan → Outcome
told (refuse rule) = refused (rule_number rule)
told (make to on) = cond (leb (length (todays (to ++ on))) unlimited) (done (length (todays (to ++ on)))) stopped

pub plan-listed : (p : Plan) → stores_of 1 p ≡ listed p
unfolding stores_of
plan-listed (refuse rule) = refl
plan-listed (make to on) = stores-todays (to ++ on)

pub plan-settled : (k : ℕ) (p : Plan) → decided 1 k p ≡ settled k p
unfolding decided
plan-settled k (refuse rule) = refl
plan-settled k (make to on) = ap (λ (ss : List Store). not (is_empty to) && leb (length ss) k) (stores-todays to)

pub plan-told : (p : Plan) (img : List ℕ) → outcome quiet p img ≡ told p
unfolding outcome width_of
plan-told (refuse rule) img = refl
plan-told (make to on) img =
    outcome-none quiet to on img refl ∙ ap (λ (ss : List Store). cond (leb (length ss) unlimited) (done (length ss)) stopped) (stores-todays (to ++ on))

pub plan-left : (n : ℕ) (p : Plan) (img : List ℕ) → image_after (unworn n) p img ≡ after n (listed p) img
unfolding width_of
plan-left n p img = image-none (unworn n) p img refl ∙ ap (λ (ss : List Store). after n ss img) (plan-listed p)

module _ (row : Row) where
  pub held : told (plan_of row.call row.image) ≡ row.answer
      → listed (plan_of row.call row.image) ≡ flat row.stores
      → T (leb (length (flat row.stores)) unlimited)
      → T (all_inside (length row.image) row.stores)
      → laid_all row.stores row.image ≡ row.left
      → tail_at (region row.left) ≡ row.tail
      → Holds row
  held answer stores few inside left tail =
      let plan = plan_of row.call row.image in
      let whole = after-all unlimited (flat row.stores) row.image (leb→le (length (flat row.stores)) unlimited few) in
      record {
        answer = plan-told plan row.image ∙ answer;
        stores = plan-listed plan ∙ stores;
        left = plan-left unlimited plan row.image ∙ ap (λ ss. after unlimited ss row.image) stores ∙ whole ∙ flat-laid row.stores row.image inside ∙ left;
        tail = tail;
      }
