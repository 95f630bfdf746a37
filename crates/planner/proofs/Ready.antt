-- What stands ready before a put. The checks leave an image of a right length with a clean region and an idle work block; and a value that has room in the region
-- is no longer than the largest one.
-- Assumes nothing.
use Prim.Native.Nat.{ℕ, ◌*◌, ◌+◌, ◌≤◌}
use native.Mathlib.Omega.{arith}
use mathlib.Core.Path.{◌≡◌, sym, ap, subst}
use mathlib.Core.Bool.{true, ◌&&◌}
use mathlib.Core.List.{List}
use lib.ListN.{length}
use lib.Dec.{eqb, leb}
use borrow.Author.Tests.{leb-true, eqb-true}
use Rattle.std.specs.Prelude.{Result}
use Rattle.model.specs.declared.Rule.{Rule}
use Rattle.model.specs.Lists.{all_ff}
use Rattle.model.specs.Image.{block, blocks, right_length, region_size, region, work, spare}
use Rattle.model.specs.Entry.{Value, plain_size}
use Rattle.model.specs.Region.{clean, values_of}
use Rattle.model.specs.Work.{idle, ready_for_call, ready_in}
use Rattle.model.specs.Change.{put, step, space_of}
use Rattle.model.proofs.Tests.{and_split}
use Rattle.values.specs.declared.Places.{Places}
use Rattle.plan.specs.declared.Planned.{Planned}
use Rattle.image.specs.Check.{IsReady}
use Rattle.planner.specs.Asked.{Asked, PutPlanned}
use Rattle.planner.proofs.Composed.{put-space}

-- the length of an image of b blocks
pub image-long : (img : List ℕ) (b : ℕ) → right_length img ≡ true → blocks img ≡ b → (1 ≤ b) × (length img ≡ block * (2 * b + 1))
unfolding right_length block
image-long img b h e =
    let n = blocks img in
    let t = and_split (leb 1 n && leb n 7) (eqb (length img) (4096 * (2 * n + 1))) h in
    let low = leb-true 1 n (and_split (leb 1 n) (leb n 7) t.0).0 in
    let long : length img ≡ 4096 * (2 * n + 1) = eqb-true (length img) (4096 * (2 * n + 1)) t.1 in
    (omega arith, omega arith)

pub region-size : (img : List ℕ) (b : ℕ) → blocks img ≡ b → region_size img ≡ 4096 * b
unfolding region_size block
region-size img b e = ap (λ (k : ℕ). 4096 * k) e

-- rule 2: the region is clean, the work block idle
pub ready-clean : (img : List ℕ) → ready_for_call img ≡ true → clean (region img) ≡ true
unfolding ready_in
ready-clean img h =
    (and_split (clean (region img)) (all_ff (spare img)) (and_split (clean (region img) && all_ff (spare img)) (idle (work img)) h).0).0

-- a value that has room is no longer than the largest region
pub value-short : {img : List ℕ} {b t u : ℕ} (v : Value) → IsReady img b t u → space_of (step (put v) (values_of img)) ≤ region_size img → plain_size v ≤ 28672
value-short {img} {b} v r h = omega (arith, put-space v (values_of img), r.few, region-size img b r.number)

-- the same value by other names
pub asked-as : {img : List ℕ} {b at used : ℕ} {places : Places} {v w : Value} → v ≡ w → Asked img b at used places w → Asked img b at used places v
asked-as {img} {b} {at} {used} {places} e a = subst (λ (x : Value). Asked img b at used places x) (sym e) a

pub planned-as : {img c : List ℕ} {v w : Value} {p : Result Planned Rule} → v ≡ w → PutPlanned img v c p → PutPlanned img w c p
planned-as {img} {c} {p = p} e a = subst (λ (x : Value). PutPlanned img x c p) e a
