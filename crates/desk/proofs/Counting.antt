-- A call of the desk: with no dead byte it makes its first n stores, and its answer tells how many. So what is counted from the plan's operations is what it did.
-- Assumes nothing.
use Prim.Native.Nat.{ℕ, ◌^◌, ◌≤◌, ◌<◌, min}
use native.Mathlib.Omega.{arith}
use mathlib.Core.Path.{◌≡◌, refl, sym, ap, ap₂, ◌∙◌}
use mathlib.Core.Bool.{Bool, true, false, cond}
use mathlib.Core.List.{List, []}
use lib.ListN.{length, take, drop, take-append-drop}
use lib.Seq.{take-nil}
use lib.Dec.{leb}
use borrow.Author.Tests.{leb-true, leb-false, le-leb}
use Rattle.std.specs.Prelude.{Result, Ok, Err, unwrap_or}
use Rattle.model.specs.declared.Rule.{Rule}
use Rattle.model.specs.declared.Answer.{Answer}
use Rattle.model.specs.declared.Answer.TheVariants.{Done, Stopped, Refused}
use Rattle.model.specs.Stores.{Store, Write, stores, after, width_of}
use Rattle.model.specs.Set.{Plan, refuse, make}
use Rattle.model.specs.Answers.{Outcome, done, stopped, refused, rule_number, answer_of, stores_of, made_of, outcome, image_after}
use Rattle.model.proofs.Failing.{reach-none, outcome-none}
use Rattle.plan.specs.declared.Step.{Step}
use Rattle.plan.specs.declared.Planned.{Planned}
use Rattle.plan.specs.Plan.{expand}
use Rattle.plan.specs.Planned.{none_decides, up_to, planned_as, Plans}
use Rattle.plan.proofs.Stores.{expand-append}
use Rattle.desk.specs.declared.Played.{Played}
use Rattle.desk.specs.Season as season
use Rattle.desk.specs.Season.{desk_context, all_erases, played, played_whole}
use Rattle.desk.specs.Erasing.{erased_in}
use Rattle.desk.specs.Playing.{operations_of, counted_as, PlaysUpTo}
use Rattle.desk.proofs.Erasing.{erased-is, few-stores, erases-most}

-- ---- what is played, by the list of stores

made-first : (n : ℕ) (plan : Plan) (img : List ℕ) → made_of (desk_context n) plan img ≡ min n (length (stores_of 1 plan))
unfolding made_of desk_context width_of
made-first n plan img = ap (min n) (reach-none (stores_of 1 plan) img)

abbrev played_by : List Store → List ℕ → Outcome → ℕ → season.Played
played_by ss img o k = record { answer = o; image = after k ss img; stores = k; erases = all_erases (take k ss) }

played-first : (n : ℕ) (plan : Plan) (img : List ℕ)
    → played n plan img ≡ played_by (stores_of 1 plan) img (outcome (desk_context n) plan img) (min n (length (stores_of 1 plan)))
unfolding played image_after desk_context width_of
played-first n plan img = ap (played_by (stores_of 1 plan) img (outcome (desk_context n) plan img)) (made-first n plan img)

-- the answer: a refusal, or done if the list is not longer than n
abbrev told_of : ℕ → ℕ → Outcome
told_of n long = cond (leb long n) (done long) stopped

outcome-made : (n : ℕ) (to on : List Write) (img : List ℕ) → outcome (desk_context n) (make to on) img ≡ told_of n (length (stores_of 1 (make to on)))
unfolding desk_context width_of stores_of
outcome-made n to on img = outcome-none (desk_context n) to on img refl

outcome-refused : (n : ℕ) (rule : Rule) (img : List ℕ) → outcome (desk_context n) (refuse rule) img ≡ refused (rule_number rule)
unfolding outcome
outcome-refused n rule img = refl

-- ---- a call whose list is not longer than n is played whole

outcome-whole : (n : ℕ) (plan : Plan) (img : List ℕ) → length (stores_of 1 plan) ≤ n
    → outcome (desk_context n) plan img ≡ outcome (desk_context (length (stores_of 1 plan))) plan img
outcome-whole n (refuse rule) img h = outcome-refused n rule img ∙ sym (outcome-refused (length (stores_of 1 (refuse rule))) rule img)
outcome-whole n (make to on) img h =
    let l : ℕ = length (stores_of 1 (make to on)) in
    let self : l ≤ l = omega arith in
    outcome-made n to on img
    ∙ ap (λ (t : Bool). cond t (done l) stopped) (le-leb l n h ∙ sym (le-leb l l self))
    ∙ sym (outcome-made l to on img)

pub played-whole : (n : ℕ) (plan : Plan) (img : List ℕ) → length (stores_of 1 plan) ≤ n → played n plan img ≡ played_whole plan img
unfolding played_whole
played-whole n plan img h =
    let l : ℕ = length (stores_of 1 plan) in
    let k : min n l ≡ min l l = omega arith in
    played-first n plan img
    ∙ ap₂ (played_by (stores_of 1 plan) img) (outcome-whole n plan img h) k
    ∙ sym (played-first l plan img)

-- ---- what is counted is what was played

-- by the answer, of a list of stores whose erases are counted rightly
record Counted (n : ℕ) (ss : List Store) (r : Played) : Type 0 where
  stores : r.stores ≡ min n (length ss)
  erases : r.erases ≡ all_erases (take (min n (length ss)) ss)

same_answer : (a : Answer) (ops : List Step) (n : ℕ) → (counted_as a ops n).answer ≡ a
same_answer (Done k) ops n = refl
same_answer Stopped ops n = refl
same_answer (Refused rule) ops n = refl

counted-made : (n : ℕ) (ss : List Store) (ops : List Step) (a : Answer) (t : Bool) → leb (length ss) n ≡ t → answer_of a ≡ cond t (done (length ss)) stopped
    → ((k : ℕ) → erased_in k ops ≡ all_erases (take k ss)) → Counted n ss (counted_as a ops n)
counted-made n ss ops (Done k) true t e f =
    let h = leb-true (length ss) n t in
    let l : k ≡ length ss = cc in
    let m : k ≡ min n (length ss) = omega arith in
    record { stores = m; erases = f k ∙ ap (λ (j : ℕ). all_erases (take j ss)) m }
counted-made n ss ops Stopped false t e f =
    let h = leb-false (length ss) n t in
    let m : n ≡ min n (length ss) = omega arith in
    record { stores = m; erases = f n ∙ ap (λ (j : ℕ). all_erases (take j ss)) m }
counted-made n ss ops (Done k) false t e f = let z : ◌≡◌ {A = ℕ} 0 1 = cc in absurd (omega arith)
counted-made n ss ops Stopped true t e f = let z : ◌≡◌ {A = ℕ} 0 1 = cc in absurd (omega arith)
counted-made n ss ops (Refused rule) true t e f = let z : ◌≡◌ {A = ℕ} 0 1 = cc in absurd (omega arith)
counted-made n ss ops (Refused rule) false t e f = let z : ◌≡◌ {A = ℕ} 0 1 = cc in absurd (omega arith)

none-erased : (j : ℕ) → 0 ≡ all_erases (take j [])
none-erased j = let h = erases-most 0 [] in let e : all_erases (take 0 []) ≡ 0 = omega arith in sym (ap all_erases (take-nil j) ∙ e)

counted-refused : (n : ℕ) (ops : List Step) (a : Answer) (k : ℕ) → answer_of a ≡ refused k → Counted n [] (counted_as a ops n)
counted-refused n ops (Refused rule) k e = record { stores = omega arith; erases = none-erased (min n 0) }
counted-refused n ops (Done j) k e = let z : ◌≡◌ {A = ℕ} 0 1 = cc in absurd (omega arith)
counted-refused n ops Stopped k e = let z : ◌≡◌ {A = ℕ} 0 1 = cc in absurd (omega arith)

-- the stores of what was planned, if it was accepted
planned-stores : (c : List ℕ) (ops : List Step) (k : ℕ) → stores_of 1 (make (expand c (take k ops)) (expand c (drop k ops))) ≡ stores 1 (expand c ops)
unfolding stores_of
planned-stores c ops k = ap (stores 1) (sym (expand-append c (take k ops) (drop k ops)) ∙ ap (expand c) (take-append-drop k ops))

refused-stores : (rule : Rule) → stores_of 1 (refuse rule) ≡ []
unfolding stores_of
refused-stores rule = refl

-- what is played of a plan, by what was counted
plays : (n : ℕ) (plan : Plan) (img img' : List ℕ) (a : Answer) (ops : List Step) → answer_of a ≡ outcome (desk_context n) plan img
    → img' ≡ image_after (desk_context n) plan img
    → length (stores_of 1 plan) < 2 ^ 20
    → Counted n (stores_of 1 plan) (counted_as a ops n)
    → PlaysUpTo n plan img img' (counted_as a ops n)
unfolding played
plays n plan img img' a ops told left few counted =
    let made : made_of (desk_context n) plan img ≡ min n (length (stores_of 1 plan)) = made-first n plan img in
    let most = erases-most (min n (length (stores_of 1 plan))) (stores_of 1 plan) in
    record {
      plays = record {
        answer = ap answer_of (same_answer a ops n) ∙ told;
        image = left;
        stores = counted.stores ∙ sym made;
        erases = counted.erases ∙ ap (λ (k : ℕ). all_erases (take k (stores_of 1 plan))) (sym made);
        few = omega (arith, counted.stores);
        fewer = omega (arith, counted.stores, counted.erases);
      };
      short = few;
    }

-- *a call that was planned, and then made up to n, was played*
module _ (n : ℕ) (plan : Plan) (img img' before c : List ℕ) (a : Answer) (long : length img ≤ 61440) where
  accepted-plays : (p : Planned) → Plans plan img before c (Ok p) → answer_of a ≡ outcome (desk_context n) plan img → img' ≡ image_after (desk_context n) plan img
      → length p.plan ≡ 12
      → PlaysUpTo n plan img img' (counted_as a p.plan n)
  unfolding planned_as
  accepted-plays p planned told left twelve =
      let ops : List Step = p.plan in
      let k : ℕ = up_to (unwrap_or p.deciding none_decides) in
      let e : plan ≡ make (expand c (take k ops)) (expand c (drop k ops)) = sym planned.same in
      let fit = planned.ready.fit in
      let listed : stores_of 1 plan ≡ stores 1 (expand c ops) = ap (stores_of 1) e ∙ planned-stores c ops k in
      let said : answer_of a ≡ told_of n (length (stores_of 1 plan)) =
      told
      ∙ ap (λ (q : Plan). outcome (desk_context n) q img) e
      ∙ outcome-made n (expand c (take k ops)) (expand c (drop k ops)) img
      ∙ ap (λ (q : Plan). told_of n (length (stores_of 1 q))) (sym e) in
      let few : length (stores_of 1 plan) < 2 ^ 20 = rw listed (omega (arith, few-stores c (length img) ops fit long)) in
      plays n plan img img' a ops told left few
      (counted-made n (stores_of 1 plan) ops a (leb (length (stores_of 1 plan)) n) refl said
      (λ j. erased-is c (length img) ops j fit ∙ ap (λ (l : List Store). all_erases (take j l)) (sym listed)))

  refused-plays : (rule : Rule) (ops : List Step) → plan ≡ refuse rule → answer_of a ≡ outcome (desk_context n) plan img → img' ≡ image_after (desk_context n) plan img
      → PlaysUpTo n plan img img' (counted_as a ops n)
  refused-plays rule ops e told left =
      let none : stores_of 1 plan ≡ [] = ap (stores_of 1) e ∙ refused-stores rule in
      let said : answer_of a ≡ refused (rule_number rule) = told ∙ ap (λ (q : Plan). outcome (desk_context n) q img) e ∙ outcome-refused n rule img in
      let few : length (stores_of 1 plan) < 2 ^ 20 = rw none (omega arith) in
      plays n plan img img' a ops told left few (rw none (counted-refused n ops a (rule_number rule) said))

  pub planned-plays : (p : Result Planned Rule) → Plans plan img before c p → answer_of a ≡ outcome (desk_context n) plan img
      → img' ≡ image_after (desk_context n) plan img
      → length (operations_of p) ≡ 12
      → PlaysUpTo n plan img img' (counted_as a (operations_of p) n)
  unfolding planned_as
  planned-plays (Ok p) planned told left twelve = accepted-plays p planned told left twelve
  planned-plays (Err rule) planned told left twelve = refused-plays rule (operations_of (Err rule)) (sym planned.same) told left
