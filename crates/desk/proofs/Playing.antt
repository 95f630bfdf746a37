-- A step played: a set with the largest n is whole; one that is cut and the start-up behind it are one step.
-- Assumes nothing.
use Prim.Native.Nat.{ℕ, ◌+◌, ◌*◌, ◌^◌, ◌≤◌}
use native.Mathlib.Omega.{arith}
use mathlib.Core.Path.{◌≡◌, sym, ap, ◌∙◌}
use mathlib.Core.Bool.{false}
use Rattle.std.specs.Prelude as code
use mathlib.Core.List.{List}
use lib.ListN.{length}
use Rattle.model.specs.Lists.{part}
use Rattle.model.specs.Image.{block, region}
use Rattle.model.specs.Region.{tail_at}
use Rattle.model.specs.StartUp.{start_up_plan}
use Rattle.model.specs.Answers.{Outcome, answer_of}
use Rattle.model.specs.Book.{set_plan}
use Rattle.output.specs.Text.{Wrote}
use Rattle.output.proofs.Writing.{wrote_as}
use Rattle.profile.specs.Reader.{request_in}
use Rattle.desk.specs.declared.Asked.{Asked}
use Rattle.desk.specs.declared.Played.{Played}
use Rattle.desk.specs.Season as season
use Rattle.desk.specs.Season.{desk_setup, desk_session, played, played_whole, followed_by, then_started, cut_or_whole, step_played, step_line, line_of}
use Rattle.desk.specs.Script.{Step}
use Rattle.desk.specs.Reader.{step_in}
use Rattle.desk.specs.Playing.{Plays, PlaysUpTo, Steps}
use Rattle.desk.proofs.Counting.{played-whole}
use Rattle.desk.proofs.Desk.{desk-size}

module _ (b : ℕ) (s : List ℕ) (a : Asked) (img img' : List ℕ) where
  pub step-whole : {r : Played} → a.limit ≡ code.None → PlaysUpTo 0xFFFFFFFFFFFFFFFF (set_plan false (desk_session b) (request_in s a.item) img) img img' r
      → Plays (2 ^ 21) (step_played b (step_in s a) img) r img'
  unfolding step_played cut_or_whole
  step-whole {r} whole p =
      let plan = set_plan false (desk_session b) (request_in s a.item) img in
      let e : played 0xFFFFFFFFFFFFFFFF plan img ≡ played_whole plan img = played-whole 0xFFFFFFFFFFFFFFFF plan img (omega (arith, p.short)) in
      let q = p.plays in
      rw (whole, ← e) (record {
        answer = q.answer;
        image = q.image;
        stores = q.stores;
        erases = q.erases;
        few = omega (arith, q.few);
        fewer = q.fewer;
      })

  pub step_cut : {img'' : List ℕ} {p q : Played} {n : ℕ} → a.limit ≡ code.Some n → PlaysUpTo n (set_plan false (desk_session b) (request_in s a.item) img) img img' p
      → Plays (2 ^ 20) (played_whole (start_up_plan (desk_setup b) img') img') q img''
      → Plays (2 ^ 21) (step_played b (step_in s a) img) (record { answer = p.answer; stores = p.stores + q.stores; erases = p.erases + q.erases }) img''
  unfolding step_played cut_or_whole then_started followed_by
  step_cut {img''} {p} {q} {n} cut first second =
      let one = first.plays in
      let two = rw one.image at second in
      rw cut (record {
        answer = one.answer;
        image = two.image;
        stores = omega (arith, one.stores, two.stores);
        erases = omega (arith, one.erases, two.erases);
        few = omega (arith, one.few, second.few);
        fewer = omega (arith, one.fewer, second.fewer);
      })

-- a step and its line: the tail is that of the image that the step leaves
module _ (b : ℕ) (t : Step) (before : ℕ) (img img' : List ℕ) (low : 1 ≤ b) (high : b ≤ 7) (long : length img' ≡ block * (2 * b + 1)) where
  pub stepped : {p : Played} {front : List ℕ} {tail at next : ℕ} {out out' : List ℕ} → Plays (2 ^ 21) (step_played b t img) p img'
      → front ≡ part 0 (4096 * b) img'
      → tail ≡ tail_at front
      → Wrote (step_line (answer_of p.answer) p.stores tail (before + p.erases)) at out out' next
      → next ≤ at + 92
      → Steps b t before img img' at out out' (record { next = next; erases = before + p.erases })
  unfolding line_of region block
  stepped {p} {front} {tail} {at} {next} {out} {out'} plays cut found wrote few =
      let q : season.Played = step_played b t img in
      let whole : tail ≡ tail_at (region q.image) =
      found
      ∙ ap tail_at cut
      ∙ ap (λ (n : ℕ). tail_at (part 0 n img')) (sym (desk-size b img' low high long))
      ∙ ap (λ (i : List ℕ). tail_at (region i)) plays.image in
      let line : step_line (answer_of p.answer) p.stores tail (before + p.erases) ≡ line_of before q =
      ap (λ (o : Outcome). step_line o p.stores tail (before + p.erases)) plays.answer
      ∙ ap (λ (n : ℕ). step_line q.answer n tail (before + p.erases)) plays.stores
      ∙ ap (λ (n : ℕ). step_line q.answer q.stores n (before + p.erases)) whole
      ∙ ap (λ (n : ℕ). step_line q.answer q.stores (tail_at (region q.image)) (before + n)) plays.erases in
      record {
        image = plays.image;
        erases = ap (λ (n : ℕ). before + n) plays.erases;
        line = wrote_as line wrote;
        few = omega (arith, plays.few, plays.fewer);
        short = few;
      }
