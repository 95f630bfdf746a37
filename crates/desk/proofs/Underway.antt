-- A season under way: the text so far is written, and what is left of it is that of the steps from the next place on.
-- Assumes nothing.
use Prim.Native.Nat.{ℕ, suc, ◌+◌}
use native.Mathlib.Omega.{arith}
use mathlib.Core.Path.{◌≡◌, refl, sym, ap, ◌∙◌}
use mathlib.Core.Bool.{Bool, true, false, cond, true≢false}
use mathlib.Core.List.{List, [], ◌∷◌}
use mathlib.Core.Option.{Option, none, some}
use Rattle.std.specs.Prelude as code
use lib.ListN.{drop}
use Rattle.model.specs.declared.Rule.TheVariants as rule
use Rattle.model.specs.Lists.{is_empty, is_some, on_some}
use Rattle.model.specs.Answers.{rule_number}
use Rattle.report.specs.Varlist.{refused_line}
use Rattle.output.specs.Text.{Wrote}
use Rattle.output.proofs.Writing.{Partly, partly_none, partly-next, partly-all}
use Rattle.desk.specs.declared.Asked.{Asked}
use Rattle.desk.specs.declared.Form.{Form}
use Rattle.desk.specs.Script.{Step, Script, step_at, steps_at, script_of}
use Rattle.desk.specs.Season.{empty_image, step_played, line_of, step_lines, season_text}
use Rattle.desk.specs.Reader.{step_in, step_of, form_of, Holds}
use Rattle.desk.proofs.Steps.{none-there, first-there}

pub record Underway (s : List ℕ) (b : ℕ) (whole : List ℕ) (left at : ℕ) (img : List ℕ) (erases : ℕ) (before out : List ℕ) (next : ℕ) : Type 0 where
  pub steps : List Step
  pub there : steps_at left (drop at s) ≡ some steps
  pub text : Partly whole (step_lines b steps img erases) 0 before out next

-- the steps of a script whose form is right
pub record Stepping (s : List ℕ) (b count from : ℕ) : Type 0 where
  pub steps : List Step
  pub there : steps_at count (drop from s) ≡ some steps
  pub text : season_text s ≡ step_lines b steps (empty_image b) 0

pub all-steps : (s : List ℕ) (f : Form) → form_of s (code.Some f) ≡ script_of s → is_some (steps_at f.count (drop f.from s)) ≡ true
    → Stepping s f.blocks f.count f.from
unfolding season_text form_of
all-steps s x e h = go (steps_at x.count (drop x.from s)) refl h
  where
    its-script : (ts : List Step) → steps_at x.count (drop x.from s) ≡ some ts → script_of s ≡ some (record { blocks = x.blocks; steps = ts })
    its-script ts f = sym e ∙ ap (λ (o : Option (List Step)). on_some o (λ l. some (record { blocks = x.blocks; steps = l })) none) f

    go : (o : Option (List Step)) → steps_at x.count (drop x.from s) ≡ o → is_some o ≡ true → Stepping s x.blocks x.count x.from
    go (some ts) f h = record {
      steps = ts;
      there = f;
      text = ap {B = List ℕ} (λ (o : Option Script). on_some o (λ p. step_lines p.blocks p.steps (empty_image p.blocks) 0) (refused_line (rule_number rule.Script))) (its-script ts f);
    }
    go none f h = absurd (true≢false (sym h))

-- what was judged of a script, as it is told
pub judged-right : (s : List ℕ) {x : code.Option Form} {f : Form} → x ≡ code.Some f → (form_of s x ≡ script_of s) × Holds s x
    → (form_of s (code.Some f) ≡ script_of s) × Holds s (code.Some f)
judged-right s e l = rw e at l

pub judged-wrong : (s : List ℕ) {x : code.Option Form} → x ≡ code.None → form_of s x ≡ script_of s → refused_line (rule_number rule.Script) ≡ season_text s
unfolding season_text form_of
judged-wrong s {x} e l =
    ap (λ (o : Option Script). on_some o (λ p. step_lines p.blocks p.steps (empty_image p.blocks) 0) (refused_line (rule_number rule.Script)))
    (ap (form_of s) (sym e) ∙ l)

pub underway-none : {s : List ℕ} {b count from : ℕ} (out : List ℕ) → Stepping s b count from → Underway s b (season_text s) count from (empty_image b) 0 out out 0
underway-none out p = record { steps = p.steps; there = p.there; text = partly_none 0 out p.text }

module _ {s : List ℕ} {b : ℕ} {whole : List ℕ} {left at : ℕ} {img : List ℕ} {erases : ℕ} {before out : List ℕ} {next : ℕ}
    (u : Underway s b whole (suc left) at img erases before out next) {x : code.Option (Asked × ℕ)} (read : step_of s x ≡ step_at (drop at s)) where
  -- there is a step
  pub never-missing : x ≡ code.None → ⊥
  never-missing h = true≢false (sym (ap is_some u.there) ∙ none-there s at x read left h)

  -- and its line is the next piece of the text
  pub underway-next : {a : Asked} {k : ℕ} {out' : List ℕ} {next' : ℕ} → x ≡ code.Some (a, k) → Wrote (line_of erases (step_played b (step_in s a) img)) next out out' next'
      → Underway s b whole left k (step_played b (step_in s a) img).image (erases + (step_played b (step_in s a) img).erases) before out' next'
  unfolding step_lines
  underway-next {a} {k} {out'} {next'} h w = go (steps_at left (drop k s)) refl (sym (first-there s at x read left a k h) ∙ u.there)
    where
      go : (o : Option (List Step)) → steps_at left (drop k s) ≡ o → on_some o (λ ts. some (step_in s a ∷ ts)) none ≡ some u.steps
          → Underway s b whole left k (step_played b (step_in s a) img).image (erases + (step_played b (step_in s a) img).erases) before out' next'
      go (some ts) f e = let same : u.steps ≡ step_in s a ∷ ts = cc in record {
        steps = ts;
        there = f;
        text = partly-next u.text (ap (λ (l : List Step). step_lines b l img erases) same) w;
      }
      go none f e = let z : ◌≡◌ {A = ℕ} 0 1 = cc in absurd (omega arith)

-- no step is left
pub underway-all : {s : List ℕ} {b : ℕ} {whole : List ℕ} {at : ℕ} {img : List ℕ} {erases : ℕ} {before out : List ℕ} {next : ℕ}
    → Underway s b whole 0 at img erases before out next → Wrote whole 0 before out next
unfolding step_lines steps_at
underway-all {s} {b} {at = at} {img} {erases} u = partly-all u.text (ap (λ (l : List Step). step_lines b l img erases) (go (is_empty (drop at s)) u.there))
  where
    go : (t : Bool) → cond t (some []) none ≡ some u.steps → u.steps ≡ []
    go true e = cc
    go false e = let z : ◌≡◌ {A = ℕ} 0 1 = cc in absurd (omega arith)
