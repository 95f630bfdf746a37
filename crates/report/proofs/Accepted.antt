-- What the check of an image tells the report: a refused one is reported by its rule, and of an accepted one the region is the part that is cut, with
-- the tail within it.
-- Assumes nothing.
use Prim.Native.Nat.{ℕ, ◌*◌, ◌≤◌}
use native.Mathlib.Omega.{arith}
use mathlib.Core.Path.{◌≡◌}
use mathlib.Core.List.{List, ◌++◌}
use lib.ListN.{length}
use Rattle.model.specs.declared.Layout.{Layout}
use Rattle.model.specs.Lists.{part}
use Rattle.model.specs.Image.{block, region_size, region}
use Rattle.model.specs.Region.{entries_in, values, values_in}
use Rattle.model.specs.Answers.{rule_number}
use Rattle.model.specs.declared.Rule.{Rule}
use Rattle.image.specs.Check.{call_in}
use Rattle.image.specs.declared.Ready.{Ready}
use Rattle.std.specs.Prelude.{Ok, Err}
use Rattle.image.proofs.Readiness.{refused-rule, is-ready}
use Rattle.report.specs.Varlist.{summary_line, value_lines, refused_line, store_text, list_text}

-- a refused image
pub refused-text : (y : Layout) (img : List ℕ) (rule : Rule) → call_in y img ≡ Err rule → refused_line (rule_number rule) ≡ list_text y img
unfolding list_text
refused-text y img rule p = rw (refused-rule y img rule p)

-- an accepted one
pub record Accepted (y : Layout) (img : List ℕ) (b t : ℕ) : Type 0 where
  pub few : b ≤ 7
  pub cut : part 0 (4096 * b) img ≡ region img
  pub long : length (region img) ≡ 4096 * b
  pub tail-low : t ≤ 28672
  pub text : summary_line (length (region img)) t (length (values (entries_in y (region img)))) ++ value_lines (values (entries_in y (region img))) ≡ list_text y img

pub accepted : (y : Layout) (img : List ℕ) {ready : Ready} → call_in y img ≡ Ok ready → Accepted y img ready.blocks ready.tail
unfolding list_text store_text values_in region_size block
accepted y img p =
    let r = is-ready y p in
    record {
      few = r.few;
      cut = r.cut;
      long = r.long;
      tail-low = omega (arith, r.few, r.long, r.tail_within);
      text = rw (r.unbroken, r.long, r.number, r.tail-at);
    }
