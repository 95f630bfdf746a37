-- `profile::shares_name` meets its contract: each item is searched for among those after it. Assumes nothing.
use Prim.Native.Nat.{ℕ}
use native.Mathlib.Omega.{arith}
use native.Mathlib.Nat.{zero-add}
use mathlib.Core.Path.{◌≡◌, refl, sym, ◌∙◌}
use lib.ListN.{length}
use Rattle.std.proofs.Common.{rules}
use Rattle.std.proofs.lemmas.Iterator.{YieldsList-from_range}
use Rattle.std.proofs.lemmas.Iterator.Search.{any_from_yields_List}
use Rattle.std.specs.List.{list_any, range_with_len}
use Rattle.profile.specs.Reader.{requests_in}
use Rattle.profile.proofs.Keys.{recurs_in, from_first, shares-searched}
use Rattle.profile.proofs.shares_name.Goals as goal

pub returns : goal.returns
unfolding requests_in
returns c =
    let a = c.args in
    let eight : length a.p.list ≡ 8 = omega arith in
    let test = λ (i : ℕ). recurs_in a.file.now a.p.list a.p.count i in
    let chain = YieldsList-from_range 0 a.p.count a.p.count refl (omega arith) in
    let searched : c.any.result ≡ list_any test (range_with_len 0 a.p.count) = any_from_yields_List test _ _ c.any.result c.any.ensures.ran chain (λ x b q k. search rules) in
    searched
    ∙ shares-searched a.file.now a.p.list a.p.count eight c.requires a.p.count 0 (zero-add a.p.count)
    ∙ sym (from_first a.file.now a.p.list a.p.count)
