-- A host whose sets are planned under the shares of a setup keeps to them, as a run does.
-- Assumes nothing.
use Prim.Native.Nat.{ℕ, ◌*◌}
use mathlib.Core.Path.{◌≡◌, sym, ap, ◌∙◌, subst}
use mathlib.Core.Bool.{true}
use mathlib.Core.List.{List}
use lib.ListN.{length}
use Rattle.model.specs.declared.Setup.{Setup}
use Rattle.model.specs.Image.{block, blocks, region_size}
use Rattle.model.specs.Entry.{Value}
use Rattle.model.specs.Region.{values_of}
use Rattle.model.specs.Sides.{allotted}
use Rattle.model.specs.Answers.{stores_of, decided}
use Rattle.model.specs.Book.{plan_of, book_after}
use Rattle.recovery.specs.Host.{Hosting, none_yet, carried-out, power-failed, AllPlannedInShares, HostSharesKept}
use Rattle.recovery.proofs.Invariant.{Holding, holding-blocks}
use Rattle.recovery.proofs.StartingUp.{Ready}
use Rattle.recovery.proofs.Shares.{Within, within_of, within-is}
use Rattle.recovery.proofs.Usable.{size_of, cut-feeds, fed-within}
use Rattle.recovery.proofs.Host.{hosting-holds, host-begins, told-carried, told-decided, host-keeps-the-book}

hosting-within : (u : Setup) (start : List ℕ) → Ready start → Within u (block * blocks start) (values_of start) → {part : List ℕ} {book : List Value}
    → (hosting : Hosting start part book) → AllPlannedInShares u hosting → Within u (block * blocks start) book
hosting-within u start ready w none_yet a = w
hosting-within u start ready w (carried-out {part} {book} hosting c sized content p planned width) a =
    let holds = hosting-holds start ready hosting in
    let size = size_of book part holds in
    let here = subst (λ (n : ℕ). Holding n book part) (sym (holding-blocks (blocks start) book part holds)) holds in
    let k = length (stores_of width (plan_of c part)) in
    subst (Within u (block * blocks start)) (told-carried width book part c sized here content p planned)
    (subst (λ (n : ℕ). Within u n (book_after c (decided width k (plan_of c part)) book)) size
    (fed-within u c part book sized a.1 holds (subst (λ (n : ℕ). Within u n book) (sym size) (hosting-within u start ready w hosting a.0)) (λ q. decided width k q) (cut-feeds width k)))
hosting-within u start ready w (power-failed {part} {part'} {book} hosting c sized content p planned width k left) a =
    let holds = hosting-holds start ready hosting in
    let size = size_of book part holds in
    let here = subst (λ (n : ℕ). Holding n book part) (sym (holding-blocks (blocks start) book part holds)) holds in
    subst (Within u (block * blocks start)) (told-decided width book part c sized here content p planned k)
    (subst (λ (n : ℕ). Within u n (book_after c (decided width k (plan_of c part)) book)) size
    (fed-within u c part book sized a.1 holds (subst (λ (n : ℕ). Within u n book) (sym size) (hosting-within u start ready w hosting a.0)) (λ q. decided width k q) (cut-feeds width k)))

pub host-shares-kept : HostSharesKept
unfolding region_size
host-shares-kept u start part content book p begun fits hosting a planned =
    let ready = host-begins start begun in
    let w = hosting-within u start ready (within_of u (block * blocks start) (values_of start) fits) hosting a in
    let size = size_of book part (hosting-holds start ready hosting) in
    let here : allotted u (region_size part) book ≡ true = ap (λ (n : ℕ). allotted u n book) size ∙ within-is u (block * blocks start) book w in
    (here, (host-keeps-the-book u start part content book p begun hosting planned).1 here)
