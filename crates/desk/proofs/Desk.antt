-- What the desk's session says to a set, and the image that formatting leaves.
-- Assumes nothing.
use Prim.Native.Nat.{ℕ, ◌+◌, ◌*◌, ◌-◌, ◌≤◌}
use native.Mathlib.Omega.{arith}
use mathlib.Core.Path.{◌≡◌, refl, sym, ap, ap₂, ◌∙◌}
use mathlib.Core.Bool.{Bool, true, false, ◌&&◌}
use mathlib.Core.List.{List, [], ◌++◌, append-nil}
use native.Mathlib.Nat.{mul-zero}
use lib.ListN.{length, replicate, length-append, length-replicate, replicate-append-replicate}
use borrow.Author.Tests.{le-leb, eq-eqb}
use Rattle.model.specs.declared.Terms.{Terms}
use Rattle.model.specs.Name.{Key}
use Rattle.model.specs.Layout.{signature}
use Rattle.model.specs.Image.{block, blocks, right_length, region_size, region_header_def, region_header_in, region_header_size}
use Rattle.model.specs.Session.{no_locks_def, no_sizes_def, kept, fresh_session}
use Rattle.model.specs.Rules.{first_broken, rule1, format_broken}
use Rattle.model.specs.Stores.{Store, stores, apply_all, erases, run, width_of}
use Rattle.model.specs.Set.{make}
use Rattle.model.specs.StartUp.{format_stores, format_plan}
use Rattle.model.specs.Answers.{stores_of, image_after}
use Rattle.model.specs.Beside.{Says}
use Rattle.model.proofs.Tests.{true-and}
use Rattle.model.proofs.Stores.{stores-append, stores_run, stores-todays, apply_all-append, after-all}
use Rattle.model.proofs.Pages.{pages-few}
use Rattle.model.proofs.Segments.{erases-segment, run-segment}
use Rattle.model.proofs.Failing.{image-none}
use Rattle.session.specs.Places.{held_from}
use Rattle.session.specs.Said.{barred_by, terms_by, terms_with}
use Rattle.session.proofs.Phases.{terms-said}
use Rattle.desk.proofs.Erasing.{length-erases}
use Rattle.desk.specs.Season.{empty_image, no_tenant_def, no_limits_def, desk_setup, desk_session, desk_context}

-- ---- the session

no-bar : (t : Bool) → (t && false) ≡ false
no-bar true = refl
no-bar false = refl

unbarred : (used : ℕ) (sizes locks : List ℕ) (k : Key) → barred_by 0 used sizes locks k ≡ false
unfolding barred_by
unbarred used sizes locks k = no-bar (held_from sizes locks used k 0)

pub desk-says : (b : ℕ) (k : Key) {said t : Terms} → said ≡ terms_by false 0 0 0 0 (block * b - region_header_size) no_tenant_def 0 → t ≡ terms_with said false k
    → Says false (desk_session b) k t no_limits_def
unfolding desk_session desk_setup fresh_session kept
desk-says b k e f = (terms-said false (desk_session b) k ∙ ap₂ (λ (x : Terms) (y : Bool). terms_with x y k) (sym e) (unbarred 0 no_sizes_def no_locks_def k) ∙ sym f, refl)

-- ---- the empty image

header-long : (n : ℕ) → length (region_header_def n) ≡ 28
unfolding region_header_in signature
header-long n = refl

module _ (b : ℕ) (img : List ℕ) (low : 1 ≤ b) (high : b ≤ 7) (long : length img ≡ block * (2 * b + 1)) where
  pub desk-blocks : blocks img ≡ b
  unfolding blocks block
  desk-blocks = rw long (omega arith)

  pub desk-size : region_size img ≡ block * b
  unfolding region_size
  desk-size = ap (λ (n : ℕ). block * n) desk-blocks

  right : right_length img ≡ true
  unfolding right_length block
  right = rw desk-blocks (true-and (true-and (le-leb 1 b low) (le-leb b 7 high)) (eq-eqb (length img) (4096 * (2 * b + 1)) long))

  accepted : format_plan img ≡ make [] (format_stores img)
  unfolding format_plan format_broken first_broken rule1
  accepted = rw right

  listed : stores_of 1 (format_plan img) ≡ stores 1 (erases 0 (2 * b + 1)) ++ stores 1 (run 0 (region_header_def (block * b)))
  unfolding stores_of format_stores
  listed =
      ap (stores_of 1) accepted
      ∙ rw (desk-blocks, desk-size) (stores-append 1 (erases 0 (2 * b + 1)) (run 0 (region_header_def (block * b))))

  few : length (stores_of 1 (format_plan img)) ≤ 43
  few =
      let header : List ℕ = region_header_def (block * b) in
      let pages = pages-few 1 0 header in
      let bytes = header-long (block * b) in
      let blocks = ap length (stores-todays (erases 0 (2 * b + 1))) ∙ length-erases 0 (2 * b + 1) in
      rw (listed, length-append, stores_run 1 0 header) (omega arith)

  wide : 28 ≤ block * (2 * b + 1)
  unfolding block
  wide = omega arith

  wiped : apply_all (stores 1 (erases 0 (2 * b + 1))) img ≡ replicate (block * (2 * b + 1)) 0xFF
  wiped =
      ap (apply_all (stores 1 (erases 0 (2 * b + 1)))) (sym (append-nil img))
      ∙ erases-segment 1 0 (2 * b + 1) [] img [] (sym (mul-zero block)) long
      ∙ append-nil (replicate (block * (2 * b + 1)) 0xFF)

  split : replicate {A = ℕ} (block * (2 * b + 1)) 0xFF ≡ replicate 28 0xFF ++ replicate (block * (2 * b + 1) - 28) 0xFF
  split =
      let m : ℕ = block * (2 * b + 1) in
      let e : m ≡ 28 + (m - 28) = omega (arith, wide) in
      ap (λ (k : ℕ). replicate k 0xFF) e ∙ sym (replicate-append-replicate 28 (m - 28) 0xFF)

  -- *what formatting leaves, to its end*
  pub formatted : (n : ℕ) → 43 ≤ n → image_after (desk_context n) (format_plan img) img ≡ empty_image b
  unfolding empty_image desk_context width_of
  formatted n enough =
      let header : List ℕ = region_header_def (block * b) in
      let same : length (replicate {A = ℕ} 28 0xFF) ≡ length header = length-replicate {A = ℕ} 28 0xFF ∙ sym (header-long (block * b)) in
      image-none (desk_context n) (format_plan img) img refl
      ∙ after-all n (stores_of 1 (format_plan img)) img (omega (arith, few))
      ∙ ap (λ (ss : List Store). apply_all ss img) listed
      ∙ apply_all-append (stores 1 (erases 0 (2 * b + 1))) (stores 1 (run 0 header)) img
      ∙ ap (apply_all (stores 1 (run 0 header))) (wiped ∙ split)
      ∙ run-segment 1 [] (replicate 28 0xFF) (replicate (block * (2 * b + 1) - 28) 0xFF) header same
