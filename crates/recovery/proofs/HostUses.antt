-- A session that a host uses is a history too: what it carries out to its end leaves the same for every w, so it is what the call does with stores of one byte and no dead byte.
-- Assumes nothing.
use Prim.Native.Nat.{ℕ}
use native.Mathlib.Omega.{arith}
use mathlib.Core.Path.{◌≡◌, refl, sym, ap, ◌∙◌, subst}
use mathlib.Core.Bool.{Bool, true, cond}
use mathlib.Core.List.{List, [], ◌++◌}
use mathlib.Core.Option.{Option, none, some}
use lib.ListN.{length}
use lib.Seq.{take-nil}
use lib.Dec.{eqb, leb}
use borrow.Author.Tests.{le-leb}
use Rattle.model.specs.declared.Rule.{Rule}
use Rattle.model.specs.Region.{values_of}
use Rattle.model.specs.Session.{fresh_session}
use Rattle.model.specs.Rules.{start_up_broken}
use Rattle.model.specs.Stores.{Store, Write, stores, apply_all, after, width_of}
use Rattle.model.specs.Set.{Plan, refuse, make}
use Rattle.model.specs.StartUp.{start_up_plan, start_up_stores}
use Rattle.model.specs.Answers.{Outcome, done, stopped, refused, rule_number, outcome, image_after, stores_of}
use Rattle.model.specs.Book.{Call, Sized, call_broken, plan_of}
use Rattle.model.proofs.Stores.{after-all}
use Rattle.model.proofs.Failing.{unworn, outcome-none, image-none}
use Rattle.model.proofs.Requests.{start_up-length, start_up-ready}
use Rattle.plan.specs.declared.HostPlan.{HostPlan}
use Rattle.plan.specs.Told.{refusal_of, Told}
use Rattle.recovery.specs.Tenants.{to_its_end, but_stores}
use Rattle.recovery.specs.Interface.{Apart}
use Rattle.recovery.specs.Host.{carried_out, answer_told, CallCarriedOut, HostNoInterference}
use Rattle.recovery.proofs.EveryCall.{plan-refused}
use Rattle.recovery.proofs.StartingUp.{Ready, ready-holds, start_up-any}
use Rattle.recovery.proofs.Theorem.{call_kept, start_up-plan, start_up-refused}
use Rattle.recovery.proofs.Done.{kept-left}
use Rattle.recovery.proofs.Uses.{Ends, used-apart}
use Rattle.recovery.proofs.Host.{told-stores, no-rule-zero, told-accepted, start_up-told}

-- a plan that stores, all of it
all_done : (plan : Plan) (to on : List Write) (img : List ℕ) → plan ≡ make to on
    → (outcome (unworn (length (stores_of (width_of 1) plan))) plan img ≡ done (length (stores_of (width_of 1) plan)))
    × (image_after (unworn (length (stores_of (width_of 1) plan))) plan img ≡ apply_all (stores_of (width_of 1) plan) img)
unfolding stores_of
all_done plan to on img e =
    let ss : List Store = stores_of (width_of 1) plan in
    let n = length ss in
    let same : ss ≡ stores (width_of 1) (to ++ on) = ap (stores_of (width_of 1)) e in
    let enough : leb (length (stores (width_of 1) (to ++ on))) n ≡ true = le-leb (length (stores (width_of 1) (to ++ on))) n (let l = ap length same in omega arith) in (
      ap (λ (p : Plan). outcome (unworn n) p img) e
          ∙ outcome-none (unworn n) to on img refl
          ∙ ap (λ (t : Bool). cond t (done (length (stores (width_of 1) (to ++ on)))) stopped) enough
          ∙ ap done (ap length (sym same)),
      image-none (unworn n) plan img refl ∙ after-all n ss img (omega arith),
    )

module _ (c : Call) (part part' : List ℕ) (o : Outcome) (ready : Ready part) (sized : Sized c) (content : List ℕ) (p : HostPlan) (w : ℕ) (planned : Told (plan_of c part) content p)
    (left : part' ≡ carried_out w content p part) (told : answer_told p ≡ o) (whole : to_its_end o ≡ true) where
  left_by : part' ≡ apply_all (stores_of w (plan_of c part)) part
  left_by = left ∙ ap (λ (ss : List Store). apply_all ss part) (told-stores w (plan_of c part) content p planned)

  refused-ends : (rule : Rule) → plan_of c part ≡ refuse rule → Ends c part part' o
  unfolding outcome image_after stores_of after apply_all refusal_of
  refused-ends rule e =
      let numbers : p ≡ refusal_of rule = subst (λ (q : Plan). Told q content p) e planned in
      let said : answer_told p ≡ refused (rule_number rule) = ap answer_told numbers ∙ ap (λ (t : Bool). cond t (done 0) (refused (rule_number rule))) (no-rule-zero rule) in
      let same : outcome (unworn 0) (plan_of c part) part ≡ o = ap (λ (q : Plan). outcome (unworn 0) q part) e ∙ sym said ∙ told in
      record {
        context = unworn 0;
        same = ap but_stores same;
        whole = ap to_its_end same ∙ whole;
        left = ap (λ (q : Plan). image_after (unworn 0) q part) e ∙ rw take-nil (sym (left_by ∙ ap (λ (q : Plan). apply_all (stores_of w q) part) e));
      }

  done-ends : call_broken c part ≡ none → Ends c part part' o
  done-ends e =
      let k = call_kept c part (values_of part) sized e (ready-holds part ready) in
      let d = all_done (plan_of c part) k.to k.on part k.plan in
      let numbers : Told (make k.to k.on) content p = subst (λ (q : Plan). Told q content p) k.plan planned in
      let said : done 0 ≡ o = sym (ap (λ (n : ℕ). cond (eqb n 0) (done 0) (refused n)) numbers.0) ∙ told in
      record {
        context = unworn (length (stores_of (width_of 1) (plan_of c part)));
        same = ap but_stores d.0 ∙ ap but_stores said;
        whole = ap to_its_end d.0;
        left = d.1 ∙ kept-left c part (values_of part) k (width_of 1) ∙ sym (kept-left c part (values_of part) k w) ∙ sym left_by;
      }

  carried-ends : Ends c part part' o
  carried-ends = go (call_broken c part) refl
    where
      go : (b : Option Rule) → call_broken c part ≡ b → Ends c part part' o
      go none e = done-ends e
      go (some rule) e = refused-ends rule (plan-refused c part rule e)

pub host-no-interference : HostNoInterference
unfolding stores_of
host-no-interference setup before content p planned zero w = go (start_up_broken setup before) refl
  where
    goes : start_up_broken setup before ≡ none → Apart CallCarriedOut setup (record { session = fresh_session setup; image = carried_out w content p before })
    goes e =
        let plan = start_up-plan setup before e in
        let d = all_done (start_up_plan setup before) [] (start_up_stores before) before plan in
        let up = (start_up-any before (start_up-length setup before e) (start_up-ready setup before e)).up in
        let n = length (stores_of (width_of 1) (start_up_plan setup before)) in
        let left : image_after (unworn n) (start_up_plan setup before) before ≡ carried_out w content p before =
        d.1
        ∙ ap (λ (q : Plan). apply_all (stores_of (width_of 1) q) before) plan
        ∙ up.goes.left (width_of 1)
        ∙ sym (start_up-told setup w before content p e planned ∙ up.goes.left w) in
        used-apart CallCarriedOut (λ c i j o ready sized start ran whole. carried c i j o ready sized ran whole) setup before (unworn n) n d.0 (carried_out w content p before) left
      where
        carried : (c : Call) (i j : List ℕ) (o : Outcome) → Ready i → Sized c → CallCarriedOut c i j o → to_its_end o ≡ true → Ends c i j o
        carried c i j o ready sized (content, p, w, planned, left, told) whole = carried-ends c i j o ready sized content p w planned left told whole

    go : (b : Option Rule) → start_up_broken setup before ≡ b → Apart CallCarriedOut setup (record { session = fresh_session setup; image = carried_out w content p before })
    go none e = goes e
    go (some rule) e = absurd (told-accepted (start_up_plan setup before) content p planned zero rule (start_up-refused setup before rule e))
