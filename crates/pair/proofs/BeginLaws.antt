-- How an operation with pair's arguments and buffers begins: the plan's causes, then 12, 14, 6, 7 and 8, then the work. Assumes nothing.
use Prim.Native.Nat.{ℕ}
use native.Mathlib.Omega.{arith}
use mathlib.Core.Path.{◌≡◌, sym, ap, ◌∙◌}
use mathlib.Core.Bool.{◌||◌}
use mathlib.Core.List.{List, ◌++◌}
use lib.ListN.{length}
use Rattle.temporal.specs.Plan.{Terms}
use Rattle.temporal.specs.Cause.{plan_fault, plan_causes, pair_causes}
use Rattle.temporal.specs.Outcome.{Outcome, entered, short, work_size}
use Rattle.temporal.specs.OutcomePair.{PairBuffers}
use Rattle.walks.proofs.EnteredLaws.{entered_plan, entered_call, unless_some, unless_none, refused_with}
use Rattle.plan.specs.Fault.{plan_number, call_number, check_number}
use Rattle.plan.specs.declared.PlanFault.{PlanFault}
use Rattle.plan.specs.declared.CallFault.{CallFault}
use Rattle.plan.proofs.Answers.{number-positive, call-number-within}
use Rattle.calls.specs.Call.{pair_call_fault, call_check_number}
use Rattle.std.specs.Prelude.{Result, Ok, Err}
use Rattle.calls.proofs.CallLaws.{free_call}
use Rattle.pair.specs.Answer.{pair_buffers}
use Rattle.pair.specs.Throughs.{PairReady}

-- an accepted plan and a free call are what counting asks
pub call_free :
    (bs : List ℕ) (n t : ℕ) (terms : Terms) (s z : ℕ) (table area : List ℕ) → plan_fault bs n t ≡ 0 → (r : Result (Unit {0}) CallFault) →
    call_check_number r ≡ pair_call_fault n t terms s z (length table) n (length area) → r ≡ Ok tt →
    PairReady bs n t terms s z table area
call_free bs n t terms s z table area ok r answer e =
    let f = free_call n t terms s z (length table) n (length area) (sym answer ∙ ap call_check_number e) in
    record {
      accepted = ok;
      units = f.units;
      source = f.source;
      destination = f.destination;
      different = f.different;
      table = f.lent_room;
      area = f.area_room;
    }

module _ (bs : List ℕ) (n t : ℕ) (terms : Terms) (s z : ℕ) (table area : List ℕ) {Values : Type 0} (zeros : Values)
    (work : Outcome Values PairBuffers) where
  -- the operation, from its work
  abbrev begun : Outcome Values PairBuffers
  begun =
      entered (plan_causes bs n t ++ pair_causes terms n s z (short n table || short (work_size n t) area)) zeros (pair_buffers table area) work

  -- a plan that check refuses
  pub begins_plan :
      (r : Result (Unit {0}) PlanFault) (f : PlanFault) → check_number r ≡ plan_fault bs n t → r ≡ Err f →
      ◌≡◌ {A = Outcome Values PairBuffers}
      (record { number = plan_number f; values = zeros; buffers = pair_buffers table area }) begun
  begins_plan r f answer e =
      let number : plan_number f ≡ plan_fault bs n t = ap check_number (sym e) ∙ answer in
      let some = number-positive f in
      ap (refused_with zeros (pair_buffers table area) work) number ∙
      sym (entered_plan zeros (pair_buffers table area) work bs n t _ (omega arith))

  module _ (ok : plan_fault bs n t ≡ 0) (r : Result (Unit {0}) CallFault)
      (answer : call_check_number r ≡ pair_call_fault n t terms s z (length table) n (length area)) where
    -- 12, 14, 6, 7 or 8
    pub begins_call :
        (f : CallFault) → r ≡ Err f →
        ◌≡◌ {A = Outcome Values PairBuffers}
        (record { number = call_number f; values = zeros; buffers = pair_buffers table area }) begun
    unfolding entered pair_call_fault
    begins_call f e =
        let number : call_number f ≡ pair_call_fault n t terms s z (length table) n (length area) = ap call_check_number (sym e) ∙ answer in
        let some = call-number-within f in
        ap (refused_with zeros (pair_buffers table area) work) number ∙
        sym (entered_call zeros (pair_buffers table area) work bs n t _ ok ∙ unless_some _ _ _ (omega arith))

    -- none of them
    pub begins_works : r ≡ Ok tt → begun ≡ work
    unfolding entered pair_call_fault
    begins_works e =
        entered_call zeros (pair_buffers table area) work bs n t _ ok ∙ unless_none _ _ _ (sym answer ∙ ap call_check_number e)
