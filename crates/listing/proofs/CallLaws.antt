-- How first way and next way begin: the plan's causes, then 12, 14, 6, 7 and 8 of the call, then the work. Assumes nothing.
use Prim.Native.Nat.{ℕ, ◌<◌}
use native.Mathlib.Omega.{arith}
use mathlib.Core.Path.{◌≡◌, sym, ap, ◌∙◌}
use mathlib.Core.List.{List}
use lib.ListN.{length}
use Rattle.temporal.specs.Cause.{first, plan_fault, plan_causes}
use Rattle.temporal.specs.Cursor.{refused, Operation}
use Rattle.temporal.specs.FirstNext.{Question, way_causes, WayOutcome, way_work, way_answer}
use Rattle.temporal.proofs.CauseLaws.{first_append_none, first_append_some}
use Rattle.walks.proofs.EnteredLaws.{unless_some, unless_none}
use Rattle.plan.specs.Fault.{plan_number, call_number, check_number}
use Rattle.plan.specs.declared.PlanFault.{PlanFault}
use Rattle.plan.specs.declared.CallFault.{CallFault}
use Rattle.std.specs.Prelude.{Result, Ok, Err}
use Rattle.plan.proofs.Answers.{number-positive, call-number-within}
use Rattle.calls.specs.Call.{pair_call_fault, call_check_number}
use Rattle.calls.proofs.CallLaws.{free_call}
use Rattle.listing.specs.Work.{WayReady, way_outcome}

-- a plan that check accepts
pub accepted_plan : (bs : List ℕ) (n t : ℕ) (r : Result (Unit {0}) PlanFault) → check_number r ≡ plan_fault bs n t
    → {x : Unit {0}} → r ≡ Ok x
    → plan_fault bs n t ≡ 0
accepted_plan bs n t r answer e = sym answer ∙ ap check_number e

module _ (o : Operation) (q : Question) (way work : List ℕ) where
  -- the plan's fault, the call's, and a refusal
  abbrev plan_fault_of : ℕ
  plan_fault_of = plan_fault q.bytes q.stations q.slots

  abbrev call_fault_of : ℕ
  call_fault_of =
      pair_call_fault q.stations q.slots q.terms q.source q.destination (length way) q.slots (length work)

  abbrev refusal : ℕ → WayOutcome
  refusal k = way_outcome (refused k) way work

  -- a plan's cause decides; where there is none, the call's does
  plan_decides : 0 < plan_fault_of → first (way_causes q (length way) (length work)) ≡ plan_fault_of
  unfolding way_causes plan_fault
  plan_decides h = first_append_some (plan_causes q.bytes q.stations q.slots) _ h

  call_decides : plan_fault_of ≡ 0 → first (way_causes q (length way) (length work)) ≡ call_fault_of
  unfolding way_causes plan_fault pair_call_fault
  call_decides ok = first_append_none (plan_causes q.bytes q.stations q.slots) _ ok

  -- a plan that check refuses
  pub way_plan : (r : Result (Unit {0}) PlanFault) (f : PlanFault) → check_number r ≡ plan_fault_of → r ≡ Err f
      → way_outcome (refused (plan_number f)) way work ≡ way_answer o q way work
  unfolding way_answer
  way_plan r f answer e =
      let number : plan_number f ≡ plan_fault_of = ap check_number (sym e) ∙ answer in
      let some = number-positive f in
      ap refusal number ∙
      sym (rw (plan_decides (omega arith)) (unless_some plan_fault_of refusal (way_work o q way work) (omega arith)))

  module _ (ok : plan_fault_of ≡ 0) where
    -- a call that 12, 14, 6, 7 or 8 refuses
    pub way_call : (r : Result (Unit {0}) CallFault) (f : CallFault) → call_check_number r ≡ call_fault_of → r ≡ Err f
        → way_outcome (refused (call_number f)) way work ≡ way_answer o q way work
    unfolding way_answer
    way_call r f answer e =
        let number : call_number f ≡ call_fault_of = ap call_check_number (sym e) ∙ answer in
        let some = call-number-within f in
        ap refusal number ∙
        sym (rw (call_decides ok) (unless_some call_fault_of refusal (way_work o q way work) (omega arith)))

    module _ (r : Result (Unit {0}) CallFault) (answer : call_check_number r ≡ call_fault_of) {x : Unit {0}} (e : r ≡ Ok x) where
      -- a call that 1 to 5, 12, 14 and 6 to 8 do not refuse does the work
      pub way_works : way_answer o q way work ≡ way_work o q way work
      unfolding way_answer
      way_works =
          let none : call_fault_of ≡ 0 = sym answer ∙ ap call_check_number e in
          rw (call_decides ok) (unless_none call_fault_of refusal (way_work o q way work) none)

      -- it is ready for the work
      pub way_ready : WayReady q way work
      way_ready =
          let none : call_fault_of ≡ 0 = sym answer ∙ ap call_check_number e in
          let free =
          free_call q.stations q.slots q.terms q.source q.destination
          (length way) q.slots (length work) none in
          record {
            asked = record {
              accepted = ok;
              source = free.source;
              destination = free.destination;
              different = free.different;
            };
            units = free.units;
            room = free.lent_room;
            area = free.area_room;
          }
