-- The numbers of faults are above 0 and at most 17; and what an answer to one record says about the plan: a refused record decides,
-- an accepted one is passed over.
-- Assumes nothing.
use Prim.Native.Nat.{ℕ, ◌+◌, ◌<◌, ◌≤◌}
use mathlib.Core.Path.{◌≡◌, sym, ap, subst, ◌∙◌}
use mathlib.Core.List.{List}
use native.Mathlib.Omega.{arith}
use lib.Dec.{lit<}
use Rattle.temporal.specs.Bytes.{records}
use Rattle.temporal.specs.Cause.{first, record_causes, plan_fault}
use Rattle.walks.proofs.CheckLaws.{fault_from, records_pass, records_stop}
use Rattle.plan.specs.Fault.{plan_number, call_number, fault_number, check_number}
use Rattle.plan.specs.declared.PlanFault.{PlanFault}
use Rattle.plan.specs.declared.PlanFault.TheVariants as plan-fault
use Rattle.plan.specs.declared.CallFault.{CallFault}
use Rattle.plan.specs.declared.CallFault.TheVariants as call-fault
use Rattle.plan.specs.declared.Fault.{Fault}
use Rattle.plan.specs.declared.Fault.TheVariants as fault
use Rattle.std.specs.Prelude.{Result, Ok, Err}
use Rattle.std.specs.Result.{IsErrAnd}

-- no fault has the number 0
pub number-positive : (f : PlanFault) → 0 < plan_number f
number-positive plan-fault.Limits = lit< tt
number-positive plan-fault.Length = lit< tt
number-positive plan-fault.Slot = lit< tt
number-positive plan-fault.Ends = lit< tt
number-positive plan-fault.Order = lit< tt

pub plan-number-small : (f : PlanFault) → plan_number f ≤ 5
plan-number-small plan-fault.Limits = omega arith
plan-number-small plan-fault.Length = omega arith
plan-number-small plan-fault.Slot = omega arith
plan-number-small plan-fault.Ends = omega arith
plan-number-small plan-fault.Order = omega arith

pub call-number-within : (f : CallFault) → (0 < call_number f) × (call_number f ≤ 17)
call-number-within call-fault.Station = (omega arith, omega arith)
call-number-within call-fault.SameStation = (omega arith, omega arith)
call-number-within call-fault.Short = (omega arith, omega arith)
call-number-within call-fault.TooMany = (omega arith, omega arith)
call-number-within call-fault.NotShortestPath = (omega arith, omega arith)
call-number-within call-fault.SetByte = (omega arith, omega arith)
call-number-within call-fault.Turnaround = (omega arith, omega arith)
call-number-within call-fault.Sources = (omega arith, omega arith)
call-number-within call-fault.Keeping = (omega arith, omega arith)
call-number-within call-fault.Channels = (omega arith, omega arith)
call-number-within call-fault.Untaken = (omega arith, omega arith)
call-number-within call-fault.Position = (omega arith, omega arith)

pub fault-number-within : (f : Fault) → (0 < fault_number f) × (fault_number f ≤ 17)
fault-number-within (fault.Plan f) = (number-positive f, omega (arith, plan-number-small f))
fault-number-within (fault.Call f) = call-number-within f

module _ (bs : List ℕ) (n t i : ℕ) (inside : i < records bs) (rest : plan_fault bs n t ≡ fault_from bs n t i)
    (r : Result (Unit {0}) PlanFault) (answer : check_number r ≡ first (record_causes bs n t i)) where
  pub refused-decides : (f : PlanFault) → r ≡ Err f → plan_number f ≡ plan_fault bs n t
  refused-decides f e =
      let here : plan_number f ≡ first (record_causes bs n t i) = ap check_number (sym e) ∙ answer in
      here ∙ sym (rest ∙ records_stop bs n t i inside (subst (λ k. 0 < k) here (number-positive f)))

  pub accepted-passes : r ≡ Ok tt → plan_fault bs n t ≡ fault_from bs n t (i + 1)
  accepted-passes e = rest ∙ records_pass bs n t i inside (sym answer ∙ ap check_number e)

-- what the exit of a `?` answers
pub err_is : {A E : Type 0} (r : Result A E) (e : E) → IsErrAnd r (λ y. y ≡ e) → r ≡ Err e
err_is (Ok x) e h = absurd h
err_is (Err y) e h = ap Err h
