-- Document 01's number for each fault and for each answer. Definitions only.
-- Assumes nothing.
use Rattle.std.specs.Prelude.{ℕ, Result, Ok, Err}
use Rattle.plan.specs.declared.PlanFault.{PlanFault}
use Rattle.plan.specs.declared.PlanFault.TheVariants as plan-fault
use Rattle.plan.specs.declared.CallFault.{CallFault}
use Rattle.plan.specs.declared.CallFault.TheVariants as call-fault
use Rattle.plan.specs.declared.Fault.{Fault}
use Rattle.plan.specs.declared.Fault.TheVariants as fault

-- causes 1 to 5
abbrev pub plan_number : PlanFault → ℕ
plan_number plan-fault.Limits = 1
plan_number plan-fault.Length = 2
plan_number plan-fault.Slot = 3
plan_number plan-fault.Ends = 4
plan_number plan-fault.Order = 5

-- causes 6 to 10, and 11 to 17 of document 02
abbrev pub call_number : CallFault → ℕ
call_number call-fault.Station = 6
call_number call-fault.SameStation = 7
call_number call-fault.Short = 8
call_number call-fault.TooMany = 9
call_number call-fault.NotShortestPath = 10
call_number call-fault.SetByte = 11
call_number call-fault.Turnaround = 12
call_number call-fault.Sources = 13
call_number call-fault.Keeping = 14
call_number call-fault.Channels = 15
call_number call-fault.Untaken = 16
call_number call-fault.Position = 17

abbrev pub fault_number : Fault → ℕ
fault_number (fault.Plan f) = plan_number f
fault_number (fault.Call f) = call_number f

-- 0 where a plan is accepted
abbrev pub check_number : Result (Unit {0}) PlanFault → ℕ
check_number (Ok x) = 0
check_number (Err f) = plan_number f

-- 0 where an operation answers
abbrev pub answer_number : {A : Type 0} → Result A Fault → ℕ
answer_number (Ok x) = 0
answer_number (Err f) = fault_number f
