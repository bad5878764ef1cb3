-- How the operation begins: the plan's causes, then 12, 14, 6, 7 and 8 of the call, then the work. Assumes nothing.
use Prim.Native.Nat.{ℕ}
use native.Mathlib.Omega.{arith}
use mathlib.Core.Path.{◌≡◌, sym, ap, ◌∙◌}
use mathlib.Core.List.{List}
use mathlib.Core.Option.{Option, none}
use lib.ListN.{length}
use Rattle.temporal.specs.Plan.{Terms}
use Rattle.temporal.specs.Bytes.{plan_of}
use Rattle.temporal.specs.Cause.{plan_fault}
use Rattle.temporal.specs.Outcome.{Outcome, entered}
use Rattle.temporal.specs.Verdict.{Verdict}
use Rattle.temporal.specs.OutcomeVerdict.{judged, verdict}
use Rattle.walks.proofs.EnteredLaws.{entered_plan, entered_call, unless_some, unless_none, refused_with}
use Rattle.plan.specs.Fault.{plan_number, call_number, check_number}
use Rattle.plan.specs.declared.PlanFault.{PlanFault}
use Rattle.plan.specs.declared.CallFault.{CallFault}
use Rattle.std.specs.Prelude.{Result, Ok, Err}
use Rattle.plan.proofs.Answers.{number-positive, call-number-within}
use Rattle.calls.specs.Call.{pair_call_fault, call_check_number}
use Rattle.calls.proofs.CallLaws.{free_call}
use Rattle.listing.specs.Answer.{question}
use Rattle.verdicts.specs.Work.{VerdictReady}

module _ (bs : List ℕ) (n t s z : ℕ) (terms : Terms) (list area : List ℕ) where
  abbrev work : Outcome (Option Verdict) (List ℕ)
  work = judged (plan_of bs n t terms) s z list area

  -- a plan that check refuses
  pub verdict_plan :
      (r : Result (Unit {0}) PlanFault) (f : PlanFault) → check_number r ≡ plan_fault bs n t → r ≡ Err f →
      ◌≡◌ {A = Outcome (Option Verdict) (List ℕ)} (record { number = plan_number f; values = none; buffers = area })
      (verdict bs n t terms s z list area)
  unfolding verdict
  verdict_plan r f answer e =
      let number : plan_number f ≡ plan_fault bs n t = ap check_number (sym e) ∙ answer in
      let some = number-positive f in
      ap (refused_with none area work) number ∙ sym (entered_plan none area work bs n t _ (omega arith))

  module _ (ok : plan_fault bs n t ≡ 0) (r : Result (Unit {0}) CallFault)
      (answer : call_check_number r ≡ pair_call_fault n t terms s z 0 0 (length area)) where
    -- 12, 14, 6, 7 or 8
    pub verdict_call :
        (f : CallFault) → r ≡ Err f →
        ◌≡◌ {A = Outcome (Option Verdict) (List ℕ)} (record { number = call_number f; values = none; buffers = area })
        (verdict bs n t terms s z list area)
    unfolding verdict entered pair_call_fault
    verdict_call f e =
        let number : call_number f ≡ pair_call_fault n t terms s z 0 0 (length area) = ap call_check_number (sym e) ∙ answer in
        let some = call-number-within f in
        ap (refused_with none area work) number ∙ sym (entered_call none area work bs n t _ ok ∙ unless_some _ _ _ (omega arith))

    -- none of them
    pub verdict_works : {x : Unit {0}} → r ≡ Ok x → verdict bs n t terms s z list area ≡ work
    unfolding verdict entered pair_call_fault
    verdict_works e = entered_call none area work bs n t _ ok ∙ unless_none _ _ _ (sym answer ∙ ap call_check_number e)

-- an accepted plan and a free call are what the work asks
pub verdict_ready :
    (bs : List ℕ) (n t g h s z : ℕ) (area : List ℕ) → plan_fault bs n t ≡ 0 → (r : Result (Unit {0}) CallFault) →
    call_check_number r ≡ pair_call_fault n t (question bs n t g h s z).terms s z 0 0 (length area) → {x : Unit {0}} → r ≡ Ok x →
    VerdictReady (question bs n t g h s z) area
verdict_ready bs n t g h s z area ok r answer e =
    let f = free_call n t (question bs n t g h s z).terms s z 0 0 (length area) (sym answer ∙ ap call_check_number e) in
    record {
      asked = record { accepted = ok; source = f.source; destination = f.destination; different = f.different };
      units = f.units;
      area = f.area_room;
    }
