-- What the work of the operation asks, once 1 to 5, 12, 14 and 6 to 8 are excluded, and what it leaves. Definitions only.
-- Assumes nothing.
use Rattle.std.specs.Prelude.{ℕ, ◌≤◌, ◌≡◌, List, length, drop, Result}
use Rattle.temporal.specs.Plan.{Allowed}
use Rattle.temporal.specs.Bytes.{plan_of}
use Rattle.temporal.specs.Outcome.{work_size}
use Rattle.temporal.specs.OutcomeVerdict.{judged}
use Rattle.temporal.specs.FirstNext.{Question}
use Rattle.temporal.specs.Trace.{Asked}
use Rattle.plan.specs.declared.Fault.{Fault}
use Rattle.plan.specs.Fault.{answer_number}
use Rattle.judging.specs.declared.Judgement.{Judgement}
use Rattle.verdicts.specs.Answer.{verdict_given}

-- an accepted plan, two different stations of it, allowed terms, and a work area that is long enough
pub record VerdictReady (q : Question) (work : List ℕ) : Type 0 where
  pub asked : Asked q
  pub units : Allowed q.terms
  pub area : work_size q.stations q.slots ≤ length work

-- The answer is the definition's; past the operation's part of it the work area is as it was.
pub record VerdictWorked (q : Question) (list work : List ℕ) (r : Result Judgement Fault) (after : List ℕ) : Type 0 where
  pub number :
      answer_number r ≡ (judged (plan_of q.bytes q.stations q.slots q.terms) q.source q.destination list work).number
  pub given :
      verdict_given r ≡ (judged (plan_of q.bytes q.stations q.slots q.terms) q.source q.destination list work).values
  pub beyond : drop (work_size q.stations q.slots) after ≡ drop (work_size q.stations q.slots) work
