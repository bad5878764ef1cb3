-- Document 02's C-19: what holds of the verdict on a list of positions. Definitions only.
-- Assumes nothing.
use Rattle.judging.specs.declared.Judgement.{Judgement}
use Rattle.plan.specs.Fault.{answer_number}
use Rattle.plan.specs.declared.Fault.{Fault}
use Rattle.std.specs.Prelude.{Result}
use Rattle.std.specs.Prelude.{ℕ, ◌≤◌, ◌<◌, ◌≡◌, ◌↔◌, List, ◌∷◌, length}
use Rattle.std.proofs.Math.Option.{some}
use Rattle.temporal.specs.Verdict.{Verdict, complete, beginning, wrong, joined, IsComplete, IsBeginning}
use Rattle.temporal.specs.OutcomeVerdict.{verdict}
use Rattle.temporal.specs.FirstNext.{Question, list_of}
use Rattle.temporal.specs.Trace.{Event, Asked}
use Rattle.temporal.specs.TraceGiven.{given, FromFirstWay}
use Rattle.verdicts.specs.Answer.{verdict_given, verdict_outcome}

-- The operation accepted the question with a list: its ensures holds of the answer and the work area before and after, and the number
-- is 0.
pub record VerdictAccepts (q : Question) (list old : List ℕ) (r : Result Judgement Fault) (new : List ℕ) : Type 0 where
  pub contract :
      verdict_outcome r new ≡ verdict q.bytes q.stations q.slots q.terms q.source q.destination list old
  pub accepted : answer_number r ≡ 0

-- What an accepted call says of its list, by the complete list l: one of the three verdicts, and each exactly where it is so.
pub record VerdictSaid (l : List (List ℕ)) (list : List ℕ) (r : Result Judgement Fault) : Type 0 where
  pub given_one : (v : Verdict) × (verdict_given r ≡ some v)
  pub is_complete : (verdict_given r ≡ some complete) ↔ IsComplete l list
  pub is_beginning : (verdict_given r ≡ some beginning) ↔ IsBeginning l list
  pub is_wrong : (verdict_given r ≡ some wrong) ↔ ((IsComplete l list → ⊥) × (IsBeginning l list → ⊥))
  -- no list is complete and a beginning
  pub disjoint : IsComplete l list → IsBeginning l list → ⊥

-- C-19.
pub record VerdictDemand : Type 0 where
  pub said :
      (q : Question) (list old : List ℕ) (r : Result Judgement Fault) (new : List ℕ) → VerdictAccepts q list old r new →
      VerdictSaid (list_of q) list r
  -- In a trace, the ways given from one accepted first way until just before the next, one behind another, get "complete" where all
  -- are out and "a proper beginning" otherwise.
  pub of_traces :
      (q : Question) → Asked q → (e : Event) (es : List Event) → FromFirstWay q e es →
      (old : List ℕ) (r : Result Judgement Fault) (new : List ℕ) → VerdictAccepts q (joined (given (e ∷ es))) old r new →
      (length (given (e ∷ es)) ≡ length (list_of q) → verdict_given r ≡ some complete) ×
      (length (given (e ∷ es)) < length (list_of q) → verdict_given r ≡ some beginning) ×
      (length (given (e ∷ es)) ≤ length (list_of q))
