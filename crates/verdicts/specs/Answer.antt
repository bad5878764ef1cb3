-- What the operation that judges a list of positions answers, in the papers' numbers and verdicts. Definitions only.
-- Assumes nothing.
use Rattle.std.specs.Prelude.{ℕ, List, Result, Ok, Err}
use Rattle.std.proofs.Math.Option.{Option, none, some}
use Rattle.temporal.specs.Outcome.{Outcome}
use Rattle.temporal.specs.Verdict.{Verdict}
use Rattle.plan.specs.declared.Fault.{Fault}
use Rattle.plan.specs.Fault.{answer_number}
use Rattle.judging.specs.Judge.{verdict_of}
use Rattle.judging.specs.declared.Judgement.{Judgement}

-- no verdict beside a refusal
abbrev pub verdict_given : Result Judgement Fault → Option Verdict
verdict_given (Ok j) = some (verdict_of j)
verdict_given (Err f) = none

-- the answer with the work area at exit
abbrev pub verdict_outcome : Result Judgement Fault → List ℕ → Outcome (Option Verdict) (List ℕ)
verdict_outcome r work = record { number = answer_number r; values = verdict_given r; buffers = work }
