-- What the operation on shortest foremost paths answers, in the papers' numbers and values. Definitions only.
-- Assumes nothing.
use Rattle.std.specs.Prelude.{Result, Ok, Err}
use Rattle.temporal.specs.Outcome.{Outcome}
use Rattle.temporal.specs.OutcomePair.{PairBuffers}
use Rattle.temporal.specs.OutcomeForemost.{ForemostValues}
use Rattle.plan.specs.Fault.{answer_number}
use Rattle.plan.specs.declared.Fault.{Fault}
use Rattle.foremost.specs.declared.ForemostCount.{ForemostCount}

-- zeros beside a refusal
abbrev pub foremost_values : Result ForemostCount Fault → ForemostValues
foremost_values (Ok f) = record { slot = f.arrival; hops = f.hops; count = f.count }
foremost_values (Err f) = record { slot = 0; hops = 0; count = 0 }

-- the answer with the through table and the work area at exit
abbrev pub foremost_outcome : Result ForemostCount Fault → PairBuffers → Outcome ForemostValues PairBuffers
foremost_outcome r b = record { number = answer_number r; values = foremost_values r; buffers = b }
