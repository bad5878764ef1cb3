-- What loads for the drawing program answers, in the papers' numbers. Its answer is that of loads. Definitions only.
-- Assumes nothing.
use Rattle.std.specs.Prelude.{ℕ, Result, List}
use Rattle.temporal.specs.Outcome.{Outcome}
use Rattle.temporal.specs.OutcomeDrawn.{DrawnBuffers}
use Rattle.plan.specs.Fault.{answer_number}
use Rattle.plan.specs.declared.Fault.{Fault}
use Rattle.loads.specs.Answer.{load_buffers}

abbrev pub drawn_buffers : List ℕ → List ℕ → List ℕ → List ℕ → DrawnBuffers
drawn_buffers pairs loads records work = record { tables = load_buffers pairs loads work; records = records }

-- the answer with the two tables, the records and the work area at exit
abbrev pub drawn_outcome : Result (Unit {0}) Fault → DrawnBuffers → Outcome (Unit {0}) DrawnBuffers
drawn_outcome r b = record { number = answer_number r; values = tt; buffers = b }
