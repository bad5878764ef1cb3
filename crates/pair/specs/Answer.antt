-- What pair answers, in document 01's numbers and values. Definitions only.
-- Assumes nothing.
use Rattle.std.specs.Prelude.{ℕ, Result, Ok, Err, List}
use Rattle.temporal.specs.Outcome.{Outcome}
use Rattle.temporal.specs.OutcomePair.{PairValues, PairBuffers}
use Rattle.plan.specs.Fault.{answer_number}
use Rattle.plan.specs.declared.Fault.{Fault}
use Rattle.pair.specs.declared.PairCount.{PairCount}

-- zeros beside a refusal
abbrev pub pair_values : Result PairCount Fault → PairValues
pair_values (Ok c) = record { hops = c.hops; count = c.count }
pair_values (Err f) = record { hops = 0; count = 0 }

abbrev pub pair_buffers : List ℕ → List ℕ → PairBuffers
pair_buffers through work = record { through_table = through; work = work }

-- the answer with the through table and the work area at exit
abbrev pub pair_outcome : Result PairCount Fault → PairBuffers → Outcome PairValues PairBuffers
pair_outcome r b = record { number = answer_number r; values = pair_values r; buffers = b }
