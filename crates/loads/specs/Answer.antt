-- What loads and busiest answer, in document 01's numbers and values. Definitions only.
-- Assumes nothing.
use Rattle.std.specs.Prelude.{ℕ, Result, Ok, Err, List}
use Rattle.temporal.specs.Outcome.{Outcome}
use Rattle.temporal.specs.OutcomePair.{LoadBuffers}
use Rattle.plan.specs.Fault.{answer_number}
use Rattle.plan.specs.declared.Fault.{Fault}

abbrev pub load_buffers : List ℕ → List ℕ → List ℕ → LoadBuffers
load_buffers pairs loads work = record { pairs_table = pairs; load_table = loads; work = work }

-- the answer with the two tables and the work area at exit
abbrev pub loads_outcome : Result (Unit {0}) Fault → LoadBuffers → Outcome (Unit {0}) LoadBuffers
loads_outcome r b = record { number = answer_number r; values = tt; buffers = b }

-- zero beside a refusal
abbrev pub busiest_station : Result ℕ Fault → ℕ
busiest_station (Ok v) = v
busiest_station (Err f) = 0

-- the answer with the work area at exit
abbrev pub busiest_outcome : Result ℕ Fault → List ℕ → Outcome ℕ (List ℕ)
busiest_outcome r work = record { number = answer_number r; values = busiest_station r; buffers = work }
