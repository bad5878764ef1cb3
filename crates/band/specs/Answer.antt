-- What taking in and taking out answer, in the papers' numbers. Definitions only.
-- Assumes nothing.
use Rattle.std.specs.Prelude.{ℕ, List, Result}
use Rattle.temporal.specs.Outcome.{Outcome}
use Rattle.plan.specs.Fault.{answer_number}
use Rattle.plan.specs.declared.Fault.{Fault}

-- the answer with the table at exit
abbrev pub band_outcome : Result (Unit {0}) Fault → List ℕ → Outcome (Unit {0}) (List ℕ)
band_outcome r table = record { number = answer_number r; values = tt; buffers = table }
