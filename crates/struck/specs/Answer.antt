-- What the operation on a contact that is struck out answers, in the papers' numbers and values. Definitions only.
-- Assumes nothing.
use Rattle.std.specs.Prelude.{ℕ, Result, Ok, Err, List, ℤ}
use Rattle.temporal.specs.Outcome.{Outcome}
use Rattle.temporal.specs.OutcomeStruck.{StruckBuffers}
use Rattle.plan.specs.Fault.{answer_number}
use Rattle.plan.specs.declared.Fault.{Fault}

-- zero beside a refusal
abbrev pub struck_pairs : Result ℕ Fault → ℕ
struck_pairs (Ok k) = k
struck_pairs (Err f) = 0

abbrev pub struck_buffers : List ℤ → List ℕ → StruckBuffers
struck_buffers changes work = record { change_table = changes; work = work }

-- the answer with the table of changes and the work area at exit
abbrev pub struck_outcome : Result ℕ Fault → StruckBuffers → Outcome ℕ StruckBuffers
struck_outcome r b = record { number = answer_number r; values = struck_pairs r; buffers = b }
