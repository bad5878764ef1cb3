-- What the operation on a pair and a set answers, in the papers' numbers and values. Definitions only.
-- Assumes nothing.
use Rattle.std.specs.Prelude.{ℕ, List, Result, Ok, Err}
use Rattle.temporal.specs.Outcome.{Outcome}
use Rattle.plan.specs.Fault.{answer_number}
use Rattle.plan.specs.declared.Fault.{Fault}

-- zero beside a refusal
abbrev pub set_count : Result ℕ Fault → ℕ
set_count (Ok c) = c
set_count (Err f) = 0

-- the answer with the work area at exit
abbrev pub set_outcome : Result ℕ Fault → List ℕ → Outcome ℕ (List ℕ)
set_outcome r work = record { number = answer_number r; values = set_count r; buffers = work }
