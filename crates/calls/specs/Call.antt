-- The first of 12, 14, 6, 7 and 8 of a call that names a pair. Definitions only.
-- Assumes nothing.
use Rattle.std.specs.Prelude.{ℕ, ◌||◌, ltb}
use Rattle.temporal.specs.Plan.{Terms}
use Rattle.temporal.specs.FirstNext
use Rattle.plan.specs.Setting.{terms_of}
use Rattle.calls.specs.declared.Question.{Question}
use Rattle.temporal.specs.Cause.{first, ends_causes, pair_causes}
use Rattle.temporal.specs.Outcome.{work_size}
use Rattle.plan.specs.Fault.{call_number}
use Rattle.std.specs.Prelude.{Result, Ok, Err}
use Rattle.plan.specs.declared.CallFault.{CallFault}

-- the first of 6, 7 and 8 of a call that names a pair, lends `lent` entries where `named` are asked, and `area` entries of the work
-- area; 0 where none holds
unfoldable pub stations_fault : ℕ → ℕ → ℕ → ℕ → ℕ → ℕ → ℕ → ℕ
stations_fault n t s z lent named area = first (ends_causes n s z (ltb lent named || ltb area (work_size n t)))

-- the first of 12, 14, 6, 7 and 8 of it
unfoldable pub pair_call_fault : ℕ → ℕ → Terms → ℕ → ℕ → ℕ → ℕ → ℕ → ℕ
pair_call_fault n t terms s z lent named area = first (pair_causes terms n s z (ltb lent named || ltb area (work_size n t)))

-- 0 where no such cause holds
abbrev pub call_check_number : Result (Unit {0}) CallFault → ℕ
call_check_number (Ok x) = 0
call_check_number (Err f) = call_number f

-- what a call asks about, as the definitions have it
abbrev pub asked : Question → FirstNext.Question
asked q =
    record {
      bytes = q.plan.now;
      stations = q.setting.stations;
      slots = q.setting.slots;
      terms = terms_of q.setting;
      source = q.source;
      destination = q.destination;
    }
