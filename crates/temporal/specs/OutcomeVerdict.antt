-- What the operation that judges a list of positions answers (document 02, C-19), and what the work area holds afterwards, for every
-- call. Definitions only.
-- Assumes nothing.
use Rattle.std.specs.Prelude.{ℕ, cond, List, ◌++◌}
use Rattle.std.proofs.Math.Option.{Option, none, some}
use Rattle.temporal.specs.Plan.{Plan, Terms}
use Rattle.temporal.specs.Shortest.{shortest_walks_to}
use Rattle.temporal.specs.Bytes.{plan_of}
use Rattle.temporal.specs.Cause.{plan_causes, pair_causes, is_too_many}
use Rattle.temporal.specs.Outcome.{Outcome, entered, cleared, short, work_size}
use Rattle.temporal.specs.Verdict.{Verdict, verdict_on}

-- the operation once 1 to 8, 12 and 14 are excluded
unfoldable pub judged : Plan → ℕ → ℕ → List ℕ → List ℕ → Outcome (Option Verdict) (List ℕ)
judged p s z list old =
    cond (is_too_many p s)
    (record { number = 9; values = none; buffers = cleared (work_size p.stations p.slots) old })
    (record {
      number = 0;
      values = some (verdict_on (shortest_walks_to p s z) list);
      buffers = cleared (work_size p.stations p.slots) old;
    })

-- The verdict on a list of positions by the complete list of s and z; none beside a refusal. The list is only read, of whatever length
-- it is: 8 is for the work area, all that is lent to write to.
unfoldable pub verdict : List ℕ → ℕ → ℕ → Terms → ℕ → ℕ → List ℕ → List ℕ → Outcome (Option Verdict) (List ℕ)
verdict bs n t terms s z list old =
    entered (plan_causes bs n t ++ pair_causes terms n s z (short (work_size n t) old)) none old
    (judged (plan_of bs n t terms) s z list old)
