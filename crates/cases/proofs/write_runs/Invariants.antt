-- `cases::write_runs` is safe and ends: each run ends behind its first entry, so the number of entries left falls.
-- Assumes nothing.
use Prim.Native.Nat.{◌≤◌, ◌-◌}
use lib.ListN.{length}
use Rattle.cases.proofs.write_runs.Given as goal

abbrev pub invariant-loop-from : goal.invariant-loop-from
invariant-loop-from g l = l.from ≤ length l.table

abbrev pub decreases-loop-from : goal.decreases-loop-from
decreases-loop-from g l = length l.table - l.from
