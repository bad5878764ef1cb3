-- `plan::check` meets its contract. The loop's invariant: the plan's first cause is the first cause of the records from i on.
-- Assumes nothing.
use Prim.Native.Nat.{ℕ, ◌*◌}
use mathlib.Core.Path.{◌≡◌}
use mathlib.Core.List.{List}
use lib.ListN.{length}
use Rattle.temporal.specs.Bytes.{records}
use Rattle.temporal.specs.Cause.{plan_fault}
use Rattle.walks.proofs.CheckLaws.{fault_from}
use Rattle.plan.proofs.check.Given as goal

-- the records below i, of m, have no cause
pub record Passed (bs : List ℕ) (n t m i : ℕ) : Type 0 where
  pub whole : length bs ≡ m * 6
  pub count : m ≡ records bs
  pub rest : plan_fault bs n t ≡ fault_from bs n t i

abbrev pub invariant-loop-i : goal.invariant-loop-i
invariant-loop-i l = Passed l.plan l.n l.t l.i-end l.i
