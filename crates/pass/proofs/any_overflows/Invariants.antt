-- `pass::any_overflows` meets its contract. The loop's invariant: the answer from v on is the whole answer.
-- Assumes nothing.
use Rattle.std.proofs.Common.{◌≡◌, ◌-◌, ◌≤◌}
use Rattle.temporal.specs.Lists.{any, from, below}
use Rattle.pass.specs.Entry.{area_overflows}
use Rattle.pass.proofs.any_overflows.Given as goal

abbrev pub invariant-loop-v : goal.invariant-loop-v
invariant-loop-v l = (l.v ≤ l.n) × (any (area_overflows l.n l.work) (below l.n) ≡ any (area_overflows l.n l.work) (from l.v (l.n - l.v)))
