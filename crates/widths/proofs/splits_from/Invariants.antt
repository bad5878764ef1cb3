-- `widths::splits_from` meets its contract. The loop's invariant: the splits from number i on.
-- Assumes nothing.
use Rattle.std.proofs.Common.{◌≡◌, ◌+◌, ◌-◌, ◌≤◌}
use Rattle.widths.specs.Key.{splits_from}
use Rattle.widths.proofs.splits_from.Given as goal

abbrev pub invariant-loop-i : goal.invariant-loop-i
invariant-loop-i l = (l.i ≤ l.many) × (l.splits ≡ splits_from l.work (l.at + l.i) (l.many - l.i))
