-- `memory::fill` meets its contract. The loop's invariant: the entries passed are the value, the others as at first.
-- Assumes nothing.
use Rattle.std.proofs.Common.{◌≡◌, ◌++◌, drop, replicate, take}
use Rattle.memory.proofs.fill.Given as goal

abbrev pub invariant-loop-entry : goal.invariant-loop-entry
invariant-loop-entry g l = l.entry-items ≡ replicate l.entry-index l.x ++ drop l.entry-index (take l.k l.fn.table)
