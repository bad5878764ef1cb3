-- `memory::copy` meets its contract. The loop's invariant: the first i entries are copied.
-- Assumes nothing.
use Rattle.memory.proofs.CopyLaws.{Copying}
use Rattle.memory.proofs.copy.Given as goal

abbrev pub invariant-loop-i : goal.invariant-loop-i
invariant-loop-i l = Copying l.list l.from l.k l.i l.initial.table l.table
