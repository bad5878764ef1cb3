-- `ways::lower_run` meets its contract. The loop's invariant: the first i entries are lowered.
-- Assumes nothing.
use Rattle.ways.proofs.WindowLaws.{Lowering}
use Rattle.ways.proofs.lower_run.Given as goal

abbrev pub invariant-loop-i : goal.invariant-loop-i
invariant-loop-i l = Lowering l.at l.from l.size l.initial.work l.i l.work
