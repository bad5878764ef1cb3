-- `band::refused_somewhere` meets its contract. The loop's invariant: the answer from here on is the whole answer.
-- Assumes nothing.
use Rattle.band.proofs.TakingLaws.{Looking}
use Rattle.band.proofs.refused_somewhere.Given as goal

abbrev pub invariant-loop-j : goal.invariant-loop-j
invariant-loop-j l = Looking l.taking l.plan l.table l.at l.j
