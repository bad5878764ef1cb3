-- `loads::largest` meets its contract. The loop's invariant: best is the place of the largest of the first u entries.
-- Assumes nothing.
use Rattle.loads.proofs.LargestLaws.{Best}
use Rattle.loads.proofs.largest.Given as goal

abbrev pub invariant-loop-u : goal.invariant-loop-u
invariant-loop-u l = Best l.list l.from l.k l.best l.u
