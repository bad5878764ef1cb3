-- `reach_lasting::unmark` meets its contract. The loop's invariant: taking the marks of the records from k on away gives what taking away all
-- gives.
-- Assumes nothing.
use Rattle.reach_lasting.proofs.MarkLaws.{Unmarking}
use Rattle.reach_lasting.proofs.unmark.Given as goal

abbrev pub invariant-loop-k : goal.invariant-loop-k
invariant-loop-k l = Unmarking l.plan l.width l.i l.end l.initial.counts l.k l.counts
