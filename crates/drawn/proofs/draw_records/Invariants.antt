-- `drawn::draw_records` meets its contract. The loop's invariant: the records before station v are written.
-- Assumes nothing.
use Rattle.drawn.proofs.RecordsLaws.{Written}
use Rattle.drawn.proofs.draw_records.Given as goal

abbrev pub invariant-loop-v : goal.invariant-loop-v
invariant-loop-v l = Written l.pairs l.sums l.initial.records l.n l.v l.records
