-- `ways::begin_back` meets its contract. The loop's invariant: the first entries of the stations below v are cleared.
-- Assumes nothing.
use Rattle.ways.proofs.ColumnLaws.{Clearing}
use Rattle.ways.proofs.begin_back.Given as goal

abbrev pub invariant-loop-v : goal.invariant-loop-v
invariant-loop-v l = Clearing l.n l.width l.initial.work l.v l.work
