-- `struck::count_differing` meets its contract.
-- Assumes nothing.
use Rattle.struck.proofs.CompareLaws.{Counting}
use Rattle.struck.proofs.count_differing.Given as goal

abbrev pub invariant-loop-z : goal.invariant-loop-z
invariant-loop-z l = Counting l.n l.at l.work l.source l.z l.k
